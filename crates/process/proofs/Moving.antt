-- How a `return` of a function over the records of a process meets a call's definition: `search moving` closes it.
--     unmade, makes                   03: nothing is made, or the process and its policy
--     exit_refused, exited, exits     05 and 06: refused, Exited already, or it exits
--     refused, stored                 07: the process stays, or is stored where it was
--     panics_there, denied_there      11: what the policy fixed at its making says, as the tables have it
--     informs_refused, informs        1c
-- Assumes nothing.
use Rattle.std.proofs.Common.{Option, Ok, Err}
use Rattle.error.specs.declared.Refusal.{Refusal}
use Rattle.error.specs.Numbers.{number_of}
use Prim.Native.Nat.{ℕ, ◌%◌, ◌<◌}
use native.Mathlib.Nat.{mod-eq_of_lt}
use mathlib.Core.Path.{◌≡◌, refl, ap, sym, ◌∙◌}
use mathlib.Core.Bool.{Bool, true, false}
use lib.IntN.{ℤ, pos}
use Rattle.job_policy.specs.declared.JobPolicy.{JobPolicy}
use Rattle.job_policy.specs.Policy.{get_action, merge}
use Rattle.record_process.specs.declared.Status.TheVariants.{Exited}
use Rattle.record_process.specs.declared.Process.{Process}
use Rattle.record_process.specs.Process.{new_process, is_exited, with_status}
use Rattle.records.specs.declared.tables.Tables.{Tables}
use Rattle.records.specs.Tables.{own_at, inherited_at, process_at, fixed_at, put_process}
use Rattle.records.proofs.Kept.{process_kept, fixed_kept, process_at_lem}
use Rattle.records.proofs.Kept.{job_looked_up_at, process_looked_up_at, new_process_lem}
use Rattle.reply.specs.declared.Fields.{Fields}
use Rattle.reply.specs.declared.Information.{Information}
use Rattle.reply.specs.Reply.{answered, reply, information, informed, showing}
use Rattle.model.specs.Job.{exit_process}
use Rattle.model.specs.JobCalls.{with_new_process, process_info}
use Rattle.model.specs.JobPolicy.{policy_of, panics_at, is_denied}
use Rattle.model.proofs.Answering.{answering}
use Rattle.model.proofs.Steps.{exit_done, exit_step_lem}
use Rattle.model.proofs.Steps.{exiting as marks}
use Rattle.model.proofs.Live.{live_process, exited_process}
use Rattle.process.specs.Process.{slot, made_in, exit_settled, settled, fields_of}

-- ---- 03 ----------------------------------------------------------------------------------------

pub unmade : (t : Tables) (new : ℕ) {q : Process} {fixed : JobPolicy} (e : Refusal) {c : ℤ} →
    number_of e ≡ c → process_at t (slot new) ≡ q → fixed_at t (slot new) ≡ fixed →
    made_in t new q fixed (Err e) ≡ answered t c
unfolding made_in
unmade t new e i h k = rw (process_kept t (slot new) h, fixed_kept t (slot new) k, i)

pub makes : {q : Process} {fixed : JobPolicy} (t : Tables) (job new : ℕ) {own inherited : JobPolicy} →
    q ≡ new_process job → fixed ≡ merge own inherited → job < 32 → new < 64 →
    own_at t (job % 32) ≡ own → inherited_at t (job % 32) ≡ inherited →
    made_in t new q fixed (Ok tt) ≡ answered (with_new_process t job new) (pos 0)
unfolding made_in with_new_process policy_of
makes t job new e f l k o i = rw (e, f, ← o, ← i, mod-eq_of_lt l, mod-eq_of_lt k)

-- ---- 05, 06 ------------------------------------------------------------------------------------

pub exit_refused : (t : Tables) (p : ℕ) {q : Process} (e : Refusal) {c : ℤ} →
    number_of e ≡ c → process_at t (slot p) ≡ q → exit_settled t p q (Err e) ≡ answered t c
unfolding exit_settled
exit_refused t p e i h = rw (process_kept t (slot p) h, i)

-- an Exited process: the first code stays
pub exited : (t : Tables) (p : ℕ) (code : ℤ) {q : Process} →
    p < 64 → process_at t (slot p) ≡ q → is_exited q.status ≡ true →
    exit_settled t p q (Ok false) ≡ answered (exit_process t p code) (pos 0)
unfolding exit_settled
exited t p code {q} l h x =
    rw (process_kept t (slot p) h)
    (ap (λ (u : Tables). answered u (pos 0)) (exit_done t p code q (sym (process_at_lem t p l h)) (exited_process q x)))

pub exits : (t : Tables) (p : ℕ) (code : ℤ) {q w : Process} →
    w ≡ with_status q (Exited code) → p < 64 → process_at t (slot p) ≡ q →
    q.made ≡ true → is_exited q.status ≡ false →
    exit_settled t p w (Ok true) ≡ answered (exit_process t p code) (pos 0)
unfolding exit_settled
exits t p code {q} {w} f l h y x =
    let at : q ≡ process_at t p = sym (process_at_lem t p l h) in
    rw (mod-eq_of_lt l)
    (ap (λ (u : Tables). answered u (pos 0))
    (exit_step_lem t p code _ (marks t p code q w (put_process t p w) at (live_process q y x) f refl)))

-- ---- 07 ----------------------------------------------------------------------------------------

pub refused : (t : Tables) (p : ℕ) {q : Process} (e : Refusal) {c : ℤ} →
    number_of e ≡ c → process_at t (slot p) ≡ q → settled t p q (Err e) ≡ answered t c
unfolding settled
refused t p e i h = rw (process_kept t (slot p) h, i)

pub stored : {u : Process} (t : Tables) (p : ℕ) (w : Process) →
    u ≡ w → p < 64 → settled t p u (Ok tt) ≡ answered (put_process t p w) (pos 0)
unfolding settled
stored t p w e h = rw (e, mod-eq_of_lt h)

-- ---- 11, 1c ------------------------------------------------------------------------------------

there : {a : Option ℕ} {f : JobPolicy} (t : Tables) (p c : ℕ) →
    a ≡ get_action f c → fixed_at t (slot p) ≡ f → p < 64 → a ≡ get_action (fixed_at t p) c
there t p c e k h = e ∙ rw (← k, mod-eq_of_lt h)

pub panics_there : {r b : Bool} {a : Option ℕ} {f : JobPolicy} (t : Tables) (p c : ℕ) →
    r ≡ panics_at a → r ≡ b → a ≡ get_action f c → fixed_at t (slot p) ≡ f → p < 64 →
    panics_at (get_action (fixed_at t p) c) ≡ b
panics_there t p c x y e k h = sym (ap panics_at (there t p c e k h)) ∙ sym x ∙ y

pub denied_there : {r b : Bool} {a : Option ℕ} {f : JobPolicy} (t : Tables) (p c : ℕ) →
    r ≡ is_denied a → r ≡ b → a ≡ get_action f c → fixed_at t (slot p) ≡ f → p < 64 →
    is_denied (get_action (fixed_at t p) c) ≡ b
denied_there t p c x y e k h = sym (ap is_denied (there t p c e k h)) ∙ sym x ∙ y

pub informs_refused : (t : Tables) (e : Refusal) {c : ℤ} → number_of e ≡ c → informed t (Err e) ≡ answered t c
unfolding informed showing answered
informs_refused t e i = rw i

pub informs : {told : Information} {fields : Fields} (t : Tables) (q : Process) →
    told ≡ information fields → fields ≡ fields_of q → informed t (Ok told) ≡ process_info t q
unfolding informed showing reply process_info fields_of
informs t q e f = rw (e, f)

pub ruleset moving = (
  answering,
  job_looked_up_at,
  process_looked_up_at,
  new_process_lem,
  unmade,
  exit_refused,
  refused,
  stored,
  informs_refused,
  informs,
  panics_there,
  denied_there,
)
