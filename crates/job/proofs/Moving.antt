-- How a `return` of a function over the records of a job meets a call's definition: `search moving` closes it.
--     unmade, makes                         01: nothing is made, or the job and the policy that it inherits
--     unkilled, was_killed, kills_here, kills_on   02: refused, killed already, the kill stays with the job, or goes on
--     unset, sets_some, sets_all            0f: nothing is set, the entries up to a refused one, or all of them
--     unsettled, settles                    10: the job stays, or it is stored
--     untold, tells                         1b: refused, or what is told
-- Assumes nothing.
use Prim.Native.Nat.{ℕ, ◌<◌}
use native.Mathlib.Nat.{mod-eq_of_lt}
use mathlib.Core.Path.{◌≡◌, ap, sym, ◌∙◌}
use mathlib.Core.Bool.{true, false}
use lib.IntN.{pos}
use Rattle.laws.specs.Choice.{if◌then◌otherwise◌}
use Rattle.std.proofs.Common.{Ok, Err}
use Rattle.error.specs.declared.Refusal.{Refusal}
use Rattle.error.specs.declared.Refusal.TheVariants.{Zx}
use Rattle.error.specs.declared.ZxError.TheVariants.{AlreadyExists}
use Rattle.error.specs.Numbers.{number_of}
use Rattle.job_policy.specs.declared.JobPolicy.{JobPolicy}
use Rattle.job_policy.specs.Policy.{merge}
use Rattle.record_job.specs.declared.Job.{Job}
use Rattle.record_job.specs.Job.{new_job, killed, terminated}
use Rattle.lists.specs.Alone.{kills_alone}
use Rattle.records.specs.declared.tables.Tables.{Tables}
use Rattle.records.specs.Tables.{job_at, own_at, inherited_at, put_job}
use Rattle.records.proofs.Kept.{job_kept, own_kept, inherited_kept, job_at_lem}
use Rattle.records.proofs.Kept.{job_looked_up_at, new_job_lem}
use Rattle.reply.specs.declared.Information.{Information}
use Rattle.reply.specs.declared.Reply.{Reply}
use Rattle.reply.specs.Reply.{answered, showing, informed}
use Rattle.model.specs.Job.{kill_job}
use Rattle.model.specs.JobCalls.{with_child, job_info}
use Rattle.model.specs.JobPolicy.{policy_of, policy_set}
use Rattle.model.proofs.Answering.{answering}
use Rattle.model.proofs.Live.{killed_job}
use Rattle.model.proofs.Steps.{kill_dead}
use Rattle.job.specs.declared.policy.Work.{Work}
use Rattle.job.specs.Work.{setting_of}
use Rattle.job.specs.Job.{slot, made_in, killed_in, set_in, settled, fields_of}
use Rattle.job.proofs.Alone.{kills_alone_lem}

-- ---- 01 ----------------------------------------------------------------------------------------

pub unmade : {x : Reply} (t : Tables) (new : ℕ) {w : Job} {held : JobPolicy} (e : Refusal) →
    job_at t (slot new) ≡ w → inherited_at t (slot new) ≡ held → answered t (number_of e) ≡ x →
    made_in t new w held (Err e) ≡ x
unfolding made_in
unmade t new e h k g = rw (job_kept t (slot new) h, inherited_kept t (slot new) k) g

pub makes : {v : Job} {kept : JobPolicy} (t : Tables) (job new : ℕ) {own inherited : JobPolicy} →
    v ≡ new_job job → kept ≡ merge own inherited → job < 32 → new < 32 →
    own_at t (slot job) ≡ own → inherited_at t (slot job) ≡ inherited →
    made_in t new v kept (Ok tt) ≡ answered (with_child t job new) (pos 0)
unfolding made_in with_child policy_of
makes t job new e d l k o i = rw (e, d, ← o, ← i, mod-eq_of_lt l, mod-eq_of_lt k)

-- ---- 02 ----------------------------------------------------------------------------------------

pub unkilled : {x : Reply} (t : Tables) (j : ℕ) {v : Job} (e : Refusal) →
    job_at t (slot j) ≡ v → answered t (number_of e) ≡ x → killed_in t j v (Err e) ≡ x
unfolding killed_in
unkilled t j e h g = rw (job_kept t (slot j) h) g

-- a killed job: nothing is done
pub was_killed : (t : Tables) (j : ℕ) {v : Job} → j < 32 → job_at t (slot j) ≡ v → v.killed ≡ true →
    killed_in t j v (Ok false) ≡ answered (kill_job t j) (pos 0)
unfolding killed_in if◌then◌otherwise◌
was_killed t j {v} l h k =
    rw (job_kept t (slot j) h)
    (ap (λ (u : Tables). answered u (pos 0)) (kill_dead t j v (sym (job_at_lem t j l h)) (killed_job v k)))

pub kills_here : {w : Job} (t : Tables) (j : ℕ) {v : Job} →
    w ≡ terminated (killed v) → j < 32 → job_at t (slot j) ≡ v → v.made ≡ true →
    v.killed ≡ false → kills_alone t.jobs t.processes j ≡ true →
    killed_in t j w (Ok false) ≡ answered (kill_job t j) (pos 0)
unfolding killed_in if◌then◌otherwise◌
kills_here t j {v} e l h y k a =
    let at : job_at t j ≡ v = job_at_lem t j l h in
    let one : put_job t j (terminated (killed v)) ≡ kill_job t j =
    rw (← at) (kills_alone_lem t j (ap (λ (x : Job). x.made) at ∙ y) (ap (λ (x : Job). x.killed) at ∙ k) a) in
    rw (e, mod-eq_of_lt l, one)

pub kills_on : (t : Tables) (j : ℕ) {v : Job} →
    job_at t (slot j) ≡ v → killed_in t j v (Ok true) ≡ answered (kill_job t j) (pos 0)
unfolding killed_in if◌then◌otherwise◌
kills_on t j h = rw (job_kept t (slot j) h)

-- ---- 0f ----------------------------------------------------------------------------------------

pub unset : {x : Reply} (t : Tables) (j : ℕ) {own : JobPolicy} (e : Refusal) →
    own_at t (slot j) ≡ own → answered t (number_of e) ≡ x → set_in t j own (Err e) ≡ x
unfolding set_in
unset t j e o g = rw (own_kept t (slot j) o) g

-- the entries before a refused one stay set (M10)
pub sets_some : {set : JobPolicy} (t : Tables) (j : ℕ) (w : Work) →
    set ≡ w.own → w.refused ≡ true → j < 32 → set_in t j set (Err (Zx AlreadyExists)) ≡ policy_set t j (setting_of w)
unfolding set_in policy_set if◌then◌otherwise◌
sets_some t j w e r l = rw (e, r, mod-eq_of_lt l)

pub sets_all : {set : JobPolicy} (t : Tables) (j : ℕ) (w : Work) →
    set ≡ w.own → w.refused ≡ false → j < 32 → set_in t j set (Ok tt) ≡ policy_set t j (setting_of w)
unfolding set_in policy_set if◌then◌otherwise◌
sets_all t j w e r l = rw (e, r, mod-eq_of_lt l)

-- ---- 10 ----------------------------------------------------------------------------------------

pub unsettled : {x : Reply} (t : Tables) (j : ℕ) {v : Job} (e : Refusal) →
    job_at t (slot j) ≡ v → answered t (number_of e) ≡ x → settled t j v (Err e) ≡ x
unfolding settled
unsettled t j e h g = rw (job_kept t (slot j) h) g

pub settles : {u : Job} (t : Tables) (j : ℕ) (w : Job) →
    u ≡ w → j < 32 → settled t j u (Ok tt) ≡ answered (put_job t j w) (pos 0)
unfolding settled
settles t j w e l = rw (e, mod-eq_of_lt l)

-- ---- 1b ----------------------------------------------------------------------------------------

pub untold : {x : Reply} (t : Tables) (e : Refusal) → answered t (number_of e) ≡ x → informed t (Err e) ≡ x
unfolding informed showing answered
untold t e g = g

pub tells : {told : Information} (t : Tables) (j : ℕ) (v : Job) {own inherited : JobPolicy} →
    told.fields ≡ fields_of v → told.policy ≡ merge own inherited → j < 32 → own_at t (slot j) ≡ own →
    inherited_at t (slot j) ≡ inherited → informed t (Ok told) ≡ job_info t j v
unfolding informed showing job_info fields_of policy_of
tells t j v e g l o i = rw (e, g, ← o, ← i, mod-eq_of_lt l)

pub ruleset moving = (
  unmade,
  unkilled,
  unset,
  unsettled,
  answering,
  job_looked_up_at,
  new_job_lem,
  sets_some,
  sets_all,
  settles,
  untold,
  tells,
)
