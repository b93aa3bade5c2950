-- The calls on a process, over the records that they name: what a call leaves, stored where the records were, is what
-- the model says of the call, whatever else the tables hold.
use Rattle.std.specs.Prelude.{ℕ, ◌%◌, ◌≡◌, Bool, true, false, not, pos, Result, Ok, Err}
use Rattle.error.specs.declared.Refusal.{Refusal}
use Rattle.error.specs.Numbers.{number_of, answer_of}
use Rattle.job_policy.specs.declared.JobPolicy.{JobPolicy}
use Rattle.record_exception.specs.Channel.{is_bound}
use Rattle.record_job.specs.declared.Job.{Job}
use Rattle.record_process.specs.declared.Process.{Process}
use Rattle.record_process.specs.Process.{is_init, is_exited, code_of}
use Rattle.records.specs.declared.tables.Tables.{Tables}
use Rattle.records.specs.Tables.{job_at, own_at, inherited_at, process_at, fixed_at, put_process, put_fixed}
use Rattle.reply.specs.declared.Fields.{Fields}
use Rattle.reply.specs.declared.Fields.TheVariants.{ProcessFields}
use Rattle.reply.specs.declared.Information.{Information}
use Rattle.reply.specs.declared.Reply.{Reply}
use Rattle.reply.specs.Reply.{answered, informed}
use Rattle.model.specs.Job.{at_or_above, exit_listed, kill_job}

-- where a process is looked up: every name has a place in the table, and one past it is refused
abbrev pub slot : ℕ → ℕ
slot p = p % 64

-- ---- 03: a process, and the policy fixed for it ----------------------------------------------------

-- the reply that the records q and fixed and this outcome stand for
unfoldable pub made_in : Tables → ℕ → Process → JobPolicy → Result Unit Refusal → Reply
made_in t new q fixed r = answered (put_fixed (put_process t (slot new) q) (slot new) fixed) (answer_of r)

-- j, own and inherited are of the job that is named; q and fixed stand under the new name, and are left as w and held
abbrev pub Makes :
    (Tables → Reply) → (job new : ℕ) → Job → JobPolicy → JobPolicy → Process → JobPolicy →
    Process → JobPolicy → Result Unit Refusal → Type 0
Makes f job new j own inherited q fixed w held r =
    (t : Tables) → job_at t (job % 32) ≡ j → own_at t (job % 32) ≡ own → inherited_at t (job % 32) ≡ inherited →
    process_at t (slot new) ≡ q → fixed_at t (slot new) ≡ fixed → made_in t new w held r ≡ f t

-- ---- 05, 06: a process that exits ends, or its threads are killed ------------------------------------

-- the reply that the process w and this outcome stand for: `Ok true` where it exits
unfoldable pub exit_settled : Tables → ℕ → Process → Result Bool Refusal → Reply
exit_settled t p w (Ok true) = answered (exit_listed kill_job (put_process t (slot p) w) (slot p)) (pos 0)
exit_settled t p w (Ok false) = answered (put_process t (slot p) w) (pos 0)
exit_settled t p w (Err e) = answered (put_process t (slot p) w) (number_of e)

-- the call f on process p, whose record is q, leaves it as w and comes to r
abbrev pub Exits : (Tables → Reply) → ℕ → Process → Process → Result Bool Refusal → Type 0
Exits f p q w r = (t : Tables) → process_at t (slot p) ≡ q → exit_settled t p w r ≡ f t

-- ---- 07: a process bound to a job ------------------------------------------------------------------

-- the reply that the process w and this outcome stand for
unfoldable pub settled : Tables → ℕ → Process → Result Unit Refusal → Reply
settled t p w r = answered (put_process t (slot p) w) (answer_of r)

-- above: whether the job is at or above that of the process, whose record is q and is left as w
abbrev pub Binds :
    (Tables → Reply) → (p job : ℕ) → Process → Job → Bool → Process → Result Unit Refusal → Type 0
Binds f p job q j above w r =
    (t : Tables) → process_at t (slot p) ≡ q → job_at t (job % 32) ≡ j → at_or_above t job q.job ≡ above →
    settled t p w r ≡ f t

-- ---- 11, 1c: nothing is changed --------------------------------------------------------------------

abbrev pub Checks : (Tables → Reply) → ℕ → Process → JobPolicy → Result Unit Refusal → Type 0
Checks f p q fixed r =
    (t : Tables) → process_at t (slot p) ≡ q → fixed_at t (slot p) ≡ fixed → answered t (answer_of r) ≡ f t

abbrev pub Shows : (Tables → Reply) → ℕ → Process → Result Information Refusal → Type 0
Shows f p q r = (t : Tables) → process_at t (slot p) ≡ q → informed t r ≡ f t

-- code, started, exited, debugger open, terminated
unfoldable pub fields_of : Process → Fields
fields_of q =
    ProcessFields (code_of q.status) (not (is_init q.status)) (is_exited q.status) (is_bound q.level1)
    q.terminated
