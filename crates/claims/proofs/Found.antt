-- What a lookup that succeeded says: the record is the one in the table, and it is made. And what
-- a whole call leaves, by its guards: `After P r` is P of the reply's tables. Assumes nothing.
use Rattle.std.proofs.Common.{Option, Some, None}
use Prim.Native.Nat.{ℕ}
use native.Mathlib.Omega.{arith}
use mathlib.Core.Path.{◌≡◌, ap}
use mathlib.Core.Bool.{true}
use lib.IntN.{ℤ, pos}
use Rattle.laws.specs.Guarded.{found, missing, Guarded}
use Rattle.laws.proofs.Cases.{if_on, Every, ok_on, settle_on}
use Rattle.record_exception.specs.declared.Exception.{Exception}
use Rattle.record_exception.specs.declared.Level.{Level}
use Rattle.record_job.specs.declared.Job.{Job}
use Rattle.record_process.specs.declared.Process.{Process}
use Rattle.record_thread.specs.declared.Waiting.{Waiting}
use Rattle.record_thread.specs.declared.Waiting.TheVariants.{NotWaiting, InWait, InException}
use Rattle.record_thread.specs.declared.Thread.{Thread}
use Rattle.record_thread.specs.Thread.{held_in}
use Rattle.record_token.specs.declared.Task.{Task}
use Rattle.records.specs.declared.tables.Tables.{Tables}
use Rattle.reply.specs.declared.Reply.{Reply}
use Rattle.reply.specs.Reply.{answered}
use Rattle.records.specs.Tables.{job_at, process_at, thread_at, token_at, found_job, found_process}
use Rattle.records.specs.Tables.{found_thread, found_token}
use Rattle.records.specs.Owners.{found_task, level_of_thread, level_of_process, level_of_job, process_level}
use Rattle.records.specs.Owners.{job_level}
use Rattle.model.specs.Replies.{call, accept, present}
use Rattle.model.specs.Replies.{held_exception, job, process, thread}
use Rattle.model.specs.Replies.{token, task, exception}

-- ---- Lookups ---------------------------------------------------------------------------------

missing≢found {ℓ} : {A : Type 0} {P : Type ℓ} {c : ℤ} {v : A} → missing c ≡ found v → P
missing≢found {A} {c = c} {v = v} e = absurd (let z : ◌≡◌ {A = ℕ} 0 1 = cc in omega arith)

found_inj : {A : Type 0} {v w : A} → found v ≡ found w → v ≡ w
found_inj {A} {v} {w} e = cc

present_is : {A : Type 0} (f : Option A) {v : A} → present f ≡ found v → f ≡ Some v
unfolding present
present_is None e = missing≢found e
present_is (Some w) e = ap (λ x. Some x) (found_inj e)

module _ (t : Tables) (i : ℕ) where
  pub job_is : (v : Job) → job t i ≡ found v → ((job_at t i).made ≡ true) × (job_at t i ≡ v)
  unfolding present found_job
  job_is v =
      if_on (λ x. present x ≡ found v → ((job_at t i).made ≡ true) × (job_at t i ≡ v)) _ _ _
      (λ m e. (m, found_inj e)) (λ m e. missing≢found e)

  pub process_is : (q : Process) → process t i ≡ found q
      → ((process_at t i).made ≡ true) × (process_at t i ≡ q)
  unfolding present found_process
  process_is q =
      if_on (λ x. present x ≡ found q → ((process_at t i).made ≡ true) ×
      (process_at t i ≡ q)) _ _ _
      (λ m e. (m, found_inj e)) (λ m e. missing≢found e)

  pub thread_is : (v : Thread) → thread t i ≡ found v
      → ((thread_at t i).made ≡ true) × (thread_at t i ≡ v)
  unfolding present found_thread
  thread_is v =
      if_on (λ x. present x ≡ found v → ((thread_at t i).made ≡ true) × (thread_at t i ≡ v)) _ _ _
      (λ m e. (m, found_inj e)) (λ m e. missing≢found e)

  pub token_is : (a : Task) → token t i ≡ found a → (token_at t i).task ≡ Some a
  unfolding found_token
  token_is a = present_is (token_at t i).task

  pub task_is : (kind : ℕ) (v : Unit) → task t kind i ≡ found v → found_task t kind i ≡ Some tt
  task_is kind v = present_is (found_task t kind i)

  pub thread_level_is : (l : Level) → present (level_of_thread (found_thread t i)) ≡ found l
      → ((thread_at t i).made ≡ true) × ((thread_at t i).level2 ≡ l)
  unfolding present level_of_thread found_thread
  thread_level_is l =
      if_on (λ x. present (level_of_thread x) ≡ found l
      → ((thread_at t i).made ≡ true) × ((thread_at t i).level2 ≡ l)) _ _ _
      (λ m e. (m, found_inj e)) (λ m e. missing≢found e)

  module _ (level : ℕ) (l : Level) where
    pub process_level_is : present (level_of_process (found_process t i) level) ≡ found l
        → ((process_at t i).made ≡ true) × (process_level (process_at t i) level ≡ l)
    unfolding present level_of_process found_process
    process_level_is =
        if_on (λ x. present (level_of_process x level) ≡ found l
        → ((process_at t i).made ≡ true) × (process_level (process_at t i) level ≡ l)) _ _ _
        (λ m e. (m, found_inj e)) (λ m e. missing≢found e)

    pub job_level_is : present (level_of_job (found_job t i) level) ≡ found l
        → ((job_at t i).made ≡ true) × (job_level (job_at t i) level ≡ l)
    unfolding present level_of_job found_job
    job_level_is =
        if_on (λ x. present (level_of_job x level) ≡ found l
        → ((job_at t i).made ≡ true) × (job_level (job_at t i) level ≡ l)) _ _ _
        (λ m e. (m, found_inj e)) (λ m e. missing≢found e)

pub exception_is : (v : Thread) (e : Exception) → exception v ≡ found e
    → v.waiting ≡ InException e
unfolding held_exception
exception_is v e h = go v.waiting h
  where
    go : (w : Waiting) → held_exception (held_in w) ≡ found e → w ≡ InException e
    go NotWaiting h = missing≢found h
    go InWait h = missing≢found h
    go (InException f) h = ap (λ (x : Exception). InException x) (found_inj h)

-- ---- What a call leaves ----------------------------------------------------------------------

pub record After (P : Tables → Type 0) (r : Reply) : Type 0 where
  pub tables : P r.tables

pub answered_on : {P : Tables → Type 0} (t : Tables) (c : ℤ) → P t → After P (answered t c)
unfolding answered
answered_on t c x = record { tables = x }

-- a refusal leaves the tables
pub call_on : {P : Tables → Type 0} (t : Tables) (l : Guarded Reply) → P t → Every (After P) l
    → After P (call t l)
call_on t l x h = settle_on (answered t) l (λ c. answered_on t c x) h

pub accept_on : {P : Tables → Type 0} (u : Tables) → P u → Every (After P) (accept u)
accept_on u x = ok_on (answered_on u (pos 0) x)
