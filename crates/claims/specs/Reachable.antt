-- The invariants of every state that calls from a fresh root leave.
use Rattle.std.specs.Prelude.{Some, None}
use Rattle.std.specs.Prelude.{ℕ, ◌<◌, ◌≡◌, Bool, true, false, List}
use Rattle.laws.specs.Choice.{◌=?◌}
use Rattle.job_policy.specs.Policy.{no_policy}
use Rattle.record_exception.specs.declared.Place.TheVariants.{OfJob, OfJobDebugger}
use Rattle.record_exception.specs.declared.Exception.{Exception}
use Rattle.record_exception.specs.Channel.{is_shut}
use Rattle.record_job.specs.Job.{no_job}
use Rattle.record_process.specs.Process.{critical_to, no_process, is_exited}
use Rattle.record_thread.specs.declared.Waiting.TheVariants.{NotWaiting, InException}
use Rattle.record_thread.specs.Thread.{DEAD, no_thread}
use Rattle.record_token.specs.declared.Kind.TheVariants.{Job}
use Rattle.record_token.specs.declared.Task.{Task}
use Rattle.record_token.specs.SuspendToken.{no_token, number}
use Rattle.records.specs.declared.tables.Tables.{Tables}
use Rattle.records.specs.Tables.{job_at, own_at, inherited_at, process_at, fixed_at, thread_at, token_at}
use Rattle.records.specs.Tables.{fresh_tables, Sized}
use Rattle.records.specs.Owners.{found_task}
use Rattle.model.specs.Job.{lists_thread, may_terminate, count}
use Rattle.model.specs.Step.{Call, final}

-- job j is at or above job i
pub data AtOrAbove (t : Tables) (j : ℕ) : ℕ → Type 0 where
  here : AtOrAbove t j j
  below : {i p : ℕ} → (job_at t i).parent ≡ Some p → AtOrAbove t j p → AtOrAbove t j i

-- what holds also between any two changes of a call
pub record Tree (t : Tables) : Type 0 where
  pub sized : Sized t
  -- what is not made is as it was at the start
  pub job_unmade : (j : ℕ) → (job_at t j).made ≡ false →
      (job_at t j ≡ no_job) × (own_at t j ≡ no_policy) × (inherited_at t j ≡ no_policy)
  pub process_unmade : (p : ℕ) → (process_at t p).made ≡ false →
      (process_at t p ≡ no_process) × (fixed_at t p ≡ no_policy)
  pub thread_unmade : (n : ℕ) → (thread_at t n).made ≡ false → thread_at t n ≡ no_thread
  pub token_unmade : (k : ℕ) → (token_at t k).made ≡ false → token_at t k ≡ no_token
  -- the root is made, and has no parent; every other made job has one
  pub root_made : (job_at t 0).made ≡ true
  pub root_orphan : (job_at t 0).parent ≡ None
  pub orphan_root : (j : ℕ) → (job_at t j).made ≡ true → (job_at t j).parent ≡ None → j ≡ 0
  -- a parent, a process's job and a thread's process are made
  pub parent_made : (j p : ℕ) → (job_at t j).parent ≡ Some p → (job_at t p).made ≡ true
  pub job_made : (p : ℕ) → (process_at t p).made ≡ true → (job_at t (process_at t p).job).made ≡ true
  pub process_made : (n : ℕ) → (thread_at t n).made ≡ true →
      (process_at t (thread_at t n).process).made ≡ true
  -- a token that holds a task is made, and so is the task, a process or a thread
  pub held_made : (k : ℕ) (a : Task) → (token_at t k).task ≡ Some a → (token_at t k).made ≡ true
  pub held_kind : (k : ℕ) (a : Task) → (token_at t k).task ≡ Some a → a.kind ≡ Job → ⊥
  pub task_made : (k : ℕ) (a : Task) → (token_at t k).task ≡ Some a →
      found_task t (number a.kind) a.name ≡ Some tt
  -- a job terminates only once killed; until then it is on its parent's list, and then on none
  pub terminated_killed : (j : ℕ) → (job_at t j).terminated ≡ true → (job_at t j).killed ≡ true
  pub job_listed : (j p : ℕ) → (job_at t j).parent ≡ Some p → (job_at t j).terminated ≡ false →
      (job_at t j).listed ≡ true
  pub job_unlisted : (j : ℕ) → (job_at t j).listed ≡ true → (job_at t j).terminated ≡ false
  -- what is on a list keeps its owner from ending
  pub parent_alive : (j p : ℕ) → (job_at t j).listed ≡ true → (job_at t j).parent ≡ Some p →
      (job_at t p).terminated ≡ false
  pub job_alive : (p : ℕ) → (process_at t p).listed ≡ true →
      (job_at t (process_at t p).job).terminated ≡ false
  pub process_alive : (n : ℕ) → (thread_at t n).listed ≡ true →
      (process_at t (thread_at t n).process).listed ≡ true
  -- a process is on its job's list until it has ended, and an ended one is Exited
  pub process_listed : (p : ℕ) → (process_at t p).made ≡ true → (process_at t p).terminated ≡ false →
      (process_at t p).listed ≡ true
  pub process_unlisted : (p : ℕ) → (process_at t p).listed ≡ true → (process_at t p).terminated ≡ false
  pub terminated_exited : (p : ℕ) → (process_at t p).terminated ≡ true →
      is_exited (process_at t p).status ≡ true
  -- a bound job is at or above the process's own
  pub bound_above : (p j : ℕ) (b : Bool) → (process_at t p).critical ≡ critical_to j b →
      AtOrAbove t j (process_at t p).job
  -- a thread is on its process's list until it is Dead, and a Dead one waits for nothing
  pub thread_listed : (n : ℕ) → (thread_at t n).made ≡ true → ((thread_at t n).state =? DEAD) ≡ false →
      (thread_at t n).listed ≡ true
  pub thread_unlisted : (n : ℕ) → (thread_at t n).listed ≡ true →
      ((thread_at t n).state =? DEAD) ≡ false
  pub dead_idle : (n : ℕ) → (thread_at t n).state ≡ DEAD → (thread_at t n).waiting ≡ NotWaiting
  pub dead_started : (n : ℕ) → (thread_at t n).state ≡ DEAD → (thread_at t n).started ≡ true
  -- a job's handler that has an exception is at or above the thread's own job
  pub handler_above : (n j : ℕ) (e : Exception) → (thread_at t n).waiting ≡ InException e →
      e.place ≡ OfJob j →
      AtOrAbove t j (process_at t (thread_at t n).process).job
  pub debugger_above : (n j : ℕ) (e : Exception) → (thread_at t n).waiting ≡ InException e →
      e.place ≡ OfJobDebugger j →
      AtOrAbove t j (process_at t (thread_at t n).process).job
  -- a level is shut just when its owner has ended
  pub level1_shut : (p : ℕ) → is_shut (process_at t p).level1 ≡ (process_at t p).terminated
  pub level2_shut : (n : ℕ) → is_shut (thread_at t n).level2 ≡ ((thread_at t n).state =? DEAD)
  pub level3_shut : (p : ℕ) → is_shut (process_at t p).level3 ≡ (process_at t p).terminated
  pub level4_shut : (j : ℕ) → is_shut (job_at t j).level4 ≡ (job_at t j).terminated
  pub level5_shut : (j : ℕ) → is_shut (job_at t j).level5 ≡ (job_at t j).terminated

-- what holds once a call is over
pub record Sound (t : Tables) : Type 0 where
  pub tree : Tree t
  -- a rank below the number of made jobs falls from each job to its parent: the tree is less than
  -- 32 deep
  pub rank : ℕ → ℕ
  pub rank_below : (j : ℕ) → (job_at t j).made ≡ true → rank j < count (λ v. v.made) t.jobs
  pub rank_falls : (j p : ℕ) → (job_at t j).parent ≡ Some p → rank p < rank j
  -- below a killed job all is killed, and in a killed job every process is Exited
  pub killed_below : (j p : ℕ) → (job_at t j).parent ≡ Some p → (job_at t p).killed ≡ true →
      (job_at t j).killed ≡ true
  pub killed_exited : (p : ℕ) → (process_at t p).made ≡ true →
      (job_at t (process_at t p).job).killed ≡ true →
      is_exited (process_at t p).status ≡ true
  -- a killed job that lists nothing has terminated; an Exited process that has not ended lists a
  -- thread
  pub killed_terminated : (j : ℕ) → may_terminate t j ≡ true → (job_at t j).terminated ≡ true
  pub exited_busy : (p : ℕ) → is_exited (process_at t p).status ≡ true →
      (process_at t p).terminated ≡ false →
      lists_thread t p ≡ true

-- every state that calls from a fresh root leave is sound
unfoldable pub Reachable : Type 0
Reachable = (l : List Call) → Sound (final fresh_tables l)
