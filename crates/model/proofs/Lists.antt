-- What a list holds, name by name: the children and the processes of a job, the threads of a
-- process.
--     child_listed, no_child, some_child      one name is on the list, none is, one that is
--     lists_child_same                         two tables that list the same
-- Assumes nothing.
use Prim.Native.Nat.{ℕ}
use mathlib.Core.Path.{◌≡◌, refl, ap₂}
use mathlib.Core.Bool.{true, false, not}
use borrow.Author.Tests.{not-true}
use Rattle.laws.specs.Choice.{◌and◌}
use Rattle.laws.proofs.Cases.{and_left, and_right, and_true}
use Rattle.laws.proofs.Flow.{not_yes}
use Rattle.laws.proofs.Counts.{any_at, none_at, any_some, any_same}
use Rattle.record_job.specs.Job.{no_job, child_of}
use Rattle.record_process.specs.Process.{no_process, member_of}
use Rattle.record_thread.specs.Thread.{no_thread, thread_of}
use Rattle.records.specs.declared.tables.Tables.{Tables}
use Rattle.records.specs.Tables.{job_at, process_at, thread_at}
use Rattle.model.specs.Job.{lists_child, lists_process, job_empty, lists_thread, may_terminate}

-- ---- Children of a job -----------------------------------------------------------------------

unchild : (j : ℕ) → child_of no_job j ≡ false
unfolding child_of ◌and◌
unchild j = refl

pub child_listed : (t : Tables) (j i : ℕ) → child_of (job_at t i) j ≡ true → lists_child t j ≡ true
unfolding lists_child job_at
child_listed t j i = any_at (λ v. child_of v j) no_job (unchild j) t.jobs i

pub no_child : (t : Tables) (j i : ℕ) → lists_child t j ≡ false → child_of (job_at t i) j ≡ false
unfolding lists_child job_at
no_child t j i = none_at (λ v. child_of v j) no_job (unchild j) t.jobs i

pub some_child : (t : Tables) (j : ℕ) → lists_child t j ≡ true
    → (i : ℕ) × (child_of (job_at t i) j ≡ true)
unfolding lists_child job_at
some_child t j = any_some (λ v. child_of v j) no_job t.jobs

pub lists_child_same : (t u : Tables) (j : ℕ)
    → ((i : ℕ) → child_of (job_at t i) j ≡ child_of (job_at u i) j) → lists_child t j ≡ lists_child u j
unfolding lists_child job_at
lists_child_same t u j h =
    any_same (λ v. child_of v j) (λ v. child_of v j) no_job t.jobs u.jobs (unchild j)
    (unchild j) h

-- ---- Processes of a job ----------------------------------------------------------------------

unmember : (j : ℕ) → member_of no_process j ≡ false
unfolding member_of ◌and◌
unmember j = refl

pub member_listed : (t : Tables) (j i : ℕ) → member_of (process_at t i) j ≡ true
    → lists_process t j ≡ true
unfolding lists_process process_at
member_listed t j i = any_at (λ v. member_of v j) no_process (unmember j) t.processes i

pub no_member : (t : Tables) (j i : ℕ) → lists_process t j ≡ false
    → member_of (process_at t i) j ≡ false
unfolding lists_process process_at
no_member t j i = none_at (λ v. member_of v j) no_process (unmember j) t.processes i

pub some_member : (t : Tables) (j : ℕ) → lists_process t j ≡ true
    → (i : ℕ) × (member_of (process_at t i) j ≡ true)
unfolding lists_process process_at
some_member t j = any_some (λ v. member_of v j) no_process t.processes

pub lists_process_same : (t u : Tables) (j : ℕ)
    → ((i : ℕ) → member_of (process_at t i) j ≡ member_of (process_at u i) j)
    → lists_process t j ≡ lists_process u j
unfolding lists_process process_at
lists_process_same t u j h =
    any_same (λ v. member_of v j) (λ v. member_of v j) no_process t.processes u.processes
    (unmember j) (unmember j) h

-- ---- Threads of a process --------------------------------------------------------------------

unthread : (p : ℕ) → thread_of no_thread p ≡ false
unfolding thread_of ◌and◌
unthread p = refl

pub thread_listed : (t : Tables) (p i : ℕ) → thread_of (thread_at t i) p ≡ true
    → lists_thread t p ≡ true
unfolding lists_thread thread_at
thread_listed t p i = any_at (λ v. thread_of v p) no_thread (unthread p) t.threads i

pub no_thread_lem : (t : Tables) (p i : ℕ) → lists_thread t p ≡ false → thread_of (thread_at t i) p ≡ false
unfolding lists_thread thread_at
no_thread_lem t p i = none_at (λ v. thread_of v p) no_thread (unthread p) t.threads i

pub some_thread : (t : Tables) (p : ℕ) → lists_thread t p ≡ true
    → (i : ℕ) × (thread_of (thread_at t i) p ≡ true)
unfolding lists_thread thread_at
some_thread t p = any_some (λ v. thread_of v p) no_thread t.threads

pub lists_thread_same : (t u : Tables) (p : ℕ)
    → ((i : ℕ) → thread_of (thread_at t i) p ≡ thread_of (thread_at u i) p)
    → lists_thread t p ≡ lists_thread u p
unfolding lists_thread thread_at
lists_thread_same t u p h =
    any_same (λ v. thread_of v p) (λ v. thread_of v p) no_thread t.threads u.threads (unthread p)
    (unthread p) h

-- ---- A job that lists nothing ----------------------------------------------------------------

module _ (t : Tables) (j : ℕ) where
  pub empty_lists : lists_child t j ≡ false → lists_process t j ≡ false → job_empty t j ≡ true
  unfolding job_empty
  empty_lists a b = and_true (not_yes a) (not_yes b)

  pub empty_child : job_empty t j ≡ true → (i : ℕ) → child_of (job_at t i) j ≡ false
  unfolding job_empty
  empty_child e i = no_child t j i (not-true _ (and_left (not (lists_child t j)) _ e))

  pub empty_member : job_empty t j ≡ true → (i : ℕ) → member_of (process_at t i) j ≡ false
  unfolding job_empty
  empty_member e i = no_member t j i (not-true _ (and_right (not (lists_child t j)) _ e))

  pub may_terminate_lem : (job_at t j).killed ≡ true → job_empty t j ≡ true → may_terminate t j ≡ true
  unfolding may_terminate
  may_terminate_lem h e = and_true h e

  pub may_killed : may_terminate t j ≡ true → (job_at t j).killed ≡ true
  unfolding may_terminate
  may_killed e = and_left (job_at t j).killed (job_empty t j) e

  pub may_empty : may_terminate t j ≡ true → job_empty t j ≡ true
  unfolding may_terminate
  may_empty e = and_right (job_at t j).killed (job_empty t j) e

pub job_empty_same : (t u : Tables) (j : ℕ)
    → ((i : ℕ) → child_of (job_at t i) j ≡ child_of (job_at u i) j)
    → ((i : ℕ) → member_of (process_at t i) j ≡ member_of (process_at u i) j)
    → job_empty t j ≡ job_empty u j
unfolding job_empty
job_empty_same t u j f g =
    ap₂ (λ a b. not a and not b) (lists_child_same t u j f) (lists_process_same t u j g)
