-- A change that starts, stops and lists nothing: all jobs, processes and threads are made, listed,
-- killed, terminated and Exited as before (`Quiet`). All stores but those of the cascade, of a
-- thread that finishes and of a new name are so. Assumes nothing.
use Rattle.std.proofs.Common.{Option}
use Prim.Native.Nat.{ℕ}
use mathlib.Core.Path.{◌≡◌, refl, ap, ap₂, ◌∙◌}
use mathlib.Core.Bool.{Bool}
use mathlib.Core.List.{map}
use lib.IntN.{ℤ}
use Rattle.laws.specs.Choice.{◌and◌, ◌=?◌}
use Rattle.job_policy.specs.declared.JobPolicy.{JobPolicy}
use Rattle.record_job.specs.declared.Job.{Job}
use Rattle.record_job.specs.Job.{is_parent, child_of}
use Rattle.record_process.specs.declared.Process.{Process}
use Rattle.record_process.specs.Process.{is_exited, code_of, member_of}
use Rattle.record_thread.specs.declared.Thread.{Thread}
use Rattle.record_thread.specs.Thread.{no_thread, thread_of}
use Rattle.record_token.specs.declared.SuspendToken.{SuspendToken}
use Rattle.records.specs.declared.tables.Tables.{Tables}
use Rattle.records.specs.Tables.{job_at, process_at, thread_at, put_job, put_own, put_inherited}
use Rattle.records.specs.Tables.{put_process, put_fixed, put_thread, put_token, with_threads}
use Rattle.model.specs.Job.{may_terminate, lists_thread}
use Rattle.model.proofs.TaskTables.{keep_job, keep_process, keep_thread}
use Rattle.claims.proofs.Cross.{job_at_put_process, job_at_put_thread, process_at_put_job}
use Rattle.claims.proofs.Cross.{process_at_put_thread, thread_at_put_job, thread_at_put_process}
use Rattle.claims.proofs.ThreadMaps.{thread_at_map, job_at_with_threads, process_at_with_threads}
use Rattle.model.proofs.Lists.{job_empty_same, lists_thread_same}
use Rattle.claims.proofs.Tree.Search.{Passed}

abbrev pub job_key : Job → Bool × Bool × Bool × Bool × Option ℕ
job_key v = (v.made, v.listed, v.killed, v.terminated, v.parent)

abbrev pub process_key : Process → Bool × Bool × Bool × ℕ × Bool × ℤ
process_key q =
    (q.made, q.listed, q.terminated, q.job, is_exited q.status, code_of q.status)

abbrev pub thread_key : Thread → Bool × Bool × ℕ
thread_key v = (v.made, v.listed, v.process)

pub record Quiet (t u : Tables) : Type 0 where
  pub jobs : (j : ℕ) → job_key (job_at u j) ≡ job_key (job_at t j)
  pub processes : (p : ℕ) → process_key (process_at u p) ≡ process_key (process_at t p)
  pub threads : (n : ℕ) → thread_key (thread_at u n) ≡ thread_key (thread_at t n)

pub quiet_none : (t : Tables) → Quiet t t
quiet_none t = record { jobs = λ j. refl; processes = λ p. refl; threads = λ n. refl }

pub quiet_both : {t u w : Tables} → Quiet t u → Quiet u w → Quiet t w
quiet_both a b =
    record {
      jobs = λ j. b.jobs j ∙ a.jobs j;
      processes = λ p. b.processes p ∙ a.processes p;
      threads = λ n. b.threads n ∙ a.threads n;
    }

-- a search
pub quiet_passed : {t u : Tables} → Passed t u → Quiet t u
quiet_passed s =
    record {
      jobs = λ j. ap (λ (v : Job). job_key v) (s.jobs j);
      processes = λ p. ap (λ (q : Process). process_key q) (s.processes p);
      threads = λ n. ap (λ (v : Thread). thread_key v) (s.threads n);
    }

-- ---- Stores ----------------------------------------------------------------------------------

module _ (t : Tables) (i : ℕ) where
  pub quiet_job : (v : Job) → job_key v ≡ job_key (job_at t i) → Quiet t (put_job t i v)
  quiet_job v e =
      record {
        jobs = keep_job (λ w. job_key w) t i v e;
        processes = λ p. ap (λ (q : Process). process_key q) (process_at_put_job t i v p);
        threads = λ n. ap (λ (w : Thread). thread_key w) (thread_at_put_job t i v n);
      }

  pub quiet_process : (q : Process) → process_key q ≡ process_key (process_at t i)
      → Quiet t (put_process t i q)
  quiet_process q e =
      record {
        jobs = λ j. ap (λ (v : Job). job_key v) (job_at_put_process t i q j);
        processes = keep_process (λ w. process_key w) t i q e;
        threads = λ n. ap (λ (w : Thread). thread_key w) (thread_at_put_process t i q n);
      }

  pub quiet_thread : (v : Thread) → thread_key v ≡ thread_key (thread_at t i)
      → Quiet t (put_thread t i v)
  quiet_thread v e =
      record {
        jobs = λ j. ap (λ (w : Job). job_key w) (job_at_put_thread t i v j);
        processes = λ p. ap (λ (q : Process). process_key q) (process_at_put_thread t i v p);
        threads = keep_thread (λ w. thread_key w) t i v e;
      }

  pub quiet_own : (v : JobPolicy) → Quiet t (put_own t i v)
  unfolding job_at process_at thread_at put_own
  quiet_own v = record { jobs = λ j. refl; processes = λ p. refl; threads = λ n. refl }

  pub quiet_inherited : (v : JobPolicy) → Quiet t (put_inherited t i v)
  unfolding job_at process_at thread_at put_inherited
  quiet_inherited v = record { jobs = λ j. refl; processes = λ p. refl; threads = λ n. refl }

  pub quiet_fixed : (v : JobPolicy) → Quiet t (put_fixed t i v)
  unfolding job_at process_at thread_at put_fixed
  quiet_fixed v = record { jobs = λ j. refl; processes = λ p. refl; threads = λ n. refl }

  pub quiet_token : (v : SuspendToken) → Quiet t (put_token t i v)
  unfolding job_at process_at thread_at put_token
  quiet_token v = record { jobs = λ j. refl; processes = λ p. refl; threads = λ n. refl }

pub quiet_map : (t : Tables) (f : Thread → Thread) → f no_thread ≡ no_thread
    → ((v : Thread) → thread_key (f v) ≡ thread_key v)
    → Quiet t (with_threads t (map f t.threads))
quiet_map t f z e =
    record {
      jobs = λ j. ap (λ (w : Job). job_key w) (job_at_with_threads t (map f t.threads) j);
      processes = λ p. ap (λ (q : Process). process_key q)
          (process_at_with_threads t (map f t.threads) p);
      threads = λ n. ap (λ (w : Thread). thread_key w) (thread_at_map f z t n) ∙ e (thread_at t n);
    }

-- ---- What it leaves --------------------------------------------------------------------------

module _ {t u : Tables} (q : Quiet t u) where
  module _ (i : ℕ) where
    pub job_made_same : (job_at u i).made ≡ (job_at t i).made
    job_made_same = ap (λ k. k.0) (q.jobs i)

    pub killed_same : (job_at u i).killed ≡ (job_at t i).killed
    killed_same = ap (λ k. k.2) (q.jobs i)

    pub terminated_same : (job_at u i).terminated ≡ (job_at t i).terminated
    terminated_same = ap (λ k. k.3) (q.jobs i)

    pub parent_same : (job_at u i).parent ≡ (job_at t i).parent
    parent_same = ap (λ k. k.4) (q.jobs i)

    pub process_made_same : (process_at u i).made ≡ (process_at t i).made
    process_made_same = ap (λ k. k.0) (q.processes i)

    pub ended_same : (process_at u i).terminated ≡ (process_at t i).terminated
    ended_same = ap (λ k. k.2) (q.processes i)

    pub home_same : (process_at u i).job ≡ (process_at t i).job
    home_same = ap (λ k. k.3) (q.processes i)

    pub exited_same : is_exited (process_at u i).status ≡ is_exited (process_at t i).status
    exited_same = ap (λ k. k.4) (q.processes i)

    pub code_same : code_of (process_at u i).status ≡ code_of (process_at t i).status
    code_same = ap (λ k. k.5) (q.processes i)

    pub child_of_same : (j : ℕ) → child_of (job_at u i) j ≡ child_of (job_at t i) j
    unfolding child_of
    child_of_same j = ap (λ k. k.1 and is_parent k.4 j) (q.jobs i)

    pub member_of_same : (j : ℕ) → member_of (process_at u i) j ≡ member_of (process_at t i) j
    unfolding member_of
    member_of_same j = ap (λ k. k.1 and (k.3 =? j)) (q.processes i)

    pub thread_of_same : (p : ℕ) → thread_of (thread_at u i) p ≡ thread_of (thread_at t i) p
    unfolding thread_of
    thread_of_same p = ap (λ k. k.1 and (k.2 =? p)) (q.threads i)

  pub may_same : (j : ℕ) → may_terminate u j ≡ may_terminate t j
  unfolding may_terminate
  may_same j =
      ap₂ (λ a b. a and b) (killed_same j)
      (job_empty_same u t j (λ i. child_of_same i j) (λ i. member_of_same i j))

  pub lists_same : (p : ℕ) → lists_thread u p ≡ lists_thread t p
  lists_same p = lists_thread_same u t p (λ i. thread_of_same i p)
