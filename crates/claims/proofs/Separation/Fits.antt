-- What each change of a record keeps of the closure of the trips. Assumes nothing.
use Prim.Native.Nat.{ℕ}
use mathlib.Core.Path.{◌≡◌, refl}
use mathlib.Core.Bool.{Bool, true}
use Rattle.laws.proofs.Cases.{no_both, if_on}
use Rattle.job_policy.specs.declared.TimerSlack.{TimerSlack}
use Rattle.record_exception.specs.declared.Level.{Level}
use Rattle.record_job.specs.declared.Job.{Job}
use Rattle.record_job.specs.Job.{killed, terminated, with_slack, with_level4, with_level5}
use Rattle.record_process.specs.declared.Status.{Status}
use Rattle.record_process.specs.declared.Process.{Process}
use Rattle.record_process.specs.Process.{with_status, ended, with_level1, with_level3}
use Rattle.record_thread.specs.declared.Waiting.{Waiting}
use Rattle.record_thread.specs.declared.Thread.{Thread}
use Rattle.record_thread.specs.Thread.{start, dying, kill, exit, finish, with_suspends, suspend}
use Rattle.record_thread.specs.Thread.{resume, waits, end_wait, with_level2}
use Rattle.claims.specs.Separation.{Trip}
use Rattle.claims.proofs.Separation.Agree.{JobFits, ProcessFits, ThreadFits}

-- ---- Jobs ------------------------------------------------------------------------------------

module _ {x y : Trip} {k : ℕ} (v : Job) (f : JobFits x y k v) where
  pub fits_killed : JobFits x y k (killed v)
  fits_killed =
      record {
        below_x = f.below_x;
        below_y = f.below_y;
        killed_first = λ e. refl;
        listed_till = f.listed_till;
      }

  pub fits_terminated : v.killed ≡ true → JobFits x y k (terminated v)
  fits_terminated h =
      record {
        below_x = f.below_x;
        below_y = f.below_y;
        killed_first = λ e. h;
        listed_till = λ d u e. no_both refl e;
      }

  pub fits_slack : (a : TimerSlack) → JobFits x y k (with_slack v a)
  fits_slack a =
      record {
        below_x = f.below_x;
        below_y = f.below_y;
        killed_first = f.killed_first;
        listed_till = f.listed_till;
      }

  pub fits_level4 : (l : Level) → JobFits x y k (with_level4 v l)
  fits_level4 l =
      record {
        below_x = f.below_x;
        below_y = f.below_y;
        killed_first = f.killed_first;
        listed_till = f.listed_till;
      }

  pub fits_level5 : (l : Level) → JobFits x y k (with_level5 v l)
  fits_level5 l =
      record {
        below_x = f.below_x;
        below_y = f.below_y;
        killed_first = f.killed_first;
        listed_till = f.listed_till;
      }

-- ---- Processes -------------------------------------------------------------------------------

module _ {x y : Trip} {p : ℕ} (q : Process) (f : ProcessFits x y p q) where
  pub fits_status : (z : Status) → ProcessFits x y p (with_status q z)
  fits_status z =
      record { of_x = f.of_x; of_y = f.of_y; bound_x = f.bound_x; listed_made = f.listed_made }

  pub fits_ended : ProcessFits x y p (ended q)
  unfolding ended
  fits_ended =
      record {
        of_x = f.of_x;
        of_y = f.of_y;
        bound_x = f.bound_x;
        listed_made = λ e. no_both e refl;
      }

  pub fits_level1 : (l : Level) → ProcessFits x y p (with_level1 q l)
  fits_level1 l =
      record { of_x = f.of_x; of_y = f.of_y; bound_x = f.bound_x; listed_made = f.listed_made }

  pub fits_level3 : (l : Level) → ProcessFits x y p (with_level3 q l)
  fits_level3 l =
      record { of_x = f.of_x; of_y = f.of_y; bound_x = f.bound_x; listed_made = f.listed_made }

-- ---- Threads ---------------------------------------------------------------------------------

module _ {x y : Trip} {n : ℕ} (v : Thread) (f : ThreadFits x y n v) where
  pub fits_start : ThreadFits x y n (start v)
  fits_start = record { of_x = f.of_x; of_y = f.of_y; listed_made = f.listed_made }

  fits_dying : (b : Bool) → ThreadFits x y n (dying v b)
  fits_dying b = record { of_x = f.of_x; of_y = f.of_y; listed_made = f.listed_made }

  pub fits_kill : ThreadFits x y n (kill v)
  unfolding kill
  fits_kill = if_on (ThreadFits x y n) _ _ _ (λ e. f) (λ e. fits_dying true)

  pub fits_exit : ThreadFits x y n (exit v)
  unfolding exit
  fits_exit =
      if_on (ThreadFits x y n) _ _ _ (λ e. f)
      (λ e. if_on (ThreadFits x y n) _ _ _ (λ h. f) (λ h. fits_dying v.killed))

  pub fits_finish : ThreadFits x y n (finish v)
  fits_finish = record { of_x = f.of_x; of_y = f.of_y; listed_made = λ e. no_both e refl }

  fits_suspends : (m : ℕ) → ThreadFits x y n (with_suspends v m)
  fits_suspends m = record { of_x = f.of_x; of_y = f.of_y; listed_made = f.listed_made }

  pub fits_suspend : ThreadFits x y n (suspend v)
  unfolding suspend
  fits_suspend = if_on (ThreadFits x y n) _ _ _ (λ e. f) (λ e. fits_suspends _)

  pub fits_resume : ThreadFits x y n (resume v)
  unfolding resume
  fits_resume = if_on (ThreadFits x y n) _ _ _ (λ e. f) (λ e. fits_suspends _)

  pub fits_waits : (state : ℕ) (w : Waiting) → ThreadFits x y n (waits v state w)
  fits_waits state w = record { of_x = f.of_x; of_y = f.of_y; listed_made = f.listed_made }

  pub fits_end_wait : ThreadFits x y n (end_wait v)
  unfolding end_wait
  fits_end_wait = if_on (ThreadFits x y n) _ _ _ (λ e. fits_waits _ _) (λ e. fits_waits _ _)

  pub fits_level2 : (l : Level) → ThreadFits x y n (with_level2 v l)
  fits_level2 l = record { of_x = f.of_x; of_y = f.of_y; listed_made = f.listed_made }
