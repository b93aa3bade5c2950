-- Calls whose operand depends on a number before it, a task of a kind or the owner of a level:
-- whose they are, in one run and in both. Assumes nothing.
use Rattle.std.proofs.Common.{Some, None}
use Prim.Native.Nat.{ℕ}
use mathlib.Core.Path.{◌≡◌, refl, sym, ap, ◌∙◌, subst}
use mathlib.Core.Bool.{Bool, true, false}
use Rattle.laws.specs.Choice.{◌≤?◌, ◌<?◌, ◌=?◌, ◌and◌, ◌or◌, if◌then◌otherwise◌}
use Rattle.laws.proofs.Cases.{no_both, if_on, if_two}
use Rattle.laws.proofs.Counts.{any_same}
use Rattle.record_exception.specs.declared.Level.{Level}
use Rattle.record_job.specs.declared.Job.{Job}
use Rattle.record_job.specs.Job.{with_level4, with_level5}
use Rattle.record_process.specs.declared.Process.{Process}
use Rattle.record_process.specs.Process.{with_level1, with_level3}
use Rattle.record_thread.specs.declared.Thread.{Thread}
use Rattle.record_thread.specs.Thread.{no_thread, thread_of, with_level2}
use Rattle.records.specs.declared.tables.Tables.{Tables}
use Rattle.records.specs.Tables.{job_at, process_at, thread_at, put_job, found_job, found_process}
use Rattle.records.specs.Tables.{found_thread}
use Rattle.records.specs.Owners.{owners_of, tasks_of, level_of_job, level_of_process, level_of_thread}
use Rattle.records.specs.Owners.{found_level, put_level, as_task, found_task}
use Rattle.model.specs.SuspendToken.{some_at, change_task}
use Rattle.model.specs.ExceptionCalls.{bad_level}
use Rattle.claims.specs.Separation.{Trip, task_of, OwnTask, a_job, a_process, a_thread}
use Rattle.claims.specs.Separation.{no_kind, OwnOwner, level1, level2, level3, level4, level5}
use Rattle.claims.specs.Separation.{no_level}
use Rattle.claims.proofs.Separation.Agree.{Agree, JobFits, JobAlike, ThreadFits, job_refl}
use Rattle.claims.proofs.Separation.Fits.{fits_level1, fits_level2, fits_level3, fits_level4}
use Rattle.claims.proofs.Separation.Fits.{fits_level5}
use Rattle.claims.proofs.Separation.Writes.{put_job_two}
use Rattle.claims.proofs.Separation.Stores.{job_one, process_one, thread_one, process_two}
use Rattle.claims.proofs.Separation.Stores.{thread_two, change_one, change_two}
use Rattle.claims.proofs.Separation.Same.{threads_same}
use Rattle.claims.proofs.Separation.Lookups.{in_table, IsTask, is_process, is_thread}

-- ---- Tasks -----------------------------------------------------------------------------------

pub own_task : {x : Trip} {n kind : ℕ} → OwnTask x n kind → 2 <? kind ≡ false →
    tasks_of kind ≤? n ≡ false → kind =? 0 ≡ false → IsTask kind × (task_of x kind n ≡ true)
unfolding tasks_of if◌then◌otherwise◌ ◌or◌
own_task (a_job o) b p z = no_both refl z
own_task {x = x} {n = n} (a_process o) b p z = (refl, in_table (64 ≤? n) (x.processes n) o p)
own_task {x = x} {n = n} (a_thread o) b p z = (refl, in_table (128 ≤? n) (x.threads n) o p)
own_task (no_kind e) b p z = no_both e b

module _ {x y : Trip} {s t : Tables} (r : Agree x y s t) where
  pub task_same : {n kind : ℕ} → OwnTask y n kind → 2 <? kind ≡ false → tasks_of kind ≤? n ≡ false →
      found_task s kind n ≡ found_task t kind n
  unfolding tasks_of found_task found_job found_process found_thread if◌then◌otherwise◌
  task_same {n = n} (a_job o) b p =
      ap (λ (v : Job). as_task (if v.made then Some v otherwise None))
      ((r.jobs n).same (in_table (32 ≤? n) (y.jobs n) o p))
  task_same {n = n} (a_process o) b p =
      ap (λ (v : Process). as_task (if v.made then Some v otherwise None))
      ((r.processes n).same (r.apart.processes n (in_table (64 ≤? n) (y.processes n) o p)))
  task_same {n = n} (a_thread o) b p =
      ap (λ (v : Thread). as_task (if v.made then Some v otherwise None))
      ((r.threads n).same (r.apart.threads n (in_table (128 ≤? n) (y.threads n) o p)))
  task_same (no_kind e) b p = no_both e b

  -- a change of each thread that a task concerns
  module _ (f : Thread → Thread)
      (g : (n : ℕ) (v : Thread) → ThreadFits x y n v → ThreadFits x y n (f v)) (kind n : ℕ) where
    pub change_task_one : IsTask kind → task_of x kind n ≡ true → Agree x y (change_task f s kind n) t
    unfolding change_task
    change_task_one k h =
        if_on (λ (z : Tables). Agree x y z t) (kind =? 1) _ _
        (λ e. change_one r n f g (sym (is_process x kind n e) ∙ h))
        (λ e. thread_one r n (sym (is_thread x kind n k e) ∙ h) _ (g n _ (r.threads n).fits₁))

    pub change_task_two : Agree x y (change_task f s kind n) (change_task f t kind n)
    unfolding change_task
    change_task_two =
        if_two (Agree x y) (kind =? 1) (kind =? 1) _ _ _ _ refl (λ d e. change_two r n f g)
        (λ d e. thread_two r n f (g n))

  pub some_at_same : (kind n count : ℕ) → IsTask kind → task_of x kind n ≡ false →
      some_at s kind n count ≡ some_at t kind n count
  unfolding some_at thread_at thread_of ◌and◌
  some_at_same kind n count k h =
      let test : Thread → Bool = λ v. thread_of v n and (v.suspends =? count) in
      if_two (λ (a b : Bool). a ≡ b) (kind =? 1) (kind =? 1) _ _ _ _ refl
      (λ d e. any_same test test no_thread s.threads t.threads refl refl
      (threads_same r (λ v. v.suspends =? count) n (sym (is_process x kind n d) ∙ h)))
      (λ d e. ap (λ (v : Thread). v.suspends =? count)
      ((r.threads n).same (sym (is_thread x kind n k d) ∙ h)))

-- ---- Levels ----------------------------------------------------------------------------------

module _ {x y : Trip} {s t : Tables} (r : Agree x y s t) where
  pub put_level_one : {n level : ℕ} → OwnOwner x n level → bad_level level ≡ false →
      owners_of level ≤? n ≡ false → (l : Level) → Agree x y (put_level s level n l) t
  unfolding owners_of put_level if◌then◌otherwise◌
  put_level_one {n = n} (level1 o) b p l =
      process_one r n (in_table (64 ≤? n) (x.processes n) o p) _
      (fits_level1 (process_at s n) (r.processes n).fits₁ l)
  put_level_one {n = n} (level2 o) b p l =
      thread_one r n (in_table (128 ≤? n) (x.threads n) o p) _
      (fits_level2 (thread_at s n) (r.threads n).fits₁ l)
  put_level_one {n = n} (level3 o) b p l =
      process_one r n (in_table (64 ≤? n) (x.processes n) o p) _
      (fits_level3 (process_at s n) (r.processes n).fits₁ l)
  put_level_one {n = n} (level4 o) b p l =
      job_one r n (in_table (32 ≤? n) (x.jobs n) o p) _
      (fits_level4 (job_at s n) (r.jobs n).fits₁ l)
  put_level_one {n = n} (level5 o) b p l =
      job_one r n (in_table (32 ≤? n) (x.jobs n) o p) _
      (fits_level5 (job_at s n) (r.jobs n).fits₁ l)
  put_level_one (no_level e) b p l = no_both e b

  -- a job of y, changed alike
  job_two : (j : ℕ) → y.jobs j ≡ true → (f : Job → Job) →
      ((v : Job) → JobFits x y j v → JobFits x y j (f v)) →
      Agree x y (put_job s j (f (job_at s j))) (put_job t j (f (job_at t j)))
  job_two j h f g =
      put_job_two r j _ _
      (subst (λ (w : Job). JobAlike x y j (f (job_at s j)) (f w)) ((r.jobs j).same h)
      (job_refl (f (job_at s j)) (g (job_at s j) (r.jobs j).fits₁)))

  pub put_level_two : {n level : ℕ} → OwnOwner y n level → bad_level level ≡ false →
      owners_of level ≤? n ≡ false → (l : Level) →
      Agree x y (put_level s level n l) (put_level t level n l)
  unfolding owners_of put_level if◌then◌otherwise◌
  put_level_two {n = n} (level1 o) b p l =
      process_two r n (λ (q : Process). with_level1 q l) (λ q f. fits_level1 q f l)
  put_level_two {n = n} (level2 o) b p l =
      thread_two r n (λ (v : Thread). with_level2 v l) (λ v f. fits_level2 v f l)
  put_level_two {n = n} (level3 o) b p l =
      process_two r n (λ (q : Process). with_level3 q l) (λ q f. fits_level3 q f l)
  put_level_two {n = n} (level4 o) b p l =
      job_two n (in_table (32 ≤? n) (y.jobs n) o p) (λ (v : Job). with_level4 v l)
      (λ v f. fits_level4 v f l)
  put_level_two {n = n} (level5 o) b p l =
      job_two n (in_table (32 ≤? n) (y.jobs n) o p) (λ (v : Job). with_level5 v l)
      (λ v f. fits_level5 v f l)
  put_level_two (no_level e) b p l = no_both e b

  pub level_same : {n level : ℕ} → OwnOwner y n level → bad_level level ≡ false →
      owners_of level ≤? n ≡ false → found_level s level n ≡ found_level t level n
  unfolding owners_of found_level found_job found_process found_thread if◌then◌otherwise◌
  level_same {n = n} (level1 o) b p =
      ap (λ (v : Process). level_of_process (if v.made then Some v otherwise None) 1)
      ((r.processes n).same (r.apart.processes n (in_table (64 ≤? n) (y.processes n) o p)))
  level_same {n = n} (level2 o) b p =
      ap (λ (v : Thread). level_of_thread (if v.made then Some v otherwise None))
      ((r.threads n).same (r.apart.threads n (in_table (128 ≤? n) (y.threads n) o p)))
  level_same {n = n} (level3 o) b p =
      ap (λ (v : Process). level_of_process (if v.made then Some v otherwise None) 3)
      ((r.processes n).same (r.apart.processes n (in_table (64 ≤? n) (y.processes n) o p)))
  level_same {n = n} (level4 o) b p =
      ap (λ (v : Job). level_of_job (if v.made then Some v otherwise None) 4)
      ((r.jobs n).same (in_table (32 ≤? n) (y.jobs n) o p))
  level_same {n = n} (level5 o) b p =
      ap (λ (v : Job). level_of_job (if v.made then Some v otherwise None) 5)
      ((r.jobs n).same (in_table (32 ≤? n) (y.jobs n) o p))
  level_same (no_level e) b p = no_both e b
