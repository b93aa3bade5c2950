-- Tests that two runs answer alike: what a job of y lists, what a process outside x lists, and the
-- one listing in which the runs may differ, that of a child killed in both. Assumes nothing.
use Rattle.std.proofs.Common.{Option, Some}
use Prim.Native.Nat.{ℕ, zero, suc}
use mathlib.Core.Path.{◌≡◌, refl, sym, ap, ap₂, ◌∙◌}
use mathlib.Core.Bool.{Bool, true, false}
use Rattle.laws.specs.Choice.{◌and◌}
use Rattle.laws.proofs.Cases.{by, no_both, and_right, and_true}
use Rattle.laws.proofs.Flow.{no}
use Rattle.record_job.specs.declared.Job.{Job}
use Rattle.record_job.specs.Job.{is_parent, child_of}
use Rattle.record_process.specs.declared.Process.{Process}
use Rattle.record_process.specs.Process.{member_of}
use Rattle.record_thread.specs.declared.Thread.{Thread}
use Rattle.record_thread.specs.Thread.{thread_of}
use Rattle.records.specs.declared.tables.Tables.{Tables}
use Rattle.records.specs.Tables.{job_at, process_at, thread_at}
use Rattle.model.specs.Job.{job_empty, lists_thread, may_terminate, is_live_job, kill_step}
use Rattle.model.specs.Job.{kill_within}
use Rattle.claims.specs.Separation.{Trip}
use Rattle.model.proofs.Lists.{job_empty_same, lists_thread_same}
use Rattle.model.proofs.Live.{killed_job}
use Rattle.claims.proofs.Separation.Agree.{Agree, JobFits, ProcessFits, ThreadFits}
use Rattle.claims.proofs.Separation.Stores.{thread_of_listed, thread_of_process}
use Rattle.claims.proofs.Separation.CascadeOne.{child_of_parent, member_of_listed}
use Rattle.claims.proofs.Separation.CascadeOne.{member_of_job}

pub live_same : (v w : Job) → v.made ≡ w.made → v.killed ≡ w.killed → is_live_job v ≡ is_live_job w
unfolding is_live_job
live_same v w m k = rw (m, k)

-- killing a killed job does nothing
pub kill_none : (n : ℕ) (t : Tables) (j : ℕ) → (job_at t j).killed ≡ true → kill_within n t j ≡ t
unfolding kill_within kill_step
kill_none zero t j h = refl
kill_none (suc n) t j h = sym (no _ _ (killed_job (job_at t j) h) refl)

module _ {x y : Trip} {s t : Tables} (r : Agree x y s t) where
  -- a child listed in one run and not in the other is killed in both
  pub unlisted_killed : (j i : ℕ) → x.jobs i ≡ false → child_of (job_at s i) j ≡ true →
      child_of (job_at t i) j ≡ false → (job_at s i).killed ≡ true
  unfolding child_of
  unlisted_killed j i h a b =
      let c : (job_at s i).parent ≡ (job_at t i).parent = (r.jobs i).parent h in
      let f : JobFits x y i (job_at t i) = (r.jobs i).fits₂ in
      let p : is_parent (job_at t i).parent j ≡ true =
      ap (λ (q : Option ℕ). is_parent q j) (sym c)
      ∙ and_right (job_at s i).listed (is_parent (job_at s i).parent j) a in
      let u : (job_at t i).parent ≡ Some j = sym c ∙ child_of_parent (job_at s i) j a in
      by (job_at t i).terminated (λ e. (r.jobs i).killed h ∙ f.killed_first e)
      (λ e. no_both (and_true (f.listed_till j u e) p) b)

  -- ---- Lists of y's jobs -----------------------------------------------------------------------

  none_y : (u : Tables) → ((i : ℕ) → JobFits x y i (job_at u i)) → (d i : ℕ) → y.jobs d ≡ true →
      y.jobs i ≡ false → child_of (job_at u i) d ≡ false
  none_y u f d i h q =
      by (child_of (job_at u i) d)
      (λ e. no_both ((f i).below_y d (child_of_parent (job_at u i) d e) h) q) (λ e. e)

  child_same : (d : ℕ) → y.jobs d ≡ true → (i : ℕ) →
      child_of (job_at s i) d ≡ child_of (job_at t i) d
  child_same d h i =
      by (y.jobs i) (λ q. ap (λ (v : Job). child_of v d) ((r.jobs i).same q))
      (λ q. none_y s (λ k. (r.jobs k).fits₁) d i h q ∙ sym
      (none_y t (λ k. (r.jobs k).fits₂) d i h q))

  none_of_y : (u : Tables) → ((i : ℕ) → ProcessFits x y i (process_at u i)) → (d p : ℕ) →
      y.jobs d ≡ true → y.processes p ≡ false → member_of (process_at u p) d ≡ false
  none_of_y u f d p h q =
      let v : Process = process_at u p in
      by (member_of v d)
      (λ e. no_both
      ((f p).of_y ((f p).listed_made (member_of_listed v d e)) ∙ ap y.jobs
      (member_of_job v d e) ∙ h) q)
      (λ e. e)

  member_same : (d : ℕ) → y.jobs d ≡ true → (p : ℕ) →
      member_of (process_at s p) d ≡ member_of (process_at t p) d
  member_same d h p =
      by (y.processes p)
      (λ q. ap (λ (v : Process). member_of v d) ((r.processes p).same (r.apart.processes p q)))
      (λ q. none_of_y s (λ k. (r.processes k).fits₁) d p h q
      ∙ sym (none_of_y t (λ k. (r.processes k).fits₂) d p h q))

  pub empty_same : (d : ℕ) → y.jobs d ≡ true → job_empty s d ≡ job_empty t d
  empty_same d h = job_empty_same s t d (child_same d h) (member_same d h)

  pub may_same : (d : ℕ) → y.jobs d ≡ true → may_terminate s d ≡ may_terminate t d
  unfolding may_terminate
  may_same d h =
      ap₂ (λ a b. a and b) (ap (λ (v : Job). v.killed) ((r.jobs d).same h)) (empty_same d h)

  -- ---- Threads of a process outside x ----------------------------------------------------------

  none_x : (u : Tables) → ((n : ℕ) → ThreadFits x y n (thread_at u n)) → (p n : ℕ) →
      x.processes p ≡ false → x.threads n ≡ true → thread_of (thread_at u n) p ≡ false
  none_x u f p n h q =
      let v : Thread = thread_at u n in
      by (thread_of v p)
      (λ e. no_both
      (sym ((f n).of_x ((f n).listed_made (thread_of_listed v p e)) ∙ ap x.processes
      (thread_of_process v p e)) ∙ q) h)
      (λ e. e)

  -- a test of the threads that a process outside x lists
  pub threads_same : (f : Thread → Bool) (p : ℕ) → x.processes p ≡ false → (n : ℕ) →
      (thread_of (thread_at s n) p and f (thread_at s n)) ≡
      (thread_of (thread_at t n) p and f (thread_at t n))
  unfolding ◌and◌
  threads_same f p h n =
      by (x.threads n)
      (λ q. rw
      (none_x s (λ k. (r.threads k).fits₁) p n h q, none_x t (λ k. (r.threads k).fits₂) p n h q))
      (λ q. ap (λ (v : Thread). thread_of v p and f v) ((r.threads n).same q))

  pub lists_same : (p : ℕ) → x.processes p ≡ false → lists_thread s p ≡ lists_thread t p
  lists_same p h =
      lists_thread_same s t p
      λ n. by (x.threads n)
      (λ q. none_x s (λ k. (r.threads k).fits₁) p n h q ∙ sym
      (none_x t (λ k. (r.threads k).fits₂) p n h q))
      (λ q. ap (λ (v : Thread). thread_of v p) ((r.threads n).same q))
