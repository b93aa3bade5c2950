-- What each single store of a cascade keeps (`Stores`), the whole cascade keeps, at any depth: one
-- theorem for counts, lengths, fixed fields, marks that stay, and records that a cascade leaves
-- alone. Assumes nothing.
use Rattle.std.proofs.Common.{Option, Some, None}
use Prim.Native.Nat.{ℕ, zero, suc}
use mathlib.Core.Path.{◌≡◌, refl, ap}
use mathlib.Core.Bool.{Bool, true, false}
use lib.IntN.{ℤ}
use Rattle.laws.proofs.Cases.{ite_on, if_on}
use Rattle.record_job.specs.declared.Job.{Job}
use Rattle.record_job.specs.Job.{killed, terminated}
use Rattle.record_process.specs.declared.Critical.{Critical}
use Rattle.record_process.specs.declared.Status.TheVariants.{Exited}
use Rattle.record_process.specs.declared.Process.{Process}
use Rattle.record_process.specs.Process.{critical_to, KILL_CODE, is_exited, code_of, with_status, ended, acts}
use Rattle.records.specs.declared.tables.Tables.{Tables}
use Rattle.record_thread.specs.Thread.{finish}
use Rattle.records.specs.Tables.{job_at, process_at, thread_at, put_job, put_process, put_thread}
use Rattle.model.specs.Job.{lists_thread, on_parent, may_terminate, terminate_up, terminate_job}
use Rattle.model.specs.Job.{up_to, kill_child, exit_member, kill_listed, kill_step, kill_bound}
use Rattle.model.specs.Job.{unlist_process, end_step, exit_listed, exit_step, kill_within}
use Rattle.model.specs.Job.{exit_within, remaining, kill_job, exit_process, end_process}
use Rattle.model.specs.Job.{finish_thread}
use Rattle.model.proofs.TaskTables.{put_job_made, put_process_made}
use Rattle.model.proofs.Stores.{Reach, Stores}
use Rattle.model.proofs.Lists.{may_terminate_lem}
use Rattle.model.proofs.Live.{live_job_made, live_process_made}

-- ---- A parent, and a loop ------------------------------------------------------------------

pub on_parent_on {ℓ} : {A : Type 0} (P : A → Type ℓ) (q : Option ℕ) (a : A) (k : ℕ → A)
    → (q ≡ None → P a) → ((p : ℕ) → q ≡ Some p → P (k p)) → P (on_parent q a k)
unfolding on_parent
on_parent_on P None a k f g = f refl
on_parent_on P (Some p) a k f g = g p refl

pub up_to_keeps : (P : Tables → Type 0) (f : ℕ → Tables → Tables)
    → ((i : ℕ) (t : Tables) → P t → P (f i t))
    → (n : ℕ) (t : Tables) → P t → P (up_to n f t)
unfolding up_to
up_to_keeps P f h zero t x = x
up_to_keeps P f h (suc n) t x = h n (up_to n f t) (up_to_keeps P f h n t x)

-- ---- Step by step --------------------------------------------------------------------------

module _ (P : Tables → Type 0) (R : Reach) (s : Stores P R) where
  pub terminate_up_keeps : (n : ℕ) (t : Tables) (j : ℕ) → R.job j → may_terminate t j ≡ true
      → P t → P (terminate_up n t j)
  unfolding terminate_up
  terminate_up_keeps zero t j a m x = x
  terminate_up_keeps (suc n) t j a m x =
      let u : Tables = put_job t j (terminated (job_at t j)) in
      let y : P u = s.terminates t j a m x in
      on_parent_on P (job_at t j).parent _ _ (λ e. y)
      λ p e. ite_on P (may_terminate u p) _ _
      (λ h. terminate_up_keeps n u p (s.above t j p a x e h) h y) (λ h. y)

  pub terminate_job_keeps : (t : Tables) (j : ℕ) → R.job j → may_terminate t j ≡ true → P t
      → P (terminate_job t j)
  unfolding terminate_job
  terminate_job_keeps t j a m x = terminate_up_keeps 32 t j a m x

  pub unlist_process_keeps : (t : Tables) (p : ℕ) → R.process p → R.ending t p
      → P t → P (unlist_process t p)
  unfolding unlist_process
  unlist_process_keeps t p a l x =
      let u : Tables = put_process t p (ended (process_at t p)) in
      let y : P u = s.ends t p a l x in
      if_on P (may_terminate u (process_at t p).job) _ _
      (λ h. terminate_job_keeps u (process_at t p).job (s.home t p a x h) h y) (λ h. y)

  module _ (K : Tables → ℕ → Tables) (k : (t : Tables) (j : ℕ) → R.job j → P t → P (K t j)) where
    kill_bound_keeps : (b : Option Critical) (code : ℤ) (t : Tables)
        → ((j : ℕ) (nonzero : Bool) → b ≡ critical_to j nonzero → acts nonzero code ≡ true → R.job j)
        → P t → P (kill_bound K b code t)
    unfolding kill_bound
    kill_bound_keeps None code t a x = x
    kill_bound_keeps (Some b) code t a x =
        ite_on P _ _ _ (λ e. k t b.job (a b.job b.nonzero refl e) x) (λ e. x)

    end_step_keeps : (t : Tables) (p : ℕ) → R.process p → R.ending t p → P t → P (end_step K t p)
    unfolding end_step
    end_step_keeps t p a l x =
        kill_bound_keeps (process_at t p).critical (code_of (process_at t p).status)
        (unlist_process t p)
        (λ j nonzero. s.bound_to t p j nonzero a x) (unlist_process_keeps t p a l x)

    pub exit_listed_keeps : (t : Tables) (p : ℕ) → R.process p
        → is_exited (process_at t p).status ≡ true
        → P t → P (exit_listed K t p)
    unfolding exit_listed
    exit_listed_keeps t p a h x =
        ite_on P _ _ _ (λ e. s.stops t p a h e x)
        (λ e. end_step_keeps t p a (s.empties t p a h e x) x)

    exit_step_keeps : (t : Tables) (p : ℕ) (code : ℤ) → R.process p → R.code code → P t
        → P (exit_step K t p code)
    unfolding exit_step
    exit_step_keeps t p code a b x =
        let v : Process = with_status (process_at t p) (Exited code) in
        ite_on P _ _ _
        (λ e. exit_listed_keeps (put_process t p v) p a
        (ap (λ (q : Process). is_exited q.status) (put_process_made t p v (live_process_made _ e)))
        (s.exits t p code a b e x)) (λ e. x)

    module _ (X : Tables → ℕ → ℤ → Tables)
        (g : (t : Tables) (p : ℕ) (code : ℤ) → R.process p → R.code code
        → P t → P (X t p code)) where
      kill_child_keeps : (j : ℕ) → R.job j → (c : ℕ) (t : Tables) → P t → P (kill_child K j c t)
      unfolding kill_child
      kill_child_keeps j a c t x = ite_on P _ _ _ (λ e. k t c (s.child t j c a x e) x) (λ e. x)

      exit_member_keeps : (j : ℕ) → R.job j → (p : ℕ) (t : Tables) → P t → P (exit_member X j p t)
      unfolding exit_member
      exit_member_keeps j a p t x =
          ite_on P _ _ _ (λ e. g t p KILL_CODE (s.member t j p a x e) s.kill_code x) (λ e. x)

      pub kill_listed_keeps : (t : Tables) (j : ℕ) → R.job j → (job_at t j).killed ≡ true → P t
          → P (kill_listed K X t j)
      unfolding kill_listed
      kill_listed_keeps t j a h x =
          ite_on P _ _ _ (λ e. terminate_job_keeps t j a (may_terminate_lem t j h e) x)
          λ e. up_to_keeps P (exit_member X j) (exit_member_keeps j a) 64 _
          (up_to_keeps P (kill_child K j) (kill_child_keeps j a) 32 t x)

      kill_step_keeps : (t : Tables) (j : ℕ) → R.job j → P t → P (kill_step K X t j)
      unfolding kill_step
      kill_step_keeps t j a x =
          let v : Job = killed (job_at t j) in
          ite_on P _ _ _
          (λ e. kill_listed_keeps (put_job t j v) j a
          (ap (λ (w : Job). w.killed) (put_job_made t j v (live_job_made _ e)))
          (s.marks t j a e x)) (λ e. x)

  -- ---- At any depth, and whole ---------------------------------------------------------------

  within_keeps : (n : ℕ) → ((t : Tables) (j : ℕ) → R.job j → P t → P (kill_within n t j))
      × ((t : Tables) (p : ℕ) (code : ℤ) → R.process p → R.code code
      → P t → P (exit_within n t p code))
  unfolding kill_within
  within_keeps zero = (λ t j a x. x, λ t p code a b x. x)
  within_keeps (suc n) =
      let h = within_keeps n in (
        kill_step_keeps (kill_within n) h.0 (exit_within n) h.1,
        exit_step_keeps (kill_within n) h.0,
      )

  pub kill_within_keeps : (n : ℕ) (t : Tables) (j : ℕ) → R.job j → P t → P (kill_within n t j)
  kill_within_keeps n = (within_keeps n).0

  pub exit_within_keeps : (n : ℕ) (t : Tables) (p : ℕ) (code : ℤ) → R.process p → R.code code
      → P t → P (exit_within n t p code)
  exit_within_keeps n = (within_keeps n).1

  pub kill_job_keeps : (t : Tables) (j : ℕ) → R.job j → P t → P (kill_job t j)
  unfolding kill_job
  kill_job_keeps t j a x = kill_within_keeps (suc (remaining t)) t j a x

  pub exit_process_keeps : (t : Tables) (p : ℕ) (code : ℤ) → R.process p → R.code code → P t
      → P (exit_process t p code)
  unfolding exit_process
  exit_process_keeps t p code a b x = exit_within_keeps (suc (remaining t)) t p code a b x

  pub end_process_keeps : (t : Tables) (p : ℕ) → R.process p → R.ending t p → P t
      → P (end_process t p)
  unfolding end_process
  end_process_keeps t p a l x = end_step_keeps kill_job kill_job_keeps t p a l x

  -- the thread's own store, and what is known of its process if that ends
  pub finish_thread_keeps : (t : Tables) (n : ℕ) → R.process (thread_at t n).process
      → P (put_thread t n (finish (thread_at t n)))
      → (lists_thread (put_thread t n (finish (thread_at t n))) (thread_at t n).process ≡ false
      → R.ending (put_thread t n (finish (thread_at t n))) (thread_at t n).process)
      → P (finish_thread t n)
  unfolding finish_thread
  finish_thread_keeps t n a x h =
      if_on P _ _ _ (λ e. x) (λ e. end_process_keeps _ _ a (h e) x)
