-- A cascade that begins at a name of x, in one run: it changes x's records, and outside x and y
-- only what the runs may differ in. Assumes nothing.
use Rattle.std.proofs.Common.{Option, Some, None}
use Prim.Native.Nat.{ℕ, zero, suc}
use mathlib.Core.Path.{◌≡◌, refl, sym, ap, ◌∙◌}
use mathlib.Core.Bool.{Bool, true, false}
use lib.IntN.{ℤ}
use borrow.Author.Tests.{eqb-true}
use Rattle.laws.specs.Choice.{◌=?◌}
use Rattle.laws.proofs.Cases.{no_both, ite_on, if_on, and_left, and_right}
use Rattle.record_job.specs.declared.Job.{Job}
use Rattle.record_job.specs.Job.{killed, terminated, is_parent, child_of}
use Rattle.record_process.specs.declared.Critical.{Critical}
use Rattle.record_process.specs.declared.Status.TheVariants.{Exited}
use Rattle.record_process.specs.declared.Process.{Process}
use Rattle.record_process.specs.Process.{critical_to, KILL_CODE, with_status, ended, code_of, member_of}
use Rattle.records.specs.declared.tables.Tables.{Tables}
use Rattle.records.specs.Tables.{job_at, process_at, put_job, put_process}
use Rattle.model.specs.Job.{may_terminate, terminate_up, terminate_job, is_live_process}
use Rattle.model.specs.Job.{kill_child, exit_member, kill_listed, kill_step, kill_bound}
use Rattle.model.specs.Job.{unlist_process, end_step, exit_listed, exit_step, kill_within}
use Rattle.model.specs.Job.{exit_within, remaining, kill_job, exit_process, end_process}
use Rattle.claims.specs.Separation.{Trip}
use Rattle.model.proofs.TaskTables.{keep_process, put_job_made}
use Rattle.model.proofs.Lists.{may_killed}
use Rattle.model.proofs.Live.{live_job_made, live_process_made}
use Rattle.model.proofs.Keeps.{on_parent_on, up_to_keeps}
use Rattle.claims.proofs.Separation.Agree.{Agree, ProcessFits, x_not_y, up_not_y}
use Rattle.claims.proofs.Separation.Stores.{mark_one, terminate_one, exit_one, end_one}
use Rattle.claims.proofs.Separation.Stores.{stop_one}

-- ---- What is on a list -----------------------------------------------------------------------

is_parent_lem : (q : Option ℕ) (j : ℕ) → is_parent q j ≡ true → q ≡ Some j
is_parent_lem None j e = no_both e refl
is_parent_lem (Some p) j e = ap Some (eqb-true p j e)

pub child_of_parent : (v : Job) (j : ℕ) → child_of v j ≡ true → v.parent ≡ Some j
unfolding child_of
child_of_parent v j h = is_parent_lem v.parent j (and_right v.listed (is_parent v.parent j) h)

pub member_of_listed : (q : Process) (j : ℕ) → member_of q j ≡ true → q.listed ≡ true
unfolding member_of
member_of_listed q j h = and_left q.listed (q.job =? j) h

pub member_of_job : (q : Process) (j : ℕ) → member_of q j ≡ true → q.job ≡ j
unfolding member_of
member_of_job q j h = eqb-true q.job j (and_right q.listed (q.job =? j) h)

-- ---- Upward: from a job outside y ------------------------------------------------------------

-- s moves, and t is the other run
abbrev Still : Trip → Trip → Tables → Tables → Type 0
Still x y t s = Agree x y s t

module _ {x y : Trip} {t : Tables} where
  pub terminate_up_one : (n : ℕ) {s : Tables} → Still x y t s → (j : ℕ) → y.jobs j ≡ false →
      (job_at s j).killed ≡ true → Still x y t (terminate_up n s j)
  unfolding terminate_up
  terminate_up_one zero r j h k = r
  terminate_up_one (suc n) {s = s} r j h k =
      let u : Tables = put_job s j (terminated (job_at s j)) in
      let a : Still x y t u = terminate_one r j h k in
      on_parent_on (Still x y t) (job_at s j).parent _ _ (λ e. a)
      λ p e. ite_on (Still x y t) (may_terminate u p) _ _
      (λ m. terminate_up_one n a p (up_not_y (r.jobs j).fits₁ p h e) (may_killed u p m)) (λ m. a)

  pub terminate_job_one : {s : Tables} → Still x y t s → (j : ℕ) → y.jobs j ≡ false →
      (job_at s j).killed ≡ true → Still x y t (terminate_job s j)
  unfolding terminate_job
  terminate_job_one r j h k = terminate_up_one 32 r j h k

  -- a made process of x is in a job of x
  home_x : {s : Tables} → Still x y t s → (p : ℕ) → x.processes p ≡ true →
      (process_at s p).made ≡ true →
      x.jobs (process_at s p).job ≡ true
  home_x r p h m = sym ((r.processes p).fits₁.of_x m) ∙ h

  unlist_process_one : {s : Tables} → Still x y t s → (p : ℕ) → x.processes p ≡ true →
      (process_at s p).made ≡ true → Still x y t (unlist_process s p)
  unfolding unlist_process
  unlist_process_one {s = s} r p h m =
      let u : Tables = put_process s p (ended (process_at s p)) in
      let a : Still x y t u = end_one r p h in
      let j : ℕ = (process_at s p).job in
      if_on (Still x y t) (may_terminate u j) _ _
      (λ e. terminate_job_one a j (x_not_y r.apart j (home_x r p h m)) (may_killed u j e))
      (λ e. a)

  module _ (K : Tables → ℕ → Tables)
      (k : (s : Tables) → Still x y t s → (j : ℕ) → x.jobs j ≡ true → Still x y t (K s j)) where
    kill_bound_one : (b : Option Critical) (code : ℤ) (s : Tables) →
        ((j : ℕ) (nonzero : Bool) → b ≡ critical_to j nonzero → x.jobs j ≡ true) → Still x y t s →
        Still x y t (kill_bound K b code s)
    unfolding kill_bound
    kill_bound_one None code s h r = r
    kill_bound_one (Some b) code s h r =
        ite_on (Still x y t) _ _ _ (λ e. k s r b.job (h b.job b.nonzero refl)) (λ e. r)

    pub end_step_one : (s : Tables) → Still x y t s → (p : ℕ) → x.processes p ≡ true →
        (process_at s p).made ≡ true → Still x y t (end_step K s p)
    unfolding end_step
    end_step_one s r p h m =
        kill_bound_one (process_at s p).critical (code_of (process_at s p).status)
        (unlist_process s p)
        (λ j nonzero e. (r.processes p).fits₁.bound_x j nonzero e ∙ h) (unlist_process_one r p h m)

    exit_listed_one : (s : Tables) → Still x y t s → (p : ℕ) → x.processes p ≡ true →
        (process_at s p).made ≡ true → Still x y t (exit_listed K s p)
    unfolding exit_listed
    exit_listed_one s r p h m =
        ite_on (Still x y t) _ _ _ (λ e. stop_one r p h) (λ e. end_step_one s r p h m)

    exit_step_one : (s : Tables) → Still x y t s → (p : ℕ) (code : ℤ) → x.processes p ≡ true →
        Still x y t (exit_step K s p code)
    unfolding exit_step
    exit_step_one s r p code h =
        let v : Process = with_status (process_at s p) (Exited code) in
        ite_on (Still x y t) (is_live_process (process_at s p)) _ _
        (λ e. exit_listed_one (put_process s p v) (exit_one r p code h) p h
        (keep_process (λ (q : Process). q.made) s p v refl p ∙ live_process_made
        (process_at s p) e))
        (λ e. r)

    module _ (X : Tables → ℕ → ℤ → Tables)
        (g : (s : Tables) → Still x y t s → (p : ℕ) (code : ℤ) → x.processes p ≡ true →
        Still x y t (X s p code)) where
      pub kill_child_one : (j : ℕ) → x.jobs j ≡ true → (c : ℕ) (s : Tables) → Still x y t s →
          Still x y t (kill_child K j c s)
      unfolding kill_child
      kill_child_one j h c s r =
          ite_on (Still x y t) _ _ _
          (λ e. k s r c ((r.jobs c).fits₁.below_x j (child_of_parent (job_at s c) j e) h)) (λ e. r)

      pub exit_member_one : (j : ℕ) → x.jobs j ≡ true → (p : ℕ) (s : Tables) → Still x y t s →
          Still x y t (exit_member X j p s)
      unfolding exit_member
      exit_member_one j h p s r =
          ite_on (Still x y t) _ _ _
          (λ e.
          let q : Process = process_at s p in
          let f : ProcessFits x y p q = (r.processes p).fits₁ in
          g s r p KILL_CODE
          (f.of_x (f.listed_made (member_of_listed q j e)) ∙ ap x.jobs
          (member_of_job q j e) ∙ h))
          (λ e. r)

      kill_listed_one : (s : Tables) → Still x y t s → (j : ℕ) → x.jobs j ≡ true →
          (job_at s j).killed ≡ true →
          Still x y t (kill_listed K X s j)
      unfolding kill_listed
      kill_listed_one s r j h m =
          ite_on (Still x y t) _ _ _ (λ e. terminate_job_one r j (x_not_y r.apart j h) m)
          λ e. up_to_keeps (Still x y t) (exit_member X j) (exit_member_one j h) 64 _
          (up_to_keeps (Still x y t) (kill_child K j) (kill_child_one j h) 32 s r)

      kill_step_one : (s : Tables) → Still x y t s → (j : ℕ) → x.jobs j ≡ true → Still x y t
          (kill_step K X s j)
      unfolding kill_step
      kill_step_one s r j h =
          let v : Job = killed (job_at s j) in
          ite_on (Still x y t) _ _ _
          (λ e. kill_listed_one (put_job s j v) (mark_one r j h) j h
          (ap (λ (w : Job). w.killed) (put_job_made s j v (live_job_made (job_at s j) e))))
          (λ e. r)

  within_one : (n : ℕ) →
      ((s : Tables) → Still x y t s → (j : ℕ) → x.jobs j ≡ true → Still x y t (kill_within n s j))
      × ((s : Tables) → Still x y t s → (p : ℕ) (code : ℤ) → x.processes p ≡ true → Still x y t
      (exit_within n s p code))
  unfolding kill_within
  within_one zero = (λ s r j h. r, λ s r p code h. r)
  within_one (suc n) =
      let i = within_one n in (
        kill_step_one (kill_within n) i.0 (exit_within n) i.1,
        exit_step_one (kill_within n) i.0,
      )

  -- ---- The whole cascade ---------------------------------------------------------------------

  pub kill_within_one : (n : ℕ) {s : Tables} → Still x y t s → (j : ℕ) → x.jobs j ≡ true →
      Still x y t (kill_within n s j)
  kill_within_one n {s = s} r j h = (within_one n).0 s r j h

  pub exit_within_one : (n : ℕ) {s : Tables} → Still x y t s → (p : ℕ) (code : ℤ) →
      x.processes p ≡ true →
      Still x y t (exit_within n s p code)
  exit_within_one n {s = s} r p code h = (within_one n).1 s r p code h

  pub kill_job_one : {s : Tables} → Still x y t s → (j : ℕ) → x.jobs j ≡ true → Still x y t
      (kill_job s j)
  unfolding kill_job
  kill_job_one {s = s} r j h = kill_within_one (suc (remaining s)) r j h

  pub exit_process_one : {s : Tables} → Still x y t s → (p : ℕ) (code : ℤ) → x.processes p ≡ true →
      Still x y t (exit_process s p code)
  unfolding exit_process
  exit_process_one {s = s} r p code h = exit_within_one (suc (remaining s)) r p code h

  pub end_process_one : {s : Tables} → Still x y t s → (p : ℕ) → x.processes p ≡ true →
      (process_at s p).made ≡ true → Still x y t (end_process s p)
  unfolding end_process
  end_process_one {s = s} r p h m = end_step_one kill_job (λ u a j e. kill_job_one a j e) s r p h m
