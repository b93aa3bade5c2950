-- Below a killed job all is killed, and in it every process is Exited; and a process that has
-- ended
-- since s has killed the job that it is bound to: but for jobs outside N and processes outside M,
-- which a cascade is still at (`Closed`). What single steps leave of it. Assumes nothing.
use Rattle.std.proofs.Common.{Some}
use Prim.Native.Nat.{ℕ}
use mathlib.Core.Path.{◌≡◌, refl, sym, ap, ◌∙◌}
use mathlib.Core.Bool.{Bool, true, false}
use lib.IntN.{ℤ}
use borrow.Author.Tests.{eqb-true, eqb-false}
use Rattle.laws.specs.Choice.{◌=?◌}
use Rattle.laws.proofs.Cases.{by, no_both, if_on}
use Rattle.record_job.specs.declared.Job.{Job}
use Rattle.record_job.specs.Job.{killed}
use Rattle.record_process.specs.declared.Status.TheVariants.{Exited}
use Rattle.record_process.specs.declared.Process.{Process}
use Rattle.record_process.specs.Process.{critical_to, is_exited, code_of, with_status, ended, acts}
use Rattle.records.specs.declared.tables.Tables.{Tables}
use Rattle.records.specs.Tables.{job_at, process_at, put_job, put_process}
use Rattle.model.specs.Job.{terminate_job, is_live_process, unlist_process}
use Rattle.claims.specs.Reachable.{Tree}
use Rattle.model.proofs.TaskTables.{on_job, keep_job, put_job_else, put_process_made}
use Rattle.model.proofs.TaskTables.{put_process_else}
use Rattle.claims.proofs.Cross.{job_at_put_process, process_at_put_job}
use Rattle.model.proofs.Live.{live_process_made, live_process_unexited}
use Rattle.claims.proofs.Tree.JobCalls.{unexited_alive}
use Rattle.claims.proofs.Sound.Settle.{up_job, up_processes}

pub record Closed (N M : ℕ → Type 0) (s t : Tables) : Type 0 where
  pub below : (i p : ℕ) → N p → (job_at t i).parent ≡ Some p → (job_at t p).killed ≡ true
      → (job_at t i).killed ≡ true
  pub exited : (p : ℕ) → N (process_at t p).job → (process_at t p).made ≡ true
      → (job_at t (process_at t p).job).killed ≡ true → is_exited (process_at t p).status ≡ true
  pub tied : (p j : ℕ) (nonzero : Bool) → M p → (process_at s p).terminated ≡ false
      → (process_at t p).terminated ≡ true → (process_at t p).critical ≡ critical_to j nonzero
      → acts nonzero (code_of (process_at t p).status) ≡ true → (job_at t j).killed ≡ true

-- all but one
abbrev pub but : (ℕ → Type 0) → ℕ → ℕ → Type 0
but N j k = N k × (k ≡ j → ⊥)

module _ {N M : ℕ → Type 0} {s : Tables} where
  -- a change that leaves processes, and what of jobs it is about
  pub closed_over : (t u : Tables) → ((i : ℕ) → (job_at u i).parent ≡ (job_at t i).parent)
      → ((i : ℕ) → (job_at u i).killed ≡ (job_at t i).killed)
      → ((p : ℕ) → process_at u p ≡ process_at t p) → Closed N M s t → Closed N M s u
  closed_over t u a b c K =
      record {
        below = λ i p n e k. b i ∙ K.below i p n (sym (a i) ∙ e) (sym (b p) ∙ k);
        exited = λ p. rw (c p) (λ n m k. K.exited p n m (sym (b (process_at t p).job) ∙ k));
        tied = λ p j z m x. rw (c p) (λ y e f. b j ∙ K.tied p j z m x y e f);
      }

  -- the last job is done
  pub close_job : (t : Tables) (j : ℕ)
      → ((i : ℕ) → (job_at t i).parent ≡ Some j → (job_at t i).killed ≡ true)
      → ((p : ℕ) → (process_at t p).made ≡ true → (process_at t p).job ≡ j
      → is_exited (process_at t p).status ≡ true)
      → Closed (but N j) M s t → Closed N M s t
  close_job t j a b K =
      record {
        below = λ i p n e k. by (p =? j)
            (λ h. a i (e ∙ ap (λ (x : ℕ). Some x) (eqb-true p j h)))
            (λ h. K.below i p (n, eqb-false p j h) e k);
        exited = λ p n m k. by ((process_at t p).job =? j)
            (λ h. b p m (eqb-true (process_at t p).job j h))
            (λ h. K.exited p (n, eqb-false (process_at t p).job j h) m k);
        tied = K.tied;
      }

  -- the last process is done
  pub close_process : (t : Tables) (p : ℕ)
      → ((j : ℕ) (nonzero : Bool) → (process_at t p).critical ≡ critical_to j nonzero
      → acts nonzero (code_of (process_at t p).status) ≡ true → (job_at t j).killed ≡ true)
      → Closed N (but M p) s t → Closed N M s t
  close_process t p a K =
      record {
        below = K.below;
        exited = K.exited;
        tied = λ q j z m x y e f. by (q =? p)
            (λ h. let c : q ≡ p = eqb-true q p h in
            a j z (ap (λ (i : ℕ). (process_at t i).critical) (sym c) ∙ e)
            (ap (λ (i : ℕ). acts z (code_of (process_at t i).status)) (sym c) ∙ f))
            (λ h. K.tied q j z (m, eqb-false q p h) x y e f);
      }

  -- ---- Marks ---------------------------------------------------------------------------------

  pub mark_closed : (t : Tables) (j : ℕ) → Closed N M s t
      → Closed (but N j) M s (put_job t j (killed (job_at t j)))
  mark_closed t j K =
      let v : Job = killed (job_at t j) in
      let u : Tables = put_job t j v in
      let more : (i : ℕ) → (job_at t i).killed ≡ true → (job_at u i).killed ≡ true =
      λ i. on_job (λ w. w.killed ≡ true) t j i v (λ c. refl) in
      let less : (i : ℕ) → (i ≡ j → ⊥) → (job_at u i).killed ≡ true → (job_at t i).killed ≡ true =
      λ i d k. ap (λ (w : Job). w.killed) (sym (put_job_else t j i v d)) ∙ k in
      record {
        below = λ i p n e k. more i (K.below i p n.0
            (sym (keep_job (λ w. w.parent) t j v refl i) ∙ e) (less p n.1 k));
        exited = λ p. rw (process_at_put_job t j v p)
            (λ n m k. K.exited p n.0 m (less (process_at t p).job n.1 k));
        tied = λ p i z m x. rw (process_at_put_job t j v p)
            (λ y e f. more i (K.tied p i z m x y e f));
      }

  pub exit_closed : (t : Tables) (p : ℕ) (code : ℤ) → Tree t
      → is_live_process (process_at t p) ≡ true → Closed N M s t
      → Closed N M s (put_process t p (with_status (process_at t p) (Exited code)))
  exit_closed t p code T l K =
      let v : Process = with_status (process_at t p) (Exited code) in
      let u : Tables = put_process t p v in
      let at : process_at u p ≡ v = put_process_made t p v (live_process_made (process_at t p) l) in
      let job : (i : ℕ) → job_at u i ≡ job_at t i = job_at_put_process t p v in
      record {
        below = λ i q n. rw (job i, job q) (K.below i q n);
        exited = λ q. by (q =? p)
            (λ h n m k. ap (λ (i : ℕ). is_exited (process_at u i).status) (eqb-true q p h)
            ∙ ap (λ (w : Process). is_exited w.status) at)
            (λ h. rw (put_process_else t p q v (eqb-false q p h))
            (λ n m k. K.exited q n m
            (ap (λ (w : Job). w.killed) (sym (job (process_at t q).job)) ∙ k)));
        tied = λ q j z m x. by (q =? p)
            (λ h y. no_both (ap (λ (i : ℕ). (process_at u i).terminated) (sym (eqb-true q p h)) ∙ y)
            (ap (λ (w : Process). w.terminated) at
            ∙ unexited_alive T p (live_process_unexited (process_at t p) l)))
            (λ h. rw (put_process_else t p q v (eqb-false q p h))
            (λ y e f. ap (λ (w : Job). w.killed) (job j) ∙ K.tied q j z m x y e f));
      }

  -- ---- A process ends ------------------------------------------------------------------------

  unlist_put : (t : Tables) (p : ℕ) → (process_at t p).made ≡ true → Closed N M s t
      → Closed N (but M p) s (put_process t p (ended (process_at t p)))
  unfolding ended
  unlist_put t p l K =
      let v : Process = ended (process_at t p) in
      let u : Tables = put_process t p v in
      let at : process_at u p ≡ v = put_process_made t p v l in
      let job : (i : ℕ) → job_at u i ≡ job_at t i = job_at_put_process t p v in
      record {
        below = λ i q n. rw (job i, job q) (K.below i q n);
        exited = λ q. by (q =? p)
            (λ h n m k. ap (λ (i : ℕ). is_exited (process_at u i).status) (eqb-true q p h)
            ∙ ap (λ (w : Process). is_exited w.status) at)
            (λ h. rw (put_process_else t p q v (eqb-false q p h))
            (λ n m k. K.exited q n m
            (ap (λ (w : Job). w.killed) (sym (job (process_at t q).job)) ∙ k)));
        tied = λ q j z m x. rw (put_process_else t p q v m.1)
            (λ y e f. ap (λ (w : Job). w.killed) (job j) ∙ K.tied q j z m.0 x y e f);
      }

  pub terminate_closed : (t : Tables) (j : ℕ) → Closed N M s t → Closed N M s (terminate_job t j)
  unfolding process_at
  terminate_closed t j K =
      closed_over t (terminate_job t j) (up_job t j (λ v. v.parent) (λ v. refl))
      (up_job t j (λ v. v.killed) (λ v. refl)) (λ p. rw (up_processes t j)) K

pub unlist_closed : {N M : ℕ → Type 0} {s : Tables} (t : Tables) (p : ℕ)
    → (process_at t p).made ≡ true → Closed N M s t → Closed N (but M p) s (unlist_process t p)
unfolding unlist_process
unlist_closed {N} {M} {s} t p l K =
    let L : Closed N (but M p) s (put_process t p (ended (process_at t p))) = unlist_put t p l K in
    if_on (Closed N (but M p) s) _ _ _ (λ e. terminate_closed _ _ L) (λ e. L)
