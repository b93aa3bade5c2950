-- A new job, process or thread keeps `Sound`: it stands below what is neither killed nor Exited. A
-- new job's rank is the number of jobs made before it. Assumes nothing.
use Rattle.std.proofs.Common.{Some}
use Prim.Native.Nat.{ℕ, zero, suc, ◌<◌, ◌≤◌}
use native.Mathlib.Nat.{le_refl}
use native.Mathlib.Omega.{arith}
use mathlib.Core.Path.{◌≡◌, refl, sym, ap, ◌∙◌}
use mathlib.Core.Bool.{Bool, true, false}
use mathlib.Core.List.{List, [], ◌∷◌}
use lib.ListN.{length, get_or, set}
use borrow.Author.Tests.{eqb-true, eqb-false, ne_eqb, eq-eqb}
use Rattle.laws.specs.Choice.{◌=?◌, ◌and◌, if◌then◌otherwise◌}
use Rattle.laws.proofs.Cases.{by, no_both}
use Rattle.record_job.specs.declared.Job.{Job}
use Rattle.record_job.specs.Job.{no_job, new_job, child_of}
use Rattle.record_process.specs.declared.Process.{Process}
use Rattle.record_process.specs.Process.{new_process, is_exited, member_of}
use Rattle.record_thread.specs.declared.Thread.{Thread}
use Rattle.record_thread.specs.Thread.{new_thread, thread_of}
use Rattle.records.specs.declared.tables.Tables.{Tables}
use Rattle.records.specs.Tables.{job_at, process_at, thread_at, put_job, put_process, put_thread}
use Rattle.model.specs.Job.{may_terminate, count}
use Rattle.claims.specs.Reachable.{Tree, Sound}
use Rattle.model.proofs.TaskTables.{on_job, on_process, on_thread, put_job_here, put_job_else}
use Rattle.model.proofs.TaskTables.{put_process_here, put_process_else}
use Rattle.claims.proofs.Cross.{process_at_put_job, thread_at_put_job, thread_at_put_process}
use Rattle.model.proofs.Lists.{may_killed, lists_thread_same}
use Rattle.claims.proofs.Sound.Settle.{may_by}

-- ---- Counts ----------------------------------------------------------------------------------

module _ {A : Type 0} (f : A → Bool) (d : A) where
  pub count_new : (l : List A) (i : ℕ) (v : A) → i < length l → f (get_or l i d) ≡ false
      → f v ≡ true → count f (set l i v) ≡ suc (count f l)
  unfolding count if◌then◌otherwise◌
  count_new [] i v h a b = absurd (omega arith)
  count_new (x ∷ l) zero v h a b = rw (a, b) (omega arith)
  count_new (x ∷ l) (suc i) v h a b = omega (arith, count_new l i v (omega arith) a b)

  pub count_same : (l m : List A) → length l ≡ length m
      → ((i : ℕ) → f (get_or l i d) ≡ f (get_or m i d)) → count f l ≡ count f m
  unfolding count
  count_same [] [] e h = refl
  count_same [] (y ∷ m) e h = absurd (omega arith)
  count_same (x ∷ l) [] e h = absurd (omega arith)
  count_same (x ∷ l) (y ∷ m) e h =
      rw (h 0) (omega (arith, count_same l m (omega arith) (λ i. h (suc i))))

  pub count_le : (l : List A) → count f l ≤ length l
  unfolding count if◌then◌otherwise◌
  count_le [] = le_refl 0
  count_le (x ∷ l) =
      by (f x) (λ e. rw e (omega (arith, count_le l))) (λ e. rw e (omega (arith, count_le l)))

abbrev made_jobs : Tables → ℕ
made_jobs t = count (λ (v : Job). v.made) t.jobs

-- ---- A job -----------------------------------------------------------------------------------

child_same : {p q : ℕ} → Some p ≡ Some q → p ≡ q
child_same {p} {q} e = cc

module _ (t : Tables) (S : Sound t) (j new : ℕ) (m : (job_at t j).made ≡ true)
    (k : (job_at t j).killed ≡ false) (h : new < 32) (f : (job_at t new).made ≡ false)
    (U : Tree (put_job t new (new_job j))) where
  T : Tree t
  T = S.tree

  u : Tables
  u = put_job t new (new_job j)

  -- a made job is another one
  older : (i : ℕ) → (job_at t i).made ≡ true → i ≡ new → ⊥
  older i a e = no_both a (ap (λ (x : ℕ). (job_at t x).made) e ∙ f)

  at_new : job_at u new ≡ new_job j
  unfolding u
  at_new = put_job_here t new (new_job j) (omega (arith, T.sized.jobs))

  at_old : (i : ℕ) → (i ≡ new → ⊥) → job_at u i ≡ job_at t i
  unfolding u
  at_old i d = put_job_else t new i (new_job j) d

  new_rank : ℕ → ℕ
  new_rank i = if i =? new then made_jobs t otherwise S.rank i

  rank_new : (i : ℕ) → i ≡ new → new_rank i ≡ made_jobs t
  unfolding new_rank if◌then◌otherwise◌
  rank_new i e = rw (eq-eqb i new e)

  rank_old : (i : ℕ) → (i ≡ new → ⊥) → new_rank i ≡ S.rank i
  unfolding new_rank if◌then◌otherwise◌
  rank_old i d = rw (ne_eqb i new d)

  one_more : made_jobs u ≡ suc (made_jobs t)
  unfolding u job_at put_job
  one_more =
      count_new (λ v. v.made) no_job t.jobs new (new_job j) (omega (arith, T.sized.jobs)) f
      refl

  -- who has a parent: the new job, or one that had it before
  by_parent : {P : Type 0} (i p : ℕ) → (job_at u i).parent ≡ Some p
      → (i ≡ new → p ≡ j → P) → ((i ≡ new → ⊥) → (job_at t i).parent ≡ Some p → P) → P
  by_parent i p e a b =
      by (i =? new)
      (λ c. let d : i ≡ new = eqb-true i new c in
      a d (child_same (sym e ∙ ap (λ (x : ℕ). (job_at u x).parent) d
      ∙ ap (λ (v : Job). v.parent) at_new)))
      (λ c. let d : i ≡ new → ⊥ = eqb-false i new c in
      b d (ap (λ (v : Job). v.parent) (sym (at_old i d)) ∙ e))

  -- the new job's parent is the one that lists more, and it is not killed
  may_old : (i : ℕ) → (i ≡ j → ⊥) → (i ≡ new → ⊥) → may_terminate u i ≡ may_terminate t i
  unfolding u child_of ◌and◌
  may_old i a b =
      may_by t u i (ap (λ (v : Job). v.killed) (at_old i b))
      (λ c. on_job (λ v. child_of v i ≡ child_of (job_at t c) i) t new c (new_job j)
      (λ e. ne_eqb j i (λ x. a (sym x))
      ∙ sym (ap (λ (v : Job). child_of v i)
      (T.job_unmade c (ap (λ (x : ℕ). (job_at t x).made) e ∙ f)).0))
      refl)
      (λ p. ap (λ (q : Process). member_of q i) (process_at_put_job t new (new_job j) p))

  pub make_job : Sound (put_job t new (new_job j))
  unfolding u
  make_job =
      record {
        tree = U;
        rank = new_rank;
        rank_below = λ i a. rw one_more (by (i =? new)
            (λ c. rw (rank_new i (eqb-true i new c)) (le_refl (suc (made_jobs t))))
            (λ c. let d : i ≡ new → ⊥ = eqb-false i new c in
            rw (rank_old i d) (omega (
              arith,
              S.rank_below i (ap (λ (v : Job). v.made) (sym (at_old i d)) ∙ a),
            ))));
        rank_falls = λ i p e. by_parent i p e
            (λ a b. rw (rank_new i a, b, rank_old j (older j m)) (S.rank_below j m))
            (λ a b. rw (rank_old i a, rank_old p (older p (T.parent_made i p b)))
            (S.rank_falls i p b));
        killed_below = λ i p e x. by_parent i p e
            (λ a b. no_both (ap (λ (v : Job). v.killed) (sym (at_old j (older j m)))
            ∙ ap (λ (y : ℕ). (job_at u y).killed) (sym b) ∙ x) k)
            (λ a b. ap (λ (v : Job). v.killed) (at_old i a) ∙ S.killed_below i p b
            (ap (λ (v : Job). v.killed) (sym (at_old p (older p (T.parent_made i p b)))) ∙ x));
        killed_exited = λ p. rw (process_at_put_job t new (new_job j) p)
            (λ a x. S.killed_exited p a (ap (λ (v : Job). v.killed)
            (sym (at_old (process_at t p).job (older (process_at t p).job (T.job_made p a))))
            ∙ x));
        killed_terminated = λ i x. by (i =? new)
            (λ c. no_both (may_killed u i x) (ap (λ (y : ℕ). (job_at u y).killed) (eqb-true i new c)
            ∙ ap (λ (v : Job). v.killed) at_new))
            (λ c. let d : i ≡ new → ⊥ = eqb-false i new c in
            by (i =? j)
            (λ b. no_both (ap (λ (v : Job). v.killed) (sym (at_old i d)) ∙ may_killed u i x)
            (ap (λ (y : ℕ). (job_at t y).killed) (eqb-true i j b) ∙ k))
            (λ b. ap (λ (v : Job). v.terminated) (at_old i d)
            ∙ S.killed_terminated i (sym (may_old i (eqb-false i j b) d) ∙ x)));
        exited_busy = λ p. rw (process_at_put_job t new (new_job j) p)
            (λ x y. lists_thread_same u t p
            (λ i. ap (λ (w : Thread). thread_of w p) (thread_at_put_job t new (new_job j) i))
            ∙ S.exited_busy p x y);
      }

-- ---- A process -------------------------------------------------------------------------------

module _ (t : Tables) (S : Sound t) (j new : ℕ) (k : (job_at t j).killed ≡ false)
    (h : new < 64) (f : (process_at t new).made ≡ false)
    (U : Tree (put_process t new (new_process j))) where
  process_new : process_at (put_process t new (new_process j)) new ≡ new_process j
  process_new = put_process_here t new (new_process j) (omega (arith, S.tree.sized.processes))

  pub make_process : Sound (put_process t new (new_process j))
  unfolding member_of ◌and◌ job_at put_process
  make_process =
      let u : Tables = put_process t new (new_process j) in
      let at : (i : ℕ) → (i ≡ new → ⊥) → process_at u i ≡ process_at t i =
      λ i d. put_process_else t new i (new_process j) d in
      record {
        tree = U;
        rank = S.rank;
        rank_below = S.rank_below;
        rank_falls = S.rank_falls;
        killed_below = S.killed_below;
        killed_exited = λ p. by (p =? new)
            (λ c a x. no_both (ap (λ (y : ℕ). (job_at t (process_at u y).job).killed)
            (sym (eqb-true p new c)) ∙ x)
            (ap (λ (q : Process). (job_at t q.job).killed) process_new ∙ k))
            (λ c. rw (at p (eqb-false p new c)) (S.killed_exited p));
        killed_terminated = λ i x. by (i =? j)
            (λ b. no_both (may_killed u i x)
            (ap (λ (y : ℕ). (job_at t y).killed) (eqb-true i j b) ∙ k))
            (λ b. S.killed_terminated i (sym (may_by t u i refl (λ c. refl)
            (λ p. on_process (λ q. member_of q i ≡ member_of (process_at t p) i) t new p (new_process j)
            (λ e. ne_eqb j i (λ y. eqb-false i j b (sym y))
            ∙ sym (ap (λ (q : Process). member_of q i)
            (S.tree.process_unmade p (ap (λ (y : ℕ). (process_at t y).made) e ∙ f)).0)) refl)) ∙ x));
        exited_busy = λ p. by (p =? new)
            (λ c x y. no_both (ap (λ (z : ℕ). is_exited (process_at u z).status)
            (sym (eqb-true p new c)) ∙ x) (ap (λ (q : Process). is_exited q.status) process_new))
            (λ c. rw (at p (eqb-false p new c)) (λ x y. lists_thread_same u t p
            (λ i. ap (λ (w : Thread). thread_of w p) (thread_at_put_process t new (new_process j) i))
            ∙ S.exited_busy p x y));
      }

-- ---- A thread --------------------------------------------------------------------------------

module _ (t : Tables) (S : Sound t) (p new : ℕ) (x : is_exited (process_at t p).status ≡ false)
    (f : (thread_at t new).made ≡ false) (U : Tree (put_thread t new (new_thread p))) where
  pub make_thread : Sound (put_thread t new (new_thread p))
  unfolding thread_of ◌and◌ job_at process_at put_thread
  make_thread =
      let u : Tables = put_thread t new (new_thread p) in
      record {
        tree = U;
        rank = S.rank;
        rank_below = S.rank_below;
        rank_falls = S.rank_falls;
        killed_below = S.killed_below;
        killed_exited = S.killed_exited;
        killed_terminated = λ i y. S.killed_terminated i
            (sym (may_by t u i refl (λ c. refl) (λ q. refl)) ∙ y);
        exited_busy = λ q y z. by (q =? p)
            (λ c. no_both y (ap (λ (i : ℕ). is_exited (process_at t i).status)
            (eqb-true q p c) ∙ x))
            (λ c. lists_thread_same u t q
            (λ i. on_thread (λ v. thread_of v q ≡ thread_of (thread_at t i) q) t new i (new_thread p)
            (λ e. ne_eqb p q (λ d. eqb-false q p c (sym d))
            ∙ sym (ap (λ (v : Thread). thread_of v q)
            (S.tree.thread_unmade i (ap (λ (d : ℕ). (thread_at t d).made) e ∙ f)))) refl)
            ∙ S.exited_busy q y z);
      }
