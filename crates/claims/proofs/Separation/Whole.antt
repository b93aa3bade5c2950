-- No trip meddles with another (demand 3): the relation holds at the start, every call of x keeps
-- it in one run and every call of y in both, with the same answers. So it holds for whole lists.
-- Assumes nothing.
use Rattle.record_process.specs.Process.{critical_to}
use Rattle.std.proofs.Common.{Some, None}
use Prim.Native.Nat.{ℕ}
use mathlib.Core.Path.{◌≡◌, refl, sym, ap, ap₂, ◌∙◌}
use mathlib.Core.Bool.{Bool, true, false}
use mathlib.Core.List.{List, [], ◌∷◌}
use Rattle.laws.proofs.Cases.{by, no_both}
use Rattle.record_job.specs.declared.Job.{Job}
use Rattle.record_process.specs.declared.Process.{Process}
use Rattle.record_thread.specs.declared.Thread.{Thread}
use Rattle.records.specs.declared.tables.Tables.{Tables}
use Rattle.records.specs.Tables.{job_at, process_at, thread_at, token_at, fresh_tables}
use Rattle.model.specs.Step.{Call, Shown, step, answers, final}
use Rattle.claims.specs.Reachable.{below, Tree}
use Rattle.claims.specs.Separation.{Trip, IsTrip, Apart, Inward, Calls, done, first, second}
use Rattle.claims.specs.Separation.{all, of_second, to_second, SameUnder, Separation}
use Rattle.claims.proofs.Tree.{fresh_tree, tree_step}
use Rattle.claims.proofs.Separation.Agree.{JobFits, ProcessFits, ThreadFits, TokenFits}
use Rattle.claims.proofs.Separation.Agree.{Agree, job_refl, alike_refl}
use Rattle.claims.proofs.Separation.Replied.{Replied}
use Rattle.claims.proofs.Separation.Facts.{above_x}
use Rattle.claims.proofs.Separation.StepOne.{step_one}
use Rattle.claims.proofs.Separation.StepTwo.{step_two}

-- ---- The trips are closed ----------------------------------------------------------------------

module _ {t : Tables} (T : Tree t) where
  job_made : (k d : ℕ) → (job_at t k).parent ≡ Some d → (job_at t k).made ≡ true
  job_made k d u =
      by (job_at t k).made (λ m. m)
      (λ m.
      let o : (job_at t k).parent ≡ None = ap (λ (v : Job). v.parent) (T.job_unmade k m).0 in
      let z : ◌≡◌ {A = Bool} true false = cc in no_both refl z)

  process_made : (p j : ℕ) (b : Bool) → (process_at t p).critical ≡ critical_to j b →
      (process_at t p).made ≡ true
  process_made p j b u =
      by (process_at t p).made (λ m. m)
      (λ m.
      let o : (process_at t p).critical ≡ None = ap (λ (q : Process). q.critical)
      (T.process_unmade p m).0 in
      let z : ◌≡◌ {A = Bool} true false = cc in no_both refl z)

  -- below a trip's job all is the trip's
  downward : (x : Trip) → IsTrip t x → (k d : ℕ) → (job_at t k).parent ≡ Some d →
      x.jobs d ≡ true →
      x.jobs k ≡ true
  downward x I k d u h =
      I.below k (job_made k d u) (below u (I.only_below d (T.parent_made k d u) h))

  module _ (x y : Trip) (I : IsTrip t x) (J : IsTrip t y) where
    job_fits : (k : ℕ) → JobFits x y k (job_at t k)
    job_fits k =
        record {
          below_x = downward x I k;
          below_y = downward y J k;
          killed_first = T.terminated_killed k;
          listed_till = T.job_listed k;
        }

    bound : Inward t x → (p j : ℕ) (b : Bool) → (process_at t p).critical ≡ critical_to j b →
        x.jobs j ≡ x.processes p
    bound n p j b u =
        let m : (process_at t p).made ≡ true = process_made p j b u in
        by (x.processes p) (λ h. n p j b m h u ∙ sym h)
        (λ h. by (x.jobs j)
        (λ q. no_both
        (I.processes p m ∙ above_x job_fits j (process_at t p).job (T.bound_above p j b u) q) h)
        (λ q. q ∙ sym h))

    process_fits : Inward t x → (p : ℕ) → ProcessFits x y p (process_at t p)
    process_fits n p =
        record {
          of_x = I.processes p;
          of_y = J.processes p;
          bound_x = bound n p;
          listed_made = λ l. by (process_at t p).made (λ m. m)
              (λ m. no_both l (ap (λ (q : Process). q.listed) (T.process_unmade p m).0));
        }

    thread_fits : (n : ℕ) → ThreadFits x y n (thread_at t n)
    thread_fits n =
        record {
          of_x = I.threads n;
          of_y = J.threads n;
          listed_made = λ l. by (thread_at t n).made (λ m. m)
              (λ m. no_both l (ap (λ (v : Thread). v.listed) (T.thread_unmade n m)));
        }

    token_fits : (k : ℕ) → TokenFits x y k (token_at t k)
    token_fits k = record { of_x = I.tokens k; of_y = J.tokens k }

    -- a run agrees with itself
    begins : Apart x y → Inward t x → Agree x y t t
    begins a n =
        record {
          apart = a;
          long = refl;
          jobs = λ k. job_refl (job_at t k) (job_fits k);
          own = λ k h. refl;
          inherited = λ k h. refl;
          processes = λ p. alike_refl (process_at t p) (process_fits n p);
          fixed = λ p h. refl;
          threads = λ i. alike_refl (thread_at t i) (thread_fits i);
          tokens = λ k. alike_refl (token_at t k) (token_fits k);
        }

ends : {x y : Trip} {s t : Tables} → Agree x y s t → SameUnder y s t
ends r =
    record {
      jobs = λ j h. (r.jobs j).same h;
      own = λ j h. r.own j (r.apart.jobs j h);
      inherited = λ j h. r.inherited j (r.apart.jobs j h);
      processes = λ p h. (r.processes p).same (r.apart.processes p h);
      fixed = λ p h. r.fixed p (r.apart.processes p h);
      threads = λ n h. (r.threads n).same (r.apart.threads n h);
      tokens = λ k h. (r.tokens k).same (r.apart.tokens k h);
    }

-- ---- Whole lists -------------------------------------------------------------------------------

trees : (t : Tables) (l : List Call) → Tree t → Tree (final t l)
unfolding final
trees t [] T = T
trees t (c ∷ l) T = trees (step t c).tables l (tree_step t c T)

runs : {x y : Trip} (l : Calls x y) (s t : Tables) → Agree x y s t → Tree s → Tree t →
    (to_second s l ≡ answers t (of_second l)) × Agree x y (final s (all l)) (final t (of_second l))
unfolding to_second answers final all of_second
runs done s t r T U = (refl, r)
runs (first c u l) s t r T U =
    runs l (step s c).tables t (step_one r T c u).tables (tree_step s c T) U
runs {x = x} {y = y} (second c u l) s t r T U =
    let p : Replied x y (step s c) (step t c) = step_two r T U c u in
    let q : (to_second (step s c).tables l ≡ answers (step t c).tables (of_second l))
    × Agree x y (final (step s c).tables (all l)) (final (step t c).tables (of_second l)) =
    runs l (step s c).tables (step t c).tables p.rel (tree_step s c T) (tree_step t c U) in
    (ap₂ {C = List Shown} (λ a b. a ∷ b) p.shows q.0, q.1)

pub separation : Separation
unfolding Separation
separation before x y a I J n l =
    let t : Tables = final fresh_tables before in
    let T : Tree t = trees fresh_tables before fresh_tree in
    let e : (to_second t l ≡ answers t (of_second l)) × Agree x y (final t (all l))
    (final t (of_second l)) =
    runs l t t (begins T x y I J a n) T T in
    (e.0, ends e.1)
