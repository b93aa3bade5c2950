-- Terminations upward from a job outside x, in both runs: step by step alike within y, and one run
-- at a time above it. Assumes nothing.
use Rattle.std.proofs.Common.{Option, Some, None}
use Prim.Native.Nat.{ℕ, zero, suc}
use mathlib.Core.Path.{◌≡◌, refl, sym, ◌∙◌, subst}
use mathlib.Core.Bool.{Bool, true, false}
use Rattle.laws.specs.Choice.{if◌then◌otherwise◌, ite}
use Rattle.laws.proofs.Cases.{by, ite_on, ite_two}
use Rattle.record_job.specs.Job.{terminated}
use Rattle.record_process.specs.declared.Process.{Process}
use Rattle.record_process.specs.Process.{ended}
use Rattle.records.specs.declared.tables.Tables.{Tables}
use Rattle.records.specs.Tables.{job_at, process_at, put_job, put_process}
use Rattle.model.specs.Job.{on_parent, may_terminate, terminate_up, terminate_job, unlist_process}
use Rattle.claims.specs.Separation.{Trip}
use Rattle.model.proofs.Lists.{may_killed}
use Rattle.claims.proofs.Separation.Agree.{Agree, back, up_not_x}
use Rattle.claims.proofs.Separation.Stores.{terminate_two, end_two}
use Rattle.claims.proofs.Separation.CascadeOne.{terminate_up_one}
use Rattle.claims.proofs.Separation.Same.{may_same}

-- ---- Forms ---------------------------------------------------------------------------------

pub on_parent_two {ℓ} : {A : Type 0} (R : A → A → Type ℓ) (p q : Option ℕ) (a b : A) (k l : ℕ → A) →
    p ≡ q → (p ≡ None → q ≡ None → R a b) →
    ((d : ℕ) → p ≡ Some d → q ≡ Some d → R (k d) (l d)) → R (on_parent p a k) (on_parent q b l)
unfolding on_parent
on_parent_two {A = A} R p q a b k l e =
    subst (λ (o : Option ℕ). (p ≡ None → o ≡ None → R a b) →
    ((d : ℕ) → p ≡ Some d → o ≡ Some d → R (k d) (l d)) → R (on_parent p a k)
    (on_parent o b l)) e (same p)
  where
    same : (o : Option ℕ) → (o ≡ None → o ≡ None → R a b) →
        ((d : ℕ) → o ≡ Some d → o ≡ Some d → R (k d) (l d)) → R (on_parent o a k)
        (on_parent o b l)
    same None f g = f refl refl
    same (Some d) f g = g d refl refl

if_ite : {A : Type 0} (b : Bool) (u v : A) → ite b (λ _. u) (λ _. v) ≡ (if b then u otherwise v)
unfolding ite if◌then◌otherwise◌
if_ite true u v = refl
if_ite false u v = refl

-- ---- Upward: from a job outside x ------------------------------------------------------------

-- a job that may terminate does
abbrev up_if : ℕ → Tables → ℕ → Tables
up_if n t j = ite (may_terminate t j) (λ _. terminate_up n t j) (λ _. t)

module _ {x y : Trip} where
  up_if_two : (n : ℕ) →
      ((s t : Tables) → Agree x y s t → (j : ℕ) → x.jobs j ≡ false → y.jobs j ≡ true →
      (job_at s j).killed ≡ true → (job_at t j).killed ≡ true → Agree x y (terminate_up n s j)
      (terminate_up n t j)) →
      (s t : Tables) → Agree x y s t → (j : ℕ) → x.jobs j ≡ false → Agree x y (up_if n s j)
      (up_if n t j)
  up_if_two n f s t r j h =
      by (y.jobs j)
      (λ q. ite_two (Agree x y) (may_terminate s j) (may_terminate t j) _ _ _ _ (may_same r j q)
      (λ a b. f s t r j h q (may_killed s j a) (may_killed t j b)) (λ a b. r))
      (λ q.
      let u : Tables = up_if n s j in
      let a : Agree x y u t =
      ite_on (λ (w : Tables). Agree x y w t) (may_terminate s j) _ _
      (λ e. terminate_up_one n r j q (may_killed s j e)) (λ e. r) in
      back (ite_on (λ (w : Tables). Agree x y w u) (may_terminate t j) _ _
      (λ e. terminate_up_one n (back a) j q (may_killed t j e)) (λ e. back a)))

  pub terminate_up_two : (n : ℕ) (s t : Tables) → Agree x y s t → (j : ℕ) → x.jobs j ≡ false →
      y.jobs j ≡ true → (job_at s j).killed ≡ true → (job_at t j).killed ≡ true →
      Agree x y (terminate_up n s j) (terminate_up n t j)
  unfolding terminate_up
  terminate_up_two zero s t r j h q k l = r
  terminate_up_two (suc n) s t r j h q k l =
      let a : Agree x y (put_job s j (terminated (job_at s j)))
      (put_job t j (terminated (job_at t j))) =
      terminate_two r j k l in
      on_parent_two (Agree x y) (job_at s j).parent (job_at t j).parent _ _ _ _
      ((r.jobs j).parent h)
      (λ e f. a)
      (λ d e f. up_if_two n (terminate_up_two n) _ _ a d (up_not_x (r.jobs j).fits₁ d h e))

  pub unlist_two : (s t : Tables) → Agree x y s t → (p : ℕ) → x.processes p ≡ false →
      (process_at s p).made ≡ true → Agree x y (unlist_process s p) (unlist_process t p)
  unfolding unlist_process terminate_job
  unlist_two s t r p h m =
      let u : Tables = put_process s p (ended (process_at s p)) in
      let w : Tables = put_process t p (ended (process_at t p)) in
      let j : ℕ = (process_at s p).job in
      let up : Tables → ℕ → Tables = λ z i. if may_terminate z i then terminate_up 32 z i otherwise z in
      subst (λ (q : Process). Agree x y (up u j) (up w q.job)) ((r.processes p).same h)
      (subst (λ (z : Tables). Agree x y z (up w j))
      (if_ite (may_terminate u j) (terminate_up 32 u j) u)
      (subst (λ (z : Tables). Agree x y (up_if 32 u j) z)
      (if_ite (may_terminate w j) (terminate_up 32 w j) w)
      (up_if_two 32 (terminate_up_two 32) u w (end_two r p) j
      (sym ((r.processes p).fits₁.of_x m) ∙ h))))
