-- A kind and its number.
--     numbered           the number of the kind of a number
--     kind_numbered      the kind of the number of a kind
--     not_job, a_task    what is no job, by its number
-- Assumes nothing.
use Prim.Native.Nat.{ℕ}
use native.Mathlib.Omega.{arith}
use mathlib.Core.Path.{◌≡◌, refl, sym}
use mathlib.Core.Bool.{true, false}
use borrow.Author.Tests.{eqb-true, eqb-false, ltb-false}
use Rattle.laws.specs.Choice.{◌<?◌, ◌=?◌, ◌or◌, if◌then◌otherwise◌}
use Rattle.laws.proofs.Cases.{by}
use Rattle.record_token.specs.declared.Kind.{Kind}
use Rattle.record_token.specs.declared.Kind.TheVariants.{Job, Process, Thread}
use Rattle.record_token.specs.SuspendToken.{number, kind_of}

pub numbered : (n : ℕ) → 2 <? n ≡ false → number (kind_of n) ≡ n
unfolding kind_of if◌then◌otherwise◌
numbered n l =
    by (n =? 0)
    (λ a. rw a (sym (eqb-true n 0 a)))
    (λ a. by (n =? 1)
    (λ b. rw (a, b) (sym (eqb-true n 1 b)))
    (λ b. rw (a, b) (let p : n ≡ 0 → ⊥ = eqb-false n 0 a in let q : n ≡ 1 → ⊥ = eqb-false n 1 b in
    omega (arith, ltb-false 2 n l))))

pub kind_numbered : (k : Kind) → kind_of (number k) ≡ k
unfolding kind_of if◌then◌otherwise◌
kind_numbered Job = refl
kind_numbered Process = refl
kind_numbered Thread = refl

pub not_job : (k : Kind) → (k ≡ Job → ⊥) → number k =? 0 ≡ false
not_job Job f = absurd (f refl)
not_job Process f = refl
not_job Thread f = refl

pub a_task : (k : Kind) → (k ≡ Job → ⊥) → (number k =? 1) or (number k =? 2) ≡ true
unfolding ◌or◌
a_task Job f = absurd (f refl)
a_task Process f = refl
a_task Thread f = refl
