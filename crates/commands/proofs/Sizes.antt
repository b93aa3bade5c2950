-- A number that is none of the commands 01 to 1f has no size.
--     no_size     what the last arm of the match is told gives 0
-- Assumes nothing.
use Prim.Native.Nat.{ℕ, zero, suc, ◌≤◌}
use native.Mathlib.Omega.{arith}
use mathlib.Core.Path.{◌≡◌, sym, ap}
use mathlib.Core.Logic.{◌≢◌}
use borrow.Author.Tests.{ltb-true, ltb-false}
use lib.Dec.{ltb}
use lib.ListN.{get_or, get_or-eq_default}
use Rattle.laws.proofs.Cases.{by}
use Rattle.commands.specs.Commands.{sizes, size_of}

-- k is none of 1 to n, as the arms of a match tell it
unfoldable pub NoneOf : ℕ → ℕ → Type 0
NoneOf k zero = Unit {0}
NoneOf k (suc n) = NoneOf k n × (k ≢ suc n)

is_zero : (k n : ℕ) → NoneOf k n → k ≤ n → k ≡ 0
unfolding NoneOf
is_zero k zero r l = omega arith
is_zero k (suc n) r l = is_zero k n r.0 (omega (arith, r.1))

pub no_size : (k : ℕ) → NoneOf k 31 → 0 ≡ size_of k
unfolding size_of
no_size k r =
    by (ltb k 32)
    (λ t. sym (ap (λ i. get_or sizes i 0) (is_zero k 31 r (omega (arith, ltb-true k 32 t)))))
    (λ f. sym (get_or-eq_default sizes 0 (ltb-false k 32 f)))
