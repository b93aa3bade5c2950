-- The bits of a ready byte, as `&` tests them. Assumes nothing.
use Rattle.std.proofs.Common.{ℕ, zero, suc, ◌/◌, ◌%◌, ◌*◌, ◌<◌, ◌^◌, ◌≡◌, true, false, bit_and}
use Rattle.std.proofs.lemmas.Nat.Bits.{and_pow, bit_at-lt}
use Rattle.std.proofs.lemmas.Nat.{pow_pos}
use native.Mathlib.Omega.{arith}
use mathlib.Core.Path.{sym, ◌∙◌}
use Rattle.laws.specs.Choice.{◌=?◌}
use borrow.Author.Tests.{eq-eqb, ne_eqb}

-- a bit, from its weight and from what `&` gives
set_by : (b w : ℕ) → b < 2 → (b * w ≡ 0 → ⊥) → b ≡ 1
set_by zero w l h = absurd (let z : 0 * w ≡ 0 = omega arith in h z)
set_by (suc b) w l h = omega arith

clear_by : (b w : ℕ) → 0 < w → b * w ≡ 0 → b ≡ 1 → ⊥
clear_by b w l h e = let z : 1 * w ≡ 0 = rw (← e) h in omega arith

pub bit_set : (n k : ℕ) → (bit_and n (2 ^ k) ≡ 0 → ⊥) → (n / 2 ^ k % 2 =? 1) ≡ true
bit_set n k h = eq-eqb _ _ (set_by _ (2 ^ k) (bit_at-lt n k) (λ e. h (and_pow n k ∙ e)))

pub bit_clear : (n k : ℕ) → bit_and n (2 ^ k) ≡ 0 → (n / 2 ^ k % 2 =? 1) ≡ false
bit_clear n k h = ne_eqb _ _ (clear_by _ (2 ^ k) (pow_pos k) (sym (and_pow n k) ∙ h))
