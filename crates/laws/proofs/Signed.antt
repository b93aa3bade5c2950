-- Signed numbers as the code holds them: 64 bits. Assumes nothing.
use mathlib.Core.Path.{◌≡◌, refl}
use Prim.Native.Nat.{suc, ◌-◌, ◌^◌}
use native.Mathlib.Omega.{arith}
use borrow.Author.Tests.{ne_eqb}
use lib.Dec.{eqb}
use lib.IntN.{ℤ, pos, negsuc}
use mir.Syntax.{w64}
use mir.Val.{SFits, of_z}
use Rattle.laws.specs.Choice.{is_zero}

-- a signed number is 0 if its bits are
pub zero_bits : (z : ℤ) → SFits w64 z → eqb (of_z w64 z) 0 ≡ is_zero z
zero_bits (pos n) h = refl
zero_bits (negsuc n) h = ne_eqb (2 ^ 64 - suc n) 0 (omega arith)
