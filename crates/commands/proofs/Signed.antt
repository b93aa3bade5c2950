-- Bits 63 and below as a signed number.
--     signed_is                 64 bits, read as such
--     high_fits, high_half      the distance from -1, where bit 63 is set
-- Assumes nothing.
use Prim.Native.Nat.{ℕ, zero, suc, ◌-◌, ◌≤◌, ◌<◌, ◌^◌}
use native.Mathlib.Nat.{zero-add}
use native.Mathlib.Omega.{arith}
use mathlib.Core.Path.{◌≡◌, refl, ap, ◌∙◌}
use borrow.Author.Tests.{le-ltb}
use lib.Dec.{ltb}
use lib.IntN.{ℤ, pos, negsuc, ◌-ℤ◌}
use mir.Syntax.{w64}
use mir.Val.{SFits, to_z, of_z}
use mir.Facts.{to_z_pos, to_z-of_z}
use Rattle.laws.specs.Choice.{if◌then◌otherwise◌}
use Rattle.laws.proofs.Cases.{by}
use Rattle.commands.specs.Commands.{signed64}

pub signed_is : (n : ℕ) → to_z w64 n ≡ signed64 n
unfolding signed64 if◌then◌otherwise◌
signed_is n =
    by (ltb n (2 ^ 63)) (λ t. rw t) (λ f. rw f (ap negsuc (omega arith)))

below : (m : ℕ) → negsuc 0 -ℤ pos m ≡ negsuc m
below zero = refl
below (suc m) = rw zero-add

module _ (n : ℕ) (h : 2 ^ 63 ≤ n) (f : n < 2 ^ 64) where
  abbrev z : ℤ
  z = negsuc 0 -ℤ to_z w64 (18446744073709551615 - n)

  is_below : z ≡ negsuc (18446744073709551615 - n)
  is_below =
      let l : 18446744073709551615 - n < 2 ^ 63 = omega arith in
      rw (to_z_pos w64 l) (below (18446744073709551615 - n))

  pub high_fits : SFits w64 z
  high_fits = rw is_below (record { sfits = omega arith })

  pub high_half : to_z w64 (of_z w64 z) ≡ signed64 n
  unfolding signed64 if◌then◌otherwise◌
  high_half = to_z-of_z {w = w64} high_fits ∙ is_below ∙ rw (le-ltb n (2 ^ 63) h)
