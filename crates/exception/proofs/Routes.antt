-- A number that is none of the eleven has no route. Assumes nothing.
use Prim.Native.Nat.{ℕ}
use mathlib.Core.Path.{◌≡◌, refl, sym}
use mathlib.Core.Logic.{◌≢◌}
use borrow.Author.Tests.{ne_eqb}
use Rattle.laws.proofs.Flow.{second, or_goes}
use Rattle.model.specs.declared.Route.TheVariants.{NoType}
use Rattle.model.specs.Exception.{is_hardware, route_of}

pub no_type : (k : ℕ) → k ≢ 0x008 → k ≢ 0x108 → k ≢ 0x208 → k ≢ 0x308 → k ≢ 0x408 → k ≢ 0x508 →
    k ≢ 0x8000 → k ≢ 0x8208 → k ≢ 0x8308 → k ≢ 0x8008 → k ≢ 0x8108 → NoType ≡ route_of k
unfolding route_of is_hardware
no_type k a b c d e f g h i j l =
    second _ _
    (sym (or_goes _ (ne_eqb _ _ a) (or_goes _ (ne_eqb _ _ b) (or_goes _ (ne_eqb _ _ c)
    (or_goes _ (ne_eqb _ _ d) (or_goes _ (ne_eqb _ _ e) (sym (ne_eqb _ _ f))))))))
    (second _ _ (sym (or_goes _ (ne_eqb _ _ g) (sym (ne_eqb _ _ h))))
    (second _ _ (ne_eqb _ _ i) (second _ _ (ne_eqb _ _ j) (second _ _ (ne_eqb _ _ l) refl))))
