-- What stands at the front of some bytes: the code's tests, and the case of the definition.
-- Assumes nothing.
use Prim.Native.Nat.{ℕ, ◌≤◌, ◌<◌}
use mathlib.Core.Path.{◌≡◌, sym, ◌∙◌, ap}
use mathlib.Core.List.{List}
use borrow.Author.Tests.{eq-eqb, ne_eqb, lt-ltb, le-ltb}
use lib.ListN.{length}
use Rattle.laws.specs.Choice.{if◌then◌otherwise◌, ◌and◌}
use Rattle.commands.specs.declared.Next.TheVariants.{Wait, Stop, Whole}
use Rattle.commands.specs.Commands.{byte, size_of, next_of}

pub none_there : (bs : List ℕ) → length bs ≡ 0 → Wait ≡ next_of bs
unfolding next_of if◌then◌otherwise◌
none_there bs h = rw (eq-eqb (length bs) 0 h)

-- b is the first byte as the code has it, and z the size that it was told
module _ (bs : List ℕ) (b z : ℕ) (some : length bs ≡ 0 → ⊥) (e : b ≡ byte bs 0) (s : z ≡ size_of b) where
  size_is : size_of (byte bs 0) ≡ z
  size_is = ap size_of (sym e) ∙ sym s

  pub is_stop_lem : z ≡ 0 → Stop ≡ next_of bs
  unfolding next_of if◌then◌otherwise◌
  is_stop_lem h = rw (ne_eqb (length bs) 0 some, size_is, eq-eqb z 0 h)

  module _ (known : z ≡ 0 → ⊥) where
    pub is_cut : length bs < z → Wait ≡ next_of bs
    unfolding next_of if◌then◌otherwise◌
    is_cut l = rw (ne_eqb (length bs) 0 some, size_is, ne_eqb z 0 known, lt-ltb (length bs) z l)

    module _ (there : z ≤ length bs) where
      pub is_over_lem : b ≡ 15 → 4 < byte bs 3 → Stop ≡ next_of bs
      unfolding next_of if◌then◌otherwise◌ ◌and◌
      is_over_lem f l =
          rw (
            ne_eqb (length bs) 0 some,
            size_is,
            ne_eqb z 0 known,
            le-ltb (length bs) z there,
            eq-eqb (byte bs 0) 15 (sym e ∙ f),
            lt-ltb 4 (byte bs 3) l,
          )

      pub is_list : b ≡ 15 → byte bs 3 ≤ 4 → Whole z ≡ next_of bs
      unfolding next_of if◌then◌otherwise◌ ◌and◌
      is_list f l =
          rw (
            ne_eqb (length bs) 0 some,
            size_is,
            ne_eqb z 0 known,
            le-ltb (length bs) z there,
            eq-eqb (byte bs 0) 15 (sym e ∙ f),
            le-ltb 4 (byte bs 3) l,
          )

      pub is_whole : (b ≡ 15 → ⊥) → Whole z ≡ next_of bs
      unfolding next_of if◌then◌otherwise◌ ◌and◌
      is_whole f =
          rw (
            ne_eqb (length bs) 0 some,
            size_is,
            ne_eqb z 0 known,
            le-ltb (length bs) z there,
            ne_eqb (byte bs 0) 15 (λ g. f (e ∙ g)),
          )
