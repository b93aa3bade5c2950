-- A test or a change of a whole table, and what it says of one entry, whatever the index. Assumes
-- nothing.
--     held_in_lem        an entry that passes a test which the default fails stands in the table
--     any_at, none_at, any_some    some entry passes: this one does, none does, one is named
--     any_same       two tables with as many entries that pass, entry by entry
--     map_at         an entry of a table that was changed throughout
use Prim.Native.Nat.{ℕ, zero, suc, ◌<◌}
use native.Mathlib.Omega.{arith}
use mathlib.Core.Path.{◌≡◌, refl, sym, ◌∙◌, subst}
use mathlib.Core.Bool.{Bool, true, false}
use mathlib.Core.List.{List, [], ◌∷◌, map}
use lib.ListN.{length, get_or, get_or-map}
use Rattle.laws.specs.Choice.{◌or◌}
use Rattle.laws.specs.Lists.{any}
use Rattle.laws.proofs.Cases.{by, no_both}

-- ---- One test ------------------------------------------------------------------------------

or_right : (b : Bool) {c : Bool} → c ≡ true → b or c ≡ true
unfolding ◌or◌
or_right true e = refl
or_right false e = e

or_left : {b : Bool} (c : Bool) → b ≡ true → b or c ≡ true
unfolding ◌or◌
or_left c e = rw e

or_cases : {P : Type 0} (b c : Bool) → b or c ≡ true → (b ≡ true → P) → (c ≡ true → P) → P
unfolding ◌or◌
or_cases true c e p q = p refl
or_cases false c e p q = q e

module _ {A : Type 0} (f : A → Bool) (d : A) where
  pub held_in_lem : f d ≡ false → (l : List A) (i : ℕ) → f (get_or l i d) ≡ true → i < length l
  held_in_lem z [] i e = no_both e z
  held_in_lem z (x ∷ l) zero e = omega arith
  held_in_lem z (x ∷ l) (suc i) e = let h : i < length l = held_in_lem z l i e in omega arith

  pub any_at : f d ≡ false → (l : List A) (i : ℕ) → f (get_or l i d) ≡ true → any f l ≡ true
  unfolding any
  any_at z [] i e = no_both e z
  any_at z (x ∷ l) zero e = or_left (any f l) e
  any_at z (x ∷ l) (suc i) e = or_right (f x) (any_at z l i e)

  pub none_at : f d ≡ false → (l : List A) (i : ℕ) → any f l ≡ false → f (get_or l i d) ≡ false
  none_at z l i e = by (f (get_or l i d)) (λ h. no_both (any_at z l i h) e) (λ h. h)

  pub any_some : (l : List A) → any f l ≡ true → (i : ℕ) × (f (get_or l i d) ≡ true)
  unfolding any
  any_some [] e = no_both e refl
  any_some (x ∷ l) e =
      or_cases (f x) (any f l) e (λ h. (0, h)) (λ h. let r = any_some l h in (suc r.0, r.1))

  pub none_all : (l : List A) → ((i : ℕ) → f (get_or l i d) ≡ false) → any f l ≡ false
  none_all l h = by (any f l) (λ e. let r = any_some l e in no_both r.1 (h r.0)) (λ e. e)

-- two tables, perhaps of two tests, that agree entry by entry
pub any_same : {A : Type 0} (f g : A → Bool) (d : A) (l m : List A) → f d ≡ false → g d ≡ false
    → ((i : ℕ) → f (get_or l i d) ≡ g (get_or m i d)) → any f l ≡ any g m
any_same f g d l m y z h =
    by (any f l)
    (λ e. let r = any_some f d l e in e ∙ sym (any_at g d z m r.0 (sym (h r.0) ∙ r.1)))
    (λ e. e ∙ sym (none_all g d m (λ i. sym (h i) ∙ none_at f d y l i e)))

-- ---- One change ----------------------------------------------------------------------------

pub map_at : {A : Type 0} (f : A → A) (d : A) → f d ≡ d → (l : List A) (i : ℕ)
    → get_or (map f l) i d ≡ f (get_or l i d)
map_at f d z l i = subst (λ x. get_or (map f l) i x ≡ f (get_or l i d)) z (get_or-map f l i d)
