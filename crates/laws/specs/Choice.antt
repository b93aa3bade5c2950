-- Tests, choices and signed numbers as the definitions write them.
--     if b then x otherwise y      a choice between values
--     ite b (λ _. x) λ _. y   the same where a way recurs: only the way that is taken is computed
-- All but the tests on numbers are shut, so that a law about a choice finds its parts by itself.
use Rattle.std.specs.Prelude.{ℕ, Bool, true, false, leb, ltb, eqb, ℤ, pos, negsuc, neg_ℤ}

-- a number below 0
abbrev pub minus : ℕ → ℤ
minus n = neg_ℤ (pos n)

abbrev pub is_zero : ℤ → Bool
is_zero (pos n) = eqb n 0
is_zero (negsuc n) = false

infix 40 ◌≤?◌
abbrev pub ◌≤?◌ : ℕ → ℕ → Bool
a ≤? b = leb a b

infix 40 ◌<?◌
abbrev pub ◌<?◌ : ℕ → ℕ → Bool
a <? b = ltb a b

infix 40 ◌=?◌
abbrev pub ◌=?◌ : ℕ → ℕ → Bool
a =? b = eqb a b

infixr 30 ◌and◌
unfoldable pub ◌and◌ : Bool → Bool → Bool
true and b = b
false and b = false

infixr 28 ◌or◌
unfoldable pub ◌or◌ : Bool → Bool → Bool
true or b = true
false or b = b

infixr 15 if◌then◌otherwise◌
unfoldable pub if◌then◌otherwise◌ : {A : Type 0} → Bool → A → A → A
if true then x otherwise y = x
if false then x otherwise y = y

unfoldable pub ite : {A : Type 0} → Bool → (Unit {0} → A) → (Unit {0} → A) → A
ite true x y = x tt
ite false x y = y tt
