-- How a `return` of the code meets its definition: `search flow` closes it.
--     stops, passes, finds, fails, accepts    a call's guards, along the way that the code took
--     yes, no, first, second                  a choice between two ways, `ite` and `if`
--     told                                    a test that a callee answered: r is what it said, b what is asked
-- Assumes nothing.
use mathlib.Core.Path.{◌≡◌, sym, ◌∙◌, ap}
use mathlib.Core.Bool.{Bool, true, false, not}
use lib.IntN.{ℤ}
use borrow.Author.Tests.{le-leb, lt-leb, lt-ltb, le-ltb, eq-eqb, ne_eqb}
use Rattle.laws.specs.Choice.{◌and◌, ◌or◌, if◌then◌otherwise◌, ite}
use Rattle.laws.specs.Guarded.{Result, found, missing, guard, Guarded, ok, ◌>>=◌, ◌>>◌}
use Rattle.laws.specs.Guarded.{settle}

-- ---- Guards --------------------------------------------------------------------------------

module _ {A : Type 0} where
  -- the guard holds, and the call ends there
  pub stops : (f : ℤ → A) (c : ℤ) {b : Bool} (l : Guarded A) → b ≡ true → f c ≡ settle f (guard c b >> l)
  unfolding settle
  stops f c l e = rw e

  -- the guard fails, and the call goes on
  pub passes : {x : A} (f : ℤ → A) (c : ℤ) {b : Bool} (l : Guarded A) →
      b ≡ false → x ≡ settle f l → x ≡ settle f (guard c b >> l)
  unfolding settle
  passes f c l e h = rw e h

  -- the lookup finds v, and the call goes on with it
  pub finds : {B : Type 0} {x : A} (f : ℤ → A) {m : Result B} (k : B → Guarded A) (v : B) →
      m ≡ found v → x ≡ settle f (k v) → x ≡ settle f (m >>= k)
  unfolding settle
  finds f k v e h = rw e h

  -- the lookup finds nothing, and the call ends there
  pub fails : {B : Type 0} (f : ℤ → A) {m : Result B} (k : B → Guarded A) (c : ℤ) →
      m ≡ missing c → f c ≡ settle f (m >>= k)
  unfolding settle
  fails f k c e = rw e

  pub accepts : {x y : A} (f : ℤ → A) → x ≡ y → x ≡ settle f (ok y)
  unfolding settle
  accepts f h = h

-- ---- Choices -------------------------------------------------------------------------------

module _ {A : Type 0} where
  pub yes : {b : Bool} {z : A} (x y : Unit {0} → A) → b ≡ true → z ≡ x tt → z ≡ ite b x y
  unfolding ite
  yes x y e h = rw e h

  pub no : {b : Bool} {z : A} (x y : Unit {0} → A) → b ≡ false → z ≡ y tt → z ≡ ite b x y
  unfolding ite
  no x y e h = rw e h

  pub first : {b : Bool} {z : A} (x y : A) → b ≡ true → z ≡ x → z ≡ if b then x otherwise y
  unfolding if◌then◌otherwise◌
  first x y e h = rw e h

  pub second : {b : Bool} {z : A} (x y : A) → b ≡ false → z ≡ y → z ≡ if b then x otherwise y
  unfolding if◌then◌otherwise◌
  second x y e h = rw e h

-- ---- Tests ---------------------------------------------------------------------------------

pub not_yes : {b : Bool} → b ≡ false → not b ≡ true
not_yes e = rw e

pub not_no : {b : Bool} → b ≡ true → not b ≡ false
not_no e = rw e

pub told : {r b x : Bool} → r ≡ b → r ≡ x → b ≡ x
told p q = sym p ∙ q

pub told_not : {r b x : Bool} → r ≡ b → not r ≡ x → not b ≡ x
told_not p q = ap not (sym p) ∙ q

-- a conjunction and a disjunction, along the tests that the code made
pub and_stops : {b : Bool} (c : Bool) → b ≡ false → false ≡ b and c
unfolding ◌and◌
and_stops c e = rw e

pub and_goes : {b x : Bool} (c : Bool) → b ≡ true → x ≡ c → x ≡ b and c
unfolding ◌and◌
and_goes c e h = rw e h

pub or_stops : {b : Bool} (c : Bool) → b ≡ true → true ≡ b or c
unfolding ◌or◌
or_stops c e = rw e

pub or_goes : {b x : Bool} (c : Bool) → b ≡ false → x ≡ c → x ≡ b or c
unfolding ◌or◌
or_goes c e h = rw e h

pub ruleset tests = (not_yes, not_no, told, told_not, le-leb, lt-leb, lt-ltb, le-ltb, eq-eqb, ne_eqb)

pub ruleset flow = (passes, tests)

pub ruleset branches = (yes, no, first, second, and_stops, and_goes, or_stops, or_goes, tests)
