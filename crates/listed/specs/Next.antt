-- The next record of a table that passes a test, from a place on.
use Rattle.std.specs.Prelude.{ℕ, suc, ◌+◌, Bool, List, [], ◌∷◌, drop, length, Option, Some, None}
use Rattle.laws.specs.Choice.{◌<?◌, if◌then◌otherwise◌}

-- how many at the front do not pass
unfoldable pub skipped : {A : Type 0} → (A → Bool) → List A → ℕ
skipped f [] = 0
skipped f (x ∷ l) = if f x then 0 otherwise suc (skipped f l)

-- the first from place i on that passes, or the end
unfoldable pub next : {A : Type 0} → (A → Bool) → List A → ℕ → ℕ
next f l i = i + skipped f (drop i l)

-- the same, none at the end
unfoldable pub next_in : {A : Type 0} → (A → Bool) → List A → ℕ → Option ℕ
next_in f l i = if next f l i <? length l then Some (next f l i) otherwise None
