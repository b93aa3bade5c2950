-- Tests and changes of whole tables, which the definitions hold as lists.
-- (`get_or`, `set`, `replicate` and `map` are the library's.)
use Rattle.std.specs.Prelude.{Bool, false, List, [], ◌∷◌}
use Rattle.laws.specs.Choice.{◌or◌}

-- does some element pass the test?
unfoldable pub any : {A : Type 0} → (A → Bool) → List A → Bool
any f [] = false
any f (x ∷ l) = f x or any f l

-- the elements of l, each changed by the one beside it; elements that have none beside them stay
unfoldable pub zip : {A B : Type 0} → (A → B → A) → List A → List B → List A
zip f [] m = []
zip f (x ∷ l) [] = x ∷ l
zip f (x ∷ l) (y ∷ m) = f x y ∷ zip f l m
