-- A record that was read at the place of a name, where the name is its own place: what is said of it is said of what
-- the table has under the name. For a table of any records: jobs, processes. Assumes nothing.
use Prim.Native.Nat.{ℕ}
use mathlib.Core.Path.{◌≡◌, ap, sym, ◌∙◌}

module _ {R : Type 0} (at : ℕ → R) {place n : ℕ} {r : R} (p : place ≡ n) (k : at place ≡ r) where
  pub by_name : {A : Type 0} {x y : A} (f : R → A) → x ≡ f r → f (at n) ≡ y → x ≡ y
  by_name f e h = e ∙ ap f (sym k ∙ ap at p) ∙ h
