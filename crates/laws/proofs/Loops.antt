-- Loops over a table, once for any test and any change of an element. Invariants speak of the first i elements.
--     Searched, any_here, any_next, any_none    a test of every element
--     map_to, map_to_next, map_to_all              a change of every element, the first i so far
--     zip_to, zip_to_next, zip_to_all              a change of every element by the one beside it
--     length_mapped                             `search length_mapped` finds the length of an array of structs
-- Assumes nothing.
use Prim.Native.Nat.{ℕ, zero, suc, ◌+◌, ◌<◌, ◌≤◌}
use native.Mathlib.Numerals.{add-one}
use native.Mathlib.Omega.{arith}
use mathlib.Core.Path.{◌≡◌, refl, sym, ◌∙◌, ap}
use mathlib.Core.Bool.{Bool, true, false}
use mathlib.Core.List.{List, [], ◌∷◌, map}
use lib.ListN.{length, get_or, set, drop, length-map, drop_of_length-le}
use lib.Seq.{drop-cons}
use Rattle.laws.specs.Choice.{◌or◌}
use Rattle.laws.specs.Lists.{any, zip}

pub length_mapped : (X Y : Type 0) (f : X → Y) (l : List X) (n : ℕ) → length (map f l) ≡ n → length l ≡ n
length_mapped X Y f l n e = sym (length-map l f) ∙ e

-- the invariant of a search: the list is n long, and its answer is that of the elements from i on
abbrev pub Searched : {A : Type 0} → (A → Bool) → List A → ℕ → ℕ → Type 0
Searched f l n i = (length l ≡ n) × (any f l ≡ any f (drop i l))

-- b is what the code was told of element i
module _ {A : Type 0} (f : A → Bool) (l : List A) (i n : ℕ) (inv : Searched f l n i) where
  pub any_here : {b : Bool} (d : A) → i < n → b ≡ f (get_or l i d) → b ≡ true → true ≡ any f l
  unfolding any ◌or◌
  any_here d h e q =
      let k : i < length l = omega arith in
      sym (inv.1 ∙ rw (drop-cons l i d k, ← e, q))

  pub any_next : {b : Bool} (d : A) → i < n → b ≡ f (get_or l i d) → b ≡ false → any f l ≡ any f (drop (i + 1) l)
  unfolding any ◌or◌
  any_next d h e q =
      let k : i < length l = omega arith in
      inv.1 ∙ rw (drop-cons l i d k, ← e, q, add-one)

  pub any_none : n ≤ i → false ≡ any f l
  unfolding any
  any_none h =
      let k : length l ≤ i = omega arith in
      sym (inv.1 ∙ rw (drop_of_length-le l k))

-- the list with its first i elements changed
abbrev pub map_to : {A : Type 0} → (A → A) → ℕ → List A → List A
map_to f zero l = l
map_to f (suc i) [] = []
map_to f (suc i) (x ∷ l) = f x ∷ map_to f i l

module _ {A : Type 0} (f : A → A) where
  map_to_at : (l : List A) (i : ℕ) (d : A) → get_or (map_to f i l) i d ≡ get_or l i d
  map_to_at l zero d = refl
  map_to_at [] (suc i) d = refl
  map_to_at (x ∷ l) (suc i) d = map_to_at l i d

  map_to_suc : (l : List A) (i : ℕ) (d : A) → set (map_to f i l) i (f (get_or l i d)) ≡ map_to f (suc i) l
  map_to_suc [] zero d = refl
  map_to_suc (x ∷ l) zero d = refl
  map_to_suc [] (suc i) d = refl
  map_to_suc (x ∷ l) (suc i) d = ap (λ (s : List A). f x ∷ s) (map_to_suc l i d)

  pub map_to_next : (l : List A) (i : ℕ) (d : A) →
      set (map_to f i l) i (f (get_or (map_to f i l) i d)) ≡ map_to f (i + 1) l
  map_to_next l i d = rw (map_to_at l i d, map_to_suc l i d, add-one)

  pub map_to_all : (l : List A) (i : ℕ) → length l ≤ i → map f l ≡ map_to f i l
  map_to_all [] zero h = refl
  map_to_all [] (suc i) h = refl
  map_to_all (x ∷ l) zero h = absurd (omega arith)
  map_to_all (x ∷ l) (suc i) h = ap (λ (s : List A). f x ∷ s) (map_to_all l i (omega arith))

-- the list with its first i elements changed by those of m
abbrev pub zip_to : {A B : Type 0} → (A → B → A) → ℕ → List A → List B → List A
zip_to f zero l m = l
zip_to f (suc i) [] m = []
zip_to f (suc i) (x ∷ l) [] = x ∷ l
zip_to f (suc i) (x ∷ l) (y ∷ m) = f x y ∷ zip_to f i l m

module _ {A B : Type 0} (f : A → B → A) where
  zip_to_at : (l : List A) (m : List B) (i : ℕ) (d : A) → get_or (zip_to f i l m) i d ≡ get_or l i d
  zip_to_at l m zero d = refl
  zip_to_at [] m (suc i) d = refl
  zip_to_at (x ∷ l) [] (suc i) d = refl
  zip_to_at (x ∷ l) (y ∷ m) (suc i) d = zip_to_at l m i d

  zip_to_suc : (l : List A) (m : List B) (i : ℕ) (d : A) (e : B) → i < length m →
      set (zip_to f i l m) i (f (get_or l i d) (get_or m i e)) ≡ zip_to f (suc i) l m
  zip_to_suc [] m zero d e h = refl
  zip_to_suc (x ∷ l) [] zero d e h = absurd (omega arith)
  zip_to_suc (x ∷ l) (y ∷ m) zero d e h = refl
  zip_to_suc [] m (suc i) d e h = refl
  zip_to_suc (x ∷ l) [] (suc i) d e h = absurd (omega arith)
  zip_to_suc (x ∷ l) (y ∷ m) (suc i) d e h = ap (λ (s : List A). f x y ∷ s) (zip_to_suc l m i d e (omega arith))

  pub zip_to_next : (l : List A) (m : List B) (i : ℕ) (d : A) (e : B) → i < length m →
      set (zip_to f i l m) i (f (get_or (zip_to f i l m) i d) (get_or m i e)) ≡ zip_to f (i + 1) l m
  zip_to_next l m i d e h = rw (zip_to_at l m i d, zip_to_suc l m i d e h, add-one)

  pub zip_to_all : (l : List A) (m : List B) (i : ℕ) → length l ≤ i → zip f l m ≡ zip_to f i l m
  unfolding zip
  zip_to_all [] m zero h = refl
  zip_to_all [] m (suc i) h = refl
  zip_to_all (x ∷ l) m zero h = absurd (omega arith)
  zip_to_all (x ∷ l) [] (suc i) h = refl
  zip_to_all (x ∷ l) (y ∷ m) (suc i) h = ap (λ (s : List A). f x y ∷ s) (zip_to_all l m i (omega arith))

-- an element of the two lists together
pub zip_at : {A B : Type 0} (f : A → B → A) (l : List A) (m : List B) (i : ℕ) (d : A) (e : B) →
    i < length l → i < length m → get_or (zip f l m) i d ≡ f (get_or l i d) (get_or m i e)
unfolding zip
zip_at f [] m i d e h k = absurd (omega arith)
zip_at f (x ∷ l) [] i d e h k = absurd (omega arith)
zip_at f (x ∷ l) (y ∷ m) zero d e h k = refl
zip_at f (x ∷ l) (y ∷ m) (suc i) d e h k = zip_at f l m i d e (omega arith) (omega arith)
