-- The scans of a table for a record that passes a test.
--     any_is                                 the library's test of every element
--     next_here, next_on_lem, next_end       a step of the loop that finds the next
--     among, next_small                      the first 256 of a table
--     found_next, found_none                 where the loop stands at its return
--     next_from, next_within, next_passes    what was found
--     Found, next_is, next_none              what was found
-- Assumes nothing.
use Prim.Native.Nat.{ℕ, ◌+◌, ◌<◌, ◌≤◌}
use native.Mathlib.Numerals.{add-one}
use native.Mathlib.Omega.{arith}
use mathlib.Core.Path.{◌≡◌, refl, sym, ap, ◌∙◌}
use mathlib.Core.Bool.{Bool, true, false}
use mathlib.Core.List.{List, [], ◌∷◌}
use lib.ListN.{length, get_or, take, drop, length-drop, drop_of_length-le}
use lib.Seq.{drop-cons, get_or-drop, get_or-take, take_all}
use borrow.Author.Tests.{lt-ltb, le-ltb, ltb-true, ltb-false}
use Rattle.std.specs.Prelude.{Option, Some, None, is_some}
use Rattle.std.specs.List.{list_any}
use Rattle.laws.specs.Choice.{◌<?◌, ◌or◌, if◌then◌otherwise◌}
use Rattle.laws.specs.Lists.{any}
use Rattle.laws.proofs.Cases.{by, no_both}
use Rattle.listed.specs.Next.{skipped, next, next_in}

pub any_is : {A : Type 0} (f : A → Bool) (l : List A) → any f l ≡ list_any f l
unfolding any ◌or◌
any_is f [] = refl
any_is f (x ∷ l) = by (f x) (λ e. rw e) (λ e. rw e (any_is f l))

module _ {A : Type 0} (f : A → Bool) (l : List A) (i : ℕ) where
  pub next_here : {b : Bool} (d : A) → i < length l → b ≡ f (get_or l i d) → b ≡ true → i ≡ next f l i
  unfolding next skipped if◌then◌otherwise◌
  next_here d h e q = rw (drop-cons l i d h, ← e, q) (omega arith)

  pub next_on_lem : {b : Bool} (d : A) → i < length l → b ≡ f (get_or l i d) → b ≡ false →
      next f l (i + 1) ≡ next f l i
  unfolding next skipped if◌then◌otherwise◌
  next_on_lem d h e q = rw (drop-cons l i d h, ← e, q, add-one) (omega arith)

  pub next_end : length l ≤ i → i ≡ next f l i
  unfolding next skipped
  next_end h = rw (drop_of_length-le l h) (omega arith)

-- an element is the same among the first 256
pub among : {A : Type 0} (f : A → Bool) (l : List A) (i : ℕ) (d : A) → i < 256 →
    f (get_or l i d) ≡ f (get_or (take 256 l) i d)
among f l i d h = ap f (sym (get_or-take 256 l i d h))

-- a table of no more than 256 is all of it
pub next_small : {A : Type 0} {r : Option ℕ} (f : A → Bool) (l : List A) (i n : ℕ) →
    r ≡ next_in f (take 256 l) i → length l ≡ n → n ≤ 256 → r ≡ next_in f l i
next_small f l i n s e h = s ∙ rw (take_all 256 l (omega (arith, e, h)))

module _ {A : Type 0} (f : A → Bool) (l : List A) (i : ℕ) where
  -- the loop stands at k, and found it there, or came to the end
  pub found_next : (k : ℕ) {b : Bool} (d : A) → next f l k ≡ next f l i → k < length l → b ≡ f (get_or l k d) →
      b ≡ true → Some k ≡ next_in f l i
  unfolding next_in if◌then◌otherwise◌
  found_next k d e h g q =
      let at = next_here f l k d h g q ∙ e in
      rw (← at, lt-ltb k (length l) h)

  pub found_none : (k : ℕ) → next f l k ≡ next f l i → length l ≤ k → None ≡ next_in f l i
  unfolding next_in if◌then◌otherwise◌
  found_none k e h =
      let at = next_end f l k h ∙ e in
      rw (← at, le-ltb k (length l) h)

abbrev value : Option ℕ → ℕ
value None = 0
value (Some k) = k

module _ {A : Type 0} (f : A → Bool) where
  skipped_le : (m : List A) → skipped f m ≤ length m
  unfolding skipped if◌then◌otherwise◌
  skipped_le [] = omega arith
  skipped_le (x ∷ m) = by (f x) (λ a. rw a (omega arith)) (λ a. rw a (omega (arith, skipped_le m)))

  skipped_passes : (m : List A) (d : A) → skipped f m < length m → f (get_or m (skipped f m) d) ≡ true
  unfolding skipped if◌then◌otherwise◌
  skipped_passes [] d h = absurd (omega arith)
  skipped_passes (x ∷ m) d h =
      by (f x) (λ a. rw (a, a)) (λ a. rw a (skipped_passes m d (omega (arith, rw a at h))))

  pub next_passes : (l : List A) (i : ℕ) (d : A) → next f l i < length l → f (get_or l (next f l i) d) ≡ true
  unfolding next
  next_passes l i d h =
      ap f (sym (get_or-drop i l (skipped f (drop i l)) d))
      ∙ skipped_passes (drop i l) d (omega (arith, length-drop i l, h))

  pub next_from : (l : List A) (i : ℕ) {r : ℕ} → r ≡ next f l i → i ≤ r
  unfolding next
  next_from l i e = omega (arith, e)

  pub next_within : (l : List A) (i : ℕ) {r : ℕ} (n : ℕ) → length l ≡ n → r ≡ next f l i → i ≤ n → r ≤ n
  unfolding next
  next_within l i n e g h = omega (arith, e, g, h, skipped_le (drop i l), length-drop i l)

  -- k is the next: it is within the table, not before i, and passes; those between do not
  pub record Found (l : List A) (i k : ℕ) : Type 0 where
    pub is : k ≡ next f l i
    pub from : i ≤ k
    pub below : k < length l
    pub at : (d : A) → f (get_or l k d) ≡ true

  found : (l : List A) (i : ℕ) {k : ℕ} → next f l i < length l → k ≡ next f l i → Found l i k
  found l i {k} b e = record {
    is = e;
    from = next_from l i e;
    below = rw e b;
    at = λ d. rw e (next_passes l i d b);
  }

  pub next_is : (l : List A) (i : ℕ) {k : ℕ} {r : Option ℕ} → r ≡ next_in f l i → r ≡ Some k → Found l i k
  unfolding next_in if◌then◌otherwise◌
  next_is l i {k} e h =
      by (next f l i <? length l)
      (λ a. let o : Some (next f l i) ≡ Some k = rw a at (sym e ∙ h) in found l i (ltb-true _ _ a) (sym (ap value o)))
      (λ a. let o : None ≡ Some k = rw a at (sym e ∙ h) in no_both refl (sym (ap is_some o)))

  pub next_none : (l : List A) (i : ℕ) {r : Option ℕ} → r ≡ next_in f l i → r ≡ None → i ≤ length l →
      next f l i ≡ length l
  unfolding next_in if◌then◌otherwise◌
  next_none l i e h b =
      by (next f l i <? length l)
      (λ a. let o : Some (next f l i) ≡ None = rw a at (sym e ∙ h) in no_both refl (ap is_some o))
      (λ a. omega (arith, ltb-false _ _ a, next_within l i (length l) refl refl b))
