-- Tables as lists: what is read after a write, whatever the index. Assumes nothing.
use mathlib.Core.Path.{◌≡◌, refl, sym, ap, ◌∙◌, subst}
use mathlib.Core.List.{List, [], ◌∷◌}
use Prim.Native.Nat.{ℕ, zero, suc, ◌<◌, ◌≤◌}
use native.Mathlib.Decide.{dec_lt, ℕ_discrete}
use native.Mathlib.Omega.{arith}
use lib.ListN.{length, get_or, set, get_or-eq_default}
use lib.Seq.{get_or-set_same, get_or-set_other, set_out}

-- a table: what is read after a write is what was written, or what was there
module _ {A : Type 0} (d : A) where
  pub tab_set : (Q : A → Type 0) (l : List A) (i k : ℕ) (v : A) → (k ≡ i → Q v) → Q (get_or l k d) →
      Q (get_or (set l i v) k d)
  tab_set Q l i k v new old = go (ℕ_discrete k i) (dec_lt i (length l))
    where
      go : Dec (k ≡ i) → Dec (i < length l) → Q (get_or (set l i v) k d)
      go (yes e) (yes h) = subst Q (sym (ap (λ (n : ℕ). get_or (set l i v) n d) e ∙ get_or-set_same l i v d h)) (new e)
      go (yes e) (no h) = subst (λ (m : List A). Q (get_or m k d)) (sym (set_out l i v (omega arith))) old
      go (no n) _ = subst Q (sym (get_or-set_other l i k v d n)) old

  pub tab_keep : {B : Type 0} (f : A → B) (l : List A) (i : ℕ) (v : A) → f v ≡ f (get_or l i d) → (k : ℕ) →
      f (get_or (set l i v) k d) ≡ f (get_or l k d)
  tab_keep f l i v e k = tab_set (λ x. f x ≡ f (get_or l k d)) l i k v
      (λ h. e ∙ ap (λ (n : ℕ). f (get_or l n d)) (sym h)) refl

  -- two tables of one length, written at one place
  pub tab_set₂ : (Q : A → A → Type 0) (l m : List A) (i k : ℕ) (v w : A) → length l ≡ length m
      → (k ≡ i → Q v w) → Q (get_or l k d) (get_or m k d) → Q (get_or (set l i v) k d) (get_or (set m i w) k d)
  tab_set₂ Q l m i k v w len new old = go (ℕ_discrete k i) (dec_lt i (length l))
    where
      go : Dec (k ≡ i) → Dec (i < length l) → Q (get_or (set l i v) k d) (get_or (set m i w) k d)
      go (yes e) (yes h) =
          subst (λ x. Q x (get_or (set m i w) k d))
          (sym (ap (λ (n : ℕ). get_or (set l i v) n d) e ∙ get_or-set_same l i v d h))
          (subst (Q v) (sym (ap (λ (n : ℕ). get_or (set m i w) n d) e ∙ get_or-set_same m i w d (omega arith))) (new e))
      go (yes e) (no h) =
          subst (λ x. Q (get_or x k d) (get_or (set m i w) k d)) (sym (set_out l i v (omega arith)))
          (subst (λ x. Q (get_or l k d) (get_or x k d)) (sym (set_out m i w (omega arith))) old)
      go (no n) _ =
          subst (λ x. Q x (get_or (set m i w) k d)) (sym (get_or-set_other l i k v d n))
          (subst (Q (get_or l k d)) (sym (get_or-set_other m i k w d n)) old)

in_list : {A : Type 0} (l : List A) (i : ℕ) (d e : A) → i < length l → get_or l i d ≡ get_or l i e
in_list [] i d e h = absurd (omega arith)
in_list (x ∷ l) zero d e h = refl
in_list (x ∷ l) (suc i) d e h = in_list l i d e (omega arith)

-- a table of n entries, read and written past its end
module _ {A : Type 0} {n : ℕ} where
  pub read_past : (l : List A) (i : ℕ) (d : A) → length l ≡ n → n ≤ i → d ≡ get_or l i d
  read_past l i d len h = sym (get_or-eq_default l d (omega arith))

  pub write_past : (l : List A) (i : ℕ) (v : A) → length l ≡ n → n ≤ i → l ≡ set l i v
  write_past l i v len h = sym (set_out l i v (omega arith))

  -- within the table the default does not matter
  pub read_in : (l : List A) (i : ℕ) (d e : A) → length l ≡ n → i < n → get_or l i d ≡ get_or l i e
  read_in l i d e len h = in_list l i d e (omega arith)
