-- What stands at the front of some bytes stays there, whatever follows.
--     whole_bounds     a whole command has a byte or more, and no more than there are
--     left_less        what is left after it is less
--     front_stays      a whole command and a stop stay as they are when more bytes come
-- Assumes nothing.
use Prim.Native.Nat.{ℕ, ◌≤◌, ◌<◌}
use native.Mathlib.Omega.{arith}
use mathlib.Core.Path.{◌≡◌, refl, sym, ap}
use mathlib.Core.Bool.{Bool, true, false}
use mathlib.Core.List.{List, [], ◌∷◌, ◌++◌}
use borrow.Author.Tests.{eqb-true, eqb-false, ltb-false, ne_eqb, le-ltb}
use lib.Dec.{eqb, ltb}
use lib.ListN.{length, drop, length-drop, length-append, get_or-append}
use Rattle.laws.specs.Choice.{if◌then◌otherwise◌, ◌and◌}
use Rattle.commands.specs.declared.Next.{Next}
use Rattle.commands.specs.declared.Next.TheVariants.{Wait, Stop, Whole}
use Rattle.commands.specs.Commands.{byte, size_of, next_of}

-- the tests of `next_of`: nothing there, no command, cut, a list of more than four
abbrev next : Bool → Bool → Bool → Bool → ℕ → Next
next none unknown cut over z =
    if none then Wait otherwise
    if unknown then Stop otherwise
    if cut then Wait otherwise
    if over then Stop otherwise
    Whole z

bounds : (m z n : ℕ) (b₁ b₂ b₃ b₄ : Bool) → eqb z 0 ≡ b₂ → ltb m z ≡ b₃ → next b₁ b₂ b₃ b₄ z ≡ Whole n →
    (0 < n) × (n ≤ m)
unfolding if◌then◌otherwise◌
bounds m z n true b₂ b₃ b₄ e₂ e₃ h = let k : ◌≡◌ {A = ℕ} 0 1 = cc in absurd (omega arith)
bounds m z n false true b₃ b₄ e₂ e₃ h = let k : ◌≡◌ {A = ℕ} 0 1 = cc in absurd (omega arith)
bounds m z n false false true b₄ e₂ e₃ h = let k : ◌≡◌ {A = ℕ} 0 1 = cc in absurd (omega arith)
bounds m z n false false false true e₂ e₃ h = let k : ◌≡◌ {A = ℕ} 0 1 = cc in absurd (omega arith)
bounds m z n false false false false e₂ e₃ h =
    let k : z ≡ n = cc in
    let l : z ≤ m = ltb-false m z e₃ in
    (omega (arith, eqb-false z 0 e₂), omega arith)

pub whole_bounds : (bs : List ℕ) (n : ℕ) → next_of bs ≡ Whole n → (0 < n) × (n ≤ length bs)
unfolding next_of
whole_bounds bs n h = bounds (length bs) (size_of (byte bs 0)) n (eqb (length bs) 0) _ _ _ refl refl h

pub left_less : (bs : List ℕ) (n : ℕ) → next_of bs ≡ Whole n → length (drop n bs) < length bs
left_less bs n h = simp length-drop (omega (arith, (whole_bounds bs n h).0, (whole_bounds bs n h).1))

-- the same tests where there are k bytes and not m
stays : (m k z : ℕ) (b₁ b₂ b₃ b₄ b₅ : Bool)
    (x : Next) → m ≤ k → eqb m 0 ≡ b₁ → eqb z 0 ≡ b₂ → ltb m z ≡ b₃ →
    (z ≤ m → b₄ ≡ b₅) → next b₁ b₂ b₃ b₄ z ≡ x → (x ≡ Wait → ⊥) →
    next (eqb k 0) (eqb z 0) (ltb k z) b₅ z ≡ x
unfolding if◌then◌otherwise◌
stays m k z true b₂ b₃ b₄ b₅ x l e₁ e₂ e₃ f h w = absurd (w (sym h))
stays m k z false true b₃ b₄ b₅ x l e₁ e₂ e₃ f h w =
    let p : k ≡ 0 → ⊥ = λ e. eqb-false m 0 e₁ (omega arith) in
    rw (ne_eqb k 0 p, e₂) h
stays m k z false false true b₄ b₅ x l e₁ e₂ e₃ f h w = absurd (w (sym h))
stays m k z false false false b₄ b₅ x l e₁ e₂ e₃ f h w =
    let p : k ≡ 0 → ⊥ = λ e. eqb-false m 0 e₁ (omega arith) in
    let g : z ≤ k = omega (arith, ltb-false m z e₃) in
    rw (ne_eqb k 0 p, e₂, le-ltb k z g, ← f (ltb-false m z e₃)) h

some_first : (bs : List ℕ) (x : Next) → next_of bs ≡ x → (x ≡ Wait → ⊥) → 0 < length bs
unfolding next_of if◌then◌otherwise◌
some_first [] x e w = absurd (w (sym e))
some_first (b ∷ bs) x e w = omega arith

module _ (bs cs : List ℕ) where
  -- a list's count is among its bytes
  count_stays : (b : Bool) → eqb (byte bs 0) 15 ≡ b → size_of (byte bs 0) ≤ length bs →
      (b and ltb 4 (byte bs 3)) ≡ (b and ltb 4 (byte (bs ++ cs) 3))
  unfolding ◌and◌ size_of
  count_stays true e l =
      let c : byte bs 0 ≡ 15 = eqb-true (byte bs 0) 15 e in
      let m : 12 ≤ length bs = rw c at l in
      ap (ltb 4) (sym (get_or-append bs cs 0 3 (omega arith)))
  count_stays false e l = refl

  pub front_stays : (x : Next) → next_of bs ≡ x → (x ≡ Wait → ⊥) → next_of (bs ++ cs) ≡ x
  unfolding next_of
  front_stays x e w =
      let l : length bs ≤ length (bs ++ cs) = simp length-append (omega arith) in
      let g : byte (bs ++ cs) 0 ≡ byte bs 0 = get_or-append bs cs 0 0 (some_first bs x e w) in
      rw g
      (stays (length bs) (length (bs ++ cs)) (size_of (byte bs 0)) (eqb
      (length bs) 0) _ _ _ _ x l refl refl refl
      (count_stays (eqb (byte bs 0) 15) refl) e w)
