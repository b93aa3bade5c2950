-- A whole command stands for a call.
--     whole_there     the bytes of a whole command are a whole command by themselves
--     call_in_lem         so what is read from them is what they stand for
--     whole_called    and that is a call
-- Assumes nothing.
use Prim.Native.Nat.{ℕ, suc, ◌≤◌, ◌<◌}
use native.Mathlib.Omega.{arith}
use mathlib.Core.Path.{◌≡◌, refl, sym, ◌∙◌, ap}
use mathlib.Core.Bool.{Bool, true, false}
use mathlib.Core.List.{List}
use borrow.Author.Tests.{eqb-true, eqb-false, eq-eqb, ltb-false, le-ltb}
use lib.Dec.{ltb}
use lib.ListN.{length, take}
use lib.Seq.{length-take-le, get_or-take}
use Rattle.laws.specs.Choice.{◌=?◌, ◌<?◌, ◌and◌, if◌then◌otherwise◌}
use Rattle.laws.proofs.Cases.{by, if_on}
use Rattle.commands.specs.declared.Next.TheVariants.{Wait, Stop, Whole}
use Rattle.commands.specs.Commands.{byte, size_of, pairs_at, next_of}
use Rattle.model.specs.Step.{Call, cmd0f}
use Rattle.commands.proofs.Sizes.{NoneOf, no_size}
use Rattle.commands.proofs.Fronts.{is_list, is_whole}
use Rattle.commands.proofs.Stays.{whole_bounds}
use Rattle.calls.specs.Calls.{Called, no_call, called, call_by, call_at, call_in}

-- ---- The bytes of a whole command ----------------------------------------------------------------------

-- the tests of `next_of` that a whole command has passed
size_by : (none unknown cut over : Bool) (z n : ℕ) →
    (if none then Wait otherwise if unknown then Stop otherwise if cut then Wait otherwise
    if over then Stop otherwise Whole z)
    ≡ Whole n → (z ≡ n) × (over ≡ false)
unfolding if◌then◌otherwise◌
size_by true unknown cut over z n h = let k : ◌≡◌ {A = ℕ} 0 1 = cc in absurd (omega arith)
size_by false true cut over z n h = let k : ◌≡◌ {A = ℕ} 0 1 = cc in absurd (omega arith)
size_by false false true over z n h = let k : ◌≡◌ {A = ℕ} 0 1 = cc in absurd (omega arith)
size_by false false false true z n h = let k : ◌≡◌ {A = ℕ} 0 1 = cc in absurd (omega arith)
size_by false false false false z n h = (cc, refl)

few_by : (b : Bool) (c : ℕ) → b ≡ true → (b and ltb 4 c) ≡ false → c ≤ 4
unfolding ◌and◌
few_by true c e h = ltb-false 4 c h
few_by false c e h = let k : ◌≡◌ {A = ℕ} 0 1 = cc in absurd (omega arith)

module _ (bs : List ℕ) (n : ℕ) (e : next_of bs ≡ Whole n) where
  tests : (size_of (byte bs 0) ≡ n) × (((byte bs 0 =? 15) and (4 <? byte bs 3)) ≡ false)
  unfolding next_of
  tests = size_by (length bs =? 0) (size_of (byte bs 0) =? 0) (length bs <? size_of (byte bs 0)) _ _ n e

  -- 0f has at most four entries
  few : (byte bs 0 =? 15) ≡ true → byte bs 3 ≤ 4
  few t = few_by (byte bs 0 =? 15) (byte bs 3) t tests.1

  pub whole_there : next_of (take n bs) ≡ Whole n
  unfolding size_of
  whole_there =
      let b : (0 < n) × (n ≤ length bs) = whole_bounds bs n e in
      let l : length (take n bs) ≡ n = length-take-le n bs b.1 in
      let first : byte bs 0 ≡ byte (take n bs) 0 = sym (get_or-take n bs 0 0 b.0) in
      let some : length (take n bs) ≡ 0 → ⊥ = λ z. omega (arith, b.0) in
      let known : n ≡ 0 → ⊥ = λ z. omega (arith, b.0) in
      let s : n ≡ size_of (byte bs 0) = sym tests.0 in
      by (byte bs 0 =? 15)
      (λ t.
      let f : byte bs 0 ≡ 15 = eqb-true (byte bs 0) 15 t in
      let twelve : n ≡ 12 = s ∙ ap size_of f in
      let third : byte (take n bs) 3 ≡ byte bs 3 = get_or-take n bs 3 0 (omega arith) in
      sym (is_list (take n bs) (byte bs 0) n some first s known (omega arith) f (rw third (few t))))
      (λ t. sym (is_whole (take n bs) (byte bs 0) n some first s known (omega arith) (eqb-false (byte bs 0) 15 t)))

-- ---- A call ------------------------------------------------------------------------------------------------

pub data IsCall : Called → Type 0 where
  is_call : (c : Call) → IsCall (called c)

-- a row of the table, where the code is none of those above it
module _ (code : ℕ) where
  row_by : (n : ℕ) (x y : Called) → (code ≡ suc n → IsCall x) → (NoneOf code (suc n) → IsCall y) →
      NoneOf code n → IsCall (if code =? suc n then x otherwise y)
  unfolding NoneOf
  row_by n x y h k none =
      if_on IsCall (code =? suc n) x y (λ t. h (eqb-true code (suc n) t)) (λ f. k (none, eqb-false code (suc n) f))

  row : (n : ℕ) (c : Call) (y : Called) → (NoneOf code (suc n) → IsCall y) → NoneOf code n →
      IsCall (if code =? suc n then called c otherwise y)
  row n c y = row_by n (called c) y (λ _. is_call c)

  call_by_lem : (a b c : ℕ) (bs : List ℕ) → (code ≡ 15 → c ≤ 4) → (size_of code ≡ 0 → ⊥) →
      IsCall (call_by code a b c bs)
  unfolding call_by NoneOf if◌then◌otherwise◌
  call_by_lem a b c bs few known =
      let list : code ≡ 15 → IsCall (if 4 <? c then no_call otherwise called (cmd0f a b (take c (pairs_at bs)))) =
      λ e. rw (le-ltb 4 c (few e)) (is_call (cmd0f a b (take c (pairs_at bs)))) in
      let none : NoneOf code 31 → IsCall no_call = λ r. absurd (known (sym (no_size code r))) in
      (row 0 _ _ (row 1 _ _ (row 2 _ _ (row 3 _ _ (row 4 _ _ (row 5 _ _ (row 6 _ _ (row 7 _ _
      (row 8 _ _ (row 9 _ _ (row 10 _ _ (row 11 _ _ (row 12 _ _ (row 13 _ _ (row_by 14 _ _ list
      (row 15 _ _ (row 16 _ _ (row 17 _ _ (row 18 _ _ (row 19 _ _ (row 20 _ _ (row 21 _ _
      (row 22 _ _ (row 23 _ _ (row 24 _ _ (row 25 _ _ (row 26 _ _ (row 27 _ _ (row 28 _ _
      (row 29 _ _ (row 30 _ _ none))))))))))))))))))))))))))))))) tt

module _ (bs : List ℕ) (n : ℕ) (e : next_of bs ≡ Whole n) where
  -- the call of a whole command
  call_at_lem : IsCall (call_at bs)
  call_at_lem = call_by_lem (byte bs 0) (byte bs 1) (byte bs 2) (byte bs 3) bs
      (λ c. few bs n e (eq-eqb (byte bs 0) 15 c))
      (λ z. omega (arith, (tests bs n e).0, (whole_bounds bs n e).0))

  pub call_in_lem : call_in (take n bs) ≡ call_at (take n bs)
  unfolding call_in
  call_in_lem = rw (whole_there bs n e)

pub whole_called : (bs : List ℕ) (n : ℕ) → next_of bs ≡ Whole n → IsCall (call_in (take n bs))
whole_called bs n e = rw (call_in_lem bs n e) (call_at_lem (take n bs) n (whole_there bs n e))
