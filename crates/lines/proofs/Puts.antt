-- Texts in a buffer.
--     put_then            one text after another
--     put_one, put_none   one byte, no byte
--     left_in             what is in the buffer once its writer is gone
--     no_room, with_room  a line, where there is no room and where there is
--     roomy               what was written, where there was room
-- Assumes nothing.
use Prim.Native.Nat.{ℕ, ◌+◌, ◌-◌, ◌<◌, ◌≤◌}
use native.Mathlib.Omega.{arith}
use native.Mathlib.Numerals.{add-one}
use mathlib.Core.Path.{◌≡◌, refl, sym, ◌∙◌}
use mathlib.Core.List.{List, [], ◌∷◌, ◌++◌, append_assoc, append-nil}
use lib.ListN.{length, set, take, length-append}
use lib.Seq.{take-suc-set}
use borrow.Author.Tests.{lt-ltb, le-ltb}
use Rattle.laws.specs.Choice.{if◌then◌otherwise◌}
use Rattle.lines.specs.Line.{within, Put}

pub put_then : {a b c : List ℕ} {i j k : ℕ} {x y : List ℕ} →
    Put a b i j x → Put b c j k y → Put a c i k (x ++ y)
put_then {a = a} {i = i} {x = x} {y = y} p q =
    record {
      end = simp length-append (omega (arith, p.end, q.end));
      holds = q.holds ∙ rw p.holds (append_assoc (take i a) x y);
    }

pub put_one : (l : List ℕ) (at byte : ℕ) → at < length l →
    Put l (set l at byte) at (at + 1) (byte ∷ [])
put_one l at byte h = record { end = refl; holds = rw (add-one, take-suc-set l at byte) }

pub put_none : (l : List ℕ) (at : ℕ) → Put l l at at []
put_none l at = record { end = omega arith; holds = sym (append-nil (take at l)) }

pub left_in : {a b c : List ℕ} {i j : ℕ} {x : List ℕ} → Put a b i j x → c ≡ b → Put a c i j x
left_in p e = rw e p

pub no_room : (l : List ℕ) (at : ℕ) (line : List ℕ) → length l - at < 128 →
    Put l l at at (within (length l - at) line)
unfolding within if◌then◌otherwise◌
no_room l at line h = rw (lt-ltb _ _ h) (put_none l at)

module _ {a b : List ℕ} {at r : ℕ} {line : List ℕ} (h : 128 ≤ length a - at) where
  pub with_room : Put a b at r line → Put a b at r (within (length a - at) line)
  unfolding within if◌then◌otherwise◌
  with_room p = rw (le-ltb _ _ h) p

  pub roomy : Put a b at r (within (length a - at) line) → Put a b at r line
  unfolding within if◌then◌otherwise◌
  roomy p = rw (le-ltb _ _ h) at p
