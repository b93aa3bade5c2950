-- Texts that a writer appends.
--     then, widen         one text after another; a larger bound
--     nothing             no text
--     flag_is             a flag as a byte
--     policy_more         one character more of a policy
--     Filled              a loop that writes digits from the last to the first
-- Assumes nothing.
use Prim.Native.Nat.{ℕ, suc, ◌+◌, ◌-◌, ◌<◌, ◌≤◌, ◌/◌, ◌%◌, ◌^◌}
use native.Mathlib.Omega.{arith}
use native.Mathlib.Numerals.{add-one}
use native.Mathlib.Nat.{pow-suc, div-div-eq-div-mul}
use mathlib.Core.Path.{◌≡◌, refl, sym, ◌∙◌, ap}
use mathlib.Core.Bool.{Bool, true, false}
use mathlib.Core.List.{List, [], ◌∷◌, ◌++◌, append_assoc, append-nil}
use lib.ListN.{length, set, take, length-append, length-set, length-take}
use lib.Seq.{take-suc-set, take-set-lt}
use Rattle.std.specs.Int.{from_bool}
use Rattle.std.proofs.lemmas.List.{set-append_left}
use Rattle.job_policy.specs.Policy.{get_action}
use Rattle.job_policy.specs.declared.JobPolicy.{JobPolicy}
use Rattle.lines.specs.declared.Writer.{Writer}
use Rattle.lines.specs.Line.{SPACE, digit, last_digits, flag_text, action_char, policy_chars}
use Rattle.lines.specs.Writer.{Appends}
use Rattle.lines.proofs.Puts.{put_then, put_none}
use Rattle.lines.proofs.Numbers.{digits_parts, length_last}

module _ {u v : Writer} where
  pub then : {m n : ℕ} {w : Writer} {x y : List ℕ} → Appends m u v x → Appends n v w y → Appends (m + n) u w (x ++ y)
  then p q =
      record {
        same = q.same ∙ p.same;
        long = q.long ∙ p.long;
        put = put_then p.put q.put;
        short = simp length-append (omega (arith, p.short, q.short));
      }

  pub widen : {m k : ℕ} {x : List ℕ} → Appends m u v x → m ≤ k → Appends k u v x
  widen p l = record { same = p.same; long = p.long; put = p.put; short = omega (arith, p.short) }

pub nothing : (w : Writer) (k : ℕ) → Appends k w w []
nothing w k =
    record { same = refl; long = refl; put = put_none w.out.now w.at; short = omega arith }

pub flag_is : (b : Bool) → flag_text b ≡ (48 + from_bool b) ∷ []
unfolding flag_text
flag_is true = refl
flag_is false = refl

pub policy_more : {u v w : Writer} (p : JobPolicy) (i : ℕ) {byte : ℕ} →
    Appends (1 + i) u v (SPACE ∷ policy_chars p i) → Appends 1 v w (byte ∷ []) →
    byte ≡ action_char (get_action p i) → Appends (1 + (i + 1)) u w (SPACE ∷ policy_chars p (i + 1))
unfolding policy_chars
policy_more p i a b e = rw (add-one i, ← e) (widen (then a b) (omega arith))

-- ---- Digits from the last to the first -----------------------------------------------------

-- the last i digits of n stand where `size` digits are to end, and nothing before them has changed
pub record Filled (before now : Writer) (size n i : ℕ) : Type 0 where
  pub same : now.out.ghost_name ≡ before.out.ghost_name
  pub long : length now.out.now ≡ length before.out.now
  pub place : now.at ≡ before.at
  pub holds : take (before.at + size) now.out.now
      ≡ take (before.at + (size - i)) before.out.now ++ last_digits i n

pub filled_none : (w : Writer) (size n : ℕ) → Filled w w size n 0
unfolding last_digits
filled_none w size n =
    let e : size - 0 ≡ size = omega arith in
    record { same = refl; long = refl; place = refl; holds = rw (e, append-nil) refl }

-- the digit in front of the last i
front_digit : (n i : ℕ) → digit (n / 10 ^ i % 10) ∷ last_digits i n ≡ last_digits (1 + i) n
unfolding last_digits
front_digit n i = sym (digits_parts i 1 n)

module _ {u v : Writer} {size n i : ℕ} (f : Filled u v size n i) (l : i < size)
    (room : u.at + size ≤ length u.out.now) (left : ℕ) (is : left ≡ n / 10 ^ i) where
  abbrev at : ℕ
  at = u.at + (size - 1 - i)

  stands : take (u.at + size) (set v.out.now at (digit (left % 10)))
      ≡ take (u.at + (size - (i + 1))) u.out.now ++ last_digits (i + 1) n
  stands =
      let e : u.at + (size - i) ≡ suc at = omega arith in
      let e₂ : u.at + (size - (i + 1)) ≡ at = omega arith in
      let e₃ : i + 1 ≡ 1 + i = omega arith in
      let r : at < length u.out.now = omega arith in
      let r₂ : at < length (take (suc at) u.out.now) = simp length-take (omega arith) in
      let h = rw e at f.holds in
      let t = take-set-lt (u.at + size) v.out.now at (digit (left % 10)) (omega arith) in
      let s = take-set-lt (suc at) u.out.now at (digit (left % 10)) (omega arith) in
      let p = take-suc-set u.out.now at (digit (left % 10)) r in
      let a = set-append_left (take (suc at) u.out.now) (last_digits i n) at (digit (left % 10)) r₂ in
      rw (e₂, e₃, ← front_digit n i, ← is)
      (t ∙ rw (h, a, ← s, p) (append_assoc (take at u.out.now) _ _))

  pub filled_more : {w : Writer} → w.out.ghost_name ≡ v.out.ghost_name → w.at ≡ v.at →
      w.out.now ≡ set v.out.now (v.at + (size - 1 - i)) (digit (left % 10)) → Filled u w size n (i + 1)
  filled_more g a e =
      record {
        same = g ∙ f.same;
        long = ap length e ∙ length-set _ _ _ ∙ f.long;
        place = a ∙ f.place;
        holds = rw (e, f.place) stands;
      }

-- what is left of n for the next digit
pub left_more : (n i left : ℕ) → left ≡ n / 10 ^ i → left / 10 ≡ n / 10 ^ (i + 1)
left_more n i left e = rw (e, add-one i, pow-suc 10 i) (div-div-eq-div-mul n (10 ^ i) 10)

pub filled_all : {u v w : Writer} {size n : ℕ} → Filled u v size n size →
    w.out.ghost_name ≡ v.out.ghost_name → w.out.now ≡ v.out.now → w.at ≡ v.at + size →
    Appends size u w (last_digits size n)
filled_all {u = u} {size = size} {n = n} f g e a =
    let z : u.at + (size - size) ≡ u.at = omega arith in
    record {
      same = g ∙ f.same;
      long = ap length e ∙ f.long;
      put = record {
        end = rw (length_last size n) (omega (arith, f.place));
        holds = rw (a, f.place, e) (f.holds ∙ rw z);
      };
      short = omega (arith, length_last size n);
    }
