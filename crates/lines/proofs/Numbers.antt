-- Numbers as text.
--     last_digit, one_digit          a number below 10
--     decimal_parts, digits_parts    the text of n / 10 ^ k, and then the last k digits of n
--     exact                          a number of so many digits
--     length_decimal, rest_fits      how long they are
--     put_more, put_twice            a number that is written in two parts
--     zero_text, below_text, from_text        a signed number by its distance from 0
--     gap_fits, gap_casts, gap_sum, nonneg    that distance, as the machine takes it
-- Assumes nothing.
use Prim.Native.Nat.{ℕ, zero, suc, ◌+◌, ◌-◌, ◌*◌, ◌/◌, ◌%◌, ◌^◌, ◌≤◌, ◌<◌}
use native.Mathlib.Omega.{arith}
use native.Mathlib.Nat.{pow-suc, pow-succ', one-le-pow, mul_assoc}
use native.Mathlib.Nat.{div-one, div-add-mod', div-div-eq-div-mul}
use mathlib.Core.Path.{◌≡◌, refl, sym, ◌∙◌, ap}
use mathlib.Core.Bool.{true, false, true≢false}
use mathlib.Core.List.{List, [], ◌∷◌, ◌++◌, append_assoc, append-nil}
use borrow.Author.Tests.{lt-ltb, le-ltb, ltb-true}
use lib.Dec.{T, ltb, lit<}
use lib.ListN.{length, length-append}
use Rattle.laws.proofs.Cases.{by}
use lib.IntN.{ℤ, pos, negsuc, nat_abs, ◌-ℤ◌}
use lib.Signed.{lt_z, non_neg}
use mir.Syntax.{w64}
use mir.Val.{Fits, SFits, to_z, of_z}
use mir.Facts.{to_z-of_z, to_z_pos, to_z-neg}
use Rattle.laws.specs.Choice.{if◌then◌otherwise◌}
use Rattle.lines.specs.Line.{MINUS, digit, text_within, decimal_text, last_digits, signed_text}
use Rattle.lines.specs.Line.{Put}
use Rattle.lines.proofs.Puts.{put_then}

-- ---- Digits --------------------------------------------------------------------------------

module _ (n : ℕ) (h : n < 10) where
  itself : n % 10 ≡ n
  itself = omega arith

  pub last_digit : digit n ∷ [] ≡ last_digits 1 n
  unfolding last_digits
  last_digit = rw itself

  pub one_digit : last_digits 1 n ≡ decimal_text n
  unfolding decimal_text text_within last_digits if◌then◌otherwise◌
  one_digit = rw (lt-ltb n 10 h, itself)

-- one digit more
within_ten : (f n : ℕ) → 10 ≤ n →
    text_within (suc f) n ≡ text_within f (n / 10) ++ digit (n % 10) ∷ []
unfolding text_within if◌then◌otherwise◌
within_ten f n h = rw (le-ltb n 10 h)

-- room for more digits than there are changes nothing
within_stays : (f n : ℕ) → n < 10 ^ suc f → text_within f n ≡ text_within (suc f) n
unfolding text_within if◌then◌otherwise◌
within_stays zero n h = rw (lt-ltb n 10 h, itself n h)
within_stays (suc f) n h =
    let l : n / 10 < 10 ^ suc f = omega (arith, pow-suc 10 (suc f)) in
    rw (within_stays f (n / 10) l)

decimal_ten : (n : ℕ) → 10 ≤ n → n < 2 ^ 64 →
    decimal_text n ≡ decimal_text (n / 10) ++ digit (n % 10) ∷ []
unfolding decimal_text
decimal_ten n h l = within_ten 18 n h ∙ rw (within_stays 18 (n / 10) (omega arith))

-- ---- A number is its first digits and its last k, for every width k ------------------------

decimal_parts : (k n : ℕ) → 10 ^ k ≤ n → n < 2 ^ 64 →
    decimal_text n ≡ decimal_text (n / 10 ^ k) ++ last_digits k n
unfolding last_digits
decimal_parts zero n h l = rw (div-one, append-nil)
decimal_parts (suc k) n h l =
    let g : 10 ^ k ≤ n / 10 = omega (arith, pow-suc 10 k) in
    let ten : 10 ≤ n = omega (arith, pow-suc 10 k, one-le-pow k 10 (lit< tt)) in
    let t = decimal_parts k (n / 10) g (omega arith) in
    decimal_ten n ten l ∙ rw (t, pow-succ' 10 k, ← div-div-eq-div-mul n 10 (10 ^ k), append_assoc)

pub digits_parts : (k j n : ℕ) → last_digits (j + k) n ≡ last_digits j (n / 10 ^ k) ++ last_digits k n
unfolding last_digits
digits_parts zero j n = let e : j + 0 ≡ j = omega arith in rw (e, div-one, append-nil)
digits_parts (suc k) j n =
    let e : j + suc k ≡ suc (j + k) = omega arith in
    let t = digits_parts k j (n / 10) in
    rw (e, t, pow-succ' 10 k, ← div-div-eq-div-mul n 10 (10 ^ k), append_assoc)

-- what stands before the last k digits does not matter
last_of : (k a b : ℕ) → last_digits k (a * 10 ^ k + b) ≡ last_digits k b
unfolding last_digits
last_of zero a b = refl
last_of (suc k) a b =
    let e : a * 10 ^ suc k ≡ a * 10 ^ k * 10 = rw (pow-suc 10 k, ← mul_assoc a (10 ^ k) 10) in
    let d : (a * 10 ^ suc k + b) / 10 ≡ a * 10 ^ k + b / 10 = omega arith in
    let m : (a * 10 ^ suc k + b) % 10 ≡ b % 10 = omega arith in
    rw (d, m, last_of k a (b / 10))

last_by : (k n : ℕ) → last_digits k n ≡ last_digits k (n % 10 ^ k)
last_by k n = rw (div-add-mod' n (10 ^ k)) at (last_of k (n / 10 ^ k) (n % 10 ^ k))

-- a number of so many digits
pub exact : (k n : ℕ) → 10 ^ k ≤ n → n / 10 ^ k < 10 → n < 2 ^ 64 → last_digits (1 + k) n ≡ decimal_text n
exact k n h d l = digits_parts k 1 n ∙ rw (one_digit (n / 10 ^ k) d) (sym (decimal_parts k n h l))

-- ---- How long they are ---------------------------------------------------------------------

pub length_last : (k n : ℕ) → length (last_digits k n) ≡ k
unfolding last_digits
length_last zero n = refl
length_last (suc k) n = simp (length-append, length_last k (n / 10)) (omega arith)

length_within : (f n : ℕ) → length (text_within f n) ≤ suc f
unfolding text_within if◌then◌otherwise◌
length_within zero n = omega arith
length_within (suc f) n =
    by (ltb n 10)
    (λ t. rw t (omega arith))
    (λ e. rw e (simp length-append (omega (arith, length_within f (n / 10)))))

pub length_decimal : (n : ℕ) → length (decimal_text n) ≤ 20
unfolding decimal_text
length_decimal n = length_within 19 n

-- written in two parts
module _ (k n : ℕ) (h : 10 ^ k ≤ n) (l : n < 2 ^ 64) where
  pub rest_fits : length (decimal_text (n / 10 ^ k)) + k ≤ 20
  rest_fits =
      let e = simp (length-append, length_last) at (ap length (decimal_parts k n h l)) in
      omega (arith, e, length_decimal n)

  pub put_more : {x y z : List ℕ} {i j r : ℕ} → Put x y i j (decimal_text (n / 10 ^ k)) →
      Put y z j r (last_digits k (n % 10 ^ k)) → Put x z i r (decimal_text n)
  put_more p q = rw (decimal_parts k n h l, last_by k n) (put_then p q)

pub put_twice : {x y z : List ℕ} {i j r : ℕ} (k n : ℕ) → Put x y i j (last_digits k (n / 10 ^ k)) →
    Put y z j r (last_digits k (n % 10 ^ k)) → Put x z i r (last_digits (k + k) n)
put_twice k n p q = rw (digits_parts k k n, last_by k n) (put_then p q)

-- ---- Signed numbers ------------------------------------------------------------------------

-- what a signed number is after its bits were read back
pub number_is : (z : ℤ) → SFits w64 z → to_z w64 (of_z w64 z) ≡ z
number_is z f = to_z-of_z {w = w64} f

-- the text of 0, of a number below 0 and of another, by the distance from 0
pub zero_text : (z : ℤ) → SFits w64 z → of_z w64 z ≡ 0 → signed_text z ≡ digit 0 ∷ []
unfolding signed_text
zero_text z f e =
    let i : z ≡ pos 0 = sym (number_is z f) ∙ ap (to_z w64) e in
    rw i (sym (last_digit 0 (lit< tt) ∙ one_digit 0 (lit< tt)))

pub below_text : (z : ℤ) → lt_z z (pos 0) ≡ true → signed_text z ≡ MINUS ∷ decimal_text (nat_abs z)
unfolding signed_text
below_text (pos n) b = absurd (omega (arith, ltb-true n 0 b))
below_text (negsuc n) b = refl

pub from_text : (z : ℤ) → lt_z z (pos 0) ≡ false → signed_text z ≡ decimal_text (nat_abs z)
unfolding signed_text
from_text (pos n) b = refl
from_text (negsuc n) b = absurd (true≢false b)

-- -1 - z as the machine has it
abbrev gap : ℤ → ℤ
gap z = to_z w64 (2 ^ 64 - 1) -ℤ to_z w64 (of_z w64 z)

minus_one : to_z w64 (2 ^ 64 - 1) ≡ negsuc 0
minus_one = to_z-neg w64 0 (lit< tt)

-- z below 0 is -1 - n for some n
Below : ℤ → Type 0
Below z = (n : ℕ) × ((z ≡ negsuc n) × (n < 2 ^ 63))

below_is : (z : ℤ) → SFits w64 z → lt_z z (pos 0) ≡ true → Below z
unfolding Below
below_is (pos n) f b = absurd (omega (arith, ltb-true n 0 b))
below_is (negsuc n) f b = (n, (refl, f.sfits))

gap_is : (n : ℕ) → n < 2 ^ 63 → gap (negsuc n) ≡ pos n
gap_is n h =
    rw (minus_one, number_is (negsuc n) (record { sfits = h }), le-ltb (suc n) 1 (omega arith))
    (ap pos (omega arith))

module _ (z : ℤ) (f : SFits w64 z) (b : lt_z z (pos 0) ≡ true) where
  pub gap_fits : SFits w64 (gap z)
  unfolding Below
  gap_fits =
      let s = below_is z f b in
      rw (s.1.0, gap_is s.0 s.1.1) (record { sfits = s.1.1 })

  pub gap_casts :
      T (non_neg (to_z w64 (of_z w64 (gap z)))) × Fits w64 (nat_abs (to_z w64 (of_z w64 (gap z))))
  unfolding Below
  gap_casts =
      let s = below_is z f b in
      rw (s.1.0, gap_is s.0 s.1.1, to_z_pos w64 s.1.1)
      (tt, record { fits = omega (arith, s.1.1) })

  pub gap_sum : nat_abs (to_z w64 (of_z w64 (gap z))) + 1 ≡ nat_abs z
  unfolding Below
  gap_sum =
      let s = below_is z f b in
      rw (s.1.0, gap_is s.0 s.1.1, to_z_pos w64 s.1.1) (omega arith)

pub nonneg : (z : ℤ) → lt_z z (pos 0) ≡ false → T (non_neg z)
nonneg (pos n) b = tt
nonneg (negsuc n) b = absurd (true≢false b)
