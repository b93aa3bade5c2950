-- Which numbers can refuse a guarded call, and what holds of it where it is accepted.
--     Missing N m     if the lookup m finds nothing, N of its number
--     Within N P l    N of each number that can refuse l; if l accepts, P of what it comes to
-- Assumes nothing.
use mathlib.Core.Path.{◌≡◌, refl}
use mathlib.Core.Bool.{Bool, true, false}
use lib.IntN.{ℤ}
use Rattle.laws.specs.Guarded.{Result, found, missing, guard, Guarded, ok, ◌>>=◌, ◌>>◌}
use Rattle.laws.specs.Guarded.{settle}

pub data Missing {A : Type 0} (N : ℤ → Type 0) : Result A → Type 0 where
  found_in : {v : A} → Missing N (found v)
  missing_in : {c : ℤ} → N c → Missing N (missing c)

pub data Within {A : Type 0} (N : ℤ → Type 0) (P : A → Type 0) : Guarded A → Type 1 where
  ok_in : {a : A} → P a → Within N P (ok a)
  guard_in : {c : ℤ} {b : Bool} {l : Guarded A} →
      N c → (b ≡ false → Within N P l) → Within N P (guard c b >> l)
  find_in : {B : Type 0} {m : Result B} {k : B → Guarded A} →
      Missing N m → ((v : B) → m ≡ found v → Within N P (k v)) → Within N P (m >>= k)

pub ruleset within = (ok_in, guard_in, find_in)

-- what holds of each such refusal and of the accepted case holds of the call
pub settle_within : {A : Type 0} {N : ℤ → Type 0} {P : A → Type 0} (f : ℤ → A) (l : Guarded A) →
    ((c : ℤ) → N c → P (f c)) → Within N P l → P (settle f l)
unfolding settle
settle_within f l p (ok_in h) = h
settle_within f l p (guard_in {b = true} n h) = p _ n
settle_within f l p (guard_in {b = false} {l = m} n h) = settle_within f m p (h refl)
settle_within f l p (find_in {m = found v} {k = k} n h) = settle_within f (k v) p (h v refl)
settle_within f l p (find_in {m = missing c} (missing_in n) h) = p c n
