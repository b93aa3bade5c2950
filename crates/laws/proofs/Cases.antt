-- What holds of a guarded call, guard by guard; a refusal takes no line.
--     Every P l      if l accepts, P of what it comes to
--     Both R l m     both are refused with one number, or both accept and R of what they come to
--     ite_on, if_on, ite_two, if_two    the same for a choice
-- Assumes nothing.
use mathlib.Core.Path.{◌≡◌, refl, sym, ◌∙◌, subst}
use mathlib.Core.Bool.{Bool, true, false, true≢false}
use lib.IntN.{ℤ}
use Rattle.laws.specs.Choice.{◌and◌, if◌then◌otherwise◌, ite}
use Rattle.laws.specs.Guarded.{Result, found, missing, guard, Guarded, ok, ◌>>=◌, ◌>>◌}
use Rattle.laws.specs.Guarded.{settle}

-- ---- One run -------------------------------------------------------------------------------

pub data Every {A : Type 0} (P : A → Type 0) : Guarded A → Type 1 where
  ok_on : {a : A} → P a → Every P (ok a)
  guard_on : {c : ℤ} {b : Bool} {l : Guarded A} → (b ≡ false → Every P l) → Every P (guard c b >> l)
  find_on : {B : Type 0} {m : Result B} {k : B → Guarded A} →
      ((v : B) → m ≡ found v → Every P (k v)) → Every P (m >>= k)

pub ruleset guards = (ok_on, guard_on, find_on)

pub every_map : {A : Type 0} {P Q : A → Type 0} {l : Guarded A} →
    ((a : A) → P a → Q a) → Every P l → Every Q l
every_map f (ok_on h) = ok_on (f _ h)
every_map f (guard_on h) = guard_on λ e. every_map f (h e)
every_map f (find_on h) = find_on λ v e. every_map f (h v e)

-- what holds of each refusal and of the accepted case holds of the call
pub settle_on : {A : Type 0} {P : A → Type 0} (f : ℤ → A) (l : Guarded A) →
    ((c : ℤ) → P (f c)) → Every P l → P (settle f l)
unfolding settle
settle_on f l p (ok_on h) = h
settle_on f l p (guard_on {b = true} h) = p _
settle_on f l p (guard_on {b = false} {l = m} h) = settle_on f m p (h refl)
settle_on f l p (find_on {m = found v} {k = k} h) = settle_on f (k v) p (h v refl)
settle_on f l p (find_on {m = missing c} h) = p c

-- ---- Two runs ------------------------------------------------------------------------------

-- two lookups that agree
pub data Same {X Y : Type 0} (S : X → Y → Type 0) : Result X → Result Y → Type 0 where
  found_two : {v : X} {w : Y} → S v w → Same S (found v) (found w)
  missing_two : {c : ℤ} → Same S (missing c) (missing c)

pub data Both {A B : Type 0} (R : A → B → Type 0) : Guarded A → Guarded B → Type 1 where
  ok_two : {a : A} {b : B} → R a b → Both R (ok a) (ok b)
  guard_two : {c : ℤ} {b d : Bool} {l : Guarded A} {m : Guarded B} →
      b ≡ d → (b ≡ false → d ≡ false → Both R l m) → Both R (guard c b >> l) (guard c d >> m)
  find_two : {X Y : Type 0} {S : X → Y → Type 0} {m : Result X} {n : Result Y}
      {k : X → Guarded A} {j : Y → Guarded B} → Same S m n →
      ((v : X) (w : Y) → m ≡ found v → n ≡ found w → S v w → Both R (k v) (j w)) → Both R (m >>= k) (n >>= j)
  find_one : {X : Type 0} {m : Result X} {k : X → Guarded A} {j : X → Guarded B} →
      ((v : X) → m ≡ found v → Both R (k v) (j v)) → Both R (m >>= k) (m >>= j)

-- two lookups that give the very same
pub find_same : {A B X : Type 0} {R : A → B → Type 0} {m n : Result X} {k : X → Guarded A} {j : X → Guarded B} →
    m ≡ n → ((v : X) → m ≡ found v → Both R (k v) (j v)) → Both R (m >>= k) (n >>= j)
find_same {X = X} {R = R} {m = m} {k = k} {j = j} e h =
    subst (λ (n : Result X). Both R (m >>= k) (n >>= j)) e (find_one h)

pub no_both {ℓ} : {P : Type ℓ} {b : Bool} → b ≡ true → b ≡ false → P
no_both p q = absurd (true≢false (sym p ∙ q))

pub settle_two : {A B : Type 0} {R : A → B → Type 0} (f : ℤ → A) (g : ℤ → B) (l : Guarded A) (m : Guarded B) →
    ((c : ℤ) → R (f c) (g c)) → Both R l m → R (settle f l) (settle g m)
unfolding settle
settle_two f g l m r (ok_two h) = h
settle_two f g l m r (guard_two {b = true} {d = true} e h) = r _
settle_two f g l m r (guard_two {b = true} {d = false} e h) = no_both refl e
settle_two f g l m r (guard_two {b = false} {d = true} e h) = no_both e refl
settle_two f g l m r (guard_two {b = false} {d = false} {l = l₁} {m = m₁} e h) = settle_two f g l₁ m₁ r (h refl refl)
settle_two f g l m r (find_two {k = k} {j = j} (found_two {v = v} {w = w} s) h) =
    settle_two f g (k v) (j w) r (h v w refl refl s)
settle_two f g l m r (find_two (missing_two {c = c}) h) = r c
settle_two f g l m r (find_one {m = found v} {k = k} {j = j} h) = settle_two f g (k v) (j v) r (h v refl)
settle_two f g l m r (find_one {m = missing c} h) = r c

-- ---- Choices -------------------------------------------------------------------------------

pub by {ℓ} : {P : Type ℓ} (b : Bool) → (b ≡ true → P) → (b ≡ false → P) → P
by true p q = p refl
by false p q = q refl

pub ite_on {ℓ} : {A : Type 0} (P : A → Type ℓ) (b : Bool) (x y : Unit {0} → A) →
    (b ≡ true → P (x tt)) → (b ≡ false → P (y tt)) → P (ite b x y)
unfolding ite
ite_on P true x y p q = p refl
ite_on P false x y p q = q refl

pub if_on {ℓ} : {A : Type 0} (P : A → Type ℓ) (b : Bool) (x y : A) →
    (b ≡ true → P x) → (b ≡ false → P y) → P (if b then x otherwise y)
unfolding if◌then◌otherwise◌
if_on P true x y p q = p refl
if_on P false x y p q = q refl

pub ite_two {ℓ} : {A : Type 0} (R : A → A → Type ℓ) (b c : Bool) (x y z w : Unit {0} → A) → b ≡ c
    → (b ≡ true → c ≡ true → R (x tt) (z tt)) → (b ≡ false → c ≡ false → R (y tt) (w tt))
    → R (ite b x y) (ite c z w)
unfolding ite
ite_two R true true x y z w e p q = p refl refl
ite_two R true false x y z w e p q = no_both refl e
ite_two R false true x y z w e p q = no_both e refl
ite_two R false false x y z w e p q = q refl refl

pub if_two {ℓ} : {A : Type 0} (R : A → A → Type ℓ) (b c : Bool) (x y z w : A) → b ≡ c
    → (b ≡ true → c ≡ true → R x z) → (b ≡ false → c ≡ false → R y w)
    → R (if b then x otherwise y) (if c then z otherwise w)
unfolding if◌then◌otherwise◌
if_two R true true x y z w e p q = p refl refl
if_two R true false x y z w e p q = no_both refl e
if_two R false true x y z w e p q = no_both e refl
if_two R false false x y z w e p q = q refl refl

-- a conjunction taken apart, and put together
pub and_left : (b c : Bool) → b and c ≡ true → b ≡ true
unfolding ◌and◌
and_left true c e = refl
and_left false c e = absurd (true≢false (sym e))

pub and_right : (b c : Bool) → b and c ≡ true → c ≡ true
unfolding ◌and◌
and_right true c e = e
and_right false c e = absurd (true≢false (sym e))

pub and_true : {b c : Bool} → b ≡ true → c ≡ true → b and c ≡ true
unfolding ◌and◌
and_true p q = rw (p, q)

pub and_false : (b : Bool) {c : Bool} → c ≡ false → b and c ≡ false
unfolding ◌and◌
and_false true q = q
and_false false q = refl
