-- How the definition of a call is written: guards in the order of document 01's table, and one
-- effect at the foot.
--     refuse 104 when b       the call ends with 104 if b holds, and goes on if not
--     deny BAD_STATE when b   the same, with a number of error.rs
--     x ← lookup              the call ends with the lookup's number, or goes on with the record x
--     ok r                    the call is accepted, and comes to r
-- Nothing but `ok` says what becomes of the records: a refusal holds a number and nothing else.
use Rattle.std.specs.Prelude.{ℕ, Bool, true, false, ℤ, pos}

-- what a lookup gives: a record, or the number with which the call is refused
pub data Result (A : Type 0) : Type 0 where
  found : A → Result A
  missing : ℤ → Result A

-- refused with this number if this holds
pub data Guard : Type 0 where
  guard : ℤ → Bool → Guard

infixl 20 ◌>>◌
infixl 20 ◌>>=◌
pub data Guarded (A : Type 0) : Type 1 where
  ok : A → Guarded A
  ◌>>◌ : Guard → Guarded A → Guarded A
  ◌>>=◌ : {B : Type 0} → Result B → (B → Guarded A) → Guarded A

-- what a call comes to: the value at its foot, or what f makes of the number that refused it
unfoldable pub settle : {A : Type 0} → (ℤ → A) → Guarded A → A
settle f (ok a) = a
settle f (◌>>◌ (guard c true) l) = f c
settle f (◌>>◌ (guard c false) l) = settle f l
settle f (◌>>=◌ (found v) k) = settle f (k v)
settle f (◌>>=◌ (missing c) k) = f c

infix 25 refuse◌when◌
abbrev pub refuse◌when◌ : ℕ → Bool → Guard
refuse n when b = guard (pos n) b

infix 25 deny◌when◌
abbrev pub deny◌when◌ : ℤ → Bool → Guard
deny c when b = guard c b
