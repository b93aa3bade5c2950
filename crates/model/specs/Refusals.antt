-- A refused call changes no record. The one exception is `0f` with -26: just the entries before
-- the refused one are set.
use Rattle.std.specs.Prelude.{ℕ, suc, ◌≡◌, Bool, true, false, not, List, [], ◌∷◌, ◌++◌, ℤ, pos, negsuc}
use Rattle.laws.specs.Choice.{◌<?◌, ◌=?◌, ◌or◌}
use Rattle.laws.specs.Lists.{any}
use Rattle.error.specs.Numbers.{ALREADY_EXISTS}
use Rattle.job_policy.specs.declared.JobPolicy.{JobPolicy}
use Rattle.job_policy.specs.declared.BasicPolicy.{BasicPolicy}
use Rattle.job_policy.specs.Policy.{get_action, apply}
use Rattle.records.specs.declared.tables.Tables.{Tables}
use Rattle.records.specs.Tables.{own_at, inherited_at, put_own}
use Rattle.model.specs.JobPolicy.{is_set}
use Rattle.model.specs.Step.{Call, cmd0f, step}

-- -21, -22, -23, -60 and -61 are outcomes
abbrev pub is_outcome : ℕ → Bool
is_outcome n = (n =? 21) or (n =? 22) or (n =? 23) or (n =? 60) or (n =? 61)

-- a number above 100, or a negative one that is no outcome
abbrev pub is_refusal : ℤ → Bool
is_refusal (pos n) = 100 <? n
is_refusal (negsuc n) = not (is_outcome (suc n))

unfoldable pub apply_all : JobPolicy → List BasicPolicy → JobPolicy
apply_all own [] = own
apply_all own (b ∷ l) = apply_all (apply own b) l

-- set by the parent
abbrev pub inherits : Tables → ℕ → BasicPolicy → Bool
inherits t j b = is_set (get_action (inherited_at t j) b.condition)

-- the list met an entry that the parent has set: the entries before it are set, and nothing else
pub record PartSet (t : Tables) (j : ℕ) (l : List BasicPolicy) (u : Tables) : Type 0 where
  pub before : List BasicPolicy
  pub met : BasicPolicy
  pub after : List BasicPolicy
  pub list : l ≡ before ++ met ∷ after
  pub free : any (inherits t j) before ≡ false
  pub taken : inherits t j met ≡ true
  pub own : u ≡ put_own t j (apply_all (own_at t j) before)

-- the tables after a refused call
pub data Kept (t : Tables) : Call → ℤ → Tables → Type 0 where
  same : {c : Call} {answer : ℤ} → Kept t c answer t
  part : {j option : ℕ} {l : List BasicPolicy} {u : Tables} → PartSet t j l u →
      Kept t (cmd0f j option l) ALREADY_EXISTS u

unfoldable pub Refusals : Type 0
Refusals =
    (t : Tables) (c : Call) → is_refusal (step t c).answer ≡ true →
    Kept t c (step t c).answer (step t c).tables
