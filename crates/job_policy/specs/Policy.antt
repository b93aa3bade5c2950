-- A job's policy: fifteen entries, 0 for none and a + 1 for the action a. Follows job_policy.rs. A condition of 15
-- or more has no entry, and an action of 5 or more is no action: nothing is set.
use Rattle.std.specs.Prelude.{Option, Some, None}
use Rattle.std.specs.Prelude.{ℕ, ◌+◌, ◌-◌, ◌<◌, ◌≡◌, get_or, set, replicate}
use Rattle.laws.specs.Choice.{◌≤?◌, ◌=?◌, if◌then◌otherwise◌}
use Rattle.laws.specs.Lists.{zip}
use Rattle.job_policy.specs.declared.JobPolicy.{JobPolicy}
use Rattle.job_policy.specs.declared.BasicPolicy.{BasicPolicy}

abbrev pub no_policy : JobPolicy
no_policy = record { action = replicate 15 0 }

unfoldable pub get_action : JobPolicy → ℕ → Option ℕ
get_action p condition =
    let entry = get_or p.action condition 0 in
    if 15 ≤? condition then None otherwise
    if entry =? 0 then None otherwise
    Some (entry - 1)

unfoldable pub apply : JobPolicy → BasicPolicy → JobPolicy
apply p b =
    if 15 ≤? b.condition then p otherwise
    if 5 ≤? b.action then p otherwise
    record { action = set p.action b.condition (b.action + 1) }

unfoldable pub merged_action : ℕ → ℕ → ℕ
merged_action own parent = if parent =? 0 then own otherwise parent

unfoldable pub merge : JobPolicy → JobPolicy → JobPolicy
merge own parent = record { action = zip merged_action own.action parent.action }

-- ---- Cases of document 01 ------------------------------------------------------------------

abbrev pub ALLOW : ℕ
ALLOW = 0

abbrev pub DENY : ℕ
DENY = 1

-- M1: own Allow under a parent's Deny is Deny
unfoldable pub M1 : Type 0
M1 =
    (own parent : JobPolicy) (c : ℕ) →
    get_action own c ≡ Some ALLOW → get_action parent c ≡ Some DENY →
    get_action (merge own parent) c ≡ Some DENY

-- M2: of two entries for one condition the later is kept
unfoldable pub M2 : Type 0
M2 =
    (p : JobPolicy) (c a b : ℕ) → b < 5 →
    apply (apply p (record { condition = c; action = a })) (record { condition = c; action = b })
    ≡ apply p (record { condition = c; action = b })

pub record Cases : Type 0 where
  pub m1 : M1
  pub m2 : M2
