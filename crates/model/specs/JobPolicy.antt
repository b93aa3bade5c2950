-- Policies of jobs and processes in the tables. Follows `set_policy_basic` of job.rs and
-- `check_policy` of process.rs, with what their comments quote of Zircon.
use Rattle.std.specs.Prelude.{Option, Some, None}
use Rattle.std.specs.Prelude.{ℕ, Bool, true, false, not, List, [], ◌∷◌, pos}
use Rattle.laws.specs.Choice.{◌≤?◌, ◌=?◌, ◌or◌, if◌then◌otherwise◌, ite}
use Rattle.error.specs.Numbers.{ALREADY_EXISTS}
use Rattle.job_policy.specs.declared.JobPolicy.{JobPolicy}
use Rattle.job_policy.specs.declared.BasicPolicy.{BasicPolicy}
use Rattle.job_policy.specs.Policy.{get_action, apply, merge, ALLOW, DENY}
use Rattle.records.specs.declared.tables.Tables.{Tables}
use Rattle.reply.specs.declared.Reply.{Reply}
use Rattle.reply.specs.Reply.{answered}
use Rattle.records.specs.Tables.{own_at, inherited_at, put_own}

-- `Job::policy`: the inherited entries win
unfoldable pub policy_of : Tables → ℕ → JobPolicy
policy_of t j = merge (own_at t j) (inherited_at t j)

abbrev pub is_set : Option ℕ → Bool
is_set None = false
is_set (Some a) = true

-- a condition or an action outside its list
unfoldable pub bad_entry : BasicPolicy → Bool
bad_entry b = (15 ≤? b.condition) or (5 ≤? b.action)

-- what a list leaves: the own policy, and whether an entry was refused
pub record Setting : Type 0 where
  pub own : JobPolicy
  pub refused : Bool

abbrev pub setting : JobPolicy → Bool → Setting
setting own refused = record { own = own; refused = refused }

-- entry after entry; where the parent set the condition, Absolute (0) ends there and Relative goes
-- on (M10)
unfoldable pub set_each : ℕ → JobPolicy → JobPolicy → List BasicPolicy → Setting
set_each option inherited own [] = setting own false
set_each option inherited own (b ∷ l) =
    ite (is_set (get_action inherited b.condition))
    (λ _. ite (option =? 0) (λ _. setting own true) λ _. set_each option inherited own l)
    λ _. set_each option inherited (apply own b) l

-- the entries before a refused one stay set: the one refusal that leaves a change
unfoldable pub policy_set : Tables → ℕ → Setting → Reply
policy_set t j s = answered (put_own t j s.own) (if s.refused then ALREADY_EXISTS otherwise pos 0)

unfoldable pub set_policy : Tables → ℕ → ℕ → List BasicPolicy → Reply
set_policy t j option l = policy_set t j (set_each option (inherited_at t j) (own_at t j) l)

-- `check_policy`: what the Rust panics at
unfoldable pub panics_at : Option ℕ → Bool
panics_at None = false
panics_at (Some a) = not ((a =? ALLOW) or (a =? DENY))

unfoldable pub is_denied : Option ℕ → Bool
is_denied None = false
is_denied (Some a) = a =? DENY
