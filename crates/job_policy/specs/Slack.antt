-- Timer slack of a job: an amount of at least 0 and a mode. Follows job_policy.rs.
use Rattle.std.specs.Prelude.{ℕ, ℤ, pos}
use Rattle.std.specs.Int.Signed.{lt_z}
use Rattle.laws.specs.Choice.{if◌then◌otherwise◌}
use Rattle.job_policy.specs.declared.TimerSlack.{TimerSlack}
use Rattle.job_policy.specs.declared.TimerSlackPolicy.{TimerSlackPolicy}

abbrev pub fresh_slack : TimerSlack
fresh_slack = record { amount = pos 0; mode = 0 }

unfoldable pub larger : ℤ → ℤ → ℤ
larger a b = if lt_z a b then b otherwise a

abbrev pub slack_of : ℤ → ℕ → TimerSlack
slack_of amount mode = record { amount = amount; mode = mode }

-- the larger amount, and the new mode
unfoldable pub generate_new : TimerSlack → TimerSlackPolicy → TimerSlack
generate_new s p = slack_of (larger s.amount p.slack) p.mode
