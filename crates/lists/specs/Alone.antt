-- A job whose kill stays with its own record: it lists nothing, and no killed job lists it.
use Rattle.std.specs.Prelude.{Option, Some, None}
use Rattle.std.specs.Prelude.{ℕ, Bool, false, not, List, get_or}
use Rattle.laws.specs.Choice.{◌and◌}
use Rattle.laws.specs.Lists.{any}
use Rattle.record_job.specs.declared.Job.{Job}
use Rattle.record_job.specs.Job.{no_job, child_of}
use Rattle.record_process.specs.declared.Process.{Process}
use Rattle.record_process.specs.Process.{member_of}

abbrev pub below_killed : List Job → Option ℕ → Bool
below_killed jobs None = false
below_killed jobs (Some p) = (get_or jobs p no_job).killed

unfoldable pub kills_alone : List Job → List Process → ℕ → Bool
kills_alone jobs processes j =
    (not (any (λ v. child_of v j) jobs) and not (any (λ q. member_of q j) processes))
    and not (below_killed jobs (get_or jobs j no_job).parent)
