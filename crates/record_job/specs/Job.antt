-- The record of a job. Follows job.rs.
use Rattle.std.specs.Prelude.{Option, Some, None}
use Rattle.std.specs.Prelude.{ℕ, Bool, true, false}
use Rattle.laws.specs.Choice.{◌=?◌, ◌and◌, if◌then◌otherwise◌}
use Rattle.job_policy.specs.Slack.{fresh_slack}
use Rattle.job_policy.specs.declared.TimerSlack.{TimerSlack}
use Rattle.record_exception.specs.declared.Level.{Level}
use Rattle.record_exception.specs.declared.Level.TheVariants.{Unbound, Shut}
use Rattle.record_job.specs.declared.Job.{Job}

-- never made
abbrev pub no_job : Job
no_job =
    record {
      made = false;
      listed = false;
      killed = false;
      terminated = false;
      parent = None;
      level4 = Unbound;
      level5 = Unbound;
      slack = fresh_slack;
    }

-- the fresh root: no list has it
abbrev pub root_job : Job
root_job =
    record {
      made = true;
      listed = false;
      killed = false;
      terminated = false;
      parent = None;
      level4 = Unbound;
      level5 = Unbound;
      slack = fresh_slack;
    }

-- just made below a job
abbrev pub new_job : ℕ → Job
new_job parent =
    record {
      made = true;
      listed = true;
      killed = false;
      terminated = false;
      parent = Some parent;
      level4 = Unbound;
      level5 = Unbound;
      slack = fresh_slack;
    }

abbrev pub killed : Job → Job
killed v =
    record {
      made = v.made;
      listed = v.listed;
      killed = true;
      terminated = v.terminated;
      parent = v.parent;
      level4 = v.level4;
      level5 = v.level5;
      slack = v.slack;
    }

-- a killed job that lists nothing more: levels 4 and 5 are shut, and it leaves its parent's list
abbrev pub terminated : Job → Job
terminated v =
    record {
      made = v.made;
      listed = false;
      killed = v.killed;
      terminated = true;
      parent = v.parent;
      level4 = Shut;
      level5 = Shut;
      slack = v.slack;
    }

abbrev pub with_slack : Job → TimerSlack → Job
with_slack v s =
    record {
      made = v.made;
      listed = v.listed;
      killed = v.killed;
      terminated = v.terminated;
      parent = v.parent;
      level4 = v.level4;
      level5 = v.level5;
      slack = s;
    }

abbrev pub with_level4 : Job → Level → Job
with_level4 v l =
    record {
      made = v.made;
      listed = v.listed;
      killed = v.killed;
      terminated = v.terminated;
      parent = v.parent;
      level4 = l;
      level5 = v.level5;
      slack = v.slack;
    }

abbrev pub with_level5 : Job → Level → Job
with_level5 v l =
    record {
      made = v.made;
      listed = v.listed;
      killed = v.killed;
      terminated = v.terminated;
      parent = v.parent;
      level4 = v.level4;
      level5 = l;
      slack = v.slack;
    }

abbrev pub is_parent : Option ℕ → ℕ → Bool
is_parent None j = false
is_parent (Some p) j = p =? j

-- on the list of job j
unfoldable pub child_of : Job → ℕ → Bool
child_of v j = v.listed and is_parent v.parent j

-- ---- Looking up a name ---------------------------------------------------------------------

-- a made job, or none
unfoldable pub found_job_in : Job → Option Job
found_job_in v = if v.made then Some v otherwise None
