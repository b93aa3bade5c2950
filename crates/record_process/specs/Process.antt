-- The record of a process. Follows process.rs.
use Rattle.std.specs.Prelude.{Option, Some, None}
use Rattle.std.specs.Prelude.{ℕ, Bool, true, false, not, ℤ, pos}
use Rattle.laws.specs.Choice.{◌=?◌, ◌and◌, is_zero, minus, if◌then◌otherwise◌}
use Rattle.record_exception.specs.declared.Level.{Level}
use Rattle.record_exception.specs.declared.Level.TheVariants.{Unbound, Shut}
use Rattle.record_process.specs.declared.Status.{Status}
use Rattle.record_process.specs.declared.Status.TheVariants.{Init, Running, Exited}
use Rattle.record_process.specs.declared.Critical.{Critical}
use Rattle.record_process.specs.declared.Process.{Process}

-- the code of a killed process, TASK_RETCODE_SYSCALL_KILL
abbrev pub KILL_CODE : ℤ
KILL_CODE = minus 1028

-- never made
abbrev pub no_process : Process
no_process =
    record {
      made = false;
      listed = false;
      terminated = false;
      job = 0;
      status = Init;
      critical = None;
      level1 = Unbound;
      level3 = Unbound;
    }

-- just made in a job
abbrev pub new_process : ℕ → Process
new_process j =
    record {
      made = true;
      listed = true;
      terminated = false;
      job = j;
      status = Init;
      critical = None;
      level1 = Unbound;
      level3 = Unbound;
    }

abbrev pub is_init : Status → Bool
is_init Init = true
is_init Running = false
is_init (Exited code) = false

abbrev pub is_exited : Status → Bool
is_exited Init = false
is_exited Running = false
is_exited (Exited code) = true

-- the code, 0 unless Exited
abbrev pub code_of : Status → ℤ
code_of Init = pos 0
code_of Running = pos 0
code_of (Exited code) = code

abbrev pub with_status : Process → Status → Process
with_status q s =
    record {
      made = q.made;
      listed = q.listed;
      terminated = q.terminated;
      job = q.job;
      status = s;
      critical = q.critical;
      level1 = q.level1;
      level3 = q.level3;
    }

-- ended with a code: both channels are shut, and it leaves its job's list
abbrev pub ended_with : Process → ℤ → Process
ended_with q code =
    record {
      made = q.made;
      listed = false;
      terminated = true;
      job = q.job;
      status = Exited code;
      critical = q.critical;
      level1 = Shut;
      level3 = Shut;
    }

-- the code is that of its exit, or 0 where it never exited (M7)
unfoldable pub ended : Process → Process
ended q = ended_with q (code_of q.status)

abbrev pub is_critical : Option Critical → Bool
is_critical None = false
is_critical (Some b) = true

abbrev pub critical_to : ℕ → Bool → Option Critical
critical_to j nonzero = Some (record { job = j; nonzero = nonzero })

-- bound critical to job j
abbrev pub bind_to : Process → ℕ → Bool → Process
bind_to q j nonzero =
    record {
      made = q.made;
      listed = q.listed;
      terminated = q.terminated;
      job = q.job;
      status = q.status;
      critical = critical_to j nonzero;
      level1 = q.level1;
      level3 = q.level3;
    }

-- whether a binding acts at the end of a process with this code
unfoldable pub acts : Bool → ℤ → Bool
acts true code = not (is_zero code)
acts false code = true

abbrev pub with_level1 : Process → Level → Process
with_level1 q l =
    record {
      made = q.made;
      listed = q.listed;
      terminated = q.terminated;
      job = q.job;
      status = q.status;
      critical = q.critical;
      level1 = l;
      level3 = q.level3;
    }

abbrev pub with_level3 : Process → Level → Process
with_level3 q l =
    record {
      made = q.made;
      listed = q.listed;
      terminated = q.terminated;
      job = q.job;
      status = q.status;
      critical = q.critical;
      level1 = q.level1;
      level3 = l;
    }

-- on the list of job j
unfoldable pub member_of : Process → ℕ → Bool
member_of q j = q.listed and (q.job =? j)

-- ---- Looking up a name ---------------------------------------------------------------------

-- a made process, or none
unfoldable pub found_process_in : Process → Option Process
found_process_in q = if q.made then Some q otherwise None
