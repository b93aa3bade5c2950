-- What each call does, in one of the seven ways of `Does`: `does_step`. Assumes nothing.
use mathlib.Core.Path.{refl}
use Rattle.records.specs.declared.tables.Tables.{Tables}
use Rattle.model.specs.Step.{Call, cmd01, cmd02, cmd03, cmd04, cmd05, cmd06, cmd07, cmd08}
use Rattle.model.specs.Step.{cmd09, cmd0a, cmd0b, cmd0c, cmd0d, cmd0e, cmd0f, cmd10, cmd11}
use Rattle.model.specs.Step.{cmd12, cmd13, cmd14, cmd15, cmd16, cmd17, cmd18, cmd19, cmd1a}
use Rattle.model.specs.Step.{cmd1b, cmd1c, cmd1d, cmd1e, cmd1f, step}
use Rattle.claims.specs.Reachable.{Tree}
use Rattle.claims.proofs.Found.{After}
use Rattle.claims.proofs.Does.Ways.{Does}
use Rattle.claims.proofs.Does.JobCalls.{create_child_does, create_process_does}
use Rattle.claims.proofs.Does.JobCalls.{kill_job_call_does, set_policy_basic_does}
use Rattle.claims.proofs.Does.JobCalls.{set_policy_timer_slack_does, job_information_does}
use Rattle.claims.proofs.Does.JobCalls.{start_process_does, exit_process_call_does}
use Rattle.claims.proofs.Does.JobCalls.{kill_process_does, set_critical_at_job_does}
use Rattle.claims.proofs.Does.JobCalls.{check_policy_does, process_information_does}
use Rattle.claims.proofs.Does.ThreadCalls.{create_thread_does, start_thread_does}
use Rattle.claims.proofs.Does.ThreadCalls.{kill_thread_does, exit_thread_does}
use Rattle.claims.proofs.Does.ThreadCalls.{finish_thread_call_does, thread_information_does}
use Rattle.claims.proofs.Does.ThreadCalls.{begin_wait_does, poll_wait_does}
use Rattle.claims.proofs.Does.ThreadCalls.{create_token_call_does, drop_token_call_does}
use Rattle.claims.proofs.Does.ThreadCalls.{suspend_call_does, resume_call_does, bind_level_does}
use Rattle.claims.proofs.Does.ThreadCalls.{hang_up_level_does, raise_exception_does}
use Rattle.claims.proofs.Does.ThreadCalls.{close_exception_does, set_state_does}
use Rattle.claims.proofs.Does.ThreadCalls.{set_strategy_does, get_process_handle_does}
pub mod Ways
pub mod JobCalls
pub mod ThreadCalls

step_does : {t : Tables} → Tree t → (c : Call) → After (Does t c) (step t c)
unfolding step
step_does T (cmd01 j new) = create_child_does T _ j new
step_does T (cmd02 j) = kill_job_call_does T _ j
step_does T (cmd03 j new) = create_process_does T _ j new
step_does T (cmd04 p n) = start_process_does T _ p n
step_does T (cmd05 p code) = exit_process_call_does T _ p code refl
step_does T (cmd06 p) = kill_process_does T _ p
step_does T (cmd07 p j flag) = set_critical_at_job_does T _ p j flag
step_does T (cmd08 p new) = create_thread_does T _ p new
step_does T (cmd09 n) = start_thread_does T _ n
step_does T (cmd0a n) = kill_thread_does T _ n
step_does T (cmd0b n) = exit_thread_does T _ n
step_does T (cmd0c n) = finish_thread_call_does T _ n refl
step_does T (cmd0d new kind n) = create_token_call_does T _ new kind n
step_does T (cmd0e k) = drop_token_call_does T _ k
step_does T (cmd0f j option l) = set_policy_basic_does T _ j option l
step_does T (cmd10 j amount mode) = set_policy_timer_slack_does T _ j _
step_does T (cmd11 p condition) = check_policy_does T _ p condition
step_does T (cmd12 level n) = bind_level_does T _ level n
step_does T (cmd13 level n) = hang_up_level_does T _ level n
step_does T (cmd14 n kind) = raise_exception_does T _ n kind
step_does T (cmd15 n) = close_exception_does T _ n
step_does T (cmd16 n state) = set_state_does T _ n state
step_does T (cmd17 n strategy) = set_strategy_does T _ n strategy
step_does T (cmd18 n) = get_process_handle_does T _ n
step_does T (cmd19 n state) = begin_wait_does T _ n state
step_does T (cmd1a n ready) = poll_wait_does T _ n ready
step_does T (cmd1b j) = job_information_does T _ j
step_does T (cmd1c p) = process_information_does T _ p
step_does T (cmd1d n) = thread_information_does T _ n
step_does T (cmd1e kind n) = suspend_call_does T _ kind n
step_does T (cmd1f kind n) = resume_call_does T _ kind n

pub does_step : (t : Tables) (c : Call) → Tree t → Does t c (step t c).tables
does_step t c T = (step_does T c).tables
