-- A call of x in one run: the tables that it leaves are still related to the other run's. Assumes
-- `Tree`, which every call keeps.
use Rattle.records.specs.declared.tables.Tables.{Tables}
use Rattle.model.specs.Step.{Call, cmd01, cmd02, cmd03, cmd04, cmd05, cmd06, cmd07, cmd08}
use Rattle.model.specs.Step.{cmd09, cmd0a, cmd0b, cmd0c, cmd0d, cmd0e, cmd0f, cmd10, cmd11}
use Rattle.model.specs.Step.{cmd12, cmd13, cmd14, cmd15, cmd16, cmd17, cmd18, cmd19, cmd1a}
use Rattle.model.specs.Step.{cmd1b, cmd1c, cmd1d, cmd1e, cmd1f, step}
use Rattle.claims.specs.Reachable.{Tree}
use Rattle.claims.specs.Separation.{Trip, Uses}
use Rattle.claims.proofs.Separation.Agree.{Agree}
use Rattle.claims.proofs.Separation.SearchOne.{Left}
use Rattle.claims.proofs.Separation.JobCallsOne.{create_child_one, kill_job_left}
use Rattle.claims.proofs.Separation.JobCallsOne.{set_policy_basic_one, set_slack_one}
use Rattle.claims.proofs.Separation.JobCallsOne.{job_information_one, create_process_one}
use Rattle.claims.proofs.Separation.JobCallsOne.{start_process_one, exit_process_left}
use Rattle.claims.proofs.Separation.JobCallsOne.{kill_process_one, set_critical_one}
use Rattle.claims.proofs.Separation.JobCallsOne.{check_policy_one, process_information_one}
use Rattle.claims.proofs.Separation.ThreadCallsOne.{create_thread_one, start_thread_one}
use Rattle.claims.proofs.Separation.ThreadCallsOne.{kill_thread_one, exit_thread_one}
use Rattle.claims.proofs.Separation.ThreadCallsOne.{thread_information_one, begin_wait_one}
use Rattle.claims.proofs.Separation.ThreadCallsOne.{poll_wait_one, create_token_one}
use Rattle.claims.proofs.Separation.ThreadCallsOne.{drop_token_one, suspend_one, resume_one}
use Rattle.claims.proofs.Separation.ExceptionCallsOne.{bind_level_one, hang_up_one}
use Rattle.claims.proofs.Separation.ExceptionCallsOne.{set_state_one, set_strategy_one}
use Rattle.claims.proofs.Separation.ExceptionCallsOne.{get_handle_one, finish_thread_one}
use Rattle.claims.proofs.Separation.ExceptionCallsOne.{raise_left, close_left}

pub step_one : {x y : Trip} {s t : Tables} → Agree x y s t → Tree s → (c : Call) → Uses x c →
    Left x y t (step s c)
unfolding step
step_one r T (cmd01 j new) u = create_child_one r j new u.0 u.1
step_one r T (cmd02 j) u = kill_job_left r j u
step_one r T (cmd03 j new) u = create_process_one r j new u.0 u.1
step_one r T (cmd04 p n) u = start_process_one r p n u.0 u.1
step_one r T (cmd05 p code) u = exit_process_left r p code u
step_one r T (cmd06 p) u = kill_process_one r p u
step_one r T (cmd07 p j flag) u = set_critical_one r p j flag u.0 u.1
step_one r T (cmd08 p new) u = create_thread_one r p new u.0 u.1
step_one r T (cmd09 n) u = start_thread_one r n u
step_one r T (cmd0a n) u = kill_thread_one r n u
step_one r T (cmd0b n) u = exit_thread_one r n u
step_one r T (cmd0c n) u = finish_thread_one r T n u
step_one r T (cmd0d new kind n) u = create_token_one r new kind n u.0 u.1
step_one r T (cmd0e k) u = drop_token_one r T k u
step_one r T (cmd0f j option l) u = set_policy_basic_one r j option l u
step_one r T (cmd10 j amount mode) u = set_slack_one r j _ u
step_one r T (cmd11 p condition) u = check_policy_one r p condition
step_one r T (cmd12 level n) u = bind_level_one r level n u
step_one r T (cmd13 level n) u = hang_up_one r level n u
step_one r T (cmd14 n kind) u = raise_left r T n kind u
step_one r T (cmd15 n) u = close_left r T n u
step_one r T (cmd16 n state) u = set_state_one r n state u
step_one r T (cmd17 n strategy) u = set_strategy_one r n strategy u
step_one r T (cmd18 n) u = get_handle_one r n
step_one r T (cmd19 n state) u = begin_wait_one r n state u
step_one r T (cmd1a n ready) u = poll_wait_one r n ready u
step_one r T (cmd1b j) u = job_information_one r j
step_one r T (cmd1c p) u = process_information_one r p
step_one r T (cmd1d n) u = thread_information_one r n
step_one r T (cmd1e kind n) u = suspend_one r kind n u
step_one r T (cmd1f kind n) u = resume_one r kind n u
