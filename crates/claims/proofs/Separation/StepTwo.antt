-- A call of y in both runs: the same answer with the same fields, and tables that are still
-- related. Assumes `Tree`, which every call keeps.
use Rattle.records.specs.declared.tables.Tables.{Tables}
use Rattle.model.specs.Step.{Call, cmd01, cmd02, cmd03, cmd04, cmd05, cmd06, cmd07, cmd08}
use Rattle.model.specs.Step.{cmd09, cmd0a, cmd0b, cmd0c, cmd0d, cmd0e, cmd0f, cmd10, cmd11}
use Rattle.model.specs.Step.{cmd12, cmd13, cmd14, cmd15, cmd16, cmd17, cmd18, cmd19, cmd1a}
use Rattle.model.specs.Step.{cmd1b, cmd1c, cmd1d, cmd1e, cmd1f, step}
use Rattle.claims.specs.Reachable.{Tree}
use Rattle.claims.specs.Separation.{Trip, Uses}
use Rattle.claims.proofs.Separation.Agree.{Agree}
use Rattle.claims.proofs.Separation.Replied.{Replied}
use Rattle.claims.proofs.Separation.JobCallsTwo.{create_child_two, kill_job_both}
use Rattle.claims.proofs.Separation.JobCallsTwo.{set_policy_basic_two, set_slack_two}
use Rattle.claims.proofs.Separation.JobCallsTwo.{job_information_two, create_process_two}
use Rattle.claims.proofs.Separation.JobCallsTwo.{exit_process_both, kill_process_two}
use Rattle.claims.proofs.Separation.JobCallsTwo.{set_critical_two, check_policy_two}
use Rattle.claims.proofs.Separation.JobCallsTwo.{process_information_two, start_process_two}
use Rattle.claims.proofs.Separation.JobCallsTwo.{create_thread_two}
use Rattle.claims.proofs.Separation.ThreadCallsTwo.{start_thread_two, kill_thread_two}
use Rattle.claims.proofs.Separation.ThreadCallsTwo.{exit_thread_two, thread_information_two}
use Rattle.claims.proofs.Separation.ThreadCallsTwo.{begin_wait_two, poll_wait_two}
use Rattle.claims.proofs.Separation.ThreadCallsTwo.{create_token_two, drop_token_two}
use Rattle.claims.proofs.Separation.ThreadCallsTwo.{suspend_two, resume_two}
use Rattle.claims.proofs.Separation.ExceptionCallsTwo.{set_state_two, set_strategy_two}
use Rattle.claims.proofs.Separation.ExceptionCallsTwo.{get_handle_two, finish_thread_two}
use Rattle.claims.proofs.Separation.ExceptionCallsTwo.{raise_both, close_both, bind_level_two}
use Rattle.claims.proofs.Separation.ExceptionCallsTwo.{hang_up_two}

pub step_two : {x y : Trip} {s t : Tables} → Agree x y s t → Tree s → Tree t →
    (c : Call) → Uses y c →
    Replied x y (step s c) (step t c)
unfolding step
step_two r T U (cmd01 j new) u = create_child_two r j new u.0 u.1
step_two r T U (cmd02 j) u = kill_job_both r j u
step_two r T U (cmd03 j new) u = create_process_two r j new u.0 u.1
step_two r T U (cmd04 p n) u = start_process_two r p u.0 n u.1
step_two r T U (cmd05 p code) u = exit_process_both r p u code
step_two r T U (cmd06 p) u = kill_process_two r p u
step_two r T U (cmd07 p j flag) u = set_critical_two r p u.0 j flag u.1
step_two r T U (cmd08 p new) u = create_thread_two r p u.0 new u.1
step_two r T U (cmd09 n) u = start_thread_two r n u
step_two r T U (cmd0a n) u = kill_thread_two r n u
step_two r T U (cmd0b n) u = exit_thread_two r n u
step_two r T U (cmd0c n) u = finish_thread_two r n u T U
step_two r T U (cmd0d new kind n) u = create_token_two r new kind n u.0 u.1
step_two r T U (cmd0e k) u = drop_token_two r T k u
step_two r T U (cmd0f j option l) u = set_policy_basic_two r j option l u
step_two r T U (cmd10 j amount mode) u = set_slack_two r j _ u
step_two r T U (cmd11 p condition) u = check_policy_two r p u condition
step_two r T U (cmd12 level n) u = bind_level_two r level n u
step_two r T U (cmd13 level n) u = hang_up_two r level n u
step_two r T U (cmd14 n kind) u = raise_both r n u T U kind
step_two r T U (cmd15 n) u = close_both r n u T U
step_two r T U (cmd16 n state) u = set_state_two r n u state
step_two r T U (cmd17 n strategy) u = set_strategy_two r n u strategy
step_two r T U (cmd18 n) u = get_handle_two r n u
step_two r T U (cmd19 n state) u = begin_wait_two r n u state
step_two r T U (cmd1a n ready) u = poll_wait_two r n u ready
step_two r T U (cmd1b j) u = job_information_two r j u
step_two r T U (cmd1c p) u = process_information_two r p u
step_two r T U (cmd1d n) u = thread_information_two r n u
step_two r T U (cmd1e kind n) u = suspend_two r kind n u
step_two r T U (cmd1f kind n) u = resume_two r kind n u
