-- The rows of `Cases`, by computation. Assumes nothing.
use mathlib.Core.Path.{refl}
use Rattle.job_policy.proofs.Laws as policy
use Rattle.job_policy.specs.Policy.{get_action, apply, merged_action, merge}
use Rattle.job_policy.specs.Slack.{larger, generate_new}
use Rattle.laws.specs.Choice.{◌and◌, ◌or◌, if◌then◌otherwise◌, ite}
use Rattle.laws.specs.Guarded.{settle}
use Rattle.laws.specs.Lists.{any, zip}
use Rattle.model.specs.Exception.{is_hardware, route_of, owner_of, level_at, put_level_at}
use Rattle.model.specs.Exception.{pass_over, try_at, search_up, from_jobs, from_second_chance}
use Rattle.model.specs.Exception.{from_process, from_thread, from_debugger, first_handler}
use Rattle.model.specs.Exception.{next_handler, unhandled, deliver, raise_exiting, raise}
use Rattle.model.specs.Exception.{close}
use Rattle.model.specs.ExceptionCalls.{bind_level, hang_up_level, raise_exception}
use Rattle.model.specs.ExceptionCalls.{close_exception, set_state, set_strategy}
use Rattle.model.specs.ExceptionCalls.{get_process_handle}
use Rattle.model.specs.Job.{lists_child, lists_process, job_empty, lists_thread, on_parent}
use Rattle.model.specs.Job.{is_above, may_terminate, terminate_up, terminate_job, stop_in}
use Rattle.model.specs.Job.{stop_threads, up_to, is_live_job, is_live_process, kill_child}
use Rattle.model.specs.Job.{exit_member, kill_listed, kill_step, kill_bound, unlist_process}
use Rattle.model.specs.Job.{end_step, exit_listed, exit_step, count, remaining, kill_job}
use Rattle.model.specs.Job.{exit_process, end_process, finish_thread, kill_within, exit_within}
use Rattle.model.specs.JobCalls.{with_child, create_child, kill_job_call, set_policy_basic}
use Rattle.model.specs.JobCalls.{set_policy_timer_slack, job_info, job_information}
use Rattle.model.specs.JobCalls.{with_new_process, create_process, with_started, start_process}
use Rattle.model.specs.JobCalls.{exit_process_call, kill_process, set_critical_at_job, check_policy}
use Rattle.model.specs.JobCalls.{process_info, process_information}
use Rattle.model.specs.JobPolicy.{policy_of, bad_entry, set_each, policy_set, set_policy}
use Rattle.model.specs.JobPolicy.{panics_at, is_denied}
use Rattle.model.specs.Replies.{present, held_exception}
use Rattle.model.specs.Step.{step, answers}
use Rattle.model.specs.SuspendToken.{some_at, change_in, change_task, suspend_task, resume_task}
use Rattle.model.specs.SuspendToken.{create_token, drop_token}
use Rattle.model.specs.ThreadCalls.{create_thread, start_thread, kill_thread, exit_thread}
use Rattle.model.specs.ThreadCalls.{finish_thread_call, thread_info, thread_information}
use Rattle.model.specs.ThreadCalls.{is_wait_state, wait_begun, begin_wait, wait_answer}
use Rattle.model.specs.ThreadCalls.{wait_polled, poll_wait, create_token_call, drop_token_call}
use Rattle.model.specs.ThreadCalls.{suspend_call, resume_call}
use Rattle.records.specs.Owners.{owners_of, process_level, job_level, level_of_thread, level_of_process}
use Rattle.records.specs.Owners.{level_of_job, found_level, put_level, tasks_of, as_task}
use Rattle.records.specs.Owners.{found_task}
use Rattle.record_job.specs.Job.{child_of}
use Rattle.record_process.specs.Process.{ended, acts, member_of}
use Rattle.record_thread.specs.Thread.{hides, shown_state, is_live, is_free, thread_of, kill, exit}
use Rattle.record_thread.specs.Thread.{suspend, resume, end_wait}
use Rattle.record_token.specs.SuspendToken.{kind_of}
use Rattle.reply.specs.Reply.{reply, answered}
use Rattle.records.specs.Tables.{fresh_tables, job_at, own_at, inherited_at, process_at, fixed_at}
use Rattle.records.specs.Tables.{thread_at, token_at, found_job, found_process, found_thread}
use Rattle.records.specs.Tables.{found_token, put_job, put_own, put_inherited, put_process, put_fixed}
use Rattle.records.specs.Tables.{put_thread, put_token}
use Rattle.model.specs.Cases.{Run, Cases}

pub cases : Cases
unfolding Run get_action apply merged_action merge larger generate_new ◌and◌ ◌or◌ if◌then◌otherwise◌ ite settle any
    zip is_hardware route_of owner_of level_at put_level_at pass_over try_at search_up from_jobs from_second_chance
    from_process from_thread from_debugger first_handler next_handler unhandled deliver raise_exiting raise close
    bind_level hang_up_level raise_exception close_exception set_state set_strategy get_process_handle lists_child
    lists_process job_empty lists_thread on_parent is_above may_terminate terminate_up terminate_job stop_in
    stop_threads up_to is_live_job is_live_process kill_child exit_member kill_listed kill_step kill_bound
    unlist_process end_step exit_listed exit_step count remaining kill_job exit_process end_process finish_thread
    kill_within exit_within with_child create_child kill_job_call set_policy_basic set_policy_timer_slack job_info
    job_information with_new_process create_process with_started start_process exit_process_call kill_process
    set_critical_at_job check_policy process_info process_information policy_of bad_entry set_each policy_set
    set_policy panics_at is_denied present held_exception step
    answers some_at change_in change_task suspend_task resume_task create_token drop_token create_thread start_thread
    kill_thread exit_thread finish_thread_call thread_info thread_information is_wait_state wait_begun begin_wait
    wait_answer wait_polled poll_wait create_token_call drop_token_call suspend_call resume_call owners_of
    process_level job_level level_of_thread level_of_process level_of_job found_level put_level tasks_of as_task
    found_task child_of ended acts member_of hides shown_state is_live is_free thread_of kill
    exit suspend resume end_wait reply answered fresh_tables job_at own_at inherited_at process_at fixed_at thread_at
    token_at found_job found_process found_thread found_token put_job put_own put_inherited put_process put_fixed
    put_thread put_token kind_of
cases =
    record {
      m1 = (policy.cases).m1;
      m2 = (policy.cases).m2;
      m3 = refl;
      m4 = refl;
      m5 = refl;
      m6 = refl;
      m7 = refl;
      m8 = refl;
      m9 = refl;
      m10 = refl;
      m11 = refl;
      m12 = refl;
      listing = refl;
      dying_shown = refl;
      binding_followed = refl;
      code_kept = refl;
      second_late = refl;
      listed_late = refl;
      own_threads = refl;
      killed_code = refl;
      unhandled_code = refl;
      raised_once = refl;
    }
