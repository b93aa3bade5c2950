-- The rows of `SeparationRows`, by computation. Assumes nothing.
use Rattle.std.proofs.Common.{Option, None}
use Rattle.std.proofs.lemmas.Option.{none-some}
use Prim.Native.Nat.{ℕ, zero, suc}
use mathlib.Core.Path.{◌≡◌, refl, sym, ap, ◌∙◌, subst}
use mathlib.Core.Bool.{Bool, true, false}
use mathlib.Core.List.{List, [], ◌∷◌}
use lib.ListN.{replicate}
use borrow.Author.Tests.{eqb-true, eq-eqb}
use Rattle.laws.proofs.Cases.{no_both}
use Rattle.laws.proofs.Counts.{none_at}
use Rattle.record_job.specs.declared.Job.{Job}
use Rattle.record_job.specs.Job.{no_job, is_parent, child_of}
use Rattle.record_process.specs.declared.Process.{Process}
use Rattle.record_process.specs.Process.{no_process, ended, acts, member_of}
use Rattle.record_thread.specs.declared.Thread.{Thread}
use Rattle.record_thread.specs.Thread.{no_thread, hides, shown_state, is_live, is_free, thread_of, kill}
use Rattle.record_thread.specs.Thread.{exit, suspend, resume, end_wait}
use Rattle.record_token.specs.declared.SuspendToken.{SuspendToken}
use Rattle.record_token.specs.SuspendToken.{no_token, kind_of}
use Rattle.records.specs.declared.tables.Tables.{Tables}
use Rattle.reply.specs.declared.Fields.{Fields}
use Rattle.reply.specs.declared.Fields.TheVariants.{NoFields, OwnerField, JobFields}
use Rattle.reply.specs.declared.Fields.TheVariants.{ProcessFields, ThreadFields}
use Rattle.job_policy.specs.Policy.{get_action, apply, merged_action, merge}
use Rattle.job_policy.specs.Slack.{larger, generate_new}
use Rattle.laws.specs.Choice.{◌and◌, ◌or◌, if◌then◌otherwise◌, ite, ◌=?◌}
use Rattle.laws.specs.Guarded.{settle}
use Rattle.laws.specs.Lists.{any, zip}
use Rattle.model.specs.Exception.{is_hardware, route_of, owner_of, level_at, put_level_at}
use Rattle.model.specs.Exception.{pass_over, try_at, search_up, from_jobs, from_second_chance}
use Rattle.model.specs.Exception.{from_process, from_thread, from_debugger, first_handler}
use Rattle.model.specs.Exception.{next_handler, unhandled, deliver, raise_exiting, raise}
use Rattle.model.specs.Exception.{close}
use Rattle.model.specs.ExceptionCalls.{bind_level, hang_up_level, raise_exception}
use Rattle.model.specs.ExceptionCalls.{close_exception, set_state, set_strategy}
use Rattle.model.specs.ExceptionCalls.{get_process_handle}
use Rattle.model.specs.Job.{lists_child, lists_process, job_empty, lists_thread, on_parent}
use Rattle.model.specs.Job.{is_above, may_terminate, terminate_up, terminate_job, stop_in}
use Rattle.model.specs.Job.{stop_threads, up_to, is_live_job, is_live_process, kill_child}
use Rattle.model.specs.Job.{exit_member, kill_listed, kill_step, kill_bound, unlist_process}
use Rattle.model.specs.Job.{end_step, exit_listed, exit_step, count, remaining, kill_job}
use Rattle.model.specs.Job.{exit_process, end_process, finish_thread, kill_within, exit_within}
use Rattle.model.specs.JobCalls.{with_child, create_child, kill_job_call, set_policy_basic}
use Rattle.model.specs.JobCalls.{set_policy_timer_slack, job_info, job_information}
use Rattle.model.specs.JobCalls.{with_new_process, create_process, with_started, start_process}
use Rattle.model.specs.JobCalls.{exit_process_call, kill_process, set_critical_at_job, check_policy}
use Rattle.model.specs.JobCalls.{process_info, process_information}
use Rattle.model.specs.JobPolicy.{policy_of, bad_entry, set_each, policy_set, set_policy}
use Rattle.model.specs.JobPolicy.{panics_at, is_denied}
use Rattle.model.specs.Replies.{present, held_exception}
use Rattle.model.specs.Step.{Call, cmd01, cmd03, cmd06, cmd07, cmd1b, Shown, step, answers}
use Rattle.model.specs.Step.{final}
use Rattle.model.specs.SuspendToken.{some_at, change_in, change_task, suspend_task, resume_task}
use Rattle.model.specs.SuspendToken.{create_token, drop_token}
use Rattle.model.specs.ThreadCalls.{create_thread, start_thread, kill_thread, exit_thread}
use Rattle.model.specs.ThreadCalls.{finish_thread_call, thread_info, thread_information}
use Rattle.model.specs.ThreadCalls.{is_wait_state, wait_begun, begin_wait, wait_answer}
use Rattle.model.specs.ThreadCalls.{wait_polled, poll_wait, create_token_call, drop_token_call}
use Rattle.model.specs.ThreadCalls.{suspend_call, resume_call}
use Rattle.records.specs.Owners.{owners_of, process_level, job_level, level_of_thread, level_of_process}
use Rattle.records.specs.Owners.{level_of_job, found_level, put_level, tasks_of, as_task}
use Rattle.records.specs.Owners.{found_task}
use Rattle.reply.specs.Reply.{reply, answered}
use Rattle.records.specs.Tables.{fresh_tables, job_at, own_at, inherited_at, process_at, fixed_at}
use Rattle.records.specs.Tables.{thread_at, token_at, found_job, found_process, found_thread}
use Rattle.records.specs.Tables.{found_token, put_job, put_own, put_inherited, put_process, put_fixed}
use Rattle.records.specs.Tables.{put_thread, put_token}
use Rattle.model.specs.Cases.{Run}
use Rattle.claims.proofs.Tree.{same_at}
use Rattle.claims.specs.Reachable.{AtOrAbove, here, below}
use Rattle.claims.specs.Separation.{Trip, IsTrip, Apart, Calls, done, first, second, of_second}
use Rattle.claims.specs.Separation.{to_second}
use Rattle.claims.specs.SeparationRows.{Unguarded, SeparationRows}

-- ---- Two trips, one with a process bound to the root -------------------------------------------

abbrev before : List Call
before = cmd01 0 1 ∷ cmd01 0 2 ∷ cmd03 1 0 ∷ cmd07 0 0 0 ∷ []

abbrev x : Trip
x =
    record {
      home = 1;
      jobs = λ j. j =? 1;
      processes = λ p. p =? 0;
      threads = λ n. false;
      tokens = λ k. false;
    }

abbrev y : Trip
y =
    record {
      home = 2;
      jobs = λ j. j =? 2;
      processes = λ p. false;
      threads = λ n. false;
      tokens = λ k. false;
    }

apart : Apart x y
apart =
    record {
      jobs = λ j h. ap (λ (k : ℕ). k =? 1) (eqb-true j 2 h);
      processes = λ p h. no_both h refl;
      threads = λ n h. no_both h refl;
      tokens = λ k h. no_both h refl;
    }

-- a job that is no parent has itself alone below it
alone : (t : Tables) (k : ℕ) → any (λ (v : Job). is_parent v.parent k) t.jobs ≡ false →
    (j : ℕ) → AtOrAbove t k j → j ≡ k
unfolding job_at
alone t k z j here = refl
alone t k z j (below {p = p} e a) =
    no_both (ap (λ (q : Option ℕ). is_parent q k) e ∙ eq-eqb p k (alone t k z p a))
    (none_at (λ (v : Job). is_parent v.parent k) no_job refl t.jobs j z)

abbrev state : Tables
state = final fresh_tables before

-- the first field of a job's information
abbrev killed_in : Fields → Bool
killed_in NoFields = false
killed_in (OwnerField n) = false
killed_in (JobFields k d a m) = k
killed_in (ProcessFields c a e b d) = false
killed_in (ThreadFields a w n) = false

abbrev first_killed : List Shown → Bool
first_killed [] = false
first_killed (a ∷ l) = killed_in a.fields

calls : Calls x y
unfolding ◌or◌
calls = first (cmd06 0) refl (second (cmd1b 2) refl done)

-- what the four calls made, and what job 2 shows afterwards
record Made : Type 0 where
  pub job_x : (job_at state 1).made ≡ true
  pub job_y : (job_at state 2).made ≡ true
  pub childless_x : any (λ (v : Job). is_parent v.parent 1) state.jobs ≡ false
  pub childless_y : any (λ (v : Job). is_parent v.parent 2) state.jobs ≡ false
  pub process_home : (process_at state 0).job ≡ 1
  pub other_processes : (p : ℕ) → (process_at state (suc p)).made ≡ false
  pub threads : (n : ℕ) → (thread_at state n).made ≡ false
  pub tokens : (k : ℕ) → (token_at state k).task ≡ None
  pub with_x : first_killed (to_second state calls) ≡ true
  pub without_x : first_killed (answers state (of_second calls)) ≡ false

made : Made
unfolding Run get_action apply merged_action merge larger generate_new ◌and◌ ◌or◌ if◌then◌otherwise◌ ite settle any
    zip is_hardware route_of owner_of level_at put_level_at pass_over try_at search_up from_jobs from_second_chance
    from_process from_thread from_debugger first_handler next_handler unhandled deliver raise_exiting raise close
    bind_level hang_up_level raise_exception close_exception set_state set_strategy get_process_handle lists_child
    lists_process job_empty lists_thread on_parent is_above may_terminate terminate_up terminate_job stop_in
    stop_threads up_to is_live_job is_live_process kill_child exit_member kill_listed kill_step kill_bound
    unlist_process end_step exit_listed exit_step count remaining kill_job exit_process end_process finish_thread
    kill_within exit_within with_child create_child kill_job_call set_policy_basic set_policy_timer_slack job_info
    job_information with_new_process create_process with_started start_process exit_process_call kill_process
    set_critical_at_job check_policy process_info process_information policy_of bad_entry set_each policy_set
    set_policy panics_at is_denied present held_exception step
    answers some_at change_in change_task suspend_task resume_task create_token drop_token create_thread start_thread
    kill_thread exit_thread finish_thread_call thread_info thread_information is_wait_state wait_begun begin_wait
    wait_answer wait_polled poll_wait create_token_call drop_token_call suspend_call resume_call owners_of
    process_level job_level level_of_thread level_of_process level_of_job found_level put_level tasks_of as_task
    found_task child_of ended acts member_of hides shown_state is_live is_free thread_of kill
    exit suspend resume end_wait reply answered fresh_tables job_at own_at inherited_at process_at fixed_at thread_at
    token_at found_job found_process found_thread found_token put_job put_own put_inherited put_process put_fixed
    put_thread put_token kind_of final of_second to_second calls
made =
    record {
      job_x = refl;
      job_y = refl;
      childless_x = refl;
      childless_y = refl;
      process_home = refl;
      other_processes = λ p.
          none_at (λ (q : Process). q.made) no_process refl (replicate 63 no_process) p refl;
      threads = λ n. none_at (λ (v : Thread). v.made) no_thread refl (replicate 128 no_thread) n
          refl;
      tokens = λ k. ap (λ (v : SuspendToken). v.task) (same_at no_token 64 k);
      with_x = refl;
      without_x = refl;
    }

-- the one process is in job 1
home : (w : Trip) → w.processes 0 ≡ w.jobs 1 → (p : ℕ) → (process_at state p).made ≡ true →
    w.processes p ≡ w.jobs (process_at state p).job
home w h zero m = h ∙ ap w.jobs (sym made.process_home)
home w h (suc p) m = no_both m (made.other_processes p)

is_x : IsTrip state x
is_x =
    record {
      home_made = made.job_x;
      below = λ j m a. eq-eqb j 1 (alone state 1 made.childless_x j a);
      only_below = λ j m h. subst (AtOrAbove state 1) (sym (eqb-true j 1 h)) here;
      processes = home x refl;
      threads = λ n m. no_both m (made.threads n);
      tokens = λ k a m. absurd (none-some _ (sym (made.tokens k) ∙ m));
    }

is_y : IsTrip state y
is_y =
    record {
      home_made = made.job_y;
      below = λ j m a. eq-eqb j 2 (alone state 2 made.childless_y j a);
      only_below = λ j m h. subst (AtOrAbove state 2) (sym (eqb-true j 2 h)) here;
      processes = home y refl;
      threads = λ n m. no_both m (made.threads n);
      tokens = λ k a m. absurd (none-some _ (sym (made.tokens k) ∙ m));
    }

needed : Unguarded → ⊥
unfolding Unguarded
needed f = no_both made.with_x
    (ap first_killed (f before x y apart is_x is_y calls) ∙ made.without_x)

pub separation_rows : SeparationRows
unfolding Run get_action apply merged_action merge larger generate_new ◌and◌ ◌or◌ if◌then◌otherwise◌ ite settle any
    zip is_hardware route_of owner_of level_at put_level_at pass_over try_at search_up from_jobs from_second_chance
    from_process from_thread from_debugger first_handler next_handler unhandled deliver raise_exiting raise close
    bind_level hang_up_level raise_exception close_exception set_state set_strategy get_process_handle lists_child
    lists_process job_empty lists_thread on_parent is_above may_terminate terminate_up terminate_job stop_in
    stop_threads up_to is_live_job is_live_process kill_child exit_member kill_listed kill_step kill_bound
    unlist_process end_step exit_listed exit_step count remaining kill_job exit_process end_process finish_thread
    kill_within exit_within with_child create_child kill_job_call set_policy_basic set_policy_timer_slack job_info
    job_information with_new_process create_process with_started start_process exit_process_call kill_process
    set_critical_at_job check_policy process_info process_information policy_of bad_entry set_each policy_set
    set_policy panics_at is_denied present held_exception step
    answers some_at change_in change_task suspend_task resume_task create_token drop_token create_thread start_thread
    kill_thread exit_thread finish_thread_call thread_info thread_information is_wait_state wait_begun begin_wait
    wait_answer wait_polled poll_wait create_token_call drop_token_call suspend_call resume_call owners_of
    process_level job_level level_of_thread level_of_process level_of_job found_level put_level tasks_of as_task
    found_task child_of ended acts member_of hides shown_state is_live is_free thread_of kill
    exit suspend resume end_wait reply answered fresh_tables job_at own_at inherited_at process_at fixed_at thread_at
    token_at found_job found_process found_thread found_token put_job put_own put_inherited put_process put_fixed
    put_thread put_token kind_of
separation_rows =
    record {
      premise_needed = needed;
      bound_outward = refl;
      left_out = refl;
      shared_ancestor = refl;
      ancestor_differs = refl;
    }
