-- The calls on jobs and processes, with their refusals in document 01's order.
use Rattle.std.specs.Prelude.{ℕ, not, List, ℤ, pos}
use Rattle.std.specs.Int.Signed.{lt_z}
use Rattle.laws.specs.Choice.{◌≤?◌, ◌<?◌, ◌=?◌}
use Rattle.laws.specs.Guarded.{ok, ◌>>◌, ◌>>=◌, refuse◌when◌, deny◌when◌}
use Rattle.laws.specs.Lists.{any}
use Rattle.error.specs.Numbers.{INVALID_ARGS, BAD_STATE, ALREADY_BOUND, ACCESS_DENIED}
use Rattle.job_policy.specs.declared.BasicPolicy.{BasicPolicy}
use Rattle.job_policy.specs.declared.TimerSlackPolicy.{TimerSlackPolicy}
use Rattle.job_policy.specs.Policy.{get_action}
use Rattle.job_policy.specs.Slack.{generate_new}
use Rattle.record_exception.specs.Channel.{is_bound}
use Rattle.record_job.specs.declared.Job.{Job}
use Rattle.record_job.specs.Job.{new_job, with_slack}
use Rattle.record_process.specs.declared.Status.TheVariants.{Running}
use Rattle.record_process.specs.declared.Process.{Process}
use Rattle.record_process.specs.Process.{KILL_CODE, new_process, is_init, is_exited, code_of}
use Rattle.record_process.specs.Process.{with_status, is_critical, bind_to}
use Rattle.record_thread.specs.declared.Thread.{Thread}
use Rattle.record_thread.specs.Thread.{start, thread_of}
use Rattle.records.specs.declared.tables.Tables.{Tables}
use Rattle.reply.specs.declared.Fields.TheVariants.{JobFields, ProcessFields}
use Rattle.reply.specs.declared.Reply.{Reply}
use Rattle.reply.specs.Reply.{reply, reply_with}
use Rattle.records.specs.Tables.{job_at, process_at, fixed_at, put_job, put_inherited, put_process}
use Rattle.records.specs.Tables.{put_fixed, put_thread}
use Rattle.model.specs.Replies.{call, accept, job, process, thread}
use Rattle.model.specs.Job.{at_or_above, job_empty, kill_job, exit_process}
use Rattle.model.specs.JobPolicy.{policy_of, bad_entry, set_policy, panics_at, is_denied}

-- ---- Jobs ----------------------------------------------------------------------------------

-- the inherited policy is fixed when a job is made
unfoldable pub with_child : Tables → ℕ → ℕ → Tables
with_child t j new = put_inherited (put_job t new (new_job j)) new (policy_of t j)

-- 01: `Job::create_child`
unfoldable pub create_child : Tables → ℕ → ℕ → Reply
create_child t j new = call t do
  refuse 101 when 32 ≤? j
  refuse 101 when 32 ≤? new
  v ← job t j
  refuse 102 when (job_at t new).made
  deny BAD_STATE when v.killed
  accept (with_child t j new)

-- 02: `Job::kill`
unfoldable pub kill_job_call : Tables → ℕ → Reply
kill_job_call t j = call t do
  refuse 101 when 32 ≤? j
  v ← job t j
  accept (kill_job t j)

-- 0f: `Job::set_policy_basic`, with a list of any length
unfoldable pub set_policy_basic : Tables → ℕ → ℕ → List BasicPolicy → Reply
set_policy_basic t j option l = call t do
  refuse 104 when 1 <? option
  refuse 104 when any bad_entry l
  refuse 101 when 32 ≤? j
  v ← job t j
  deny BAD_STATE when not (job_empty t j)
  ok (set_policy t j option l)

-- 10: `Job::set_policy_timer_slack`
unfoldable pub set_policy_timer_slack : Tables → ℕ → TimerSlackPolicy → Reply
set_policy_timer_slack t j p = call t do
  refuse 104 when 2 <? p.mode
  refuse 101 when 32 ≤? j
  v ← job t j
  deny BAD_STATE when not (job_empty t j)
  deny INVALID_ARGS when lt_z p.slack (pos 0)
  accept (put_job t j (with_slack v (generate_new v.slack p)))

-- killed, terminated, slack amount, mode; the policy beside
unfoldable pub job_info : Tables → ℕ → Job → Reply
job_info t j v =
    reply_with t (JobFields v.killed v.terminated v.slack.amount v.slack.mode) (pos 0)
    (policy_of t j)

-- 1b: job information
unfoldable pub job_information : Tables → ℕ → Reply
job_information t j = call t do
  refuse 101 when 32 ≤? j
  v ← job t j
  ok (job_info t j v)

-- ---- Processes -----------------------------------------------------------------------------

-- the policy is fixed when a process is made
unfoldable pub with_new_process : Tables → ℕ → ℕ → Tables
with_new_process t j new = put_fixed (put_process t new (new_process j)) new (policy_of t j)

-- 03: `Process::create_with_ext`
unfoldable pub create_process : Tables → ℕ → ℕ → Reply
create_process t j new = call t do
  refuse 101 when 32 ≤? j
  refuse 101 when 64 ≤? new
  v ← job t j
  refuse 102 when (process_at t new).made
  deny BAD_STATE when v.killed
  accept (with_new_process t j new)

unfoldable pub with_started : Tables → ℕ → ℕ → Process → Thread → Tables
with_started t p n q v = put_thread (put_process t p (with_status q Running)) n (start v)

-- 04: `Process::start`
unfoldable pub start_process : Tables → ℕ → ℕ → Reply
start_process t p n = call t do
  refuse 101 when 64 ≤? p
  refuse 101 when 128 ≤? n
  q ← process t p
  v ← thread t n
  refuse 105 when v.started
  deny ACCESS_DENIED when not (thread_of v p)
  deny BAD_STATE when not (is_init q.status)
  accept (with_started t p n q v)

-- 05: `Process::exit`
unfoldable pub exit_process_call : Tables → ℕ → ℤ → Reply
exit_process_call t p code = call t do
  refuse 101 when 64 ≤? p
  q ← process t p
  accept (exit_process t p code)

-- 06: `Process::kill`
unfoldable pub kill_process : Tables → ℕ → Reply
kill_process t p = call t do
  refuse 101 when 64 ≤? p
  q ← process t p
  accept (exit_process t p KILL_CODE)

-- 07: `Process::set_critical_at_job`; ALREADY_BOUND comes before the job is looked at (M8)
unfoldable pub set_critical_at_job : Tables → ℕ → ℕ → ℕ → Reply
set_critical_at_job t p j flag = call t do
  refuse 104 when 1 <? flag
  refuse 101 when 64 ≤? p
  refuse 101 when 32 ≤? j
  q ← process t p
  v ← job t j
  deny ALREADY_BOUND when is_critical q.critical
  deny INVALID_ARGS when not (at_or_above t j q.job)
  accept (put_process t p (bind_to q j (flag =? 1)))

-- 11: `Process::check_policy`, by the policy fixed at its making
unfoldable pub check_policy : Tables → ℕ → ℕ → Reply
check_policy t p condition = call t do
  refuse 104 when 15 ≤? condition
  refuse 101 when 64 ≤? p
  q ← process t p
  refuse 106 when panics_at (get_action (fixed_at t p) condition)
  deny ACCESS_DENIED when is_denied (get_action (fixed_at t p) condition)
  accept t

-- code, started, exited, debugger open, terminated; an Exited process counts as started
unfoldable pub process_info : Tables → Process → Reply
process_info t q =
    reply t (pos 0)
    (ProcessFields (code_of q.status) (not (is_init q.status)) (is_exited q.status)
    (is_bound q.level1) q.terminated)

-- 1c: process information
unfoldable pub process_information : Tables → ℕ → Reply
process_information t p = call t do
  refuse 101 when 64 ≤? p
  q ← process t p
  ok (process_info t q)
