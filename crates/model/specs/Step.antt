-- The calls 01 to 1f as data, what each comes to, and a run over a list of them.
use Rattle.std.specs.Prelude.{ℕ, List, [], ◌∷◌, ℤ}
use Rattle.job_policy.specs.declared.BasicPolicy.{BasicPolicy}
use Rattle.job_policy.specs.declared.JobPolicy.{JobPolicy}
use Rattle.records.specs.declared.tables.Tables.{Tables}
use Rattle.reply.specs.declared.Fields.{Fields}
use Rattle.reply.specs.declared.Reply.{Reply}
use Rattle.model.specs.JobCalls.{create_child, kill_job_call, set_policy_basic}
use Rattle.model.specs.JobCalls.{set_policy_timer_slack, job_information, create_process}
use Rattle.model.specs.JobCalls.{start_process, exit_process_call, kill_process}
use Rattle.model.specs.JobCalls.{set_critical_at_job, check_policy, process_information}
use Rattle.model.specs.ThreadCalls.{create_thread, start_thread, kill_thread, exit_thread}
use Rattle.model.specs.ThreadCalls.{finish_thread_call, thread_information, begin_wait, poll_wait}
use Rattle.model.specs.ThreadCalls.{create_token_call, drop_token_call, suspend_call, resume_call}
use Rattle.model.specs.ExceptionCalls.{bind_level, hang_up_level, raise_exception}
use Rattle.model.specs.ExceptionCalls.{close_exception, set_state, set_strategy}
use Rattle.model.specs.ExceptionCalls.{get_process_handle}

-- operands as they are read, in their order; 0f with a list of any length
pub data Call : Type 0 where
  cmd01 : (job new : ℕ) → Call
  cmd02 : (job : ℕ) → Call
  cmd03 : (job new : ℕ) → Call
  cmd04 : (process thread : ℕ) → Call
  cmd05 : (process : ℕ) (code : ℤ) → Call
  cmd06 : (process : ℕ) → Call
  cmd07 : (process job flag : ℕ) → Call
  cmd08 : (process new : ℕ) → Call
  cmd09 : (thread : ℕ) → Call
  cmd0a : (thread : ℕ) → Call
  cmd0b : (thread : ℕ) → Call
  cmd0c : (thread : ℕ) → Call
  cmd0d : (new kind name : ℕ) → Call
  cmd0e : (token : ℕ) → Call
  cmd0f : (job option : ℕ) (list : List BasicPolicy) → Call
  cmd10 : (job : ℕ) (amount : ℤ) (mode : ℕ) → Call
  cmd11 : (process condition : ℕ) → Call
  cmd12 : (level owner : ℕ) → Call
  cmd13 : (level owner : ℕ) → Call
  cmd14 : (thread kind : ℕ) → Call
  cmd15 : (thread : ℕ) → Call
  cmd16 : (thread state : ℕ) → Call
  cmd17 : (thread strategy : ℕ) → Call
  cmd18 : (thread : ℕ) → Call
  cmd19 : (thread state : ℕ) → Call
  cmd1a : (thread ready : ℕ) → Call
  cmd1b : (job : ℕ) → Call
  cmd1c : (process : ℕ) → Call
  cmd1d : (thread : ℕ) → Call
  cmd1e : (kind name : ℕ) → Call
  cmd1f : (kind name : ℕ) → Call

unfoldable pub step : Tables → Call → Reply
step t (cmd01 j new) = create_child t j new
step t (cmd02 j) = kill_job_call t j
step t (cmd03 j new) = create_process t j new
step t (cmd04 p n) = start_process t p n
step t (cmd05 p code) = exit_process_call t p code
step t (cmd06 p) = kill_process t p
step t (cmd07 p j flag) = set_critical_at_job t p j flag
step t (cmd08 p new) = create_thread t p new
step t (cmd09 n) = start_thread t n
step t (cmd0a n) = kill_thread t n
step t (cmd0b n) = exit_thread t n
step t (cmd0c n) = finish_thread_call t n
step t (cmd0d new kind n) = create_token_call t new kind n
step t (cmd0e k) = drop_token_call t k
step t (cmd0f j option l) = set_policy_basic t j option l
step t (cmd10 j amount mode) = set_policy_timer_slack t j (record { slack = amount; mode = mode })
step t (cmd11 p condition) = check_policy t p condition
step t (cmd12 level n) = bind_level t level n
step t (cmd13 level n) = hang_up_level t level n
step t (cmd14 n kind) = raise_exception t n kind
step t (cmd15 n) = close_exception t n
step t (cmd16 n state) = set_state t n state
step t (cmd17 n strategy) = set_strategy t n strategy
step t (cmd18 n) = get_process_handle t n
step t (cmd19 n state) = begin_wait t n state
step t (cmd1a n ready) = poll_wait t n ready
step t (cmd1b j) = job_information t j
step t (cmd1c p) = process_information t p
step t (cmd1d n) = thread_information t n
step t (cmd1e kind n) = suspend_call t kind n
step t (cmd1f kind n) = resume_call t kind n

-- what a call shows: its answer, its fields, and the policy of a job's information
pub record Shown : Type 0 where
  pub answer : ℤ
  pub fields : Fields
  pub policy : JobPolicy

abbrev pub shown : Reply → Shown
shown r = record { answer = r.answer; fields = r.fields; policy = r.policy }

-- each call gets the tables that the last one returned
unfoldable pub answers : Tables → List Call → List Shown
answers t [] = []
answers t (c ∷ l) = shown (step t c) ∷ answers (step t c).tables l

unfoldable pub final : Tables → List Call → Tables
final t [] = t
final t (c ∷ l) = final (step t c).tables l
