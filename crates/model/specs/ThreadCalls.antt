-- The calls on threads, their plain waits and suspend tokens, with their refusals in document 01's
-- order.
use Rattle.std.specs.Prelude.{ℕ, ◌%◌, ◌/◌, Bool, not, ℤ, pos}
use Rattle.laws.specs.Choice.{◌≤?◌, ◌<?◌, ◌=?◌, ◌and◌, ◌or◌, if◌then◌otherwise◌}
use Rattle.laws.specs.Guarded.{ok, ◌>>◌, ◌>>=◌, refuse◌when◌, deny◌when◌}
use Rattle.error.specs.Numbers.{BAD_STATE, TIMED_OUT, SHOULD_WAIT, CANCELED, STOP}
use Rattle.record_process.specs.Process.{is_exited}
use Rattle.record_thread.specs.declared.Waiting.{Waiting}
use Rattle.record_thread.specs.declared.Waiting.TheVariants.{NotWaiting, InWait, InException}
use Rattle.record_thread.specs.declared.Thread.{Thread}
use Rattle.record_thread.specs.Thread.{DYING, FULL, new_thread, start, kill, exit, shown_state}
use Rattle.record_thread.specs.Thread.{is_free, is_in_wait, waits, end_wait}
use Rattle.record_exception.specs.Exception.{current_level}
use Rattle.record_token.specs.SuspendToken.{number}
use Rattle.records.specs.declared.tables.Tables.{Tables}
use Rattle.reply.specs.declared.Fields.TheVariants.{ThreadFields}
use Rattle.reply.specs.declared.Reply.{Reply}
use Rattle.reply.specs.Reply.{reply, answered}
use Rattle.records.specs.Tables.{thread_at, token_at, put_thread}
use Rattle.records.specs.Owners.{tasks_of}
use Rattle.model.specs.Replies.{call, accept, process, thread, token, task}
use Rattle.model.specs.Job.{finish_thread}
use Rattle.model.specs.SuspendToken.{some_at, suspend_task, resume_task, create_token, drop_token}

-- ---- Threads -------------------------------------------------------------------------------

-- 08: `Thread::create_with_ext`
unfoldable pub create_thread : Tables → ℕ → ℕ → Reply
create_thread t p new = call t do
  refuse 101 when 64 ≤? p
  refuse 101 when 128 ≤? new
  q ← process t p
  refuse 102 when (thread_at t new).made
  deny BAD_STATE when is_exited q.status
  accept (put_thread t new (new_thread p))

-- 09: `Thread::start`
unfoldable pub start_thread : Tables → ℕ → Reply
start_thread t n = call t do
  refuse 101 when 128 ≤? n
  v ← thread t n
  refuse 105 when v.started
  accept (put_thread t n (start v))

-- 0a: `Thread::kill`
unfoldable pub kill_thread : Tables → ℕ → Reply
kill_thread t n = call t do
  refuse 101 when 128 ≤? n
  v ← thread t n
  accept (put_thread t n (kill v))

-- 0b: `CurrentThread::exit`
unfoldable pub exit_thread : Tables → ℕ → Reply
exit_thread t n = call t do
  refuse 101 when 128 ≤? n
  v ← thread t n
  refuse 105 when not (is_free v)
  accept (put_thread t n (exit v))

-- 0c: `CurrentThread` dropped
unfoldable pub finish_thread_call : Tables → ℕ → Reply
finish_thread_call t n = call t do
  refuse 101 when 128 ≤? n
  v ← thread t n
  refuse 105 when not (is_free v)
  accept (finish_thread t n)

abbrev pub waiting_level : Waiting → ℕ
waiting_level NotWaiting = 0
waiting_level InWait = 0
waiting_level (InException e) = current_level e.place

-- shown state, waiting level, suspend count
unfoldable pub thread_info : Tables → Thread → Reply
thread_info t v =
    reply t (pos 0) (ThreadFields (shown_state v) (waiting_level v.waiting) v.suspends)

-- 1d: thread information
unfoldable pub thread_information : Tables → ℕ → Reply
thread_information t n = call t do
  refuse 101 when 128 ≤? n
  v ← thread t n
  ok (thread_info t v)

-- ---- Plain waits: `blocking_run`, begun and polled -------------------------------------------

-- Blocked (3), or 0x203 to 0x903 in steps of 0x100
unfoldable pub is_wait_state : ℕ → Bool
is_wait_state state = (state =? 3) or (0x203 ≤? state) and (state ≤? 0x903) and (state % 0x100 =? 3)

-- no wait begins while Dying
unfoldable pub wait_begun : Tables → ℕ → Thread → ℕ → Reply
wait_begun t n v state =
    if v.state =? DYING then answered t STOP
    otherwise answered (put_thread t n (waits v state InWait)) (pos 0)

-- 19: begins a plain wait
unfoldable pub begin_wait : Tables → ℕ → ℕ → Reply
begin_wait t n state = call t do
  refuse 104 when not (is_wait_state state)
  refuse 101 when 128 ≤? n
  v ← thread t n
  refuse 105 when not (is_free v)
  ok (wait_begun t n v state)

-- bit i of the ready byte: 0 done, 1 deadline, 2 cancelled
abbrev pub bit : ℕ → ℕ → Bool
bit ready weight = ready / weight % 2 =? 1

-- the first that is true: done, killed since it began, deadline, cancelled; else still pending
-- (M4)
unfoldable pub wait_answer : Thread → ℕ → ℤ
wait_answer v ready =
    if bit ready 1 then pos 0 otherwise
    if v.state =? DYING then STOP otherwise
    if bit ready 2 then TIMED_OUT otherwise
    if bit ready 4 then CANCELED otherwise
    SHOULD_WAIT

abbrev pub is_pending : Thread → ℕ → Bool
is_pending v ready = (ready =? 0) and not (v.state =? DYING)

unfoldable pub wait_polled : Tables → ℕ → Thread → ℕ → Reply
wait_polled t n v ready =
    if is_pending v ready then answered t SHOULD_WAIT
    otherwise answered (put_thread t n (end_wait v)) (wait_answer v ready)

-- 1a: polls a plain wait
unfoldable pub poll_wait : Tables → ℕ → ℕ → Reply
poll_wait t n ready = call t do
  refuse 104 when 7 <? ready
  refuse 101 when 128 ≤? n
  v ← thread t n
  refuse 105 when not (is_in_wait v)
  ok (wait_polled t n v ready)

-- ---- Suspending ----------------------------------------------------------------------------

-- 0d: `SuspendToken::create`; a job can't be suspended
unfoldable pub create_token_call : Tables → ℕ → ℕ → ℕ → Reply
create_token_call t new kind n = call t do
  refuse 104 when 2 <? kind
  refuse 101 when 64 ≤? new
  refuse 101 when tasks_of kind ≤? n
  _ ← task t kind n
  refuse 102 when (token_at t new).made
  refuse 106 when kind =? 0
  refuse 107 when some_at t kind n FULL
  accept (create_token t new kind n)

-- 0e: a token dropped; where a thread concerned has 0, all counts and the token stay (M5)
unfoldable pub drop_token_call : Tables → ℕ → Reply
drop_token_call t k = call t do
  refuse 101 when 64 ≤? k
  held ← token t k
  refuse 106 when some_at t (number held.kind) held.name 0
  accept (drop_token t k (number held.kind) held.name)

-- 1e: `Task::suspend`
unfoldable pub suspend_call : Tables → ℕ → ℕ → Reply
suspend_call t kind n = call t do
  refuse 104 when 2 <? kind
  refuse 101 when tasks_of kind ≤? n
  _ ← task t kind n
  refuse 106 when kind =? 0
  refuse 107 when some_at t kind n FULL
  accept (suspend_task t kind n)

-- 1f: `Task::resume`
unfoldable pub resume_call : Tables → ℕ → ℕ → Reply
resume_call t kind n = call t do
  refuse 104 when 2 <? kind
  refuse 101 when tasks_of kind ≤? n
  _ ← task t kind n
  refuse 106 when kind =? 0
  refuse 106 when some_at t kind n 0
  accept (resume_task t kind n)
