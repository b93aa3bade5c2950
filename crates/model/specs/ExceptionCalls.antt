-- The calls on exceptions and their channels, with their refusals in document 01's order.
use Rattle.std.specs.Prelude.{ℕ, Bool, not}
use Rattle.laws.specs.Choice.{◌≤?◌, ◌<?◌, ◌=?◌, ◌or◌}
use Rattle.laws.specs.Guarded.{ok, ◌>>◌, ◌>>=◌, refuse◌when◌, deny◌when◌}
use Rattle.error.specs.Numbers.{INVALID_ARGS, BAD_STATE, ALREADY_BOUND, ACCESS_DENIED}
use Rattle.record_exception.specs.declared.Level.TheVariants.{Bound, HungUp}
use Rattle.record_exception.specs.declared.Exception.{Exception}
use Rattle.record_exception.specs.Channel.{is_bound, is_shut}
use Rattle.record_exception.specs.Exception.{current_level, with_handled, with_second}
use Rattle.record_thread.specs.declared.Waiting.TheVariants.{InException}
use Rattle.record_thread.specs.declared.Thread.{Thread}
use Rattle.record_thread.specs.Thread.{is_free, waits}
use Rattle.records.specs.declared.tables.Tables.{Tables}
use Rattle.reply.specs.declared.Reply.{Reply}
use Rattle.records.specs.Tables.{put_thread}
use Rattle.records.specs.Owners.{owners_of, put_level}
use Rattle.model.specs.Replies.{call, accept, thread, exception, channel}
use Rattle.model.specs.Exception.{route_of, is_no_type, raise, close}

-- 1 to 5
abbrev pub bad_level : ℕ → Bool
bad_level level = (level =? 0) or (5 <? level)

-- 12: `Exceptionate::create_channel`
unfoldable pub bind_level : Tables → ℕ → ℕ → Reply
bind_level t level n = call t do
  refuse 104 when bad_level level
  refuse 101 when owners_of level ≤? n
  l ← channel t level n
  deny BAD_STATE when is_shut l
  deny ALREADY_BOUND when is_bound l
  accept (put_level t level n Bound)

-- 13: the handler hangs up
unfoldable pub hang_up_level : Tables → ℕ → ℕ → Reply
hang_up_level t level n = call t do
  refuse 104 when bad_level level
  refuse 101 when owners_of level ≤? n
  l ← channel t level n
  refuse 105 when not (is_bound l)
  accept (put_level t level n HungUp)

-- 14: `CurrentThread::handle_exception`
unfoldable pub raise_exception : Tables → ℕ → ℕ → Reply
raise_exception t n kind = call t do
  refuse 104 when is_no_type (route_of kind)
  refuse 101 when 128 ≤? n
  v ← thread t n
  refuse 105 when not (is_free v)
  ok (raise t n kind)

-- 15: the handler lets the exception object go
unfoldable pub close_exception : Tables → ℕ → Reply
close_exception t n = call t do
  refuse 101 when 128 ≤? n
  v ← thread t n
  e ← exception v
  ok (close t n e)

-- the exception changed, the thread waiting as before
abbrev pub with_exception : Tables → ℕ → Thread → Exception → Tables
with_exception t n v e = put_thread t n (waits v v.state (InException e))

-- 16: `ExceptionObject::set_state`
unfoldable pub set_state : Tables → ℕ → ℕ → Reply
set_state t n state = call t do
  refuse 101 when 128 ≤? n
  v ← thread t n
  e ← exception v
  deny INVALID_ARGS when 1 <? state
  accept (with_exception t n v (with_handled e (state =? 1)))

-- levels 1 and 5; ThreadExiting has no current level
abbrev pub has_strategy : Exception → Bool
has_strategy e = (current_level e.place =? 1) or (current_level e.place =? 5)

-- 17: `ExceptionObject::set_strategy`; a strategy above 1 is refused before the level is looked at
-- (M12)
unfoldable pub set_strategy : Tables → ℕ → ℕ → Reply
set_strategy t n strategy = call t do
  refuse 101 when 128 ≤? n
  v ← thread t n
  e ← exception v
  deny INVALID_ARGS when 1 <? strategy
  deny BAD_STATE when not (has_strategy e)
  accept (with_exception t n v (with_second e (strategy =? 1)))

-- 18: `ExceptionObject::get_process_handle`
unfoldable pub get_process_handle : Tables → ℕ → Reply
get_process_handle t n = call t do
  refuse 101 when 128 ≤? n
  v ← thread t n
  e ← exception v
  deny ACCESS_DENIED when current_level e.place =? 2
  accept t
