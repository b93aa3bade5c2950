-- The record of a thread. Follows thread.rs. States are the numbers of ThreadState.
use Rattle.std.specs.Prelude.{Option, Some, None}
use Rattle.std.specs.Prelude.{ℕ, ◌+◌, ◌-◌, Bool, true, false, not}
use Rattle.laws.specs.Choice.{◌=?◌, ◌and◌, ◌or◌, if◌then◌otherwise◌}
use Rattle.record_exception.specs.declared.Exception.{Exception}
use Rattle.record_exception.specs.declared.Level.{Level}
use Rattle.record_exception.specs.declared.Level.TheVariants.{Unbound, Shut}
use Rattle.record_thread.specs.declared.Waiting.{Waiting}
use Rattle.record_thread.specs.declared.Waiting.TheVariants.{NotWaiting, InWait}
use Rattle.record_thread.specs.declared.Waiting.TheVariants.{InException}
use Rattle.record_thread.specs.declared.Signals.{Signals}
use Rattle.record_thread.specs.declared.Signals.TheVariants.{NoSignal, RunningSignal}
use Rattle.record_thread.specs.declared.Signals.TheVariants.{SuspendedSignal}
use Rattle.record_thread.specs.declared.Signals.TheVariants.{TerminatedSignal}
use Rattle.record_thread.specs.declared.Thread.{Thread}

-- ---- States --------------------------------------------------------------------------------

abbrev pub NEW : ℕ
NEW = 0

abbrev pub RUNNING : ℕ
RUNNING = 1

abbrev pub SUSPENDED : ℕ
SUSPENDED = 2

abbrev pub DYING : ℕ
DYING = 4

abbrev pub DEAD : ℕ
DEAD = 5

abbrev pub BLOCKED_EXCEPTION : ℕ
BLOCKED_EXCEPTION = 0x103

-- the stored states over which no suspension shows
unfoldable pub hides : ℕ → Bool
hides state = (state =? BLOCKED_EXCEPTION) or (state =? DYING) or (state =? DEAD)

unfoldable pub shown_state : Thread → ℕ
shown_state v =
    if v.suspends =? 0 then v.state otherwise if hides v.state then v.state otherwise SUSPENDED

-- none for New and Dying, terminated for Dead, suspended for Suspended, else running
unfoldable pub signals_of : ℕ → Signals
signals_of shown =
    if shown =? NEW then NoSignal otherwise
    if shown =? SUSPENDED then SuspendedSignal otherwise
    if shown =? DYING then NoSignal otherwise
    if shown =? DEAD then TerminatedSignal otherwise
    RunningSignal

abbrev pub signals : Thread → Signals
signals v = signals_of (shown_state v)

-- ---- Tests ---------------------------------------------------------------------------------

abbrev pub is_waiting : Waiting → Bool
is_waiting NotWaiting = false
is_waiting InWait = true
is_waiting (InException e) = true

-- started and not finished
unfoldable pub is_live : Thread → Bool
is_live v = v.started and not (v.state =? DEAD)

abbrev pub is_idle : Thread → Bool
is_idle v = not (is_waiting v.waiting)

-- can act by itself: started, not finished, not waiting
unfoldable pub is_free : Thread → Bool
is_free v = is_live v and is_idle v

abbrev pub waits_plainly : Waiting → Bool
waits_plainly NotWaiting = false
waits_plainly InWait = true
waits_plainly (InException e) = false

abbrev pub is_in_wait : Thread → Bool
is_in_wait v = waits_plainly v.waiting

abbrev pub held_in : Waiting → Option Exception
held_in NotWaiting = None
held_in InWait = None
held_in (InException e) = Some e

-- the exception that a handler has
abbrev pub exception_of : Thread → Option Exception
exception_of v = held_in v.waiting

-- on the list of process p
unfoldable pub thread_of : Thread → ℕ → Bool
thread_of v p = v.listed and (v.process =? p)

-- ---- Changes -------------------------------------------------------------------------------

-- never made
abbrev pub no_thread : Thread
no_thread =
    record {
      made = false;
      listed = false;
      started = false;
      killed = false;
      process = 0;
      state = NEW;
      suspends = 0;
      waiting = NotWaiting;
      level2 = Unbound;
    }

-- just made in a process
abbrev pub new_thread : ℕ → Thread
new_thread p =
    record {
      made = true;
      listed = true;
      started = false;
      killed = false;
      process = p;
      state = NEW;
      suspends = 0;
      waiting = NotWaiting;
      level2 = Unbound;
    }

-- `Thread::start`: Running, whatever was stored (M3)
abbrev pub start : Thread → Thread
start v =
    record {
      made = v.made;
      listed = v.listed;
      started = true;
      killed = v.killed;
      process = v.process;
      state = RUNNING;
      suspends = v.suspends;
      waiting = v.waiting;
      level2 = v.level2;
    }

-- a plain wait stays until it is polled, an exception is gone
abbrev pub without_exception : Waiting → Waiting
without_exception NotWaiting = NotWaiting
without_exception InWait = InWait
without_exception (InException e) = NotWaiting

abbrev pub dying : Thread → Bool → Thread
dying v killed =
    record {
      made = v.made;
      listed = v.listed;
      started = v.started;
      killed = killed;
      process = v.process;
      state = DYING;
      suspends = v.suspends;
      waiting = without_exception v.waiting;
      level2 = v.level2;
    }

-- `stop(true)`
unfoldable pub kill : Thread → Thread
kill v = if v.state =? DEAD then v otherwise dying v true

-- `stop(false)`
unfoldable pub exit : Thread → Thread
exit v = if v.state =? DEAD then v otherwise if v.state =? DYING then v otherwise dying v v.killed

-- `terminate`: Dead, off its process's list, level 2 shut
abbrev pub finish : Thread → Thread
finish v =
    record {
      made = v.made;
      listed = false;
      started = v.started;
      killed = v.killed;
      process = v.process;
      state = DEAD;
      suspends = v.suspends;
      waiting = v.waiting;
      level2 = Shut;
    }

abbrev pub with_suspends : Thread → ℕ → Thread
with_suspends v n =
    record {
      made = v.made;
      listed = v.listed;
      started = v.started;
      killed = v.killed;
      process = v.process;
      state = v.state;
      suspends = n;
      waiting = v.waiting;
      level2 = v.level2;
    }

-- the largest count
abbrev pub FULL : ℕ
FULL = 65535

unfoldable pub suspend : Thread → Thread
suspend v = if v.suspends =? FULL then v otherwise with_suspends v (v.suspends + 1)

unfoldable pub resume : Thread → Thread
resume v = if v.suspends =? 0 then v otherwise with_suspends v (v.suspends - 1)

-- in a wait, in a state
abbrev pub waits : Thread → ℕ → Waiting → Thread
waits v state waiting =
    record {
      made = v.made;
      listed = v.listed;
      started = v.started;
      killed = v.killed;
      process = v.process;
      state = state;
      suspends = v.suspends;
      waiting = waiting;
      level2 = v.level2;
    }

-- a wait that is over: Running again, unless Dying
unfoldable pub end_wait : Thread → Thread
end_wait v = if v.state =? DYING then waits v DYING NotWaiting otherwise waits v RUNNING NotWaiting

abbrev pub with_level2 : Thread → Level → Thread
with_level2 v l =
    record {
      made = v.made;
      listed = v.listed;
      started = v.started;
      killed = v.killed;
      process = v.process;
      state = v.state;
      suspends = v.suspends;
      waiting = v.waiting;
      level2 = l;
    }

-- ---- Looking up a name ---------------------------------------------------------------------

-- a made thread, or none
unfoldable pub found_thread_in : Thread → Option Thread
found_thread_in v = if v.made then Some v otherwise None
