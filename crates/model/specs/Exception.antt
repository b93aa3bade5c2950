-- Exceptions: which handlers are tried, in which order, and what becomes of the thread.
-- Follows exception.rs, `handle_exception` of thread.rs and document 01 (Exceptions). A place stands for the Rust's
-- iterators.
use Rattle.std.specs.Prelude.{Option, Some, None}
use Rattle.std.specs.Prelude.{ℕ, zero, suc, Bool, true, false, not, ℤ, pos}
use Rattle.laws.specs.Choice.{◌≤?◌, ◌=?◌, ◌or◌, if◌then◌otherwise◌, ite}
use Rattle.error.specs.Numbers.{STOP, NEXT}
use Rattle.record_exception.specs.declared.Level.{Level}
use Rattle.record_exception.specs.declared.Place.{Place}
use Rattle.record_exception.specs.declared.Place.TheVariants.{Debugger, OwnThread, OwnProcess}
use Rattle.record_exception.specs.declared.Place.TheVariants.{SecondChance, OfJob, OfJobDebugger}
use Rattle.record_exception.specs.declared.Place.TheVariants.{Exiting}
use Rattle.record_exception.specs.declared.Exception.{Exception}
use Rattle.record_exception.specs.Channel.{is_bound, tried}
use Rattle.record_exception.specs.Exception.{level_of, exception_at}
use Rattle.record_job.specs.Job.{with_level4, with_level5}
use Rattle.record_process.specs.Process.{KILL_CODE, with_level1, with_level3}
use Rattle.record_thread.specs.declared.Waiting.TheVariants.{InException}
use Rattle.record_thread.specs.Thread.{DYING, BLOCKED_EXCEPTION, waits, end_wait, with_level2}
use Rattle.records.specs.declared.tables.Tables.{Tables}
use Rattle.reply.specs.declared.Fields.TheVariants.{OwnerField}
use Rattle.reply.specs.declared.Reply.{Reply}
use Rattle.reply.specs.Reply.{reply}
use Rattle.records.specs.Tables.{job_at, process_at, thread_at, put_job, put_process, put_thread}
use Rattle.model.specs.declared.Route.{Route}
use Rattle.model.specs.declared.Route.TheVariants.{Ordinary, JobDebuggers, DebuggerOnly}
use Rattle.model.specs.declared.Route.TheVariants.{ToExiting, NoType}
use Rattle.model.specs.declared.Search.{Search}
use Rattle.model.specs.Job.{on_parent, exit_process}

-- ---- Routes: the eleven types ----------------------------------------------------------------

unfoldable pub is_hardware : ℕ → Bool
is_hardware kind =
    (kind =? 0x008) or (kind =? 0x108) or (kind =? 0x208) or (kind =? 0x308)
    or (kind =? 0x408) or (kind =? 0x508)

-- ThreadStarting 0x8008, ThreadExiting 0x8108, ProcessStarting 0x8308; Synth 0x8000 and
-- PolicyError 0x8208 are ordinary
unfoldable pub route_of : ℕ → Route
route_of kind =
    if is_hardware kind then Ordinary otherwise
    if (kind =? 0x8000) or (kind =? 0x8208) then Ordinary otherwise
    if kind =? 0x8308 then JobDebuggers otherwise
    if kind =? 0x8008 then DebuggerOnly otherwise
    if kind =? 0x8108 then ToExiting otherwise
    NoType

abbrev pub is_no_type : Route → Bool
is_no_type Ordinary = false
is_no_type JobDebuggers = false
is_no_type DebuggerOnly = false
is_no_type ToExiting = false
is_no_type NoType = true

-- `is_synth`: the bit 0x8000
abbrev pub is_synth : ℕ → Bool
is_synth kind = 0x8000 ≤? kind

-- ---- Levels by place; n is the thread ----------------------------------------------------------

abbrev pub process_of : Tables → ℕ → ℕ
process_of t n = (thread_at t n).process

-- the job, the process or the thread that has the level
unfoldable pub owner_of : Tables → ℕ → Place → ℕ
owner_of t n Debugger = process_of t n
owner_of t n OwnThread = n
owner_of t n OwnProcess = process_of t n
owner_of t n SecondChance = process_of t n
owner_of t n (OfJob j) = j
owner_of t n (OfJobDebugger j) = j
owner_of t n Exiting = process_of t n

unfoldable pub level_at : Tables → ℕ → Place → Level
level_at t n Debugger = (process_at t (process_of t n)).level1
level_at t n OwnThread = (thread_at t n).level2
level_at t n OwnProcess = (process_at t (process_of t n)).level3
level_at t n SecondChance = (process_at t (process_of t n)).level1
level_at t n (OfJob j) = (job_at t j).level4
level_at t n (OfJobDebugger j) = (job_at t j).level5
level_at t n Exiting = (process_at t (process_of t n)).level1

unfoldable pub put_level_at : Tables → ℕ → Place → Level → Tables
put_level_at t n Debugger l =
    put_process t (process_of t n) (with_level1 (process_at t (process_of t n)) l)
put_level_at t n OwnThread l = put_thread t n (with_level2 (thread_at t n) l)
put_level_at t n OwnProcess l =
    put_process t (process_of t n) (with_level3 (process_at t (process_of t n)) l)
put_level_at t n SecondChance l =
    put_process t (process_of t n) (with_level1 (process_at t (process_of t n)) l)
put_level_at t n (OfJob j) l = put_job t j (with_level4 (job_at t j) l)
put_level_at t n (OfJobDebugger j) l = put_job t j (with_level5 (job_at t j) l)
put_level_at t n Exiting l =
    put_process t (process_of t n) (with_level1 (process_at t (process_of t n)) l)

-- trying a hung-up level makes it unbound
unfoldable pub pass_over : Tables → ℕ → Place → Tables
pass_over t n place = put_level_at t n place (tried (level_at t n place))

-- ---- The order of handlers -------------------------------------------------------------------

-- where an exception goes, and the tables with the hung-up levels on the way made unbound
abbrev pub no_handler : Tables → Search
no_handler t = record { tables = t; at = None }

-- delivered at a place, or the search goes on
unfoldable pub try_at : Tables → ℕ → Place → (Tables → Search) → Search
try_at t n place k =
    ite (is_bound (level_at t n place)) (λ _. record { tables = t; at = Some place })
    λ _. k (pass_over t n place)

-- level 4, or 5, from job j up to the root: k jobs at most
unfoldable pub search_up : ℕ → (ℕ → Place) → Tables → ℕ → ℕ → Search
search_up zero place t n j = no_handler t
search_up (suc k) place t n j =
    try_at t n (place j) λ u. on_parent (job_at u j).parent (no_handler u) λ i. search_up k place u n i

abbrev pub own_job : Tables → ℕ → ℕ
own_job t n = (process_at t (process_of t n)).job

unfoldable pub from_jobs : Tables → ℕ → Search
from_jobs t n = search_up 32 OfJob t n (own_job t n)

-- second chance is read when level 3 is left
unfoldable pub from_second_chance : Tables → ℕ → Bool → Search
from_second_chance t n second =
    if second then try_at t n SecondChance (λ u. from_jobs u n) otherwise from_jobs t n

unfoldable pub from_process : Tables → ℕ → Bool → Search
from_process t n second = try_at t n OwnProcess λ u. from_second_chance u n second

unfoldable pub from_thread : Tables → ℕ → Bool → Search
from_thread t n second = try_at t n OwnThread λ u. from_process u n second

unfoldable pub from_debugger : Tables → ℕ → Bool → Search
from_debugger t n second = try_at t n Debugger λ u. from_thread u n second

-- the first handler of an exception just raised
unfoldable pub first_handler : Route → Tables → ℕ → Search
first_handler Ordinary t n = from_debugger t n false
first_handler JobDebuggers t n = search_up 32 OfJobDebugger t n (own_job t n)
first_handler DebuggerOnly t n = try_at t n Debugger no_handler
first_handler ToExiting t n = no_handler t
first_handler NoType t n = no_handler t

-- the handler after one that closed without handling; ThreadStarting goes to level 1 only
unfoldable pub next_handler : Place → Tables → ℕ → Exception → Search
next_handler Debugger t n e = if e.kind =? 0x8008 then no_handler t otherwise from_thread t n e.second
next_handler OwnThread t n e = from_process t n e.second
next_handler OwnProcess t n e = from_second_chance t n e.second
next_handler SecondChance t n e = from_jobs t n
next_handler (OfJob j) t n e =
    on_parent (job_at t j).parent (no_handler t) λ i. search_up 32 OfJob t n i
next_handler (OfJobDebugger j) t n e = no_handler t
next_handler Exiting t n e = no_handler t

-- ProcessStarting and ThreadExiting are over at their first closing
abbrev pub over_at_first : Place → Bool
over_at_first Debugger = false
over_at_first OwnThread = false
over_at_first OwnProcess = false
over_at_first SecondChance = false
over_at_first (OfJob j) = false
over_at_first (OfJobDebugger j) = true
over_at_first Exiting = true

-- ---- What becomes of the thread ----------------------------------------------------------------

-- over, or stopped: the owner field is 0
abbrev pub outcome : Tables → ℤ → Reply
outcome t answer = reply t answer (OwnerField 0)

abbrev pub over_tables : Tables → ℕ → Tables
over_tables t n = put_thread t n (end_wait (thread_at t n))

-- nobody handled it: types without the bit 0x8000 also exit the process
unfoldable pub unhandled : Tables → ℕ → ℕ → Tables
unhandled t n kind =
    if is_synth kind then over_tables t n otherwise exit_process (over_tables t n) (process_of t n) KILL_CODE

unfoldable pub deliver : Option Place → Tables → ℕ → ℕ → Bool → Reply
deliver None t n kind second = outcome (unhandled t n kind) NEXT
deliver (Some place) t n kind second =
    reply (put_thread t n (waits (thread_at t n) BLOCKED_EXCEPTION
    (InException (exception_at kind place second))))
    (pos (level_of place)) (OwnerField (owner_of t n place))

abbrev pub delivered : Search → ℕ → ℕ → Bool → Reply
delivered s n kind second = deliver s.at s.tables n kind second

-- ThreadExiting goes to level 1 and leaves the state; a killed thread sends it and is stopped
-- (M11)
unfoldable pub raise_exiting : Tables → ℕ → ℕ → Reply
raise_exiting t n kind =
    if not (is_bound (level_at t n Exiting)) then outcome (pass_over t n Exiting) NEXT otherwise
    if (thread_at t n).killed then outcome t STOP otherwise
    reply (put_thread t n (waits (thread_at t n) (thread_at t n).state
    (InException (exception_at kind Exiting false))))
    (pos 1) (OwnerField (process_of t n))

-- other types raised while Dying deliver nothing
unfoldable pub raise : Tables → ℕ → ℕ → Reply
raise t n kind =
    if kind =? 0x8108 then raise_exiting t n kind otherwise
    if (thread_at t n).state =? DYING then outcome t STOP otherwise
    delivered (first_handler (route_of kind) t n) n kind false

-- a handler closes its exception
unfoldable pub close : Tables → ℕ → Exception → Reply
close t n e =
    if e.handled or over_at_first e.place then outcome (over_tables t n) (pos 0) otherwise
    delivered (next_handler e.place t n e) n e.kind e.second
