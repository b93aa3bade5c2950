-- 14 and 15 over the records that they name: what a call leaves, stored where the records were, is what the model says
-- of the call, whatever else the tables hold.
use Rattle.std.specs.Prelude.{Option, Some, None, Result, Ok, Err}
use Rattle.std.specs.Prelude.{ℕ, ◌%◌, ◌≡◌, Bool, true, false, not, List, ℤ, pos}
use Rattle.laws.specs.Choice.{◌=?◌, ◌or◌, if◌then◌otherwise◌}
use Rattle.error.specs.declared.Refusal.{Refusal}
use Rattle.error.specs.Numbers.{NEXT, STOP, number_of}
use Rattle.record_exception.specs.declared.Place.{Place}
use Rattle.record_exception.specs.declared.Place.TheVariants.{Debugger, OwnThread, OwnProcess}
use Rattle.record_exception.specs.declared.Place.TheVariants.{SecondChance, OfJob, OfJobDebugger}
use Rattle.record_exception.specs.declared.Place.TheVariants.{Exiting}
use Rattle.record_exception.specs.declared.Exception.{Exception}
use Rattle.record_exception.specs.Exception.{level_of, exception_at}
use Rattle.record_job.specs.declared.Job.{Job}
use Rattle.record_process.specs.declared.Status.TheVariants.{Exited}
use Rattle.record_process.specs.declared.Process.{Process}
use Rattle.record_process.specs.Process.{KILL_CODE, with_status}
use Rattle.record_thread.specs.declared.Waiting.TheVariants.{InException}
use Rattle.record_thread.specs.declared.Thread.{Thread}
use Rattle.record_thread.specs.Thread.{DYING, BLOCKED_EXCEPTION, waits, end_wait}
use Rattle.records.specs.declared.tables.Tables.{Tables}
use Rattle.records.specs.Tables.{Sized, thread_at, process_at, put_thread, put_process, with_jobs}
use Rattle.reply.specs.declared.Fields.TheVariants.{OwnerField}
use Rattle.reply.specs.declared.Reply.{Reply}
use Rattle.reply.specs.Reply.{reply, answered}
use Rattle.model.specs.declared.Route.{Route}
use Rattle.model.specs.Job.{exit_listed, is_live_process, kill_job}
use Rattle.model.specs.Exception.{is_synth, over_at_first}
use Rattle.exception.specs.declared.Raised.{Raised}
use Rattle.exception.specs.declared.Raised.TheVariants.{At, Over, Next, Exits, Stop}
use Rattle.exception.specs.Seek.{Found, first_found, next_found}

-- ---- What is answered and left means -----------------------------------------------------------

abbrev pub raised_answer : Raised → ℤ
raised_answer (At level owner) = pos level
raised_answer Over = pos 0
raised_answer Next = NEXT
raised_answer Exits = NEXT
raised_answer Stop = STOP

abbrev pub raised_owner : Raised → ℕ
raised_owner (At level owner) = owner
raised_owner Over = 0
raised_owner Next = 0
raised_owner Exits = 0
raised_owner Stop = 0

-- the reply that the tables and this outcome stand for
unfoldable pub raised_in : Tables → Result Raised Refusal → Reply
raised_in t (Ok m) = reply t (raised_answer m) (OwnerField (raised_owner m))
raised_in t (Err e) = answered t (number_of e)

-- whether the process exits: its record is marked Exited
abbrev pub exits : Result Raised Refusal → Bool
exits (Ok (At level owner)) = false
exits (Ok Over) = false
exits (Ok Next) = false
exits (Ok Exits) = true
exits (Ok Stop) = false
exits (Err e) = false

-- the tables where process p exits: its threads are killed, or it ends
unfoldable pub gone_on : Tables → ℕ → Result Raised Refusal → Tables
gone_on t p m = if exits m then exit_listed kill_job t p otherwise t

-- the records of thread n and of process p, and the jobs
abbrev pub stored_at : Tables → (n p : ℕ) → Thread → Process → List Job → Tables
stored_at t n p v q jobs = with_jobs (put_process (put_thread t n v) p q) jobs

-- the reply where the records were stored, by their places
abbrev pub left_in : Tables → (n p : ℕ) → Thread → Process → List Job → Result Raised Refusal → Reply
left_in t n p v q jobs m =
    raised_in (gone_on (stored_at t (n % 128) (p % 64) v q jobs) (p % 64) m) m

-- the call f on thread n, whose record is v, its process q, leaves the records as w, r and left, and comes to m
abbrev pub Raises : (Tables → Reply) → ℕ → Thread → Process → List Job →
    (w : Thread) → (r : Process) → (left : List Job) → Result Raised Refusal → Type 0
Raises f n v q jobs w r left m =
    (t : Tables) → Sized t → thread_at t (n % 128) ≡ v → process_at t (v.process % 64) ≡ q → t.jobs ≡ jobs →
    left_in t n v.process w r left m ≡ f t

-- what an accepted call comes to, and the records as it leaves them
pub record Came : Type 0 where
  pub to : Raised
  pub thread : Thread
  pub process : Process
  pub jobs : List Job

abbrev pub came : Raised → Thread → Process → List Job → Came
came to v q jobs = record { to = to; thread = v; process = q; jobs = jobs }

-- ---- Delivery ----------------------------------------------------------------------------------

-- the owner of a place's level, by the thread's record v and name n
abbrev pub owner_in : Thread → ℕ → Place → ℕ
owner_in v n Debugger = v.process
owner_in v n OwnThread = n
owner_in v n OwnProcess = v.process
owner_in v n SecondChance = v.process
owner_in v n (OfJob j) = j
owner_in v n (OfJobDebugger j) = j
owner_in v n Exiting = v.process

abbrev pub waits_at : Found → Place → ℕ → ℕ → Bool → Came
waits_at f place n kind second =
    came (At (level_of place) (owner_in f.thread n place))
    (waits f.thread BLOCKED_EXCEPTION (InException (exception_at kind place second))) f.process f.jobs

abbrev pub goes_on : Found → Came
goes_on f = came Next (end_wait f.thread) f.process f.jobs

abbrev pub exits_with : Found → Came
exits_with f = came Exits (end_wait f.thread) (with_status f.process (Exited KILL_CODE)) f.jobs

-- types without the bit 0x8000 also exit the process
unfoldable pub unheard : Found → ℕ → Came
unheard f kind =
    if is_synth kind then goes_on f otherwise
    if not (is_live_process f.process) then goes_on f otherwise
    exits_with f

unfoldable pub delivers : Option Place → Found → ℕ → ℕ → Bool → Came
delivers None f n kind second = unheard f kind
delivers (Some place) f n kind second = waits_at f place n kind second

-- ThreadExiting leaves the state; a killed thread sends it and is stopped (M11)
unfoldable pub exits_to : Option Place → Found → ℕ → Came
exits_to None f kind = came Next f.thread f.process f.jobs
exits_to (Some place) f kind =
    if f.thread.killed then came Stop f.thread f.process f.jobs otherwise
    came (At 1 f.thread.process)
    (waits f.thread f.thread.state (InException (exception_at kind place false))) f.process f.jobs

-- ---- The calls ---------------------------------------------------------------------------------

-- while Dying, types but ThreadExiting deliver nothing
unfoldable pub is_stopped : Thread → ℕ → Bool
is_stopped v kind = if kind =? 0x8108 then false otherwise v.state =? DYING

unfoldable pub raises : ℕ → ℕ → Route → Thread → Process → List Job → Came
raises n kind route v q jobs =
    let f : Found = first_found route v q jobs in
    if is_stopped v kind then came Stop v q jobs otherwise
    if kind =? 0x8108 then exits_to f.at f kind otherwise
    delivers f.at f n kind false

abbrev pub is_over : Exception → Bool
is_over e = e.handled or over_at_first e.place

unfoldable pub closes : ℕ → Exception → Thread → Process → List Job → Came
closes n e v q jobs =
    let f : Found = next_found e.place e v q jobs in
    if is_over e then came Over (end_wait v) q jobs otherwise
    delivers f.at f n e.kind e.second
