-- How the calls of this model answer: guards in document 01's order, and at the foot what an
-- accepted call comes to. A lookup gives a made record, or the number that refuses the call.
use Rattle.std.specs.Prelude.{Option, Some, None}
use Rattle.std.specs.Prelude.{ℕ, pos}
use Rattle.laws.specs.Guarded.{Result, found, missing, Guarded, ok, settle}
use Rattle.record_exception.specs.declared.Exception.{Exception}
use Rattle.record_exception.specs.declared.Level.{Level}
use Rattle.record_job.specs.declared.Job.{Job}
use Rattle.record_process.specs.declared.Process.{Process}
use Rattle.record_thread.specs.declared.Thread.{Thread}
use Rattle.record_thread.specs.Thread.{exception_of}
use Rattle.record_token.specs.declared.Task.{Task}
use Rattle.records.specs.declared.tables.Tables.{Tables}
use Rattle.reply.specs.declared.Reply.{Reply}
use Rattle.records.specs.Owners.{found_level, found_task}
use Rattle.reply.specs.Reply.{answered}
use Rattle.records.specs.Tables.{found_job, found_process, found_thread, found_token}

-- a call is refused with a number, and the tables stay, or comes to the reply at its foot
abbrev pub call : Tables → Guarded Reply → Reply
call t l = settle (answered t) l

-- accepted: the answer is 0
abbrev pub accept : Tables → Guarded Reply
accept u = ok (answered u (pos 0))

-- ---- Old names: 103 unless made --------------------------------------------------------------

unfoldable pub present : {A : Type 0} → Option A → Result A
present None = missing (pos 103)
present (Some v) = found v

abbrev pub job : Tables → ℕ → Result Job
job t j = present (found_job t j)

abbrev pub process : Tables → ℕ → Result Process
process t p = present (found_process t p)

abbrev pub thread : Tables → ℕ → Result Thread
thread t n = present (found_thread t n)

abbrev pub token : Tables → ℕ → Result Task
token t k = present (found_token t k)

-- ---- An exception that a handler has: 105 where there is none --------------------------------

unfoldable pub held_exception : Option Exception → Result Exception
held_exception None = missing (pos 105)
held_exception (Some e) = found e

abbrev pub exception : Thread → Result Exception
exception v = held_exception (exception_of v)

-- ---- The owner of a level and the task of a kind: 103 unless made ----------------------------

abbrev pub channel : Tables → ℕ → ℕ → Result Level
channel t level n = present (found_level t level n)

abbrev pub task : Tables → ℕ → ℕ → Result Unit
task t kind n = present (found_task t kind n)
