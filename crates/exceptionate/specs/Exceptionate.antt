-- The calls on a level, over the record that has it: what a call leaves, stored where the record was, is what the model
-- says of the call, whatever else the tables hold.
use Rattle.std.specs.Prelude.{Result, Ok, Err}
use Rattle.std.specs.Prelude.{ℕ, ◌%◌, ◌≡◌, Bool, true, false}
use Rattle.error.specs.declared.Refusal.{Refusal}
use Rattle.error.specs.declared.Refusal.TheVariants.{OutOfTurn, Zx}
use Rattle.error.specs.declared.ZxError.TheVariants.{BadState, AlreadyBound}
use Rattle.error.specs.Numbers.{answer_of}
use Rattle.record_exception.specs.declared.Level.{Level}
use Rattle.record_exception.specs.declared.Level.TheVariants.{Unbound, Bound, HungUp, Shut}
use Rattle.record_job.specs.declared.Job.{Job}
use Rattle.record_process.specs.declared.Process.{Process}
use Rattle.record_thread.specs.declared.Thread.{Thread}
use Rattle.records.specs.declared.tables.Tables.{Tables}
use Rattle.records.specs.Tables.{job_at, process_at, thread_at}
use Rattle.reply.specs.declared.Reply.{Reply}
use Rattle.reply.specs.Reply.{answered}
use Rattle.model.specs.ExceptionCalls.{bind_level, hang_up_level}
use Rattle.job.specs.Job as job
use Rattle.process.specs.Process as process
use Rattle.exceptionate.specs.declared.ChannelCall.{ChannelCall}
use Rattle.exceptionate.specs.declared.ChannelCall.TheVariants.{CreateChannel, HangUp}

-- 12 and 13
unfoldable pub on_level : ChannelCall → Tables → (level n : ℕ) → Reply
on_level CreateChannel t level n = bind_level t level n
on_level HangUp t level n = hang_up_level t level n

-- ---- What a call makes of a level that was looked up -------------------------------------------------

abbrev pub created : Level → Result Level Refusal
created Unbound = Ok Bound
created Bound = Err (Zx AlreadyBound)
created HungUp = Ok Bound
created Shut = Err (Zx BadState)

abbrev pub hung_up : Level → Result Level Refusal
hung_up Unbound = Err OutOfTurn
hung_up Bound = Ok HungUp
hung_up HungUp = Err OutOfTurn
hung_up Shut = Err OutOfTurn

abbrev pub level_after : ChannelCall → Level → Result Level Refusal
level_after CreateChannel l = created l
level_after HangUp l = hung_up l

-- ---- A process's two levels, and a job's -------------------------------------------------------------

-- the debugger's level, or the own
abbrev pub of_process : Bool → ℕ
of_process true = 1
of_process false = 3

abbrev pub of_job : Bool → ℕ
of_job true = 5
of_job false = 4

-- the call f on process p, whose record is q, leaves it as w and comes to r
abbrev pub SettlesProcess : (Tables → Reply) → ℕ → Process → Process → Result Unit Refusal → Type 0
SettlesProcess f p q w r = (t : Tables) → process_at t (p % 64) ≡ q → process.settled t p w r ≡ f t

-- the call f on job n, whose record is j, leaves it as w and comes to r
abbrev pub SettlesJob : (Tables → Reply) → ℕ → Job → Job → Result Unit Refusal → Type 0
SettlesJob f n j w r = (t : Tables) → job_at t (n % 32) ≡ j → job.settled t n w r ≡ f t

-- ---- 18: nothing is changed ------------------------------------------------------------------------

-- the call f on thread n, whose record is v, comes to r
abbrev pub Checks : (Tables → Reply) → ℕ → Thread → Result Unit Refusal → Type 0
Checks f n v r = (t : Tables) → thread_at t (n % 128) ≡ v → answered t (answer_of r) ≡ f t
