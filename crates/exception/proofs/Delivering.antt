-- How an exception is delivered: what that leaves, stored, is what the model says of what the search found. `Still`
-- says that the process of a name past the table does not exit. Assumes nothing.
use Rattle.std.proofs.Common.{Option, Some, None, Ok}
use Prim.Native.Nat.{ℕ, ◌%◌, ◌≤◌, ◌<◌}
use native.Mathlib.Nat.{mod-eq_of_lt}
use mathlib.Core.Path.{◌≡◌, refl, sym, ap, ◌∙◌}
use mathlib.Core.Bool.{Bool, true, false}
use mathlib.Core.List.{List}
use lib.IntN.{pos}
use lib.Seq.{set-set}
use Rattle.laws.specs.Choice.{if◌then◌otherwise◌}
use Rattle.laws.proofs.Cases.{by}
use Rattle.laws.proofs.Flow.{first, second, not_yes, not_no}
use Rattle.laws.proofs.Tables.{read_past, write_past}
use Rattle.error.specs.Numbers.{NEXT, STOP}
use Rattle.record_exception.specs.declared.Place.{Place}
use Rattle.record_exception.specs.declared.Place.TheVariants.{Debugger, OwnThread, OwnProcess}
use Rattle.record_exception.specs.declared.Place.TheVariants.{SecondChance, OfJob, OfJobDebugger}
use Rattle.record_exception.specs.declared.Place.TheVariants.{Exiting}
use Rattle.record_exception.specs.Exception.{level_of, exception_at}
use Rattle.record_job.specs.declared.Job.{Job}
use Rattle.record_process.specs.declared.Status.TheVariants.{Exited}
use Rattle.record_process.specs.declared.Process.{Process}
use Rattle.record_process.specs.Process.{KILL_CODE, no_process, with_status}
use Rattle.record_thread.specs.declared.Waiting.TheVariants.{InException}
use Rattle.record_thread.specs.declared.Thread.{Thread}
use Rattle.record_thread.specs.Thread.{BLOCKED_EXCEPTION, waits, end_wait}
use Rattle.records.specs.declared.tables.Tables.{Tables}
use Rattle.records.specs.Tables.{Sized, process_at, thread_at, put_process, put_thread}
use Rattle.records.specs.Tables.{with_jobs, with_processes, with_threads}
use Rattle.records.proofs.Kept.{process_kept}
use Rattle.reply.specs.declared.Fields.TheVariants.{OwnerField}
use Rattle.reply.specs.declared.Reply.{Reply}
use Rattle.reply.specs.Reply.{reply}
use Rattle.model.specs.Job.{exit_listed, exit_process, is_live_process, kill_job}
use Rattle.model.specs.Exception.{is_synth, process_of, owner_of, outcome, over_tables}
use Rattle.model.specs.Exception.{unhandled, deliver}
use Rattle.model.proofs.Live.{unmade_process}
use Rattle.model.proofs.Steps.{exit_done, exit_step_lem, exiting}
use Rattle.exception.specs.declared.Raised.{Raised}
use Rattle.exception.specs.declared.Raised.TheVariants.{At}
use Rattle.exception.specs.Seek.{Found}
use Rattle.exception.specs.Raise.{raised_answer, raised_owner, raised_in, exits, gone_on, stored_at, left_in}
use Rattle.exception.specs.Raise.{Came, came, owner_in, waits_at}
use Rattle.exception.specs.Raise.{unheard, delivers, exits_to}
use Rattle.exception.proofs.Stored.{Fits, stored, process_put, thread_there}

-- ---- The process of a name past the table -------------------------------------------------------

-- what an accepted call comes to, stored under the process's name p itself
unfoldable pub stored_in : Tables → ℕ → ℕ → Came → Reply
stored_in t n p m = raised_in (gone_on (stored_at t n p m.thread m.process m.jobs) p (Ok m.to)) (Ok m.to)

abbrev pub Still : ℕ → Came → Type 0
Still p m = 64 ≤ p → exits (Ok m.to) ≡ false

pub none_past : (t : Tables) (p : ℕ) → Sized t → 64 ≤ p → process_at t p ≡ no_process
unfolding process_at
none_past t p z k = sym (read_past t.processes p no_process z.processes k)

module _ (t : Tables) (z : Sized t) (n p : ℕ) (h : n < 128) (m : Raised) (w : Thread) (r : Process)
    (jobs : List Job) where
  pub stored_back_in : p < 64 → left_in t n p w r jobs (Ok m) ≡ stored_in t n p (came m w r jobs)
  unfolding stored_in
  stored_back_in l = rw (mod-eq_of_lt l, mod-eq_of_lt h)

  -- a name past the table: the record q at the place that it would have is left as it was
  pub stored_past : {q : Process} → process_at t (p % 64) ≡ q → 64 ≤ p → Still p (came m w r jobs) →
      left_in t n p w q jobs (Ok m) ≡ stored_in t n p (came m w r jobs)
  unfolding stored_in raised_in gone_on if◌then◌otherwise◌ process_at put_process put_thread
  stored_past e k s =
      rw (mod-eq_of_lt h, s k)
      (ap (λ (u : Tables). reply (with_jobs u jobs) (raised_answer m) (OwnerField (raised_owner m)))
      (process_kept (put_thread t n w) (p % 64) e
      ∙ ap (with_processes (put_thread t n w)) (write_past t.processes p r z.processes k)))

-- ---- Delivery ----------------------------------------------------------------------------------

-- ThreadExiting, by what the search found
unfoldable pub exiting_to : Option Place → Tables → ℕ → ℕ → Reply
exiting_to None u n kind = outcome u NEXT
exiting_to (Some p) u n kind =
    if (thread_at u n).killed then outcome u STOP otherwise
    reply (put_thread u n (waits (thread_at u n) (thread_at u n).state (InException (exception_at kind p false))))
    (pos 1) (OwnerField (process_of u n))

owner_is : (u : Tables) (n : ℕ) (v : Thread) (p : Place) → thread_at u n ≡ v → owner_of u n p ≡ owner_in v n p
unfolding owner_of
owner_is u n v Debugger e = ap (λ (x : Thread). x.process) e
owner_is u n v OwnThread e = refl
owner_is u n v OwnProcess e = ap (λ (x : Thread). x.process) e
owner_is u n v SecondChance e = ap (λ (x : Thread). x.process) e
owner_is u n v (OfJob j) e = refl
owner_is u n v (OfJobDebugger j) e = refl
owner_is u n v Exiting e = ap (λ (x : Thread). x.process) e

-- f was found by the search; its tables
module _ (t : Tables) (z : Sized t) (n : ℕ) (h : n < 128) (f : Found)
    (fits : Fits f.thread.process f.process) where
  abbrev name : ℕ
  name = f.thread.process

  abbrev there : Tables
  there = with_jobs (stored t n f.thread f.process) f.jobs

  thread_is : thread_at there n ≡ f.thread
  unfolding thread_at put_process put_thread
  thread_is = thread_there t z n h f.thread f.process

  -- the tables with the thread changed, and the process
  abbrev with : Thread → Process → Tables
  with w r = with_jobs (put_process (put_thread t n w) name r) f.jobs

  put_thread_lem : (g : Thread → Thread) → put_thread there n (g (thread_at there n)) ≡ with (g f.thread) f.process
  unfolding put_process put_thread
  put_thread_lem g =
      ap (λ (x : Thread). put_thread there n (g x)) thread_is
      ∙ ap (with_threads there) (set-set t.threads n f.thread (g f.thread))

  process_is : (w : Thread) → process_at (with w f.process) name ≡ f.process
  unfolding process_at put_process put_thread
  process_is w = process_put t z n h (put_thread t n w) name f.process refl fits

  put_process_lem : (w : Thread) (r : Process) → put_process (with w f.process) name r ≡ with w r
  unfolding put_process put_thread
  put_process_lem w r = ap (with_processes (with w f.process)) (set-set t.processes name f.process r)

  waiting : (p : Place) (kind : ℕ) (b : Bool) →
      deliver (Some p) there n kind b ≡ stored_in t n name (waits_at f p n kind b)
  unfolding deliver stored_in raised_in gone_on if◌then◌otherwise◌
  waiting p kind b =
      ap (λ (u : Tables). reply u (pos (level_of p)) (OwnerField (owner_of there n p)))
      (put_thread_lem (λ v. waits v BLOCKED_EXCEPTION (InException (exception_at kind p b))))
      ∙ rw (owner_is there n f.thread p thread_is)

  over_is : over_tables there n ≡ with (end_wait f.thread) f.process
  over_is = put_thread_lem end_wait

  exit_is : exit_process (over_tables there n) (process_of there n) KILL_CODE
      ≡ exit_process (with (end_wait f.thread) f.process) name KILL_CODE
  exit_is =
      ap (λ (u : Tables). exit_process u (process_of there n) KILL_CODE) over_is
      ∙ ap (λ (x : Thread). exit_process (with (end_wait f.thread) f.process) x.process KILL_CODE) thread_is

  exit_rests : is_live_process f.process ≡ false →
      exit_process (over_tables there n) (process_of there n) KILL_CODE ≡ with (end_wait f.thread) f.process
  exit_rests d =
      exit_is ∙ sym (exit_done _ name KILL_CODE f.process (sym (process_is (end_wait f.thread))) d)

  exit_goes : is_live_process f.process ≡ true →
      exit_process (over_tables there n) (process_of there n) KILL_CODE
      ≡ exit_listed kill_job (with (end_wait f.thread) (with_status f.process (Exited KILL_CODE))) name
  exit_goes d =
      let w : Tables = with (end_wait f.thread) f.process in
      let r : Process = with_status f.process (Exited KILL_CODE) in
      exit_is
      ∙ sym (exit_step_lem w name KILL_CODE _
      (exiting w name KILL_CODE f.process r (put_process w name r) (sym (process_is (end_wait f.thread))) d
      refl refl))
      ∙ ap (λ (u : Tables). exit_listed kill_job u name) (put_process_lem (end_wait f.thread) r)

  ending : (kind : ℕ) → outcome (unhandled there n kind) NEXT ≡ stored_in t n name (unheard f kind)
  unfolding unhandled unheard stored_in raised_in gone_on if◌then◌otherwise◌
  ending kind =
      by (is_synth kind)
      (λ s. rw s (ap (λ (u : Tables). reply u NEXT (OwnerField 0)) over_is))
      (λ s.
      by (is_live_process f.process)
      (λ d. rw (s, not_no d) (ap (λ (u : Tables). reply u NEXT (OwnerField 0)) (exit_goes d)))
      (λ d. rw (s, not_yes d) (ap (λ (u : Tables). reply u NEXT (OwnerField 0)) (exit_rests d))))

  pub deliver_at : (at : Option Place) (kind : ℕ) (b : Bool) →
      deliver at there n kind b ≡ stored_in t n name (delivers at f n kind b)
  unfolding deliver delivers
  deliver_at None kind b = ending kind
  deliver_at (Some p) kind b = waiting p kind b

  pub deliver_still : (at : Option Place) (kind : ℕ) (b : Bool) → Still name (delivers at f n kind b)
  unfolding delivers unheard if◌then◌otherwise◌
  deliver_still (Some p) kind b k = refl
  deliver_still None kind b k =
      by (is_synth kind)
      (λ s. rw s)
      (λ s. rw (s, not_yes dead))
    where
      dead : is_live_process f.process ≡ false
      dead = ap is_live_process (fits k) ∙ unmade_process no_process refl

  -- ThreadExiting
  abbrev exiting_at : Place → ℕ → Thread → Thread
  exiting_at p kind v = waits v v.state (InException (exception_at kind p false))

  exit_waits : (p : Place) (kind : ℕ) →
      reply (put_thread there n (exiting_at p kind (thread_at there n))) (pos 1) (OwnerField (process_of there n))
      ≡ stored_in t n name (came (At 1 name) (exiting_at p kind f.thread) f.process f.jobs)
  unfolding stored_in raised_in gone_on if◌then◌otherwise◌
  exit_waits p kind =
      ap (λ (u : Tables). reply u (pos 1) (OwnerField (process_of there n))) (put_thread_lem (exiting_at p kind))
      ∙ ap (λ (x : Thread). reply (with (exiting_at p kind f.thread) f.process) (pos 1) (OwnerField x.process))
      thread_is

  pub exits_at : (at : Option Place) (kind : ℕ) → exiting_to at there n kind ≡ stored_in t n name (exits_to at f kind)
  unfolding exiting_to exits_to stored_in raised_in gone_on if◌then◌otherwise◌
  exits_at None kind = refl
  exits_at (Some p) kind =
      let k : (thread_at there n).killed ≡ f.thread.killed = ap (λ (x : Thread). x.killed) thread_is in
      by f.thread.killed
      (λ d. sym (first _ _ (k ∙ d) refl) ∙ ap (stored_in t n name) (first _ _ d refl))
      (λ d. sym (second _ _ (k ∙ d) refl) ∙ exit_waits p kind ∙ ap (stored_in t n name) (second _ _ d refl))

pub exits_still : (at : Option Place) (f : Found) (kind : ℕ) → exits (Ok (exits_to at f kind).to) ≡ false
unfolding exits_to if◌then◌otherwise◌
exits_still None f kind = refl
exits_still (Some p) f kind = by f.thread.killed (λ d. rw d) (λ d. rw d)
