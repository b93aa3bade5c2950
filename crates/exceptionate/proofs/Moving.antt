-- How a `return` of a call on a channel meets the call's definition, whosever level it is.
--     Channel                          a level that was looked up: its number, its owner, and what was found
--     past, unmade, refused, set       the ways out of a call on it
--     channel_of_thread, ..            the owners
-- Assumes nothing.
use Rattle.std.proofs.Common.{Option, Some, None, Result, Ok, Err}
use Prim.Native.Nat.{ℕ, ◌%◌, ◌<◌, ◌≤◌}
use native.Mathlib.Nat.{mod-eq_of_lt}
use mathlib.Core.Path.{◌≡◌, refl, ap, sym, ◌∙◌}
use mathlib.Core.Bool.{Bool, true, false}
use lib.IntN.{pos}
use Rattle.laws.specs.Choice.{if◌then◌otherwise◌, ◌or◌}
use Rattle.error.specs.declared.Refusal.{Refusal}
use Rattle.error.specs.Numbers.{number_of}
use Rattle.record_exception.specs.declared.Level.{Level}
use Rattle.record_exception.specs.declared.Level.TheVariants.{Unbound, Bound, HungUp, Shut}
use Rattle.record_job.specs.declared.Job.{Job}
use Rattle.record_job.specs.Job.{found_job_in, with_level4, with_level5}
use Rattle.record_process.specs.declared.Process.{Process}
use Rattle.record_process.specs.Process.{found_process_in, with_level1, with_level3}
use Rattle.record_thread.specs.declared.Thread.{Thread}
use Rattle.record_thread.specs.Thread.{found_thread_in, with_level2}
use Rattle.records.specs.declared.tables.Tables.{Tables}
use Rattle.records.specs.Tables.{job_at, process_at, thread_at}
use Rattle.records.specs.Tables.{found_job, found_process, found_thread}
use Rattle.records.specs.Owners.{owners_of, found_level, put_level, level_of_thread, level_of_process, level_of_job}
use Rattle.records.specs.Owners.{process_level, job_level}
use Rattle.records.proofs.Kept.{job_kept, process_kept, job_at_lem, process_at_lem, thread_at_lem}
use Rattle.reply.specs.declared.Reply.{Reply}
use Rattle.reply.specs.Reply.{answered}
use Rattle.model.specs.ExceptionCalls.{bad_level, bind_level, hang_up_level}
use Rattle.model.proofs.Answering.{answering}
use Rattle.job.specs.Job as job
use Rattle.process.specs.Process as process
use Rattle.thread.specs.Move.{settled}
use Rattle.thread.proofs.Moving.{settles_stored}
use Rattle.exceptionate.specs.declared.ChannelCall.{ChannelCall}
use Rattle.exceptionate.specs.declared.ChannelCall.TheVariants.{CreateChannel, HangUp}
use Rattle.exceptionate.specs.Exceptionate.{on_level, level_after, of_process, of_job}

-- owner n's level of this number, of `size` owners, was looked up as g
pub record Channel (t : Tables) (level n size : ℕ) (g : Option Level) : Type 0 where
  good : bad_level level ≡ false
  owners : owners_of level ≡ size
  looked_up : n < size → g ≡ found_level t level n

-- what the call makes of a level, stored where it was
leveled : Tables → (level n : ℕ) → Result Level Refusal → Reply
leveled t level n (Ok l) = answered (put_level t level n l) (pos 0)
leveled t level n (Err e) = answered t (number_of e)

made : (call : ChannelCall) (t : Tables) (level n : ℕ) (l : Level) {g : Option Level} → bad_level level ≡ false →
    n < owners_of level → g ≡ found_level t level n → g ≡ Some l →
    leveled t level n (level_after call l) ≡ on_level call t level n
unfolding leveled on_level bind_level hang_up_level
made CreateChannel t level n Unbound b k f g = search answering depth 20
made CreateChannel t level n Bound b k f g = search answering depth 20
made CreateChannel t level n HungUp b k f g = search answering depth 20
made CreateChannel t level n Shut b k f g = search answering depth 20
made HangUp t level n Unbound b k f g = search answering depth 20
made HangUp t level n Bound b k f g = search answering depth 20
made HangUp t level n HungUp b k f g = search answering depth 20
made HangUp t level n Shut b k f g = search answering depth 20

ends : (call : ChannelCall) (t : Tables) (level n : ℕ) {x : Reply} → bad_level level ≡ false → owners_of level ≤ n →
    x ≡ answered t (pos 101) → x ≡ on_level call t level n
unfolding on_level bind_level hang_up_level
ends CreateChannel t level n b k e = search answering depth 20
ends HangUp t level n b k e = search answering depth 20

absent : (call : ChannelCall) (t : Tables) (level n : ℕ) {g : Option Level} {x : Reply} → bad_level level ≡ false →
    n < owners_of level → g ≡ found_level t level n → g ≡ None → x ≡ answered t (pos 103) → x ≡ on_level call t level n
unfolding on_level bind_level hang_up_level
absent CreateChannel t level n b k f g e = search answering depth 20
absent HangUp t level n b k f g e = search answering depth 20

-- the ways out of a call on it
module _ (call : ChannelCall) {t : Tables} {level n size : ℕ} {g : Option Level}
    (o : Channel t level n size g) {x : Reply} where
  pub past : size ≤ n → x ≡ answered t (pos 101) → x ≡ on_level call t level n
  past k e = ends call t level n o.good (rw o.owners k) e

  pub unmade : n < size → None ≡ g → x ≡ answered t (pos 103) → x ≡ on_level call t level n
  unmade k i e = absent call t level n o.good (rw o.owners k) (o.looked_up k) (sym i) e

  pub refused : {l : Level} {e : Refusal} → n < size → Some l ≡ g → level_after call l ≡ Err e →
      x ≡ answered t (number_of e) → x ≡ on_level call t level n
  unfolding leveled
  refused {l} k i r e = e ∙ rw r at (made call t level n l o.good (rw o.owners k) (o.looked_up k) (sym i))

  pub set : {l m : Level} → n < size → Some l ≡ g → level_after call l ≡ Ok m →
      x ≡ answered (put_level t level n m) (pos 0) → x ≡ on_level call t level n
  unfolding leveled
  set {l} k i r e = e ∙ rw r at (made call t level n l o.good (rw o.owners k) (o.looked_up k) (sym i))

-- ---- A thread's level ------------------------------------------------------------------------------

pub channel_of_thread : {v : Thread} (t : Tables) (n : ℕ) → thread_at t (n % 128) ≡ v →
    Channel t 2 n 128 (level_of_thread (found_thread_in v))
unfolding owners_of found_level found_thread found_thread_in if◌then◌otherwise◌ ◌or◌
channel_of_thread {v} t n h = record {
  good = refl;
  owners = refl;
  looked_up = λ k. rw (thread_at_lem t n k h) refl;
}

pub thread_put : {u v : Thread} (t : Tables) (n : ℕ) (l : Level) → n < 128 → thread_at t (n % 128) ≡ v →
    u ≡ with_level2 v l → settled t n u (Ok tt) ≡ answered (put_level t 2 n l) (pos 0)
unfolding put_level if◌then◌otherwise◌
thread_put t n l k h e =
    settles_stored t n _ (e ∙ ap (λ (w : Thread). with_level2 w l) (sym (thread_at_lem t n k h))) k

-- ---- A process's two levels -------------------------------------------------------------------------------

pub process_refused : (t : Tables) (n : ℕ) {q : Process} (e : Refusal) → process_at t (n % 64) ≡ q →
    process.settled t n q (Err e) ≡ answered t (number_of e)
unfolding process.settled
process_refused t n e h = rw (process_kept t (n % 64) h)

-- the debugger's, and the own
pub process_debugger : (d : Bool) (q : Process) → d ≡ true → q.level1 ≡ process_level q (of_process d)
unfolding process_level if◌then◌otherwise◌
process_debugger d q e = rw e

pub process_own : (d : Bool) (q : Process) → d ≡ false → q.level3 ≡ process_level q (of_process d)
unfolding process_level if◌then◌otherwise◌
process_own d q e = rw e

pub channel_of_process : (d : Bool) {q : Process} (t : Tables) (n : ℕ) → process_at t (n % 64) ≡ q →
    Channel t (of_process d) n 64 (level_of_process (found_process_in q) (of_process d))
unfolding owners_of found_level found_process found_process_in if◌then◌otherwise◌ ◌or◌
channel_of_process true t n h = record { good = refl; owners = refl; looked_up = λ k. rw (process_at_lem t n k h) refl }
channel_of_process false t n h =
    record { good = refl; owners = refl; looked_up = λ k. rw (process_at_lem t n k h) refl }

module _ (d : Bool) (t : Tables) (n : ℕ) {q : Process} (h : process_at t (n % 64) ≡ q) where
  pub process_debugger_put : {u : Process} (l : Level) → d ≡ true → n < 64 → u ≡ with_level1 q l →
      process.settled t n u (Ok tt) ≡ answered (put_level t (of_process d) n l) (pos 0)
  unfolding process.settled put_level if◌then◌otherwise◌
  process_debugger_put l b k e = rw (b, e, ← process_at_lem t n k h, mod-eq_of_lt k)

  pub process_own_put : {u : Process} (l : Level) → d ≡ false → n < 64 → u ≡ with_level3 q l →
      process.settled t n u (Ok tt) ≡ answered (put_level t (of_process d) n l) (pos 0)
  unfolding process.settled put_level if◌then◌otherwise◌
  process_own_put l b k e = rw (b, e, ← process_at_lem t n k h, mod-eq_of_lt k)

-- ---- A job's two levels -------------------------------------------------------------------------------

pub job_refused : (t : Tables) (n : ℕ) {j : Job} (e : Refusal) → job_at t (n % 32) ≡ j →
    job.settled t n j (Err e) ≡ answered t (number_of e)
unfolding job.settled
job_refused t n e h = rw (job_kept t (n % 32) h)

-- the debugger's, and the own
pub job_debugger : (d : Bool) (j : Job) → d ≡ true → j.level5 ≡ job_level j (of_job d)
unfolding job_level if◌then◌otherwise◌
job_debugger d j e = rw e

pub job_own : (d : Bool) (j : Job) → d ≡ false → j.level4 ≡ job_level j (of_job d)
unfolding job_level if◌then◌otherwise◌
job_own d j e = rw e

pub channel_of_job : (d : Bool) {j : Job} (t : Tables) (n : ℕ) → job_at t (n % 32) ≡ j →
    Channel t (of_job d) n 32 (level_of_job (found_job_in j) (of_job d))
unfolding owners_of found_level found_job found_job_in if◌then◌otherwise◌ ◌or◌
channel_of_job true t n h = record { good = refl; owners = refl; looked_up = λ k. rw (job_at_lem t n k h) refl }
channel_of_job false t n h = record { good = refl; owners = refl; looked_up = λ k. rw (job_at_lem t n k h) refl }

module _ (d : Bool) (t : Tables) (n : ℕ) {j : Job} (h : job_at t (n % 32) ≡ j) where
  pub job_debugger_put : {u : Job} (l : Level) → d ≡ true → n < 32 → u ≡ with_level5 j l →
      job.settled t n u (Ok tt) ≡ answered (put_level t (of_job d) n l) (pos 0)
  unfolding job.settled put_level if◌then◌otherwise◌
  job_debugger_put l b k e = rw (b, e, ← job_at_lem t n k h, mod-eq_of_lt k)

  pub job_own_put : {u : Job} (l : Level) → d ≡ false → n < 32 → u ≡ with_level4 j l →
      job.settled t n u (Ok tt) ≡ answered (put_level t (of_job d) n l) (pos 0)
  unfolding job.settled put_level if◌then◌otherwise◌
  job_own_put l b k e = rw (b, e, ← job_at_lem t n k h, mod-eq_of_lt k)
