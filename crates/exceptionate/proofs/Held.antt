-- How a `return` of a call on a thread's exception meets the call's definition.
--     is_held, not_held    the thread looked up, with its exception, and with none
--     kept_waiting         the thread waits on
-- Assumes nothing.
use Rattle.std.proofs.Common.{Option, Some, None, Ok}
use Prim.Native.Nat.{ℕ, ◌%◌, ◌<◌}
use mathlib.Core.Path.{◌≡◌, ap, ◌∙◌}
use lib.IntN.{pos}
use Rattle.laws.specs.Choice.{◌≤?◌}
use Rattle.laws.specs.Guarded.{Guarded, ◌>>◌, ◌>>=◌, refuse◌when◌}
use Rattle.record_exception.specs.declared.Exception.{Exception}
use Rattle.record_thread.specs.declared.Thread.{Thread}
use Rattle.record_thread.specs.declared.Waiting.TheVariants.{InException}
use Rattle.record_thread.specs.Thread.{found_thread_in, exception_of, waits}
use Rattle.records.specs.declared.tables.Tables.{Tables}
use Rattle.records.specs.Tables.{thread_at, put_thread}
use Rattle.records.proofs.Kept.{thread_is}
use Rattle.reply.specs.declared.Reply.{Reply}
use Rattle.reply.specs.Reply.{answered}
use Rattle.model.specs.Replies.{call, thread, exception}
use Rattle.model.proofs.Answering.{the_exception, no_exception}
use Rattle.thread.specs.Move.{settled}
use Rattle.thread.proofs.Moving.{is_found, settles_stored}

module _ {x : Reply} (t : Tables) (n : ℕ) {v w : Thread} {g : Option Thread} {d : Option Exception}
    (k : Thread → Exception → Guarded Reply) (h : n < 128) (e : thread_at t (n % 128) ≡ v)
    (f : g ≡ found_thread_in v) (p : g ≡ Some w) (l : d ≡ exception_of w) where
  pub is_held : {y : Exception} → d ≡ Some y → x ≡ call t (k w y) →
      x ≡ call t (refuse 101 when 128 ≤? n >> (thread t n >>= λ u. exception u >>= λ y. k u y))
  is_held q r = is_found t n _ h e f p (the_exception t _ _ l q r)

  pub not_held : d ≡ None → x ≡ answered t (pos 105) →
      x ≡ call t (refuse 101 when 128 ≤? n >> (thread t n >>= λ u. exception u >>= λ y. k u y))
  not_held q r = is_found t n _ h e f p (no_exception t _ _ l q r)

-- the thread waits on with its exception changed to e
pub kept_waiting : {u w : Thread} {g : Option Thread} (v : Thread) (t : Tables) (n : ℕ) (e : Exception) → n < 128 →
    g ≡ found_thread_in v → g ≡ Some w → u ≡ waits v v.state (InException e) →
    settled t n u (Ok tt) ≡ answered (put_thread t n (waits w w.state (InException e))) (pos 0)
kept_waiting v t n e k i j p =
    settles_stored t n _ (p ∙ ap (λ (z : Thread). waits z z.state (InException e)) (thread_is i j)) k
