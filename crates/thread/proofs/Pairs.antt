-- How a `return` of a function over the records of a process and a thread meets a call's definition: `search pairs`
-- closes it.
--     both_refused, both_stored, thread_stored   both stay, both are stored where they were, or the thread is
-- Assumes nothing.
use Rattle.std.proofs.Common.{Ok, Err}
use Rattle.error.specs.declared.Refusal.{Refusal}
use Rattle.error.specs.Numbers.{number_of}
use Prim.Native.Nat.{ℕ, ◌%◌, ◌<◌}
use native.Mathlib.Nat.{mod-eq_of_lt}
use mathlib.Core.Path.{◌≡◌}
use lib.IntN.{ℤ, pos}
use Rattle.record_process.specs.declared.Process.{Process}
use Rattle.record_thread.specs.declared.Thread.{Thread}
use Rattle.records.specs.declared.tables.Tables.{Tables}
use Rattle.records.specs.Tables.{process_at, thread_at, put_process, put_thread}
use Rattle.records.proofs.Kept.{process_kept, thread_kept}
use Rattle.records.proofs.Kept.{process_looked_up_at, thread_looked_up_at, new_thread_lem}
use Rattle.reply.specs.Reply.{answered}
use Rattle.model.proofs.Answering.{answering}
use Rattle.thread.specs.Pair.{both_settled}

pub both_refused : (t : Tables) (p n : ℕ) {q : Process} {v : Thread} (e : Refusal) {c : ℤ} →
    number_of e ≡ c → process_at t (p % 64) ≡ q → thread_at t (n % 128) ≡ v →
    both_settled t p n q v (Err e) ≡ answered t c
unfolding both_settled
both_refused t p n e i h k = rw (process_kept t (p % 64) h, thread_kept t (n % 128) k, i)

pub both_stored : {x : Process} {y : Thread} (t : Tables) (p n : ℕ) (q : Process) (v : Thread) →
    x ≡ q → y ≡ v → p < 64 → n < 128 →
    both_settled t p n x y (Ok tt) ≡ answered (put_thread (put_process t p q) n v) (pos 0)
unfolding both_settled
both_stored t p n q v e f h k = rw (e, f, mod-eq_of_lt h, mod-eq_of_lt k)

pub thread_stored : {y : Thread} (t : Tables) (p n : ℕ) {q : Process} (v : Thread) →
    y ≡ v → process_at t (p % 64) ≡ q → n < 128 →
    both_settled t p n q y (Ok tt) ≡ answered (put_thread t n v) (pos 0)
unfolding both_settled
thread_stored t p n v e h k = rw (e, process_kept t (p % 64) h, mod-eq_of_lt k)

pub ruleset pairs = (
  answering,
  process_looked_up_at,
  thread_looked_up_at,
  new_thread_lem,
  both_refused,
  both_stored,
  thread_stored,
)
