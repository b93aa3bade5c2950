-- What a call makes of the records that it is lent in their places is what it makes of the tables: `lending` is named
-- on each entry point.
--     process_read    a thread made leaves the record of its process, which is read alone
-- Assumes nothing.
use Prim.Native.Nat.{ℕ, ◌%◌}
use mathlib.Core.Path.{◌≡◌}
use Rattle.std.proofs.Common.{Result}
use Rattle.error.specs.declared.Refusal.{Refusal}
use Rattle.error.specs.Numbers.{answer_of}
use Rattle.laws.proofs.Loops.{length_mapped}
use Rattle.record_process.specs.declared.Process.{Process}
use Rattle.record_thread.specs.declared.Thread.{Thread}
use Rattle.records.specs.declared.tables.Tables.{Tables}
use Rattle.records.specs.Tables.{process_at, put_thread}
use Rattle.records.proofs.Kept.{process_kept}
use Rattle.records.proofs.Places.{process_place, thread_place}
use Rattle.reply.specs.declared.Reply.{Reply}
use Rattle.reply.specs.Reply.{answered}
use Rattle.thread.specs.Pair.{both_settled}

pub process_read : {x : Reply} (t : Tables) (p n : ℕ) {q : Process} (v : Thread) (r : Result Unit Refusal) →
    process_at t (p % 64) ≡ q → both_settled t p n q v r ≡ x →
    answered (put_thread t (n % 128) v) (answer_of r) ≡ x
unfolding both_settled
process_read t p n v r h e = simp (process_kept t (p % 64) h) at e

pub ruleset lending = (process_place, thread_place, process_read, length_mapped)
