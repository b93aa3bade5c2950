-- A call on a process and a thread, over the two records alone: what it gives, stored where the records were, is what
-- the model says of the call, whatever else the tables hold.
use Rattle.std.specs.Prelude.{ℕ, ◌%◌, ◌≡◌, Result}
use Rattle.error.specs.declared.Refusal.{Refusal}
use Rattle.error.specs.Numbers.{answer_of}
use Rattle.record_process.specs.declared.Process.{Process}
use Rattle.record_thread.specs.declared.Thread.{Thread}
use Rattle.records.specs.declared.tables.Tables.{Tables}
use Rattle.records.specs.Tables.{process_at, thread_at, put_process, put_thread}
use Rattle.reply.specs.declared.Reply.{Reply}
use Rattle.reply.specs.Reply.{answered}

-- the reply that the records q and v and this outcome stand for
unfoldable pub both_settled : Tables → ℕ → ℕ → Process → Thread → Result Unit Refusal → Reply
both_settled t p n q v r = answered (put_thread (put_process t (p % 64) q) (n % 128) v) (answer_of r)

-- the call f on process p and thread n, whose records are q and v, leaves them as x and y and comes to r
abbrev pub SettlesBoth :
    (Tables → Reply) → ℕ → ℕ → Process → Thread → Process → Thread → Result Unit Refusal → Type 0
SettlesBoth f p n q v x y r =
    (t : Tables) → process_at t (p % 64) ≡ q → thread_at t (n % 128) ≡ v → both_settled t p n x y r ≡ f t
