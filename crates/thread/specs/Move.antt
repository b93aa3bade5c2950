-- A call on one thread, over its record alone. `Settles` says that the record as the call leaves it, stored where it
-- was, and its outcome are what the model says of the call, whatever else the tables hold.
use Rattle.error.specs.declared.Refusal.{Refusal}
use Rattle.error.specs.declared.Refusal.TheVariants.{PastTable, NotMade, OutOfTurn}
use Rattle.error.specs.Numbers.{number_of, answer_of}
use Rattle.laws.specs.Choice.{◌≤?◌, if◌then◌otherwise◌}
use Rattle.std.specs.Prelude.{Result, Ok, Err, Option, Some, None, pos}
use Rattle.std.specs.Prelude.{ℕ, ◌%◌, ◌≡◌}
use Rattle.record_thread.specs.declared.Thread.{Thread}
use Rattle.record_thread.specs.Thread.{is_free, found_thread_in}
use Rattle.records.specs.declared.tables.Tables.{Tables}
use Rattle.records.specs.Tables.{thread_at, put_thread}
use Rattle.reply.specs.declared.Information.{Information}
use Rattle.reply.specs.declared.Reply.{Reply}
use Rattle.reply.specs.Reply.{answered, informed}
use Rattle.model.specs.Job.{remove_thread}

-- where a name is looked up: every name has a place in the table, and one past it is refused
abbrev pub slot : ℕ → ℕ
slot n = n % 128

-- the thread n, whose record is v, where a call of its own may be on it, or what refuses the call
unfoldable pub free_found : Option Thread → Result Thread Refusal
free_found None = Err NotMade
free_found (Some w) = if is_free w then Ok w otherwise Err OutOfTurn

unfoldable pub free_in : ℕ → Thread → Result Thread Refusal
free_in n v = if 128 ≤? n then Err PastTable otherwise free_found (found_thread_in v)

-- the call f on thread n, whose record is v, changes nothing and comes to r
abbrev pub Shows : (Tables → Reply) → ℕ → Thread → Result Information Refusal → Type 0
Shows f n v r = (t : Tables) → thread_at t (slot n) ≡ v → informed t r ≡ f t

-- the reply that the thread w and this outcome stand for
unfoldable pub settled : Tables → ℕ → Thread → Result Unit Refusal → Reply
settled t n w r = answered (put_thread t (slot n) w) (answer_of r)

-- the call f on thread n, whose record is v, leaves it as w and comes to r
abbrev pub Settles : (Tables → Reply) → ℕ → Thread → Thread → Result Unit Refusal → Type 0
Settles f n v w r = (t : Tables) → thread_at t (slot n) ≡ v → settled t n w r ≡ f t

-- ---- 0c: where it is accepted, the thread is stored and removed from its process ------------------

unfoldable pub ended : Tables → ℕ → Thread → Result Unit Refusal → Reply
ended t n w (Ok done) = answered (remove_thread (put_thread t (slot n) w) w.process) (pos 0)
ended t n w (Err e) = answered (put_thread t (slot n) w) (number_of e)

-- the call f on thread n, whose record is v, leaves it as w and comes to r
abbrev pub Ends : (Tables → Reply) → ℕ → Thread → Thread → Result Unit Refusal → Type 0
Ends f n v w r = (t : Tables) → thread_at t (slot n) ≡ v → ended t n w r ≡ f t
