-- Suspending and resuming a task, and tokens. Follows suspend_token.rs and `suspend` and `resume`
-- of thread.rs and process.rs. A thread is concerned if it is the one named (kind 2), or listed by
-- the process named (kind 1).
use Rattle.std.specs.Prelude.{ℕ, Bool, map}
use Rattle.laws.specs.Choice.{◌=?◌, ◌and◌, if◌then◌otherwise◌}
use Rattle.laws.specs.Lists.{any}
use Rattle.record_thread.specs.declared.Thread.{Thread}
use Rattle.record_thread.specs.Thread.{suspend, resume, thread_of}
use Rattle.record_token.specs.SuspendToken.{kind_of, new_token, drop}
use Rattle.records.specs.declared.tables.Tables.{Tables}
use Rattle.records.specs.Tables.{thread_at, token_at, put_thread, put_token, with_threads}

abbrev pub PROCESS : ℕ
PROCESS = 1

-- does a thread concerned have this count?
unfoldable pub some_at : Tables → ℕ → ℕ → ℕ → Bool
some_at t kind n count =
    if kind =? PROCESS
    then any (λ v. thread_of v n and (v.suspends =? count)) t.threads
    otherwise (thread_at t n).suspends =? count

unfoldable pub change_in : (Thread → Thread) → ℕ → Thread → Thread
change_in f p v = if thread_of v p then f v otherwise v

-- f at each thread concerned
unfoldable pub change_task : (Thread → Thread) → Tables → ℕ → ℕ → Tables
change_task f t kind n =
    if kind =? PROCESS then with_threads t (map (change_in f n) t.threads)
    otherwise put_thread t n (f (thread_at t n))

unfoldable pub suspend_task : Tables → ℕ → ℕ → Tables
suspend_task t kind n = change_task suspend t kind n

unfoldable pub resume_task : Tables → ℕ → ℕ → Tables
resume_task t kind n = change_task resume t kind n

-- making a token suspends its task, dropping it resumes
unfoldable pub create_token : Tables → ℕ → ℕ → ℕ → Tables
create_token t k kind n = put_token (suspend_task t kind n) k (new_token (kind_of kind) n)

unfoldable pub drop_token : Tables → ℕ → ℕ → ℕ → Tables
drop_token t k kind n = put_token (resume_task t kind n) k (drop (token_at t k))
