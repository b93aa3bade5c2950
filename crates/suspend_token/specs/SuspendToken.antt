-- Suspending, resuming and tokens, over the records that they name: what a call leaves, stored where the records were
-- and done to each thread of the process where asked, is what the model says of the call, whatever else the tables
-- hold.
use Rattle.std.specs.Prelude.{Option, Result, Ok, Err, unwrap_or}
use Rattle.std.specs.Prelude.{ℕ, ◌%◌, ◌≡◌, Bool, true, false, length, map, ℤ, pos}
use Rattle.error.specs.declared.Refusal.{Refusal}
use Rattle.error.specs.Numbers.{number_of}
use Rattle.laws.specs.Choice.{◌≤?◌, ◌<?◌, ◌=?◌, if◌then◌otherwise◌}
use Rattle.laws.specs.Guarded.{◌>>◌, ◌>>=◌, refuse◌when◌, deny◌when◌}
use Rattle.record_job.specs.declared.Job.{Job}
use Rattle.record_job.specs.Job.{found_job_in}
use Rattle.record_process.specs.declared.Process.{Process}
use Rattle.record_process.specs.Process.{found_process_in}
use Rattle.record_thread.specs.declared.Thread.{Thread}
use Rattle.record_thread.specs.Thread.{found_thread_in}
use Rattle.record_token.specs.SuspendToken.{number}
use Rattle.record_token.specs.declared.Kind.TheVariants.{Job as OF_JOB}
use Rattle.record_token.specs.declared.SuspendToken.{SuspendToken}
use Rattle.record_token.specs.declared.Task.{Task}
use Rattle.thread_lists.specs.declared.Each.{Each}
use Rattle.thread_lists.specs.Each.{SUSPEND, RESUME, one_of, bars, any_bars, changed_in}
use Rattle.records.specs.declared.tables.Tables.{Tables}
use Rattle.records.specs.Tables.{job_at, process_at, thread_at, token_at, put_thread, put_token, with_threads}
use Rattle.records.specs.Owners.{as_task, tasks_of}
use Rattle.reply.specs.declared.Reply.{Reply}
use Rattle.reply.specs.Reply.{answered}
use Rattle.model.specs.Replies.{call, accept, task}
use Rattle.model.specs.SuspendToken.{PROCESS, change_task}

-- a made task
unfoldable pub found_task_in : ℕ → Thread → Process → Job → Option Unit
found_task_in kind v q j =
    if kind =? 0 then as_task (found_job_in j) otherwise
    if kind =? 1 then as_task (found_process_in q) otherwise
    as_task (found_thread_in v)

-- does a thread concerned bar the change? of a process's it is told
unfoldable pub bars_in : Each → ℕ → Thread → Bool → Bool
bars_in k kind v barred = if kind =? PROCESS then barred otherwise bars k v

-- a thread by a name past the table has no suspension
unfoldable pub none_in : (kind n : ℕ) → Thread → Bool → Bool
none_in kind n v barred =
    if kind =? PROCESS then barred otherwise
    if 128 ≤? n then true otherwise
    v.suspends =? 0

-- ---- 1e and 1f at once, as the model says each ---------------------------------------------------------

unfoldable pub some_bars : Each → Tables → (kind n : ℕ) → Bool
some_bars k t kind n =
    if kind =? PROCESS then any_bars (bars k) n t.threads otherwise bars k (thread_at t n)

-- where a thread concerned bars it, it is refused with this number
unfoldable pub change_call : Each → ℤ → Tables → (kind n : ℕ) → Reply
change_call k bar t kind n = call t do
  refuse 104 when 2 <? kind
  refuse 101 when tasks_of kind ≤? n
  _ ← task t kind n
  refuse 106 when kind =? 0
  deny bar when some_bars k t kind n
  accept (change_task (one_of k) t kind n)

-- ---- What an outcome means for the tables; n is the task's name ----------------------------------------

-- the records are stored, and where asked k is done to each thread that process n lists
unfoldable pub settled : Each → Tables → ℕ → Result Bool Refusal → Reply
settled k t n (Ok true) = answered (with_threads t (map (changed_in (one_of k) n) t.threads)) (pos 0)
settled k t n (Ok false) = answered t (pos 0)
settled k t n (Err e) = answered t (number_of e)

-- the call f does k on task n, leaves its thread v as w and comes to r: in any tables where q and j are the process and
-- the job of that name, and `barred` says whether a thread that process n lists bars k
abbrev pub Changes : Each → (f : Tables → Reply) → (kind n : ℕ) → (v w : Thread) → Process → Job → Bool →
    Result Bool Refusal → Type 0
Changes k f kind n v w q j barred r =
    (t : Tables) → thread_at t (n % 128) ≡ v → process_at t (n % 64) ≡ q → job_at t (n % 32) ≡ j →
    (kind ≡ PROCESS → any_bars (bars k) n t.threads ≡ barred) → settled k (put_thread t (n % 128) w) n r ≡ f t

-- the same, and leaves the token k as l
abbrev pub Creates : (f : Tables → Reply) → (new kind n : ℕ) → (k l : SuspendToken) → (v w : Thread) → Process →
    Job → Bool → Result Bool Refusal → Type 0
Creates f new kind n k l v w q j barred r =
    (t : Tables) → token_at t (new % 64) ≡ k →
    thread_at t (n % 128) ≡ v → process_at t (n % 64) ≡ q → job_at t (n % 32) ≡ j →
    (kind ≡ PROCESS → any_bars (bars SUSPEND) n t.threads ≡ barred) →
    settled SUSPEND (put_token (put_thread t (n % 128) w) (new % 64) l) n r ≡ f t

-- the task that a token holds; a dropped one's is looked at by no call
abbrev pub held_task : SuspendToken → Task
held_task k = unwrap_or k.task (record { kind = OF_JOB; name = 0 })

-- the call f drops token k of this name and leaves it as l, and the thread v of its task a as w; a name past the table
-- of threads has no count
abbrev pub Drops : (f : Tables → Reply) → ℕ → (k l : SuspendToken) → (v w : Thread) → Bool → Result Bool Refusal →
    Type 0
Drops f name k l v w barred r =
    (t : Tables) (a : Task) → length t.threads ≡ 128 → token_at t (name % 64) ≡ k → a ≡ held_task k →
    thread_at t (a.name % 128) ≡ v → (number a.kind ≡ PROCESS → any_bars (bars RESUME) a.name t.threads ≡ barred) →
    settled RESUME (put_token (put_thread t (a.name % 128) w) (name % 64) l) a.name r ≡ f t
