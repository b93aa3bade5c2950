-- Jobs and processes: lists, terminations upward, and killing, exiting and ending, which call one another. Follows
-- job.rs and process.rs, with what their comments quote of Zircon, and document 01.
use Rattle.std.specs.Prelude.{Option, Some, None}
use Rattle.std.specs.Prelude.{ℕ, zero, suc, ◌+◌, Bool, true, false, not, List, [], ◌∷◌, map, ℤ}
use Rattle.laws.specs.Choice.{◌=?◌, ◌and◌, if◌then◌otherwise◌, ite}
use Rattle.laws.specs.Lists.{any}
use Rattle.record_job.specs.declared.Job.{Job}
use Rattle.record_job.specs.Job.{killed, terminated, child_of}
use Rattle.record_process.specs.declared.Critical.{Critical}
use Rattle.record_process.specs.declared.Status.TheVariants.{Exited}
use Rattle.record_process.specs.declared.Process.{Process}
use Rattle.record_process.specs.Process.{KILL_CODE, is_exited, code_of, with_status, ended, acts}
use Rattle.record_process.specs.Process.{member_of}
use Rattle.record_thread.specs.declared.Thread.{Thread}
use Rattle.record_thread.specs.Thread.{kill, finish, thread_of}
use Rattle.records.specs.declared.tables.Tables.{Tables}
use Rattle.records.specs.Tables.{job_at, process_at, thread_at, put_job, put_process, put_thread}
use Rattle.records.specs.Tables.{with_threads}

-- ---- Lists: a record is on the list of what it names while it carries the listed mark --------

unfoldable pub lists_child : Tables → ℕ → Bool
lists_child t j = any (λ v. child_of v j) t.jobs

unfoldable pub lists_process : Tables → ℕ → Bool
lists_process t j = any (λ q. member_of q j) t.processes

-- `JobInner::is_empty`
unfoldable pub job_empty : Tables → ℕ → Bool
job_empty t j = not (lists_child t j) and not (lists_process t j)

unfoldable pub lists_thread : Tables → ℕ → Bool
lists_thread t p = any (λ v. thread_of v p) t.threads

-- ---- Upward --------------------------------------------------------------------------------

unfoldable pub on_parent : {A : Type 0} → Option ℕ → A → (ℕ → A) → A
on_parent None a k = a
on_parent (Some p) a k = k p

-- is job j at or above job i? n steps at most
unfoldable pub is_above : ℕ → Tables → ℕ → ℕ → Bool
is_above zero t j i = false
is_above (suc n) t j i =
    ite (i =? j) (λ _. true) λ _. on_parent (job_at t i).parent false λ p. is_above n t j p

-- as many steps as there are jobs
abbrev pub at_or_above : Tables → ℕ → ℕ → Bool
at_or_above t j i = is_above 32 t j i

-- a killed job that lists nothing terminates (M9)
unfoldable pub may_terminate : Tables → ℕ → Bool
may_terminate t j = (job_at t j).killed and job_empty t j

-- `Job::terminate`, and `remove_child` on its parent: n steps upward at most
unfoldable pub terminate_up : ℕ → Tables → ℕ → Tables
terminate_up zero t j = t
terminate_up (suc n) t j =
    let u : Tables = put_job t j (terminated (job_at t j)) in
    on_parent (job_at t j).parent u λ p.
    ite (may_terminate u p) (λ _. terminate_up n u p) λ _. u

unfoldable pub terminate_job : Tables → ℕ → Tables
terminate_job t j = terminate_up 32 t j

-- ---- Threads of a process --------------------------------------------------------------------

unfoldable pub stop_in : ℕ → Thread → Thread
stop_in p v = if thread_of v p then kill v otherwise v

-- every listed thread is killed
unfoldable pub stop_threads : Tables → ℕ → Tables
stop_threads t p = with_threads t (map (stop_in p) t.threads)

-- ---- The cascade ---------------------------------------------------------------------------

-- f at 0, 1, .. up to n, not including n
unfoldable pub up_to : ℕ → (ℕ → Tables → Tables) → Tables → Tables
up_to zero f t = t
up_to (suc n) f t = f n (up_to n f t)

-- what is not made counts as killed, and as Exited
unfoldable pub is_live_job : Job → Bool
is_live_job v = v.made and not v.killed

unfoldable pub is_live_process : Process → Bool
is_live_process q = q.made and not (is_exited q.status)

-- Each step takes what killing a job (K) and exiting a process (X) do below it.

unfoldable pub kill_child : (Tables → ℕ → Tables) → ℕ → ℕ → Tables → Tables
kill_child K j c t = ite (child_of (job_at t c) j) (λ _. K t c) λ _. t

unfoldable pub exit_member : (Tables → ℕ → ℤ → Tables) → ℕ → ℕ → Tables → Tables
exit_member X j p t = ite (member_of (process_at t p) j) (λ _. X t p KILL_CODE) λ _. t

-- a job marked killed: an empty one terminates, else children come first, then processes
unfoldable pub kill_listed : (Tables → ℕ → Tables) → (Tables → ℕ → ℤ → Tables) → Tables → ℕ → Tables
kill_listed K X t j =
    ite (job_empty t j) (λ _. terminate_job t j) λ _.
    up_to 64 (exit_member X j) (up_to 32 (kill_child K j) t)

-- `Job::kill`: nothing on a killed job
unfoldable pub kill_step : (Tables → ℕ → Tables) → (Tables → ℕ → ℤ → Tables) → Tables → ℕ → Tables
kill_step K X t j =
    ite (is_live_job (job_at t j)) (λ _. kill_listed K X (put_job t j (killed (job_at t j))) j) λ _. t

-- the bound job is killed unless the binding wants a nonzero code and the code is 0
unfoldable pub kill_bound : (Tables → ℕ → Tables) → Option Critical → ℤ → Tables → Tables
kill_bound K None code t = t
kill_bound K (Some b) code t = ite (acts b.nonzero code) (λ _. K t b.job) λ _. t

-- `Job::remove_process`
unfoldable pub unlist_process : Tables → ℕ → Tables
unlist_process t p =
    let u : Tables = put_process t p (ended (process_at t p)) in
    if may_terminate u (process_at t p).job then terminate_job u (process_at t p).job otherwise u

-- `Process::terminate`
unfoldable pub end_step : (Tables → ℕ → Tables) → Tables → ℕ → Tables
end_step K t p =
    kill_bound K (process_at t p).critical (code_of (process_at t p).status) (unlist_process t p)

-- a process marked Exited: it ends if it lists no thread, else its threads are killed
unfoldable pub exit_listed : (Tables → ℕ → Tables) → Tables → ℕ → Tables
exit_listed K t p = ite (lists_thread t p) (λ _. stop_threads t p) λ _. end_step K t p

-- `Process::exit`: the first code stays (M6)
unfoldable pub exit_step : (Tables → ℕ → Tables) → Tables → ℕ → ℤ → Tables
exit_step K t p code =
    ite (is_live_process (process_at t p))
    (λ _. exit_listed K (put_process t p (with_status (process_at t p) (Exited code))) p) λ _. t

-- a cascade of depth n at most
unfoldable mutual
  pub kill_within : ℕ → Tables → ℕ → Tables
  kill_within zero t j = t
  kill_within (suc n) t j =
      kill_step (λ u c. kill_within n u c) (λ u p code. exit_within n u p code) t j

  pub exit_within : ℕ → Tables → ℕ → ℤ → Tables
  exit_within zero t p code = t
  exit_within (suc n) t p code = exit_step (λ u c. kill_within n u c) t p code

unfoldable pub count : {A : Type 0} → (A → Bool) → List A → ℕ
count f [] = 0
count f (x ∷ l) = (if f x then 1 otherwise 0) + count f l

-- unkilled jobs and unexited processes: each step of a cascade marks one, so none is deeper
unfoldable pub remaining : Tables → ℕ
remaining t = count is_live_job t.jobs + count is_live_process t.processes

unfoldable pub kill_job : Tables → ℕ → Tables
kill_job t j = kill_within (suc (remaining t)) t j

unfoldable pub exit_process : Tables → ℕ → ℤ → Tables
exit_process t p code = exit_within (suc (remaining t)) t p code

unfoldable pub end_process : Tables → ℕ → Tables
end_process t p = end_step kill_job t p

-- `Process::remove_thread`: a process ends when its last listed thread finishes (M7)
abbrev pub remove_thread : Tables → ℕ → Tables
remove_thread t p = if lists_thread t p then t otherwise end_process t p

-- `Thread::terminate`
unfoldable pub finish_thread : Tables → ℕ → Tables
finish_thread t n = remove_thread (put_thread t n (finish (thread_at t n))) (thread_at t n).process
