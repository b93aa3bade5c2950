-- Reading jobs, processes and threads after a write to their own table, whatever the name: no range
-- fact is asked.
--     on_job      what was written passes if it is that name, what was there passed
--     keep_job    a part of the record that the write keeps is kept of every record
--     on_job₂     two tables of one length, written at one name
--     put_job_here, put_job_made, put_job_else    the record at the name written, and at another
-- Assumes nothing.
use Prim.Native.Nat.{ℕ, ◌<◌}
use mathlib.Core.Path.{◌≡◌, refl}
use mathlib.Core.Bool.{true}
use lib.ListN.{length}
use lib.Seq.{get_or-set_same, get_or-set_other}
use Rattle.laws.proofs.Tables.{tab_set, tab_keep, tab_set₂}
use Rattle.laws.proofs.Counts.{held_in_lem}
use Rattle.record_job.specs.declared.Job.{Job}
use Rattle.record_job.specs.Job.{no_job}
use Rattle.record_process.specs.declared.Process.{Process}
use Rattle.record_process.specs.Process.{no_process}
use Rattle.record_thread.specs.declared.Thread.{Thread}
use Rattle.record_thread.specs.Thread.{no_thread}
use Rattle.records.specs.declared.tables.Tables.{Tables}
use Rattle.records.specs.Tables.{job_at, process_at, thread_at, put_job, put_process, put_thread}

-- ---- jobs -----------------------------------------------------------------------------------

pub on_job : (Q : Job → Type 0) (t : Tables) (i k : ℕ) (v : Job) → (k ≡ i → Q v)
    → Q (job_at t k) → Q (job_at (put_job t i v) k)
unfolding job_at put_job
on_job Q t = tab_set no_job Q t.jobs

pub keep_job : {B : Type 0} (f : Job → B) (t : Tables) (i : ℕ) (v : Job) → f v ≡ f (job_at t i)
    → (k : ℕ) → f (job_at (put_job t i v) k) ≡ f (job_at t k)
unfolding job_at put_job
keep_job f t = tab_keep no_job f t.jobs

pub on_job₂ : (Q : Job → Job → Type 0) (t u : Tables) (i k : ℕ) (v w : Job)
    → length t.jobs ≡ length u.jobs → (k ≡ i → Q v w) → Q (job_at t k) (job_at u k)
    → Q (job_at (put_job t i v) k) (job_at (put_job u i w) k)
unfolding job_at put_job
on_job₂ Q t u = tab_set₂ no_job Q t.jobs u.jobs

pub put_job_here : (t : Tables) (i : ℕ) (v : Job) → i < length t.jobs → job_at (put_job t i v) i ≡ v
unfolding job_at put_job
put_job_here t i v = get_or-set_same t.jobs i v no_job

pub put_job_else : (t : Tables) (i k : ℕ) (v : Job) → (k ≡ i → ⊥)
    → job_at (put_job t i v) k ≡ job_at t k
unfolding job_at put_job
put_job_else t i k v = get_or-set_other t.jobs i k v no_job

pub made_job_in : (t : Tables) (i : ℕ) → (job_at t i).made ≡ true → i < length t.jobs
unfolding job_at
made_job_in t = held_in_lem (λ (v : Job). v.made) no_job refl t.jobs

pub put_job_made : (t : Tables) (i : ℕ) (v : Job) → (job_at t i).made ≡ true
    → job_at (put_job t i v) i ≡ v
put_job_made t i v m = put_job_here t i v (made_job_in t i m)

-- ---- processes ------------------------------------------------------------------------------

pub on_process : (Q : Process → Type 0) (t : Tables) (i k : ℕ) (v : Process) → (k ≡ i → Q v)
    → Q (process_at t k) → Q (process_at (put_process t i v) k)
unfolding process_at put_process
on_process Q t = tab_set no_process Q t.processes

pub keep_process : {B : Type 0} (f : Process → B) (t : Tables) (i : ℕ) (v : Process)
    → f v ≡ f (process_at t i)
    → (k : ℕ) → f (process_at (put_process t i v) k) ≡ f (process_at t k)
unfolding process_at put_process
keep_process f t = tab_keep no_process f t.processes

pub on_process₂ : (Q : Process → Process → Type 0) (t u : Tables) (i k : ℕ) (v w : Process)
    → length t.processes ≡ length u.processes → (k ≡ i → Q v w)
    → Q (process_at t k) (process_at u k)
    → Q (process_at (put_process t i v) k) (process_at (put_process u i w) k)
unfolding process_at put_process
on_process₂ Q t u = tab_set₂ no_process Q t.processes u.processes

pub put_process_here : (t : Tables) (i : ℕ) (v : Process) → i < length t.processes
    → process_at (put_process t i v) i ≡ v
unfolding process_at put_process
put_process_here t i v = get_or-set_same t.processes i v no_process

pub put_process_else : (t : Tables) (i k : ℕ) (v : Process) → (k ≡ i → ⊥)
    → process_at (put_process t i v) k ≡ process_at t k
unfolding process_at put_process
put_process_else t i k v = get_or-set_other t.processes i k v no_process

pub made_process_in : (t : Tables) (i : ℕ) → (process_at t i).made ≡ true → i < length t.processes
unfolding process_at
made_process_in t = held_in_lem (λ (v : Process). v.made) no_process refl t.processes

pub put_process_made : (t : Tables) (i : ℕ) (v : Process) → (process_at t i).made ≡ true
    → process_at (put_process t i v) i ≡ v
put_process_made t i v m = put_process_here t i v (made_process_in t i m)

-- ---- threads --------------------------------------------------------------------------------

pub on_thread : (Q : Thread → Type 0) (t : Tables) (i k : ℕ) (v : Thread) → (k ≡ i → Q v)
    → Q (thread_at t k) → Q (thread_at (put_thread t i v) k)
unfolding thread_at put_thread
on_thread Q t = tab_set no_thread Q t.threads

pub keep_thread : {B : Type 0} (f : Thread → B) (t : Tables) (i : ℕ) (v : Thread)
    → f v ≡ f (thread_at t i)
    → (k : ℕ) → f (thread_at (put_thread t i v) k) ≡ f (thread_at t k)
unfolding thread_at put_thread
keep_thread f t = tab_keep no_thread f t.threads

pub on_thread₂ : (Q : Thread → Thread → Type 0) (t u : Tables) (i k : ℕ) (v w : Thread)
    → length t.threads ≡ length u.threads → (k ≡ i → Q v w) → Q (thread_at t k) (thread_at u k)
    → Q (thread_at (put_thread t i v) k) (thread_at (put_thread u i w) k)
unfolding thread_at put_thread
on_thread₂ Q t u = tab_set₂ no_thread Q t.threads u.threads

pub put_thread_here : (t : Tables) (i : ℕ) (v : Thread) → i < length t.threads
    → thread_at (put_thread t i v) i ≡ v
unfolding thread_at put_thread
put_thread_here t i v = get_or-set_same t.threads i v no_thread

pub put_thread_else : (t : Tables) (i k : ℕ) (v : Thread) → (k ≡ i → ⊥)
    → thread_at (put_thread t i v) k ≡ thread_at t k
unfolding thread_at put_thread
put_thread_else t i k v = get_or-set_other t.threads i k v no_thread

pub made_thread_in : (t : Tables) (i : ℕ) → (thread_at t i).made ≡ true → i < length t.threads
unfolding thread_at
made_thread_in t = held_in_lem (λ (v : Thread). v.made) no_thread refl t.threads

pub put_thread_made : (t : Tables) (i : ℕ) (v : Thread) → (thread_at t i).made ≡ true
    → thread_at (put_thread t i v) i ≡ v
put_thread_made t i v m = put_thread_here t i v (made_thread_in t i m)
