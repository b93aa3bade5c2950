-- What a lookup of an owner comes to: g is what the code found, h what the definition asks. Assumes nothing.
use Rattle.std.proofs.Common.{Option, Some, None}
use mathlib.Core.Path.{◌≡◌}
use Prim.Native.Nat.{ℕ}
use Rattle.record_exception.specs.declared.Level.{Level}
use Rattle.record_job.specs.declared.Job.{Job}
use Rattle.record_process.specs.declared.Process.{Process}
use Rattle.record_thread.specs.declared.Thread.{Thread}
use Rattle.records.specs.Owners.{process_level, job_level, level_of_thread, level_of_process}
use Rattle.records.specs.Owners.{level_of_job, as_task}

pub no_thread_lem : {g : Option Thread} (h : Option Thread) → g ≡ h → g ≡ None → None ≡ level_of_thread h
unfolding level_of_thread
no_thread_lem h p q = rw (← p, q)

pub the_thread : {g : Option Thread} {v : Thread} (h : Option Thread) → g ≡ h → g ≡ Some v →
    Some v.level2 ≡ level_of_thread h
unfolding level_of_thread
the_thread h p q = rw (← p, q)

pub no_process_lem : {g : Option Process} (h : Option Process) (n : ℕ) → g ≡ h → g ≡ None →
    None ≡ level_of_process h n
unfolding level_of_process
no_process_lem h n p q = rw (← p, q)

pub the_process : {g : Option Process} {v : Process} {l : Level} (h : Option Process) (n : ℕ) →
    g ≡ h → g ≡ Some v → l ≡ process_level v n → Some l ≡ level_of_process h n
unfolding level_of_process
the_process h n p q r = rw (← p, q, r)

pub no_job_lem : {g : Option Job} (h : Option Job) (n : ℕ) → g ≡ h → g ≡ None → None ≡ level_of_job h n
unfolding level_of_job
no_job_lem h n p q = rw (← p, q)

pub the_job : {g : Option Job} {v : Job} {l : Level} (h : Option Job) (n : ℕ) →
    g ≡ h → g ≡ Some v → l ≡ job_level v n → Some l ≡ level_of_job h n
unfolding level_of_job
the_job h n p q r = rw (← p, q, r)

pub ruleset levels = (no_thread_lem, the_thread, no_process_lem, the_process, no_job_lem, the_job)

pub no_task : {A : Type 0} {g : Option A} (h : Option A) → g ≡ h → g ≡ None → None ≡ as_task h
unfolding as_task
no_task h p q = rw (← p, q)

pub the_task : {A : Type 0} {g : Option A} {v : A} (h : Option A) → g ≡ h → g ≡ Some v → Some tt ≡ as_task h
unfolding as_task
the_task h p q = rw (← p, q)

pub ruleset tasks = (no_task, the_task)
