-- Names and lookups: a name in its table that a call may use is the trip's, and two runs find the
-- same outside x. Assumes nothing.
use Rattle.std.proofs.Common.{Some, None}
use Prim.Native.Nat.{ℕ}
use mathlib.Core.Path.{◌≡◌, refl, sym, ap, ◌∙◌, subst}
use mathlib.Core.Bool.{Bool, true, false}
use borrow.Author.Tests.{eqb-true}
use Rattle.laws.specs.Choice.{◌≤?◌, ◌=?◌, ◌or◌, if◌then◌otherwise◌}
use Rattle.laws.specs.Guarded.{found}
use Rattle.laws.proofs.Cases.{by, no_both}
use Rattle.laws.proofs.Flow.{first, second}
use Rattle.record_job.specs.declared.Job.{Job}
use Rattle.record_process.specs.declared.Process.{Process}
use Rattle.record_thread.specs.declared.Thread.{Thread}
use Rattle.record_token.specs.declared.SuspendToken.{SuspendToken}
use Rattle.records.specs.declared.tables.Tables.{Tables}
use Rattle.records.specs.Tables.{found_job, found_process, found_thread, found_token}
use Rattle.model.specs.Replies.{present, job, process}
use Rattle.model.specs.Replies.{thread, token}
use Rattle.claims.specs.Separation.{Trip, Apart, task_of}
use Rattle.claims.proofs.Found.{job_is, process_is, thread_is}
use Rattle.claims.proofs.Separation.Agree.{Agree, JobFits, ProcessFits, ThreadFits}

-- a name in its table
pub in_table : (past own : Bool) → past or own ≡ true → past ≡ false → own ≡ true
unfolding ◌or◌
in_table true own e h = no_both refl h
in_table false own e h = e

-- ---- Two runs --------------------------------------------------------------------------------

module _ {x y : Trip} {s t : Tables} (r : Agree x y s t) where
  pub job_same : (j : ℕ) → y.jobs j ≡ true → job s j ≡ job t j
  unfolding found_job
  job_same j h = ap (λ (v : Job). present (if v.made then Some v otherwise None)) ((r.jobs j).same h)

  pub process_same : (p : ℕ) → x.processes p ≡ false → process s p ≡ process t p
  unfolding found_process
  process_same p h =
      ap (λ (v : Process). present (if v.made then Some v otherwise None))
      ((r.processes p).same h)

  pub thread_same : (n : ℕ) → x.threads n ≡ false → thread s n ≡ thread t n
  unfolding found_thread
  thread_same n h =
      ap (λ (v : Thread). present (if v.made then Some v otherwise None))
      ((r.threads n).same h)

  pub token_same : (k : ℕ) → x.tokens k ≡ false → token s k ≡ token t k
  unfolding found_token
  token_same k h = ap (λ (v : SuspendToken). present v.task) ((r.tokens k).same h)

  -- ---- A record that was found ----------------------------------------------------------------

  pub job_fits : (j : ℕ) (v : Job) → job s j ≡ found v → JobFits x y j v
  job_fits j v e = subst (JobFits x y j) (job_is s j v e).1 (r.jobs j).fits₁

  pub process_fits : (p : ℕ) (q : Process) → process s p ≡ found q → ProcessFits x y p q
  process_fits p q e = subst (ProcessFits x y p) (process_is s p q e).1 (r.processes p).fits₁

  pub thread_fits : (n : ℕ) (v : Thread) → thread s n ≡ found v → ThreadFits x y n v
  thread_fits n v e = subst (ThreadFits x y n) (thread_is s n v e).1 (r.threads n).fits₁

-- ---- Tasks -----------------------------------------------------------------------------------

pub task_process : (x : Trip) (kind n : ℕ) → kind ≤? 1 ≡ true → task_of x kind n ≡ x.processes n
task_process x kind n e = sym (first _ _ e refl)

pub task_thread : (x : Trip) (kind n : ℕ) → kind ≤? 1 ≡ false → task_of x kind n ≡ x.threads n
task_thread x kind n e = sym (second _ _ e refl)

pub task_apart : {x y : Trip} → Apart x y → (kind n : ℕ) → task_of y kind n ≡ true →
    task_of x kind n ≡ false
task_apart {x = x} {y = y} a kind n h =
    by (kind ≤? 1)
    (λ e. task_process x kind n e ∙ a.processes n (sym (task_process y kind n e) ∙ h))
    (λ e. task_thread x kind n e ∙ a.threads n (sym (task_thread y kind n e) ∙ h))

pub task_not_y : {x y : Trip} → Apart x y → (kind n : ℕ) → task_of x kind n ≡ true →
    task_of y kind n ≡ false
task_not_y {x = x} {y = y} a kind n h =
    by (task_of y kind n) (λ q. no_both h (task_apart a kind n q)) (λ q. q)

-- a process or a thread
abbrev pub IsTask : ℕ → Type 0
IsTask kind = (kind =? 1) or (kind =? 2) ≡ true

pub is_process : (x : Trip) (kind n : ℕ) → kind =? 1 ≡ true → task_of x kind n ≡ x.processes n
is_process x kind n e = task_process x kind n (ap (λ (k : ℕ). k ≤? 1) (eqb-true kind 1 e))

pub is_thread : (x : Trip) (kind n : ℕ) → IsTask kind → kind =? 1 ≡ false →
    task_of x kind n ≡ x.threads n
is_thread x kind n h e =
    task_thread x kind n
    (ap (λ (k : ℕ). k ≤? 1) (eqb-true kind 2 (in_table (kind =? 1) (kind =? 2) h e)))
