-- The stores of a cascade, one by one, each with the fact under which it happens and with what is
-- known of the names by which the cascade reached it. `Keeps` makes of these what the whole keeps.
-- Assumes nothing.
use Rattle.std.proofs.Common.{Some}
use Prim.Native.Nat.{ℕ}
use mathlib.Core.Path.{◌≡◌}
use mathlib.Core.Bool.{Bool, true, false}
use lib.IntN.{ℤ}
use Rattle.record_job.specs.Job.{killed, terminated, child_of}
use Rattle.record_process.specs.declared.Status.TheVariants.{Exited}
use Rattle.record_process.specs.Process.{critical_to, KILL_CODE, is_exited, code_of, with_status, ended, acts}
use Rattle.record_process.specs.Process.{member_of}
use Rattle.records.specs.declared.tables.Tables.{Tables}
use Rattle.records.specs.Tables.{job_at, process_at, put_job, put_process}
use Rattle.model.specs.Job.{lists_thread, may_terminate, stop_threads, is_live_job, is_live_process}

-- the names of the jobs and of the processes that a cascade reaches, the codes that it gives, and
-- what is known of a process as it ends
pub record Reach : Type 1 where
  pub job : ℕ → Type 0
  pub process : ℕ → Type 0
  pub code : ℤ → Type 0
  pub ending : Tables → ℕ → Type 0

abbrev pub anywhere : Reach
anywhere =
    record {
      job = λ j. Unit {0};
      process = λ p. Unit {0};
      code = λ z. Unit {0};
      ending = λ t p. Unit {0};
    }

-- P holds after each store if it held before, and from a name reached the cascade goes only to
-- names reached
pub record Stores (P : Tables → Type 0) (R : Reach) : Type 0 where
  pub marks : (t : Tables) (j : ℕ) → R.job j → is_live_job (job_at t j) ≡ true
      → P t → P (put_job t j (killed (job_at t j)))
  pub terminates : (t : Tables) (j : ℕ) → R.job j → may_terminate t j ≡ true
      → P t → P (put_job t j (terminated (job_at t j)))
  pub exits : (t : Tables) (p : ℕ) (code : ℤ) → R.process p → R.code code
      → is_live_process (process_at t p) ≡ true
      → P t → P (put_process t p (with_status (process_at t p) (Exited code)))
  pub ends : (t : Tables) (p : ℕ) → R.process p → R.ending t p
      → P t → P (put_process t p (ended (process_at t p)))
  pub stops : (t : Tables) (p : ℕ) → R.process p → is_exited (process_at t p).status ≡ true
      → lists_thread t p ≡ true
      → P t → P (stop_threads t p)
  pub empties : (t : Tables) (p : ℕ) → R.process p → is_exited (process_at t p).status ≡ true
      → lists_thread t p ≡ false
      → P t → R.ending t p
  pub kill_code : R.code KILL_CODE
  pub child : (t : Tables) (j c : ℕ) → R.job j → P t → child_of (job_at t c) j ≡ true → R.job c
  pub member : (t : Tables) (j p : ℕ) → R.job j → P t → member_of (process_at t p) j ≡ true
      → R.process p
  pub above : (t : Tables) (j p : ℕ) → R.job j → P t → (job_at t j).parent ≡ Some p
      → may_terminate (put_job t j (terminated (job_at t j))) p ≡ true → R.job p
  pub home : (t : Tables) (p : ℕ) → R.process p → P t
      → may_terminate (put_process t p (ended (process_at t p))) (process_at t p).job ≡ true
      → R.job (process_at t p).job
  pub bound_to : (t : Tables) (p j : ℕ) (nonzero : Bool) → R.process p → P t
      → (process_at t p).critical ≡ critical_to j nonzero
      → acts nonzero (code_of (process_at t p).status) ≡ true → R.job j

-- where the names do not matter
pub stores : (P : Tables → Type 0)
    → ((t : Tables) (j : ℕ) → is_live_job (job_at t j) ≡ true
    → P t → P (put_job t j (killed (job_at t j))))
    → ((t : Tables) (j : ℕ) → may_terminate t j ≡ true
    → P t → P (put_job t j (terminated (job_at t j))))
    → ((t : Tables) (p : ℕ) (code : ℤ) → is_live_process (process_at t p) ≡ true
    → P t → P (put_process t p (with_status (process_at t p) (Exited code))))
    → ((t : Tables) (p : ℕ) → P t → P (put_process t p (ended (process_at t p))))
    → ((t : Tables) (p : ℕ) → is_exited (process_at t p).status ≡ true → lists_thread t p ≡ true
    → P t → P (stop_threads t p))
    → Stores P anywhere
stores P m d x e s =
    record {
      marks = λ t j a. m t j;
      terminates = λ t j a. d t j;
      exits = λ t p code a b. x t p code;
      ends = λ t p a b. e t p;
      stops = λ t p a. s t p;
      empties = λ t p a b c y. tt;
      kill_code = tt;
      child = λ t j c a y h. tt;
      member = λ t j p a y h. tt;
      above = λ t j p a y g h. tt;
      home = λ t p a y h. tt;
      bound_to = λ t p j nonzero a y g h. tt;
    }
