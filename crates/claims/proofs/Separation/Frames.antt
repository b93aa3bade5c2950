-- What a search for a handler leaves: it writes levels only, so whose thread, process and job each
-- is, and which jobs have terminated, stays. Assumes nothing.
use Rattle.std.proofs.Common.{Some}
use Prim.Native.Nat.{ℕ}
use mathlib.Core.Path.{◌≡◌, refl, sym, ap, ◌∙◌}
use mathlib.Core.Bool.{false}
use Rattle.record_exception.specs.declared.Place.{Place}
use Rattle.record_exception.specs.declared.Place.TheVariants.{Debugger, OwnThread, OwnProcess}
use Rattle.record_exception.specs.declared.Place.TheVariants.{SecondChance, OfJob, OfJobDebugger}
use Rattle.record_exception.specs.declared.Place.TheVariants.{Exiting}
use Rattle.record_job.specs.declared.Job.{Job}
use Rattle.record_process.specs.declared.Process.{Process}
use Rattle.record_thread.specs.declared.Thread.{Thread}
use Rattle.records.specs.declared.tables.Tables.{Tables}
use Rattle.records.specs.Tables.{job_at, process_at, thread_at, put_job, put_process, put_thread}
use Rattle.model.specs.Exception.{process_of, own_job, put_level_at, pass_over}
use Rattle.claims.specs.Reachable.{AtOrAbove, here, below}
use Rattle.model.proofs.TaskTables.{keep_job, keep_process, keep_thread}

pub record Frame (t u : Tables) : Type 0 where
  pub process : (n : ℕ) → (thread_at u n).process ≡ (thread_at t n).process
  pub job : (p : ℕ) → (process_at u p).job ≡ (process_at t p).job
  pub parent : (j : ℕ) → (job_at u j).parent ≡ (job_at t j).parent
  pub terminated : (j : ℕ) → (job_at u j).terminated ≡ (job_at t j).terminated

module _ (t : Tables) (i : ℕ) where
  job_frame : (v : Job) → v.parent ≡ (job_at t i).parent → v.terminated ≡ (job_at t i).terminated →
      Frame t (put_job t i v)
  unfolding thread_at process_at put_job
  job_frame v e f =
      record {
        process = λ n. refl;
        job = λ p. refl;
        parent = keep_job (λ (w : Job). w.parent) t i v e;
        terminated = keep_job (λ (w : Job). w.terminated) t i v f;
      }

  process_frame : (v : Process) → v.job ≡ (process_at t i).job → Frame t (put_process t i v)
  unfolding thread_at job_at put_process
  process_frame v e =
      record {
        process = λ n. refl;
        job = keep_process (λ (w : Process). w.job) t i v e;
        parent = λ j. refl;
        terminated = λ j. refl;
      }

  thread_frame : (v : Thread) → v.process ≡ (thread_at t i).process → Frame t (put_thread t i v)
  unfolding process_at job_at put_thread
  thread_frame v e =
      record {
        process = keep_thread (λ (w : Thread). w.process) t i v e;
        job = λ p. refl;
        parent = λ j. refl;
        terminated = λ j. refl;
      }

pub pass_over_frame : (t : Tables) (n : ℕ) (place : Place) → Frame t (pass_over t n place)
unfolding pass_over put_level_at
pass_over_frame t n Debugger = process_frame t _ _ refl
pass_over_frame t n OwnThread = thread_frame t _ _ refl
pass_over_frame t n OwnProcess = process_frame t _ _ refl
pass_over_frame t n SecondChance = process_frame t _ _ refl
pass_over_frame t n (OfJob j) = job_frame t _ _ refl refl
pass_over_frame t n (OfJobDebugger j) = job_frame t _ _ refl refl
pass_over_frame t n Exiting = process_frame t _ _ refl

-- every job at or above j runs
abbrev pub RunsUp : Tables → ℕ → Type 0
RunsUp t j = (d : ℕ) → AtOrAbove t d j → (job_at t d).terminated ≡ false

module _ {t u : Tables} (f : Frame t u) where
  pub own_frame : (n : ℕ) → own_job u n ≡ own_job t n
  own_frame n = f.job (process_of u n) ∙ ap (λ (p : ℕ). (process_at t p).job) (f.process n)

  above_frame : (d j : ℕ) → AtOrAbove u d j → AtOrAbove t d j
  above_frame d j here = here
  above_frame d j (below {p = p} e a) = below (sym (f.parent j) ∙ e) (above_frame d p a)

  pub runs_frame : (j : ℕ) → RunsUp t j → RunsUp u j
  runs_frame j h d a = f.terminated d ∙ h d (above_frame d j a)

pub runs_up : {t : Tables} {j i : ℕ} → (job_at t j).parent ≡ Some i → RunsUp t j → RunsUp t i
runs_up e h d a = h d (below e a)
