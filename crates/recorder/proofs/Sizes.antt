-- A record stored leaves the tables as long as they were. Assumes nothing.
use Prim.Native.Nat.{ℕ}
use mathlib.Core.Path.{◌≡◌, ◌∙◌}
use mathlib.Core.List.{List}
use lib.ListN.{length, length-set}
use Rattle.job_policy.specs.declared.JobPolicy.{JobPolicy}
use Rattle.record_job.specs.declared.Job.{Job}
use Rattle.record_process.specs.declared.Process.{Process}
use Rattle.record_thread.specs.declared.Thread.{Thread}
use Rattle.record_token.specs.declared.SuspendToken.{SuspendToken}
use Rattle.records.specs.declared.tables.Tables.{Tables}
use Rattle.records.specs.Tables.{put_job, put_own, put_inherited, put_process, put_fixed, put_thread, put_token}
use Rattle.records.specs.Tables.{Sized, with_jobs, with_threads}

module _ {t : Tables} (z : Sized t) (i : ℕ) where
  pub job_sized : (v : Job) → Sized (put_job t i v)
  unfolding put_job
  job_sized v =
      record {
        jobs = length-set t.jobs i v ∙ z.jobs;
        own = z.own;
        inherited = z.inherited;
        processes = z.processes;
        fixed = z.fixed;
        threads = z.threads;
        tokens = z.tokens;
      }

  pub own_sized : (v : JobPolicy) → Sized (put_own t i v)
  unfolding put_own
  own_sized v =
      record {
        jobs = z.jobs;
        own = length-set t.own i v ∙ z.own;
        inherited = z.inherited;
        processes = z.processes;
        fixed = z.fixed;
        threads = z.threads;
        tokens = z.tokens;
      }

  pub inherited_sized : (v : JobPolicy) → Sized (put_inherited t i v)
  unfolding put_inherited
  inherited_sized v =
      record {
        jobs = z.jobs;
        own = z.own;
        inherited = length-set t.inherited i v ∙ z.inherited;
        processes = z.processes;
        fixed = z.fixed;
        threads = z.threads;
        tokens = z.tokens;
      }

  pub process_sized : (v : Process) → Sized (put_process t i v)
  unfolding put_process
  process_sized v =
      record {
        jobs = z.jobs;
        own = z.own;
        inherited = z.inherited;
        processes = length-set t.processes i v ∙ z.processes;
        fixed = z.fixed;
        threads = z.threads;
        tokens = z.tokens;
      }

  pub fixed_sized : (v : JobPolicy) → Sized (put_fixed t i v)
  unfolding put_fixed
  fixed_sized v =
      record {
        jobs = z.jobs;
        own = z.own;
        inherited = z.inherited;
        processes = z.processes;
        fixed = length-set t.fixed i v ∙ z.fixed;
        threads = z.threads;
        tokens = z.tokens;
      }

  pub thread_sized : (v : Thread) → Sized (put_thread t i v)
  unfolding put_thread
  thread_sized v =
      record {
        jobs = z.jobs;
        own = z.own;
        inherited = z.inherited;
        processes = z.processes;
        fixed = z.fixed;
        threads = length-set t.threads i v ∙ z.threads;
        tokens = z.tokens;
      }

  pub token_sized : (v : SuspendToken) → Sized (put_token t i v)
  unfolding put_token
  token_sized v =
      record {
        jobs = z.jobs;
        own = z.own;
        inherited = z.inherited;
        processes = z.processes;
        fixed = z.fixed;
        threads = z.threads;
        tokens = length-set t.tokens i v ∙ z.tokens;
      }

module _ {t : Tables} (z : Sized t) where
  pub jobs_sized : (l : List Job) → length l ≡ 32 → Sized (with_jobs t l)
  jobs_sized l e =
      record {
        jobs = e;
        own = z.own;
        inherited = z.inherited;
        processes = z.processes;
        fixed = z.fixed;
        threads = z.threads;
        tokens = z.tokens;
      }

  pub threads_sized : (l : List Thread) → length l ≡ 128 → Sized (with_threads t l)
  threads_sized l e =
      record {
        jobs = z.jobs;
        own = z.own;
        inherited = z.inherited;
        processes = z.processes;
        fixed = z.fixed;
        threads = e;
        tokens = z.tokens;
      }
