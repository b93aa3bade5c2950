-- The tables: a list of records for each kind of name. Reading past a table gives an unmade
-- record, writing past it nothing.
use Rattle.std.specs.Prelude.{Option, Some, None}
use Rattle.std.specs.Prelude.{ℕ, ◌≡◌, List, get_or, set, replicate, length}
use Rattle.laws.specs.Choice.{if◌then◌otherwise◌}
use Rattle.job_policy.specs.Policy.{no_policy}
use Rattle.job_policy.specs.declared.JobPolicy.{JobPolicy}
use Rattle.record_job.specs.Job.{no_job, root_job}
use Rattle.record_job.specs.declared.Job.{Job}
use Rattle.record_process.specs.Process.{no_process}
use Rattle.record_process.specs.declared.Process.{Process}
use Rattle.record_thread.specs.Thread.{no_thread}
use Rattle.record_thread.specs.declared.Thread.{Thread}
use Rattle.record_token.specs.SuspendToken.{no_token}
use Rattle.record_token.specs.declared.SuspendToken.{SuspendToken}
use Rattle.record_token.specs.declared.Task.{Task}
use Rattle.records.specs.declared.tables.Tables.{Tables}

-- at the start the root alone is made
unfoldable pub fresh_tables : Tables
fresh_tables =
    record {
      jobs = set (replicate 32 no_job) 0 root_job;
      own = replicate 32 no_policy;
      inherited = replicate 32 no_policy;
      processes = replicate 64 no_process;
      fixed = replicate 64 no_policy;
      threads = replicate 128 no_thread;
      tokens = replicate 64 no_token;
    }

-- the tables have their sizes
pub record Sized (t : Tables) : Type 0 where
  pub jobs : length t.jobs ≡ 32
  pub own : length t.own ≡ 32
  pub inherited : length t.inherited ≡ 32
  pub processes : length t.processes ≡ 64
  pub fixed : length t.fixed ≡ 64
  pub threads : length t.threads ≡ 128
  pub tokens : length t.tokens ≡ 64

-- ---- Reading -------------------------------------------------------------------------------

unfoldable pub job_at : Tables → ℕ → Job
job_at t j = get_or t.jobs j no_job

unfoldable pub own_at : Tables → ℕ → JobPolicy
own_at t j = get_or t.own j no_policy

unfoldable pub inherited_at : Tables → ℕ → JobPolicy
inherited_at t j = get_or t.inherited j no_policy

unfoldable pub process_at : Tables → ℕ → Process
process_at t p = get_or t.processes p no_process

unfoldable pub fixed_at : Tables → ℕ → JobPolicy
fixed_at t p = get_or t.fixed p no_policy

unfoldable pub thread_at : Tables → ℕ → Thread
thread_at t n = get_or t.threads n no_thread

unfoldable pub token_at : Tables → ℕ → SuspendToken
token_at t k = get_or t.tokens k no_token

-- ---- Looking up a name: a made record, or an absence -----------------------------------------

unfoldable pub found_job : Tables → ℕ → Option Job
found_job t j = if (job_at t j).made then Some (job_at t j) otherwise None

unfoldable pub found_process : Tables → ℕ → Option Process
found_process t p = if (process_at t p).made then Some (process_at t p) otherwise None

unfoldable pub found_thread : Tables → ℕ → Option Thread
found_thread t n = if (thread_at t n).made then Some (thread_at t n) otherwise None

-- a token is found by the task that it holds: a dropped one is not
unfoldable pub found_token : Tables → ℕ → Option Task
found_token t k = (token_at t k).task

-- ---- Writing -------------------------------------------------------------------------------

abbrev pub with_jobs : Tables → List Job → Tables
with_jobs t l =
    record {
      jobs = l;
      own = t.own;
      inherited = t.inherited;
      processes = t.processes;
      fixed = t.fixed;
      threads = t.threads;
      tokens = t.tokens;
    }

abbrev pub with_own : Tables → List JobPolicy → Tables
with_own t l =
    record {
      jobs = t.jobs;
      own = l;
      inherited = t.inherited;
      processes = t.processes;
      fixed = t.fixed;
      threads = t.threads;
      tokens = t.tokens;
    }

abbrev pub with_inherited : Tables → List JobPolicy → Tables
with_inherited t l =
    record {
      jobs = t.jobs;
      own = t.own;
      inherited = l;
      processes = t.processes;
      fixed = t.fixed;
      threads = t.threads;
      tokens = t.tokens;
    }

abbrev pub with_processes : Tables → List Process → Tables
with_processes t l =
    record {
      jobs = t.jobs;
      own = t.own;
      inherited = t.inherited;
      processes = l;
      fixed = t.fixed;
      threads = t.threads;
      tokens = t.tokens;
    }

abbrev pub with_fixed : Tables → List JobPolicy → Tables
with_fixed t l =
    record {
      jobs = t.jobs;
      own = t.own;
      inherited = t.inherited;
      processes = t.processes;
      fixed = l;
      threads = t.threads;
      tokens = t.tokens;
    }

abbrev pub with_threads : Tables → List Thread → Tables
with_threads t l =
    record {
      jobs = t.jobs;
      own = t.own;
      inherited = t.inherited;
      processes = t.processes;
      fixed = t.fixed;
      threads = l;
      tokens = t.tokens;
    }

abbrev pub with_tokens : Tables → List SuspendToken → Tables
with_tokens t l =
    record {
      jobs = t.jobs;
      own = t.own;
      inherited = t.inherited;
      processes = t.processes;
      fixed = t.fixed;
      threads = t.threads;
      tokens = l;
    }

unfoldable pub put_job : Tables → ℕ → Job → Tables
put_job t j v = with_jobs t (set t.jobs j v)

unfoldable pub put_own : Tables → ℕ → JobPolicy → Tables
put_own t j v = with_own t (set t.own j v)

unfoldable pub put_inherited : Tables → ℕ → JobPolicy → Tables
put_inherited t j v = with_inherited t (set t.inherited j v)

unfoldable pub put_process : Tables → ℕ → Process → Tables
put_process t p v = with_processes t (set t.processes p v)

unfoldable pub put_fixed : Tables → ℕ → JobPolicy → Tables
put_fixed t p v = with_fixed t (set t.fixed p v)

unfoldable pub put_thread : Tables → ℕ → Thread → Tables
put_thread t n v = with_threads t (set t.threads n v)

unfoldable pub put_token : Tables → ℕ → SuspendToken → Tables
put_token t k v = with_tokens t (set t.tokens k v)
