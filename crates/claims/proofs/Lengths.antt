-- How long the tables are: no store changes it. `on_job₂` and its like ask for two tables of one
-- length. Assumes nothing.
use Prim.Native.Nat.{ℕ}
use mathlib.Core.Path.{◌≡◌, refl, ap}
use mathlib.Core.List.{map}
use lib.ListN.{length, length-set, length-map}
use Rattle.job_policy.specs.declared.JobPolicy.{JobPolicy}
use Rattle.record_job.specs.declared.Job.{Job}
use Rattle.record_process.specs.declared.Process.{Process}
use Rattle.record_thread.specs.declared.Thread.{Thread}
use Rattle.record_token.specs.declared.SuspendToken.{SuspendToken}
use Rattle.records.specs.declared.tables.Tables.{Tables}
use Rattle.records.specs.Tables.{fresh_tables, with_threads, put_job, put_own, put_inherited}
use Rattle.records.specs.Tables.{put_process}
use Rattle.records.specs.Tables.{put_fixed, put_thread, put_token}
use Rattle.model.specs.Job.{stop_threads}

-- jobs, own and inherited policies, processes, fixed policies, threads, tokens
unfoldable pub lengths : Tables → ℕ × ℕ × ℕ × ℕ × ℕ × ℕ × ℕ
lengths t = (
  length t.jobs,
  length t.own,
  length t.inherited,
  length t.processes,
  length t.fixed,
  length t.threads,
  length t.tokens,
)

pub fresh_lengths : lengths fresh_tables ≡ (32, 32, 32, 64, 64, 128, 64)
unfolding lengths fresh_tables
fresh_lengths = refl

-- ---- One table of two ----------------------------------------------------------------------

module _ (t u : Tables) (e : lengths t ≡ lengths u) where
  pub jobs_long : length t.jobs ≡ length u.jobs
  unfolding lengths
  jobs_long = ap (λ n. n.0) e

  pub own_long : length t.own ≡ length u.own
  unfolding lengths
  own_long = ap (λ n. n.1) e

  pub inherited_long : length t.inherited ≡ length u.inherited
  unfolding lengths
  inherited_long = ap (λ n. n.2) e

  pub processes_long : length t.processes ≡ length u.processes
  unfolding lengths
  processes_long = ap (λ n. n.3) e

  pub fixed_long : length t.fixed ≡ length u.fixed
  unfolding lengths
  fixed_long = ap (λ n. n.4) e

  pub threads_long : length t.threads ≡ length u.threads
  unfolding lengths
  threads_long = ap (λ n. n.5) e

  pub tokens_long : length t.tokens ≡ length u.tokens
  unfolding lengths
  tokens_long = ap (λ n. n.6) e

-- ---- After a store -------------------------------------------------------------------------

module _ (t : Tables) (i : ℕ) where
  pub put_job_lengths : (v : Job) → lengths (put_job t i v) ≡ lengths t
  unfolding lengths put_job
  put_job_lengths v = rw length-set

  pub put_own_lengths : (v : JobPolicy) → lengths (put_own t i v) ≡ lengths t
  unfolding lengths put_own
  put_own_lengths v = rw length-set

  pub put_inherited_lengths : (v : JobPolicy) → lengths (put_inherited t i v) ≡ lengths t
  unfolding lengths put_inherited
  put_inherited_lengths v = rw length-set

  pub put_process_lengths : (v : Process) → lengths (put_process t i v) ≡ lengths t
  unfolding lengths put_process
  put_process_lengths v = rw length-set

  pub put_fixed_lengths : (v : JobPolicy) → lengths (put_fixed t i v) ≡ lengths t
  unfolding lengths put_fixed
  put_fixed_lengths v = rw length-set

  pub put_thread_lengths : (v : Thread) → lengths (put_thread t i v) ≡ lengths t
  unfolding lengths put_thread
  put_thread_lengths v = rw length-set

  pub put_token_lengths : (v : SuspendToken) → lengths (put_token t i v) ≡ lengths t
  unfolding lengths put_token
  put_token_lengths v = rw length-set

pub map_threads_lengths : (t : Tables) (f : Thread → Thread)
    → lengths (with_threads t (map f t.threads)) ≡ lengths t
unfolding lengths
map_threads_lengths t f = rw length-map

pub stop_threads_lengths : (t : Tables) (p : ℕ) → lengths (stop_threads t p) ≡ lengths t
unfolding stop_threads
stop_threads_lengths t p = map_threads_lengths t _
