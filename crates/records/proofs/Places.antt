-- The record under a name that has its place in the table is the element there, whatever stands for past the table.
-- Assumes nothing.
use Prim.Native.Nat.{ℕ, ◌%◌}
use native.Mathlib.Omega.{arith}
use mathlib.Core.Path.{◌≡◌}
use lib.ListN.{length, get_or}
use Rattle.laws.proofs.Tables.{read_in}
use Rattle.job_policy.specs.declared.JobPolicy.{JobPolicy}
use Rattle.record_job.specs.declared.Job.{Job}
use Rattle.record_process.specs.declared.Process.{Process}
use Rattle.record_thread.specs.declared.Thread.{Thread}
use Rattle.record_token.specs.declared.SuspendToken.{SuspendToken}
use Rattle.records.specs.declared.tables.Tables.{Tables}
use Rattle.records.specs.Tables.{job_at, own_at, inherited_at, process_at, fixed_at, thread_at, token_at}

module _ (t : Tables) (n : ℕ) where
  pub job_place : (d : Job) → length t.jobs ≡ 32 → job_at t (n % 32) ≡ get_or t.jobs (n % 32) d
  unfolding job_at
  job_place d z = read_in t.jobs (n % 32) _ d z (omega arith)

  pub own_place : (d : JobPolicy) → length t.own ≡ 32 → own_at t (n % 32) ≡ get_or t.own (n % 32) d
  unfolding own_at
  own_place d z = read_in t.own (n % 32) _ d z (omega arith)

  pub inherited_place : (d : JobPolicy) → length t.inherited ≡ 32 →
      inherited_at t (n % 32) ≡ get_or t.inherited (n % 32) d
  unfolding inherited_at
  inherited_place d z = read_in t.inherited (n % 32) _ d z (omega arith)

  pub process_place : (d : Process) → length t.processes ≡ 64 → process_at t (n % 64) ≡ get_or t.processes (n % 64) d
  unfolding process_at
  process_place d z = read_in t.processes (n % 64) _ d z (omega arith)

  pub fixed_place : (d : JobPolicy) → length t.fixed ≡ 64 → fixed_at t (n % 64) ≡ get_or t.fixed (n % 64) d
  unfolding fixed_at
  fixed_place d z = read_in t.fixed (n % 64) _ d z (omega arith)

  pub thread_place : (d : Thread) → length t.threads ≡ 128 → thread_at t (n % 128) ≡ get_or t.threads (n % 128) d
  unfolding thread_at
  thread_place d z = read_in t.threads (n % 128) _ d z (omega arith)

  pub token_place : (d : SuspendToken) → length t.tokens ≡ 64 → token_at t (n % 64) ≡ get_or t.tokens (n % 64) d
  unfolding token_at
  token_place d z = read_in t.tokens (n % 64) _ d z (omega arith)
