-- A write to one table leaves what is read of every other: `simp cross` takes each such write away.
-- Assumes nothing.
use Prim.Native.Nat.{ℕ}
use mathlib.Core.Path.{◌≡◌, refl}
use Rattle.job_policy.specs.declared.JobPolicy.{JobPolicy}
use Rattle.record_job.specs.declared.Job.{Job}
use Rattle.record_process.specs.declared.Process.{Process}
use Rattle.record_thread.specs.declared.Thread.{Thread}
use Rattle.record_token.specs.declared.SuspendToken.{SuspendToken}
use Rattle.records.specs.declared.tables.Tables.{Tables}
use Rattle.records.specs.Tables.{job_at, own_at, inherited_at, process_at, fixed_at, thread_at, token_at}
use Rattle.records.specs.Tables.{put_job, put_own, put_inherited, put_process, put_fixed, put_thread}
use Rattle.records.specs.Tables.{put_token}

module _ (t : Tables) (i : ℕ) (v : Job) (k : ℕ) where
  pub own_at_put_job : own_at (put_job t i v) k ≡ own_at t k
  unfolding own_at put_job
  own_at_put_job = refl

  pub inherited_at_put_job : inherited_at (put_job t i v) k ≡ inherited_at t k
  unfolding inherited_at put_job
  inherited_at_put_job = refl

  pub process_at_put_job : process_at (put_job t i v) k ≡ process_at t k
  unfolding process_at put_job
  process_at_put_job = refl

  pub fixed_at_put_job : fixed_at (put_job t i v) k ≡ fixed_at t k
  unfolding fixed_at put_job
  fixed_at_put_job = refl

  pub thread_at_put_job : thread_at (put_job t i v) k ≡ thread_at t k
  unfolding thread_at put_job
  thread_at_put_job = refl

  pub token_at_put_job : token_at (put_job t i v) k ≡ token_at t k
  unfolding token_at put_job
  token_at_put_job = refl

module _ (t : Tables) (i : ℕ) (v : JobPolicy) (k : ℕ) where
  pub job_at_put_own : job_at (put_own t i v) k ≡ job_at t k
  unfolding job_at put_own
  job_at_put_own = refl

  pub inherited_at_put_own : inherited_at (put_own t i v) k ≡ inherited_at t k
  unfolding inherited_at put_own
  inherited_at_put_own = refl

  pub process_at_put_own : process_at (put_own t i v) k ≡ process_at t k
  unfolding process_at put_own
  process_at_put_own = refl

  pub fixed_at_put_own : fixed_at (put_own t i v) k ≡ fixed_at t k
  unfolding fixed_at put_own
  fixed_at_put_own = refl

  pub thread_at_put_own : thread_at (put_own t i v) k ≡ thread_at t k
  unfolding thread_at put_own
  thread_at_put_own = refl

  pub token_at_put_own : token_at (put_own t i v) k ≡ token_at t k
  unfolding token_at put_own
  token_at_put_own = refl

module _ (t : Tables) (i : ℕ) (v : JobPolicy) (k : ℕ) where
  pub job_at_put_inherited : job_at (put_inherited t i v) k ≡ job_at t k
  unfolding job_at put_inherited
  job_at_put_inherited = refl

  pub own_at_put_inherited : own_at (put_inherited t i v) k ≡ own_at t k
  unfolding own_at put_inherited
  own_at_put_inherited = refl

  pub process_at_put_inherited : process_at (put_inherited t i v) k ≡ process_at t k
  unfolding process_at put_inherited
  process_at_put_inherited = refl

  pub fixed_at_put_inherited : fixed_at (put_inherited t i v) k ≡ fixed_at t k
  unfolding fixed_at put_inherited
  fixed_at_put_inherited = refl

  pub thread_at_put_inherited : thread_at (put_inherited t i v) k ≡ thread_at t k
  unfolding thread_at put_inherited
  thread_at_put_inherited = refl

  pub token_at_put_inherited : token_at (put_inherited t i v) k ≡ token_at t k
  unfolding token_at put_inherited
  token_at_put_inherited = refl

module _ (t : Tables) (i : ℕ) (v : Process) (k : ℕ) where
  pub job_at_put_process : job_at (put_process t i v) k ≡ job_at t k
  unfolding job_at put_process
  job_at_put_process = refl

  pub own_at_put_process : own_at (put_process t i v) k ≡ own_at t k
  unfolding own_at put_process
  own_at_put_process = refl

  pub inherited_at_put_process : inherited_at (put_process t i v) k ≡ inherited_at t k
  unfolding inherited_at put_process
  inherited_at_put_process = refl

  pub fixed_at_put_process : fixed_at (put_process t i v) k ≡ fixed_at t k
  unfolding fixed_at put_process
  fixed_at_put_process = refl

  pub thread_at_put_process : thread_at (put_process t i v) k ≡ thread_at t k
  unfolding thread_at put_process
  thread_at_put_process = refl

  pub token_at_put_process : token_at (put_process t i v) k ≡ token_at t k
  unfolding token_at put_process
  token_at_put_process = refl

module _ (t : Tables) (i : ℕ) (v : JobPolicy) (k : ℕ) where
  pub job_at_put_fixed : job_at (put_fixed t i v) k ≡ job_at t k
  unfolding job_at put_fixed
  job_at_put_fixed = refl

  pub own_at_put_fixed : own_at (put_fixed t i v) k ≡ own_at t k
  unfolding own_at put_fixed
  own_at_put_fixed = refl

  pub inherited_at_put_fixed : inherited_at (put_fixed t i v) k ≡ inherited_at t k
  unfolding inherited_at put_fixed
  inherited_at_put_fixed = refl

  pub process_at_put_fixed : process_at (put_fixed t i v) k ≡ process_at t k
  unfolding process_at put_fixed
  process_at_put_fixed = refl

  pub thread_at_put_fixed : thread_at (put_fixed t i v) k ≡ thread_at t k
  unfolding thread_at put_fixed
  thread_at_put_fixed = refl

  pub token_at_put_fixed : token_at (put_fixed t i v) k ≡ token_at t k
  unfolding token_at put_fixed
  token_at_put_fixed = refl

module _ (t : Tables) (i : ℕ) (v : Thread) (k : ℕ) where
  pub job_at_put_thread : job_at (put_thread t i v) k ≡ job_at t k
  unfolding job_at put_thread
  job_at_put_thread = refl

  pub own_at_put_thread : own_at (put_thread t i v) k ≡ own_at t k
  unfolding own_at put_thread
  own_at_put_thread = refl

  pub inherited_at_put_thread : inherited_at (put_thread t i v) k ≡ inherited_at t k
  unfolding inherited_at put_thread
  inherited_at_put_thread = refl

  pub process_at_put_thread : process_at (put_thread t i v) k ≡ process_at t k
  unfolding process_at put_thread
  process_at_put_thread = refl

  pub fixed_at_put_thread : fixed_at (put_thread t i v) k ≡ fixed_at t k
  unfolding fixed_at put_thread
  fixed_at_put_thread = refl

  pub token_at_put_thread : token_at (put_thread t i v) k ≡ token_at t k
  unfolding token_at put_thread
  token_at_put_thread = refl

module _ (t : Tables) (i : ℕ) (v : SuspendToken) (k : ℕ) where
  pub job_at_put_token : job_at (put_token t i v) k ≡ job_at t k
  unfolding job_at put_token
  job_at_put_token = refl

  pub own_at_put_token : own_at (put_token t i v) k ≡ own_at t k
  unfolding own_at put_token
  own_at_put_token = refl

  pub inherited_at_put_token : inherited_at (put_token t i v) k ≡ inherited_at t k
  unfolding inherited_at put_token
  inherited_at_put_token = refl

  pub process_at_put_token : process_at (put_token t i v) k ≡ process_at t k
  unfolding process_at put_token
  process_at_put_token = refl

  pub fixed_at_put_token : fixed_at (put_token t i v) k ≡ fixed_at t k
  unfolding fixed_at put_token
  fixed_at_put_token = refl

  pub thread_at_put_token : thread_at (put_token t i v) k ≡ thread_at t k
  unfolding thread_at put_token
  thread_at_put_token = refl

-- ---- All of them -----------------------------------------------------------------------------

pub ruleset cross = (
  own_at_put_job,
  inherited_at_put_job,
  process_at_put_job,
  fixed_at_put_job,
  thread_at_put_job,
  token_at_put_job,
  job_at_put_own,
  inherited_at_put_own,
  process_at_put_own,
  fixed_at_put_own,
  thread_at_put_own,
  token_at_put_own,
  job_at_put_inherited,
  own_at_put_inherited,
  process_at_put_inherited,
  fixed_at_put_inherited,
  thread_at_put_inherited,
  token_at_put_inherited,
  job_at_put_process,
  own_at_put_process,
  inherited_at_put_process,
  fixed_at_put_process,
  thread_at_put_process,
  token_at_put_process,
  job_at_put_fixed,
  own_at_put_fixed,
  inherited_at_put_fixed,
  process_at_put_fixed,
  thread_at_put_fixed,
  token_at_put_fixed,
  job_at_put_thread,
  own_at_put_thread,
  inherited_at_put_thread,
  process_at_put_thread,
  fixed_at_put_thread,
  token_at_put_thread,
  job_at_put_token,
  own_at_put_token,
  inherited_at_put_token,
  process_at_put_token,
  fixed_at_put_token,
  thread_at_put_token,
)
