-- The manual's promise: a trip that is to stop stops whole. On every reachable state, after any
-- call: below a killed job every job is killed and every process Exited; a process that ends with
-- a code that its critical binding wants has killed the bound job; and what the call stopped has
-- the code -1028, but for the process that the call itself ended with a code of its own.
use Rattle.std.specs.Prelude.{ℕ, ◌≡◌, Bool, true, false, List, ℤ, pos}
use Rattle.record_process.specs.Process.{critical_to, KILL_CODE, is_exited, code_of, acts}
use Rattle.records.specs.declared.tables.Tables.{Tables}
use Rattle.records.specs.Tables.{job_at, process_at, thread_at, fresh_tables}
use Rattle.model.specs.Step.{Call, cmd02, cmd05, cmd0c, step, final}
use Rattle.claims.specs.Reachable.{AtOrAbove}

-- the code with which a call ends a process by itself: that of 05, or 0 when its last thread
-- finishes
pub data EndsWith (t : Tables) (p : ℕ) : Call → ℤ → Type 0 where
  by_exit : {code : ℤ} → EndsWith t p (cmd05 p code) code
  by_finish : {n : ℕ} → (thread_at t n).process ≡ p → EndsWith t p (cmd0c n) (pos 0)
  by_kill : {c : Call} → EndsWith t p c KILL_CODE

-- t before the call, u after it
pub record Stopped (t : Tables) (c : Call) (u : Tables) : Type 0 where
  -- an accepted kill has killed its job
  pub kill : (j : ℕ) → c ≡ cmd02 j → (step t c).answer ≡ pos 0 → (job_at u j).killed ≡ true
  -- the end of a process kills the job that it is bound to
  pub bound : (p j : ℕ) (nonzero : Bool) → (process_at t p).terminated ≡ false →
      (process_at u p).terminated ≡ true →
      (process_at u p).critical ≡ critical_to j nonzero →
      acts nonzero (code_of (process_at u p).status) ≡ true →
      (job_at u j).killed ≡ true
  -- every job at or below a killed one is killed, and every process in one of them is Exited
  pub jobs : (j i : ℕ) → (job_at u j).killed ≡ true → AtOrAbove u j i → (job_at u i).killed ≡ true
  pub processes : (j p : ℕ) → (job_at u j).killed ≡ true → (process_at u p).made ≡ true →
      AtOrAbove u j (process_at u p).job →
      is_exited (process_at u p).status ≡ true
  -- a code that was there stays; a new one is -1028 or the call's own
  pub kept : (p : ℕ) → is_exited (process_at t p).status ≡ true →
      (process_at u p).status ≡ (process_at t p).status
  pub codes : (p : ℕ) → is_exited (process_at t p).status ≡ false →
      is_exited (process_at u p).status ≡ true →
      EndsWith t p c (code_of (process_at u p).status)

unfoldable pub StopsWhole : Type 0
StopsWhole =
    (before : List Call) (c : Call) → Stopped (final fresh_tables before) c
    (step (final fresh_tables before) c).tables
