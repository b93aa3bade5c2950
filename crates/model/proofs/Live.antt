-- The tests that guard the steps of the cascade: a live job is made and not killed, a live process
-- made and not Exited. Assumes nothing.
use mathlib.Core.Path.{◌≡◌, sym}
use mathlib.Core.Bool.{true, false, not}
use borrow.Author.Tests.{not-true}
use Rattle.laws.proofs.Cases.{and_left, and_right, and_true, and_false}
use Rattle.laws.proofs.Flow.{and_stops, not_yes, not_no}
use Rattle.record_job.specs.declared.Job.{Job}
use Rattle.record_process.specs.declared.Process.{Process}
use Rattle.record_process.specs.Process.{is_exited}
use Rattle.model.specs.Job.{is_live_job, is_live_process}

-- ---- Jobs ----------------------------------------------------------------------------------

pub live_job : (v : Job) → v.made ≡ true → v.killed ≡ false → is_live_job v ≡ true
unfolding is_live_job
live_job v m k = and_true m (not_yes k)

pub live_job_made : (v : Job) → is_live_job v ≡ true → v.made ≡ true
unfolding is_live_job
live_job_made v e = and_left v.made (not v.killed) e

pub live_job_unkilled : (v : Job) → is_live_job v ≡ true → v.killed ≡ false
unfolding is_live_job
live_job_unkilled v e = not-true v.killed (and_right v.made (not v.killed) e)

pub unmade_job : (v : Job) → v.made ≡ false → is_live_job v ≡ false
unfolding is_live_job
unmade_job v e = sym (and_stops (not v.killed) e)

pub killed_job : (v : Job) → v.killed ≡ true → is_live_job v ≡ false
unfolding is_live_job
killed_job v e = and_false v.made (not_no e)

-- ---- Processes -----------------------------------------------------------------------------

pub live_process : (q : Process) → q.made ≡ true → is_exited q.status ≡ false
    → is_live_process q ≡ true
unfolding is_live_process
live_process q m k = and_true m (not_yes k)

pub live_process_made : (q : Process) → is_live_process q ≡ true → q.made ≡ true
unfolding is_live_process
live_process_made q e = and_left q.made (not (is_exited q.status)) e

pub live_process_unexited : (q : Process) → is_live_process q ≡ true → is_exited q.status ≡ false
unfolding is_live_process
live_process_unexited q e =
    not-true (is_exited q.status) (and_right q.made (not (is_exited q.status)) e)

pub unmade_process : (q : Process) → q.made ≡ false → is_live_process q ≡ false
unfolding is_live_process
unmade_process q e = sym (and_stops (not (is_exited q.status)) e)

pub exited_process : (q : Process) → is_exited q.status ≡ true → is_live_process q ≡ false
unfolding is_live_process
exited_process q e = and_false q.made (not_no e)
