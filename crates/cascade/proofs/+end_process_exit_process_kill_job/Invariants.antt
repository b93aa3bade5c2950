-- Killing a job, exiting a process and ending a process. The measure is twice the count of what is
-- live; one more where a process ends, since it kills its job at the same count.
use Prim.Native.Nat.{◌+◌, ◌*◌, ◌-◌}
use Rattle.model.specs.Job.{remaining}
use Rattle.cascade.proofs.Walks.{Children, Members}
use Rattle.cascade.proofs.+end_process_exit_process_kill_job.Given as goal

abbrev pub decreases-end_process : goal.decreases-end_process
decreases-end_process l = 2 * remaining l.t + 1

abbrev pub decreases-exit_process : goal.decreases-exit_process
decreases-exit_process l = 2 * remaining l.t

abbrev pub decreases-kill_job : goal.decreases-kill_job
decreases-kill_job l = 2 * remaining l.t

abbrev pub invariant-kill_job-loop-c : goal.invariant-kill_job-loop-c
invariant-kill_job-loop-c l = Children l.initial.t l.j l.t l.child

abbrev pub decreases-kill_job-loop-c : goal.decreases-kill_job-loop-c
decreases-kill_job-loop-c l = 32 - l.child

abbrev pub invariant-kill_job-loop-p : goal.invariant-kill_job-loop-p
invariant-kill_job-loop-p l = Members l.initial.t l.j l.t l.member

abbrev pub decreases-kill_job-loop-p : goal.decreases-kill_job-loop-p
decreases-kill_job-loop-p l = 64 - l.member
