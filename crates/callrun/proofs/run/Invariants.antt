-- What is not yet used lies within the buffer.
use Rattle.std.proofs.Common.{◌≤◌, length}
use Rattle.callrun.proofs.run.Given as goal

abbrev pub invariant-loop : goal.invariant-loop
invariant-loop g l = l.progress.have ≤ length l.buf
