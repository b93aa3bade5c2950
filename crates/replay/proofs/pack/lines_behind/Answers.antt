-- The length that was read, or that there is none, is all that is not known.
use Rattle.std.proofs.Common.{None, Some, Ok, ap, refl}
use Rattle.replay.specs.Agree.{lines_behind}
use Rattle.replay.proofs.Agree.{no_length}
use Rattle.replay.proofs.pack.lines_behind.Goals as goal

pub returns-then-not-skip : goal.returns-then-not-skip
unfolding lines_behind
returns-then-not-skip c = (None, refl)

pub returns-in_err-end : goal.returns-in_err-end
unfolding lines_behind
returns-in_err-end c = (None, no_length _ _ c.next_length.ensures c.in_err-end.was c.from_residual.ensures.1)

pub returns-in_default : goal.returns-in_default
unfolding lines_behind
returns-in_default c = (None, refl)

pub returns : goal.returns
unfolding lines_behind
returns c = (Some _, ap Ok c.new.ensures)
