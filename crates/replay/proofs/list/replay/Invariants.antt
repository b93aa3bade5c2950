-- The lines follow what was compared. The measure is what is not yet read.
use Rattle.std.proofs.Common.{Ok}
use Rattle.replay.specs.Agree.{Follows}
use Rattle.replay.proofs.list.replay.Given as goal

abbrev pub invariant-loop-unread : goal.invariant-loop-unread
invariant-loop-unread l = Follows l.fn.recorded (Ok l.p.lines)

abbrev pub decreases-loop-unread : goal.decreases-loop-unread
decreases-loop-unread l = l.unread
