use Rattle.std.proofs.Common.{length, ◌-◌}
use Rattle.recorder.proofs.Turning.{Held}
use Rattle.recorder.proofs.feed.Given as goal

abbrev pub invariant-loop-out : goal.invariant-loop-out
invariant-loop-out l = Held l.input l.initial.out l.fn.state l.out l.t l.number l.at l.written

abbrev pub decreases-loop-out : goal.decreases-loop-out
decreases-loop-out l = length l.input - l.at
