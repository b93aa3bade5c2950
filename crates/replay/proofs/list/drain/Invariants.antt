-- `at` stays within the buffer, and the lines stand as all comparisons so far say. The measure is what is left of the
-- buffer.
use Rattle.std.proofs.Common.{◌-◌, ◌≤◌, length, Ok}
use Rattle.replay.specs.Agree.{Follows}
use Rattle.replay.proofs.list.drain.Given as goal

abbrev pub invariant-loop-recorded : goal.invariant-loop-recorded
invariant-loop-recorded l =
    record { in_bounds : l.at ≤ length l.buf; follows : Follows l.fn.begun.lines (Ok l.recorded) }

abbrev pub decreases-loop-recorded : goal.decreases-loop-recorded
decreases-loop-recorded l = length l.buf - l.at
