-- What is left is no longer than the list. The measure is what is left of it.
use Rattle.std.proofs.Common.{length, ◌≤◌}
use Rattle.dumplists.proofs.feed_list.Given as goal

abbrev pub invariant-loop-out : goal.invariant-loop-out
invariant-loop-out g l = length l.rest ≤ length l.list

abbrev pub decreases-loop-out : goal.decreases-loop-out
decreases-loop-out g l = length l.rest
