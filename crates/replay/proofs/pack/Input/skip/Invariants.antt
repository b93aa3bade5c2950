-- The measure is what is left to pass over.
use Rattle.replay.proofs.pack.Input.skip.Given as goal

abbrev pub decreases-loop-left : goal.decreases-loop-left
decreases-loop-left l = l.left
