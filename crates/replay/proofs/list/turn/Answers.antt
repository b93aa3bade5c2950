-- The file of calls ends too early, or what came is drained.
use Rattle.replay.specs.Agree.{lines_of}
use Rattle.replay.proofs.Agree.{cuts}
use Rattle.replay.proofs.list.turn.Goals as goal

pub returns-then-got-part : goal.returns-then-got-part
unfolding lines_of
returns-then-got-part c = cuts _
