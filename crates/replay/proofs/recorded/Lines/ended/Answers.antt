-- A bool for each way of the test.
use Rattle.laws.specs.Choice.{◌and◌, if◌then◌otherwise◌}
use Rattle.laws.proofs.Flow.{branches}
use Rattle.replay.proofs.recorded.Lines.ended.Goals.{else-holds-via-then-holds+else-self, else-holds-via-else-holds}
use Rattle.replay.proofs.recorded.Lines.ended.Goals as goal

pub returns-then-self : goal.returns-then-self
returns-then-self c = search branches

pub returns : goal.returns
unfolding ◌and◌ if◌then◌otherwise◌
returns c = elim c.else-holds.branch [
  | else-holds-via-then-holds+else-self w ↦ search branches
  | else-holds-via-else-holds w ↦ rw w.if-holds.false
]
