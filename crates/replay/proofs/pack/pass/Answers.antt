-- The answer of `skip` is all that is not known.
use Rattle.std.proofs.Common.{true, false, refl}
use Rattle.laws.specs.Choice.{if◌then◌otherwise◌}
use Rattle.replay.specs.Agree.{passed}
use Rattle.replay.proofs.pack.pass.Goals as goal

pub returns-then-not-skip : goal.returns-then-not-skip
unfolding passed if◌then◌otherwise◌
returns-then-not-skip c = (false, refl)

pub returns : goal.returns
unfolding passed if◌then◌otherwise◌
returns c = (true, refl)
