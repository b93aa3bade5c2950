use Rattle.model.specs.JobCalls.{check_policy}
use Rattle.process.proofs.Moving.{moving}
use Rattle.process.proofs.check_policy.Goals as goal

pub returns-then-panics_at : goal.returns-then-panics_at
unfolding check_policy
returns-then-panics_at c t h k = search moving depth 20

pub returns-then-is_denied : goal.returns-then-is_denied
unfolding check_policy
returns-then-is_denied c t h k = search moving depth 20

pub returns : goal.returns
unfolding check_policy
returns c t h k = search moving depth 20
