use Rattle.std.proofs.Common.{refl}
use Rattle.job_policy.proofs.Laws.{cases}
use Rattle.job_policy.proofs.cases.Goals as goal

pub returns : goal.returns
returns c = (refl, cases)
