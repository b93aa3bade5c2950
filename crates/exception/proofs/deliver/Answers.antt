use Rattle.exception.specs.Raise.{delivers}
use Rattle.exception.proofs.deliver.Goals as goal

pub returns-in-Some : goal.returns-in-Some
unfolding delivers
returns-in-Some c jobs = rw c.in-Some.is (c.waits_at.ensures _ jobs)
