-- What is compared at the end comes before the end of the list.
use Rattle.replay.proofs.Agree.{stays, hence, compares, over_at, never_over}
use Rattle.replay.proofs.list.finish.Goals as goal

pub returns-then-p : goal.returns-then-p
returns-then-p c = over_at _ (stays _) c.ended.ensures

pub returns-in_err-last : goal.returns-in_err-last
returns-in_err-last c = never_over (compares c.compare.ensures) c.in_err-last.was c.from_residual.ensures.1

pub returns : goal.returns
returns c = over_at _ (hence (compares c.compare.ensures) c.in_ok-last.was) c.ended-2.ensures
