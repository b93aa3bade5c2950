use Rattle.std.proofs.Common.{◌∙◌}
use Rattle.job.proofs.Fold.{one_pass_at}
use Rattle.job.proofs.set_policy.Goals as goal

pub returns : goal.returns
returns c t h o i e = c.settle_policy.ensures t h o e ∙ one_pass_at t _ _ _ _ c.first-w.ensures o i
