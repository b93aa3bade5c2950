use Rattle.std.proofs.Common.{sym, ◌∙◌}
use Rattle.job.proofs.Fold.{pass_next, pass_end}
use Rattle.job.proofs.policy.Work.each.Goals as goal

pub loop-policy-preserved : goal.loop-policy-preserved
loop-policy-preserved c =
    rw c.step-self.ensures
    (sym (pass_next c.loop-policy.self c.args.policies.now c.loop-policy.policy-index _ c.loop-policy-test.true)
    ∙ c.loop-policy.invariant)

pub returns : goal.returns
returns c =
    sym (pass_end c.loop-policy.self c.args.policies.now c.loop-policy.policy-index c.loop-policy-test.false)
    ∙ c.loop-policy.invariant
