use Rattle.reply.specs.Reply.{showing, answered}
use Rattle.calls.specs.Calls.{perform}
use Rattle.calls.proofs.Calling.{above_four, up_to_four, settles}
use Rattle.calls.proofs.set_policy.Goals as goal

pub returns-then-count-gt4 : goal.returns-then-count-gt4
unfolding perform showing answered
returns-then-count-gt4 c =
    above_four c.args.t.now c.args.job c.args.option c.args.s.now c.byte_at-count.ensures
    c.if-count-gt4.true (rw c.answered.ensures.is)

pub returns : goal.returns
returns c =
    up_to_four c.args.t.now c.args.job c.args.option c.args.s.now c.byte_at-count.ensures
    c.if-count-gt4.false c.fifteen_at-policies.ensures
    (settles _ _ c.settled.ensures c.set_policy.ensures)
