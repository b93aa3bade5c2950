use Rattle.std.proofs.Common.{◌∙◌}
use Rattle.model.specs.JobCalls.{create_child}
use Rattle.job.proofs.Moving.{moving, makes}
use Rattle.job.proofs.create_child.Goals as goal

pub returns-then-w : goal.returns-then-w
unfolding create_child
returns-then-w c t h o i w k = search moving depth 20

pub returns-then-v : goal.returns-then-v
unfolding create_child
returns-then-v c t h o i w k = search moving depth 20

pub returns : goal.returns
unfolding create_child
returns c t h o i w k =
    makes t _ _ c.new.ensures c.merge.ensures c.if-job-ge32.false c.if-new-ge32.false o i ∙ search moving depth 20
