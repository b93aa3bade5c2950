use Rattle.std.proofs.Common.{refl, ◌∙◌}
use Rattle.job.specs.Work.{finish_work, answer_with}
use Rattle.job.proofs.Moving.{moving, sets_some, sets_all}
use Rattle.job.proofs.settle_policy.Goals as goal

pub returns-then-not-empty : goal.returns-then-not-empty
unfolding finish_work answer_with
returns-then-not-empty c t h o e = search moving depth 20

pub returns-then-w-2 : goal.returns-then-w-2
unfolding finish_work answer_with
returns-then-w-2 c t h o e =
    sets_some t _ c.args.w refl c.if-w-2.true c.if-job-ge32.false ∙ search moving depth 20

pub returns : goal.returns
unfolding finish_work answer_with
returns c t h o e =
    sets_all t _ c.args.w refl c.if-w-2.false c.if-job-ge32.false ∙ search moving depth 20
