use Rattle.lines.specs.Line.{job_text}
use Rattle.lines.proofs.Numbers.{number_is}
use Rattle.lines.proofs.Texts.{then}
use Rattle.lines.proofs.Writer.job.Goals as goal

pub returns : goal.returns
unfolding job_text
returns c =
    let amount = rw (number_is _ c.ranges.amount) at c.signed.ensures in
    let slack = then (then (then c.flag.ensures c.flag-2.ensures) amount) c.decimal.ensures in
    then slack c.policy.ensures
