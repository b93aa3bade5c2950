use Rattle.lines.specs.Line.{process_text}
use Rattle.lines.proofs.Numbers.{number_is}
use Rattle.lines.proofs.Texts.{then}
use Rattle.lines.proofs.Writer.process.Goals as goal

pub returns : goal.returns
unfolding process_text
returns c =
    let code = rw (number_is _ c.ranges.code) at c.signed.ensures in
    then (then (then (then code c.flag.ensures) c.flag-2.ensures) c.flag-3.ensures) c.flag-4.ensures
