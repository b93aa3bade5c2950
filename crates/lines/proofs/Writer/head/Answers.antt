use Rattle.lines.proofs.Numbers.{number_is}
use Rattle.lines.proofs.Texts.{then}
use Rattle.lines.proofs.Writer.head.Goals as goal

pub returns : goal.returns
returns c = then c.number.ensures (rw (number_is _ c.ranges.answer) at c.signed.ensures)
