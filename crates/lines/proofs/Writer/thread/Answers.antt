use Rattle.lines.specs.Line.{thread_text}
use Rattle.lines.proofs.Texts.{then}
use Rattle.lines.proofs.Writer.thread.Goals as goal

pub returns : goal.returns
unfolding thread_text
returns c = then (then c.decimal.ensures c.decimal-2.ensures) c.decimal-3.ensures
