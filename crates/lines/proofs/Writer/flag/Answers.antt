use Rattle.lines.proofs.Texts.{then, flag_is}
use Rattle.lines.proofs.Writer.flag.Goals as goal

pub returns : goal.returns
returns c = rw (flag_is c.args.flag) (then c.byte.ensures c.byte-2.ensures)
