use Rattle.std.proofs.Common.{rules}
use Rattle.lines.proofs.Numbers.{one_digit}
use Rattle.lines.proofs.Texts.{then, widen}
use Rattle.lines.proofs.Writer.decimal.Goals as goal

pub returns-then-n-lt10 : goal.returns-then-n-lt10
returns-then-n-lt10 c =
    widen (then c.byte.ensures (rw (one_digit c.args.n c.if-n-lt10.true) at c.digits.ensures)) (search rules)

pub returns : goal.returns
returns c = then c.byte.ensures c.number.ensures
