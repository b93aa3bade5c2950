use Rattle.std.proofs.Common.{arith, rules}
use Rattle.lines.proofs.Numbers.{one_digit, exact}
use Rattle.lines.proofs.Texts.{widen}
use Rattle.lines.proofs.Writer.short.Goals as goal

pub returns-then-n-lt10 : goal.returns-then-n-lt10
returns-then-n-lt10 c =
    widen (rw (one_digit c.args.n c.if-n-lt10.true) at c.digits.ensures) (search rules)

pub returns-then-n-lt100 : goal.returns-then-n-lt100
returns-then-n-lt100 c =
    let same = exact 1 c.args.n (omega arith) (omega arith) (search rules) in
    widen (rw same at c.digits-then-n-lt100.ensures) (search rules)

pub returns-then-n-lt1000 : goal.returns-then-n-lt1000
returns-then-n-lt1000 c =
    let same = exact 2 c.args.n (omega arith) (omega arith) (search rules) in
    widen (rw same at c.digits-then-n-lt1000.ensures) (search rules)

pub returns-else-n-lt1000 : goal.returns-else-n-lt1000
returns-else-n-lt1000 c =
    rw (exact 3 c.args.n (omega arith) (omega arith) (search rules)) at c.digits-else-n-lt1000.ensures
