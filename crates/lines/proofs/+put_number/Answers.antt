use Rattle.std.proofs.Common.{arith, rules}
use Rattle.lines.proofs.Numbers.{put_more, rest_fits}
use Rattle.lines.proofs.Puts.{left_in}
use Rattle.lines.proofs.+put_number.Goals as goal

pub returns-then-n-lt10000 : goal.returns-then-n-lt10000
returns-then-n-lt10000 t c = left_in c.short.ensures.put (search rules)

pub returns-then-n-lt100000000 : goal.returns-then-n-lt100000000
returns-then-n-lt100000000 t c =
    left_in
    (put_more 4 c.args.n (omega arith) (search rules) c.short-then-n-lt100000000.ensures.put c.digits.ensures.put)
    (search rules)

pub digits-requires-2 : goal.digits-requires-2
digits-requires-2 t c = omega (arith, rest_fits 8 c.args.n (omega arith) (search rules))

pub returns : goal.returns
returns t c =
    left_in
    (put_more 8 c.args.n (omega arith) (search rules) c.put_number.ensures c.digits-2.ensures.put)
    (search rules)
