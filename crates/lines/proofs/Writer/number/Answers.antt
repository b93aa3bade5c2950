use Rattle.std.proofs.Common.{rules}
use Rattle.lines.proofs.Numbers.{length_decimal}
use Rattle.lines.proofs.Writer.number.Goals as goal

pub returns : goal.returns
returns c =
    record {
      same = search rules;
      long = search rules;
      put = c.put_number-self.ensures;
      short = length_decimal c.args.n;
    }
