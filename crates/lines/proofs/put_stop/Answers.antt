use Rattle.std.proofs.Common.{arith, rules}
use Rattle.lines.specs.Line.{stop_line}
use Rattle.lines.proofs.Puts.{no_room, with_room, left_in}
use Rattle.lines.proofs.Texts.{then}
use Rattle.lines.proofs.put_stop.Goals as goal

pub returns-then-saturating_sub-lt-LINE-clause-put : goal.returns-then-saturating_sub-lt-LINE-clause-put
returns-then-saturating_sub-lt-LINE-clause-put c = no_room _ _ _ (omega arith)

pub returns-clause-put : goal.returns-clause-put
unfolding stop_line
returns-clause-put c =
    left_in (with_room (omega arith) (then c.number.ensures c.text.ensures).put) (search rules)
