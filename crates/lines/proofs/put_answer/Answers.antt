use Rattle.std.proofs.Common.{arith, rules}
use Rattle.lines.specs.Line.{fields_text, line_of}
use Rattle.lines.proofs.Numbers.{number_is}
use Rattle.lines.proofs.Puts.{no_room, with_room, left_in}
use Rattle.lines.proofs.Texts.{then, nothing}
use Rattle.lines.proofs.put_answer.Goals as goal

pub returns-then-saturating_sub-lt-LINE-clause-put : goal.returns-then-saturating_sub-lt-LINE-clause-put
returns-then-saturating_sub-lt-LINE-clause-put c = no_room _ _ _ (omega arith)

pub returns-clause-put : goal.returns-clause-put
unfolding line_of fields_text
returns-clause-put c =
    let head = rw (number_is _ c.ranges.answer) at c.head.ensures in
    left_in (with_room (omega arith) (then (then head (nothing _ 0)) c.byte.ensures).put) (search rules)
