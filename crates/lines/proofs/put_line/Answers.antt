use Rattle.std.proofs.Common.{arith, rules, w64, FitsSigned}
use mir.Facts.{to_z-of_z}
use Rattle.lines.specs.Line.{fields_text, line_of}
use Rattle.lines.proofs.Numbers.{number_is}
use Rattle.lines.proofs.Puts.{put_then, no_room, with_room, left_in}
use Rattle.lines.proofs.put_line.Goals as goal

pub returns-then-saturating_sub-lt-LINE-clause-put : goal.returns-then-saturating_sub-lt-LINE-clause-put
returns-then-saturating_sub-lt-LINE-clause-put c = no_room _ _ _ (omega arith)

pub returns-in-NoFields-clause-put : goal.returns-in-NoFields-clause-put
unfolding line_of fields_text
returns-in-NoFields-clause-put c =
    let f : FitsSigned w64 c.args.shown.answer = search rules in
    rw c.in-NoFields.is (simp (to_z-of_z {w = w64} f) at c.put_answer.ensures.put)

pub returns-clause-put : goal.returns-clause-put
unfolding line_of
returns-clause-put c =
    let f : FitsSigned w64 c.args.shown.answer = search rules in
    let head = rw (number_is _ f) at c.head.ensures.put in
    let line = put_then (put_then head c.put_fields.ensures.put) c.byte.ensures.put in
    left_in (with_room (omega arith) line) (search rules)
