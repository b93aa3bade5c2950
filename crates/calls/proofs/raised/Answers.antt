use Rattle.std.proofs.Common.{w64}
use mir.Val.{SFits}
use mir.Facts.{to_z-of_z}
use Rattle.reply.specs.Reply.{showing, answered, reply}
use Rattle.exception.specs.Raise.{raised_in}
use Rattle.calls.proofs.raised.Goals as goal

pub returns-in-Ok : goal.returns-in-Ok
unfolding showing raised_in reply
returns-in-Ok c t =
    let z : SFits w64 c.answer.result = record { sfits = c.answer.type_inv } in
    rw (c.in-Ok.is, c.with_fields.ensures.is, to_z-of_z {w = w64} z, c.answer.ensures, c.owner.ensures)

pub returns-in-Err : goal.returns-in-Err
unfolding showing raised_in answered
returns-in-Err c t =
    let z : SFits w64 c.number.result = record { sfits = c.number.type_inv } in
    rw (c.in-Err.is, c.answered.ensures.is, to_z-of_z {w = w64} z, c.number.ensures)
