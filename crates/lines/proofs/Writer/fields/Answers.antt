use Rattle.std.proofs.Common.{rules, w64, FitsSigned}
use Rattle.lines.specs.Line.{fields_text}
use Rattle.lines.proofs.Numbers.{number_is}
use Rattle.lines.proofs.Texts.{widen, nothing}
use Rattle.lines.proofs.Writer.fields.Goals as goal

pub returns-in-NoFields : goal.returns-in-NoFields
unfolding fields_text
returns-in-NoFields c = rw c.in-NoFields.is (nothing _ _)

pub returns-in-OwnerField : goal.returns-in-OwnerField
unfolding fields_text
returns-in-OwnerField c = rw c.in-OwnerField.is (widen c.decimal.ensures (search rules))

pub returns-in-JobFields : goal.returns-in-JobFields
unfolding fields_text
returns-in-JobFields c =
    let f : FitsSigned w64 c.in-JobFields.amount = search rules in
    rw c.in-JobFields.is (rw (number_is _ f) at c.job.ensures)

pub returns-in-ProcessFields : goal.returns-in-ProcessFields
unfolding fields_text
returns-in-ProcessFields c =
    let f : FitsSigned w64 c.in-ProcessFields.code = search rules in
    rw c.in-ProcessFields.is (widen (rw (number_is _ f) at c.process.ensures) (search rules))

pub returns-in-ThreadFields : goal.returns-in-ThreadFields
unfolding fields_text
returns-in-ThreadFields c = rw c.in-ThreadFields.is c.thread.ensures
