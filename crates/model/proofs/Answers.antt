-- `Answers` from `Outcomes`. Assumes nothing.
use Rattle.records.specs.declared.tables.Tables.{Tables}
use Rattle.reply.specs.declared.Reply.{Reply}
use Rattle.model.specs.Step.{Call}
use Rattle.model.specs.Answers.{Answered, Answers}
use Rattle.model.proofs.Outcomes.{Outcome, refused, accepted, outcome}

in_row : {t : Tables} {c : Call} (r : Reply) → Outcome t c r → Answered c r.answer r.fields r.policy
in_row r (refused n f p k) = Answered.refused n f p
in_row r (accepted a f p h) = Answered.accepted a f p

pub answers : Answers
unfolding Answers
answers t c = in_row _ (outcome t c)
