-- `Refusals` from `Outcomes`. Assumes nothing.
use mathlib.Core.Path.{◌≡◌}
use mathlib.Core.Bool.{true}
use Rattle.laws.proofs.Cases.{no_both}
use Rattle.records.specs.declared.tables.Tables.{Tables}
use Rattle.reply.specs.declared.Reply.{Reply}
use Rattle.model.specs.Step.{Call}
use Rattle.model.specs.Refusals.{is_refusal, Kept, Refusals}
use Rattle.model.proofs.Outcomes.{Outcome, refused, accepted, outcome}

kept : (t : Tables) (c : Call) (r : Reply) → Outcome t c r → is_refusal r.answer ≡ true
    → Kept t c r.answer r.tables
kept t c r (refused n f p k) e = k
kept t c r (accepted a f p h) e = no_both e h

pub refusals : Refusals
unfolding Refusals
refusals t c = kept t c _ (outcome t c)
