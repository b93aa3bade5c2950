use Rattle.std.proofs.Common.{refl, ◌∙◌, eq-eqb}
use borrow.Author.Tests.{ne_eqb}
use Rattle.laws.proofs.Flow.{or_stops, or_goes}
use Rattle.exceptionate.proofs.has_strategy.Goals as goal

pub returns-then-level-eq1 : goal.returns-then-level-eq1
returns-then-level-eq1 c =
    let e = eq-eqb _ 1 c.if-level-eq1.true in
    rw (← c.current-level.ensures) (e ∙ or_stops _ e)

pub returns-else-level-eq1 : goal.returns-else-level-eq1
returns-else-level-eq1 c = rw (← c.current-level.ensures) (or_goes _ (ne_eqb _ 1 c.if-level-eq1.false) refl)
