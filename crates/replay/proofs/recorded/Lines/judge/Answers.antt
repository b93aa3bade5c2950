-- Each way of the tests is one of the definition's.
use Rattle.std.proofs.Common.{sym, ◌∙◌}
use borrow.Author.Tests.{eqb-true, eqb-false}
use Rattle.replay.proofs.Agree.{nothing_written, all_written, cut_short, differs}
use Rattle.replay.proofs.recorded.Lines.judge.Goals as goal

pub returns-then-is_empty : goal.returns-then-is_empty
returns-then-is_empty c = nothing_written _ _ _ (eqb-true _ _ (sym c.is_empty.ensures ∙ c.if-is_empty.true))

pub returns-then-agreed-written : goal.returns-then-agreed-written
returns-then-agreed-written c =
    all_written c.args.self c.args.written.now c.args.came.now c.common-agreed.result c.saturating_add-at.result
    (eqb-false _ _ (sym c.is_empty.ensures ∙ c.if-is_empty.false)) c.common-agreed.ensures
    c.saturating_add-at.ensures c.ends_with-stop.result c.ends_with-stop.ensures.value c.if-agreed-written.true

pub returns-then-came-min : goal.returns-then-came-min
returns-then-came-min c =
    cut_short c.args.self c.args.written.now c.args.came.now c.common-agreed.result c.saturating_add-at.result
    (eqb-false _ _ (sym c.is_empty.ensures ∙ c.if-is_empty.false)) c.common-agreed.ensures
    c.saturating_add-at.ensures c.saturating_sub.result c.min.result c.saturating_sub.ensures c.min.ensures
    c.if-agreed-written.false c.if-came-min.true

pub returns : goal.returns
returns c =
    differs c.args.self c.args.written.now c.args.came.now c.common-agreed.result c.saturating_add-at.result
    (eqb-false _ _ (sym c.is_empty.ensures ∙ c.if-is_empty.false)) c.common-agreed.ensures
    c.saturating_add-at.ensures c.saturating_sub.result c.min.result c.saturating_sub.ensures c.min.ensures
    c.if-agreed-written.false c.if-came-min.false
