use Rattle.std.proofs.Common.{refl, sym, ◌∙◌, eq-eqb}
use borrow.Author.Tests.{ne_eqb}
use Rattle.laws.proofs.Flow.{passes}
use Rattle.reply.specs.Reply.{answered}
use Rattle.model.specs.ExceptionCalls.{get_process_handle}
use Rattle.model.proofs.Answering.{refuses, accepts}
use Rattle.exceptionate.proofs.Held.{is_held, not_held}
use Rattle.exceptionate.proofs.get_process_handle.Goals as goal

pub returns-in_default-exception : goal.returns-in_default-exception
unfolding get_process_handle
returns-in_default-exception c t h =
    not_held t _ _ c.if-thread-ge128.false h c.found.ensures c.in-Some.is c.exception.ensures c.in_default-exception.is
    refl

pub returns-then-current-eq2 : goal.returns-then-current-eq2
unfolding get_process_handle
returns-then-current-eq2 c t h =
    is_held t _ _ c.if-thread-ge128.false h c.found.ensures c.in-Some.is c.exception.ensures c.in-Some-exception.is
    (refuses t _ _ refl (eq-eqb _ 2 (sym c.current.ensures ∙ c.if-current-eq2.true)))

pub returns : goal.returns
unfolding get_process_handle
returns c t h =
    is_held t _ _ c.if-thread-ge128.false h c.found.ensures c.in-Some.is c.exception.ensures c.in-Some-exception.is
    (passes (answered t) _ _ (ne_eqb _ 2 (λ e. c.if-current-eq2.false (c.current.ensures ∙ e)))
    (accepts t refl))
