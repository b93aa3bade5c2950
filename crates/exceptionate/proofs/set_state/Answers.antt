use Rattle.std.proofs.Common.{refl}
use borrow.Author.Tests.{lt-ltb, le-ltb}
use Rattle.laws.proofs.Flow.{passes}
use Rattle.reply.specs.Reply.{answered}
use Rattle.model.specs.ExceptionCalls.{set_state}
use Rattle.model.proofs.Answering.{refuses, accepts}
use Rattle.thread.proofs.Moving.{settles_refused}
use Rattle.exceptionate.proofs.Held.{is_held, not_held, kept_waiting}
use Rattle.exceptionate.proofs.set_state.Goals as goal

pub returns-in_default-exception : goal.returns-in_default-exception
unfolding set_state
returns-in_default-exception c t h =
    not_held t _ _ c.if-thread-ge128.false h c.found.ensures c.in-Some.is c.exception.ensures c.in_default-exception.is
    (settles_refused t _ _ h)

pub returns-then-state-gt1 : goal.returns-then-state-gt1
unfolding set_state
returns-then-state-gt1 c t h =
    is_held t _ _ c.if-thread-ge128.false h c.found.ensures c.in-Some.is c.exception.ensures c.in-Some-exception.is
    (refuses t _ _ (settles_refused t _ _ h) (lt-ltb 1 _ c.if-state-gt1.true))

pub returns : goal.returns
unfolding set_state
returns c t h =
    is_held t _ _ c.if-thread-ge128.false h c.found.ensures c.in-Some.is c.exception.ensures c.in-Some-exception.is
    (passes (answered t) _ _ (le-ltb 1 _ c.if-state-gt1.false)
    (accepts t (kept_waiting _ t _ _ c.if-thread-ge128.false c.found.ensures c.in-Some.is refl)))
