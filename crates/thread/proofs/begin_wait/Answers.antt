use mathlib.Core.Path.{sym}
use lib.IntN.{pos}
use borrow.Author.Tests.{eq-eqb, ne_eqb}
use Rattle.std.proofs.lemmas.Result.{err_from_is_err_and}
use Rattle.laws.proofs.Flow.{first, second, passes, not_no}
use Rattle.model.proofs.Answering.{accepts}
use Rattle.model.specs.ThreadCalls.{begin_wait, wait_begun}
use Rattle.reply.specs.Reply.{answered}
use Rattle.thread.proofs.Moving.{is_turn, no_turn, free_there, settles_refused, settles_stored}
use Rattle.thread.proofs.begin_wait.Goals as goal

pub returns-in_err-w : goal.returns-in_err-w
unfolding begin_wait
returns-in_err-w c t h =
    let p = err_from_is_err_and c.from_residual.result c.from_residual.ensures.1 in
    passes (answered t) (pos 104) _ (not_no (sym c.if-not-is_wait_state.ensures))
    (rw (p.1, p.2) (no_turn t _ _ h c.free.ensures c.in_err-w.was (settles_refused t _ _ h)))

pub returns-then-w-eq-DYING : goal.returns-then-w-eq-DYING
unfolding begin_wait wait_begun
returns-then-w-eq-DYING c t h =
    let stop = first _ _ (eq-eqb _ _ c.if-w-eq-DYING.true) (settles_refused t _ _ h) in
    passes (answered t) (pos 104) _ (not_no (sym c.if-not-is_wait_state.ensures))
    (is_turn t _ _ h c.free.ensures c.in_ok-w.was (accepts t stop))

pub returns : goal.returns
unfolding begin_wait wait_begun
returns c t h =
    let n = (free_there c.free.ensures c.in_ok-w.was).0 in
    let waits = second _ _ (ne_eqb _ _ c.if-w-eq-DYING.false) (settles_stored t _ _ c.waits.ensures n) in
    passes (answered t) (pos 104) _ (not_no (sym c.if-not-is_wait_state.ensures))
    (is_turn t _ _ h c.free.ensures c.in_ok-w.was (accepts t waits))
