use Rattle.std.proofs.lemmas.Result.{err_from_is_err_and}
use Rattle.model.proofs.Answering.{accepts}
use Rattle.model.specs.ThreadCalls.{exit_thread}
use Rattle.thread.proofs.Moving.{is_turn, no_turn, free_there, settles_refused, settles_stored}
use Rattle.thread.proofs.exit.Goals as goal

pub returns-in_err-w : goal.returns-in_err-w
unfolding exit_thread
returns-in_err-w c t h =
    let p = err_from_is_err_and c.from_residual.result c.from_residual.ensures.1 in
    rw (p.1, p.2) (no_turn t _ _ h c.free.ensures c.in_err-w.was (settles_refused t _ _ h))

pub returns : goal.returns
unfolding exit_thread
returns c t h =
    is_turn t _ _ h c.free.ensures c.in_ok-w.was
    (accepts t (settles_stored t _ _ c.exit.ensures (free_there c.free.ensures c.in_ok-w.was).0))
