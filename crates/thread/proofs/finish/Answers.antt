use Rattle.std.proofs.lemmas.Result.{err_from_is_err_and}
use Rattle.model.proofs.Answering.{accepts}
use Rattle.model.specs.ThreadCalls.{finish_thread_call}
use Rattle.thread.proofs.Moving.{is_turn, no_turn, free_there, ends_refused, ends_finished}
use Rattle.thread.proofs.finish.Goals as goal

pub returns-in_err-w : goal.returns-in_err-w
unfolding finish_thread_call
returns-in_err-w c t h =
    let p = err_from_is_err_and c.from_residual.result c.from_residual.ensures.1 in
    rw (p.1, p.2) (no_turn t _ _ h c.free.ensures c.in_err-w.was (ends_refused t _ _ h))

pub returns : goal.returns
unfolding finish_thread_call
returns c t h =
    let f = free_there c.free.ensures c.in_ok-w.was in
    is_turn t _ _ h c.free.ensures c.in_ok-w.was (accepts t (ends_finished t _ f.0 h f.1 c.finish.ensures))
