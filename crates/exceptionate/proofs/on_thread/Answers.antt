use Rattle.std.proofs.Common.{refl, sym, ◌∙◌}
use Rattle.std.proofs.lemmas.Result.{err_from_is_err_and}
use Rattle.error.specs.declared.Refusal.TheVariants.{PastTable, NotMade}
use Rattle.records.proofs.Looked.{no_thread_lem, the_thread}
use Rattle.thread.proofs.Moving.{settles_refused}
use Rattle.exceptionate.proofs.Moving.{channel_of_thread, past, unmade, refused, set, thread_put}
use Rattle.exceptionate.proofs.on_thread.Goals as goal

pub returns-then-thread-ge128 : goal.returns-then-thread-ge128
returns-then-thread-ge128 c t h =
    past _ (channel_of_thread t _ h) c.if-thread-ge128.true (settles_refused t _ PastTable h)

pub returns-in_default : goal.returns-in_default
returns-in_default c t h =
    unmade _ (channel_of_thread t _ h) c.if-thread-ge128.false (no_thread_lem _ c.found.ensures c.in_default.is)
    (settles_refused t _ NotMade h)

pub returns-in_err-v : goal.returns-in_err-v
returns-in_err-v c t h =
    let p = err_from_is_err_and c.from_residual.result c.from_residual.ensures.1 in
    rw (p.1, p.2)
    (refused _ (channel_of_thread t _ h) c.if-thread-ge128.false (the_thread _ c.found.ensures c.in-Some.is)
    (sym c.after.ensures ∙ c.in_err-v.was) (settles_refused t _ _ h))

pub returns : goal.returns
returns c t h =
    set _ (channel_of_thread t _ h) c.if-thread-ge128.false (the_thread _ c.found.ensures c.in-Some.is)
    (sym c.after.ensures ∙ c.in_ok-v.was) (thread_put t _ _ c.if-thread-ge128.false h refl)
