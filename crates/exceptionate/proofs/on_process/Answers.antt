use Rattle.std.proofs.Common.{refl, sym, ◌∙◌}
use Rattle.std.proofs.lemmas.Result.{err_from_is_err_and}
use Rattle.error.specs.declared.Refusal.TheVariants.{PastTable, NotMade}
use Rattle.records.proofs.Looked.{no_process_lem, the_process}
use Rattle.exceptionate.proofs.Moving.{past, unmade, refused, set}
use Rattle.exceptionate.proofs.Moving.{channel_of_process, process_refused, process_debugger, process_own}
use Rattle.exceptionate.proofs.Moving.{process_debugger_put, process_own_put}
use Rattle.exceptionate.proofs.on_process.Goals as goal

pub returns-then-process-ge64 : goal.returns-then-process-ge64
returns-then-process-ge64 c t h =
    past _ (channel_of_process _ t _ h) c.if-process-ge64.true (process_refused t _ PastTable h)

pub returns-in_default : goal.returns-in_default
returns-in_default c t h =
    unmade _ (channel_of_process _ t _ h) c.if-process-ge64.false (no_process_lem _ _ c.found.ensures c.in_default.is)
    (process_refused t _ NotMade h)

pub returns-in_err-q : goal.returns-in_err-q
returns-in_err-q c t h =
    let p = err_from_is_err_and c.from_residual.result c.from_residual.ensures.1 in
    rw (p.1, p.2) (refused _ (channel_of_process _ t _ h) c.if-process-ge64.false
    (the_process _ _ c.found.ensures c.in-Some.is (process_debugger _ _ c.if-debugger.true))
    (sym c.after.ensures ∙ c.in_err-q.was) (process_refused t _ _ h))

pub returns-in_err-q-2 : goal.returns-in_err-q-2
returns-in_err-q-2 c t h =
    let p = err_from_is_err_and c.from_residual-in_err-q-2.result c.from_residual-in_err-q-2.ensures.1 in
    rw (p.1, p.2) (refused _ (channel_of_process _ t _ h) c.if-process-ge64.false
    (the_process _ _ c.found.ensures c.in-Some.is (process_own _ _ c.if-debugger.false))
    (sym c.after-else-debugger.ensures ∙ c.in_err-q-2.was) (process_refused t _ _ h))

pub returns-in_ok-q : goal.returns-in_ok-q
returns-in_ok-q c t h =
    set _ (channel_of_process _ t _ h) c.if-process-ge64.false
    (the_process _ _ c.found.ensures c.in-Some.is (process_debugger _ _ c.if-debugger.true))
    (sym c.after.ensures ∙ c.in_ok-q.was)
    (process_debugger_put _ t _ h _ c.if-debugger.true c.if-process-ge64.false refl)

pub returns-in_ok-q-2 : goal.returns-in_ok-q-2
returns-in_ok-q-2 c t h =
    set _ (channel_of_process _ t _ h) c.if-process-ge64.false
    (the_process _ _ c.found.ensures c.in-Some.is (process_own _ _ c.if-debugger.false))
    (sym c.after-else-debugger.ensures ∙ c.in_ok-q-2.was)
    (process_own_put _ t _ h _ c.if-debugger.false c.if-process-ge64.false refl)
