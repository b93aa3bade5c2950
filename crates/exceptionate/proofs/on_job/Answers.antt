use Rattle.std.proofs.Common.{refl, sym, ◌∙◌}
use Rattle.std.proofs.lemmas.Result.{err_from_is_err_and}
use Rattle.error.specs.declared.Refusal.TheVariants.{PastTable, NotMade}
use Rattle.records.proofs.Looked.{no_job_lem, the_job}
use Rattle.exceptionate.proofs.Moving.{past, unmade, refused, set}
use Rattle.exceptionate.proofs.Moving.{channel_of_job, job_refused, job_debugger, job_own}
use Rattle.exceptionate.proofs.Moving.{job_debugger_put, job_own_put}
use Rattle.exceptionate.proofs.on_job.Goals as goal

pub returns-then-job-ge32 : goal.returns-then-job-ge32
returns-then-job-ge32 c t h =
    past _ (channel_of_job _ t _ h) c.if-job-ge32.true (job_refused t _ PastTable h)

pub returns-in_default : goal.returns-in_default
returns-in_default c t h =
    unmade _ (channel_of_job _ t _ h) c.if-job-ge32.false (no_job_lem _ _ c.found.ensures c.in_default.is)
    (job_refused t _ NotMade h)

pub returns-in_err-j : goal.returns-in_err-j
returns-in_err-j c t h =
    let p = err_from_is_err_and c.from_residual.result c.from_residual.ensures.1 in
    rw (p.1, p.2) (refused _ (channel_of_job _ t _ h) c.if-job-ge32.false
    (the_job _ _ c.found.ensures c.in-Some.is (job_debugger _ _ c.if-debugger.true))
    (sym c.after.ensures ∙ c.in_err-j.was) (job_refused t _ _ h))

pub returns-in_err-j-2 : goal.returns-in_err-j-2
returns-in_err-j-2 c t h =
    let p = err_from_is_err_and c.from_residual-in_err-j-2.result c.from_residual-in_err-j-2.ensures.1 in
    rw (p.1, p.2) (refused _ (channel_of_job _ t _ h) c.if-job-ge32.false
    (the_job _ _ c.found.ensures c.in-Some.is (job_own _ _ c.if-debugger.false))
    (sym c.after-else-debugger.ensures ∙ c.in_err-j-2.was) (job_refused t _ _ h))

pub returns-in_ok-j : goal.returns-in_ok-j
returns-in_ok-j c t h =
    set _ (channel_of_job _ t _ h) c.if-job-ge32.false
    (the_job _ _ c.found.ensures c.in-Some.is (job_debugger _ _ c.if-debugger.true))
    (sym c.after.ensures ∙ c.in_ok-j.was)
    (job_debugger_put _ t _ h _ c.if-debugger.true c.if-job-ge32.false refl)

pub returns-in_ok-j-2 : goal.returns-in_ok-j-2
returns-in_ok-j-2 c t h =
    set _ (channel_of_job _ t _ h) c.if-job-ge32.false
    (the_job _ _ c.found.ensures c.in-Some.is (job_own _ _ c.if-debugger.false))
    (sym c.after-else-debugger.ensures ∙ c.in_ok-j-2.was)
    (job_own_put _ t _ h _ c.if-debugger.false c.if-job-ge32.false refl)
