use Rattle.std.proofs.Common.{◌≡◌, ◌∙◌, true, false}
use Rattle.records.proofs.Kept.{process_is}
use Rattle.model.specs.Job.{at_or_above}
use Rattle.model.specs.JobCalls.{set_critical_at_job}
use Rattle.process.proofs.Moving.{moving, stored}
use Rattle.process.proofs.set_critical_at_job.Goals as goal

pub returns-then-flag-gt1 : goal.returns-then-flag-gt1
unfolding set_critical_at_job
returns-then-flag-gt1 c t h k a = search moving depth 20

pub returns-then-process-ge64 : goal.returns-then-process-ge64
unfolding set_critical_at_job
returns-then-process-ge64 c t h k a = search moving depth 20

pub returns-then-job-ge32 : goal.returns-then-job-ge32
unfolding set_critical_at_job
returns-then-job-ge32 c t h k a = search moving depth 20

pub returns-in_default : goal.returns-in_default
unfolding set_critical_at_job
returns-in_default c t h k a = search moving depth 20

pub returns-in_default-found : goal.returns-in_default-found
unfolding set_critical_at_job
returns-in_default-found c t h k a = search moving depth 20

pub returns-then-is_critical : goal.returns-then-is_critical
unfolding set_critical_at_job
returns-then-is_critical c t h k a = search moving depth 20

pub returns-then-not-above : goal.returns-then-not-above
unfolding set_critical_at_job
returns-then-not-above c t h k a =
    let is = process_is c.found.ensures c.in-Some.is in
    let b : at_or_above t c.args.job c.in-Some.old.job ≡ false = rw (← is) (a ∙ c.if-not-above.true) in
    search moving depth 20

pub returns : goal.returns
unfolding set_critical_at_job
returns c t h k a =
    let is = process_is c.found.ensures c.in-Some.is in
    let b : at_or_above t c.args.job c.in-Some.old.job ≡ true = rw (← is) (a ∙ c.if-not-above.false) in
    let e = stored t c.args.process _ c.bind_to.ensures c.if-process-ge64.false in
    search (moving, e) depth 20
