use Rattle.std.proofs.Common.{ap, ◌∙◌}
use Rattle.record_job.specs.declared.Job.{Job}
use Rattle.records.proofs.Kept.{job_is, job_made}
use Rattle.model.specs.JobCalls.{kill_job_call}
use Rattle.job.proofs.Moving.{moving, was_killed, kills_here, kills_on}
use Rattle.job.proofs.kill.Goals as goal

pub returns-then-v : goal.returns-then-v
unfolding kill_job_call
returns-then-v c t h a =
    let k = ap (λ (x : Job). x.killed) (job_is c.found.ensures c.in-Some.is) ∙ c.if-v.true in
    let e = was_killed t _ c.if-job-ge32.false h k in
    search (moving, e) depth 20

pub returns-then-alone : goal.returns-then-alone
unfolding kill_job_call
returns-then-alone c t h a =
    let is = job_is c.found.ensures c.in-Some.is in
    let k = ap (λ (x : Job). x.killed) is ∙ c.if-v.false in
    let w = simp (c.killed.ensures, ← is) at c.terminated.ensures in
    let e = kills_here t _ w c.if-job-ge32.false h (job_made _ c.found.ensures c.in-Some.is) k (a c.if-alone.true) in
    search (moving, e) depth 20

pub returns : goal.returns
unfolding kill_job_call
returns c t h a = let e = kills_on t _ h in search (moving, e) depth 20
