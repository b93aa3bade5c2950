use Rattle.std.proofs.Common.{rules, FitsSigned, w64, ◌≡◌, ◌∙◌}
use mir.Facts.{to_z-of_z}
use Rattle.records.proofs.Kept.{job_is}
use Rattle.record_job.specs.Job.{with_slack}
use Rattle.job_policy.specs.Slack.{generate_new}
use Rattle.model.specs.JobCalls.{set_policy_timer_slack}
use Rattle.job.proofs.Moving.{moving, settles}
use Rattle.job.proofs.set_policy_timer_slack.Goals as goal

pub returns-then-not-empty : goal.returns-then-not-empty
unfolding set_policy_timer_slack
returns-then-not-empty c t h e = search moving depth 20

pub returns-then-policy-lt0 : goal.returns-then-policy-lt0
unfolding set_policy_timer_slack
returns-then-policy-lt0 c t h e =
    let f : FitsSigned w64 c.args.policy.slack = search rules in
    let s = simp (to_z-of_z {w = w64} f) at c.if-policy-lt0.true in
    search (moving, s) depth 20

pub returns : goal.returns
unfolding set_policy_timer_slack
returns c t h e =
    let f : FitsSigned w64 c.args.policy.slack = search rules in
    let s = simp (to_z-of_z {w = w64} f) at c.if-policy-lt0.false in
    let v = c.in-Some.v in
    let w : with_slack c.args.j.now c.generate_new-j.result ≡ with_slack v (generate_new v.slack c.args.policy) =
    rw (job_is c.found.ensures c.in-Some.is, c.generate_new-j.ensures) in
    settles t _ _ w c.if-job-ge32.false ∙ search (moving, s) depth 20
