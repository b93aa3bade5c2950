use Rattle.std.proofs.Common.{sym, ◌∙◌}
use Rattle.laws.proofs.Loops.{length_mapped}
use Rattle.laws.specs.Choice.{if◌then◌otherwise◌}
use Rattle.records.proofs.Places.{job_place}
use Rattle.records.specs.Tables.{put_job}
use Rattle.job.specs.Job.{killed_in}
use Rattle.job_calls.proofs.kill.Goals as goal

pub returns-then-branch : goal.returns-then-branch
unfolding killed_in put_job if◌then◌otherwise◌
returns-then-branch c =
    let k =
    c.kill.ensures c.args.t.now (job_place _ _ _ (search length_mapped)) (λ h. sym c.kills_alone-alone.ensures ∙ h) in
    rw c.kills.ensures (simp (c.in_ok-kill.was, c.if-branch.true) at k)

pub returns-else-branch : goal.returns-else-branch
unfolding killed_in put_job if◌then◌otherwise◌
returns-else-branch c =
    let k =
    c.kill.ensures c.args.t.now (job_place _ _ _ (search length_mapped)) (λ h. sym c.kills_alone-alone.ensures ∙ h) in
    simp (c.in_ok-kill.was, c.if-branch.false) at k
