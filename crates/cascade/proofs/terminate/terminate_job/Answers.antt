use Rattle.std.proofs.Common.{◌≡◌, suc, ◌+◌, ◌-◌, ◌∙◌, arith}
use Rattle.laws.proofs.Flow.{told}
use Rattle.model.specs.Job.{terminate_job}
use Rattle.model.proofs.Upward.{up_out, up_orphan, up_stops, up_goes}
use Rattle.cascade.proofs.terminate.terminate_job.Goals as goal

pub returns-in_default : goal.returns-in_default
unfolding terminate_job
returns-in_default c =
    let l = c.loop-step in
    let e : suc (32 - (l._step + 1)) ≡ 32 - l._step = omega (arith, c.loop-step-test.true) in
    up_orphan (32 - (l._step + 1)) _ e _ _ _ _ _ c.job_at-job.ensures c.terminated.ensures c.with_job-t.ensures
    c.in_default.is ∙ l.invariant

pub returns-then-not-may_terminate : goal.returns-then-not-may_terminate
unfolding terminate_job
returns-then-not-may_terminate c =
    let l = c.loop-step in
    let e : suc (32 - (l._step + 1)) ≡ 32 - l._step = omega (arith, c.loop-step-test.true) in
    up_stops (32 - (l._step + 1)) _ e _ _ _ _ _ c.job_at-job.ensures c.terminated.ensures c.with_job-t.ensures
    _ c.in-Some.is (told c.may_terminate.ensures c.if-not-may_terminate.true) ∙ l.invariant

pub loop-step-preserved : goal.loop-step-preserved
loop-step-preserved c =
    let l = c.loop-step in
    let e : suc (32 - (l._step + 1)) ≡ 32 - l._step = omega (arith, c.loop-step-test.true) in
    up_goes (32 - (l._step + 1)) _ e _ _ _ _ _ c.job_at-job.ensures c.terminated.ensures c.with_job-t.ensures
    _ c.in-Some.is (told c.may_terminate.ensures c.if-not-may_terminate.false) ∙ l.invariant

pub returns : goal.returns
unfolding terminate_job
returns c =
    let l = c.loop-step in
    let e : 0 ≡ 32 - l._step = omega (arith, c.loop-step-test.false) in
    up_out _ _ _ e ∙ l.invariant
