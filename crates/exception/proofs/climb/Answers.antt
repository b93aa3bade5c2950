use Rattle.std.proofs.Common.{arith, ◌≡◌, ◌+◌, ◌-◌, ◌∙◌}
use lib.ListN.{length-set}
use Rattle.exception.proofs.Climbing.{up_out, up_past, up_bound, up_orphan, up_goes}
use Rattle.exception.proofs.climb.Goals as goal

pub returns-then-at-ge32 : goal.returns-then-at-ge32
returns-then-at-ge32 c =
    let l = c.loop-step in
    up_past (32 - (l._step + 1)) _ (omega arith) _ _ _ l.invariant.2 c.if-at-ge32.true ∙ l.invariant.0

pub returns-then-job_takes : goal.returns-then-job_takes
returns-then-job_takes c =
    let l = c.loop-step in
    up_bound (32 - (l._step + 1)) _ (omega arith) _ _ _ c.job_takes.ensures.says c.if-job_takes.true
    c.job_place.ensures
    ∙ l.invariant.0

pub returns-in_default : goal.returns-in_default
returns-in_default c =
    let l = c.loop-step in
    up_orphan (32 - (l._step + 1)) _ (omega arith) _ _ _ c.job_takes.ensures.says c.if-job_takes.false
    c.job_takes.ensures.left l.invariant.2 c.if-at-ge32.false c.in_default.is
    ∙ l.invariant.0

pub loop-step-preserved : goal.loop-step-preserved
loop-step-preserved c =
    let l = c.loop-step in (
      up_goes (32 - (l._step + 1)) _ (omega arith) _ _ _ c.job_takes.ensures.says c.if-job_takes.false
          c.job_takes.ensures.left l.invariant.2 c.if-at-ge32.false c.in-Some.is
          ∙ l.invariant.0,
      omega arith,
      simp length-set l.invariant.2,
    )

pub returns : goal.returns
returns c =
    let l = c.loop-step in
    let e : 0 ≡ 32 - l._step = omega arith in
    up_out _ _ _ _ e ∙ l.invariant.0
