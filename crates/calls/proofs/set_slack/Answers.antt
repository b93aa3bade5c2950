use Rattle.std.proofs.Common.{rules, FitsSigned, w64}
use mir.Facts.{to_z-of_z}
use Rattle.model.specs.Step.{step}
use Rattle.calls.specs.Calls.{perform}
use Rattle.calls.proofs.Calling.{settles}
use Rattle.calls.proofs.set_slack.Goals as goal

pub returns : goal.returns
unfolding perform step
returns c =
    let f : FitsSigned w64 c.args.slack = search rules in
    settles _ _ c.settled.ensures (simp (to_z-of_z {w = w64} f) at c.set_policy_timer_slack.ensures)
