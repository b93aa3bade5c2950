use Rattle.std.proofs.Common.{◌≡◌, ◌-◌}
use Rattle.model.specs.Job.{terminate_up}
use Rattle.cascade.proofs.terminate.terminate_job.Given as goal

-- as many steps are left as the definition has
abbrev pub invariant-loop-step : goal.invariant-loop-step
invariant-loop-step l = terminate_up (32 - l._step) l.t l.at ≡ terminate_up 32 l.fn.t l.fn.j
