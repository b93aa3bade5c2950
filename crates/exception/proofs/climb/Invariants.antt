use Rattle.std.proofs.Common.{◌≡◌, ◌-◌, ◌≤◌, length}
use Rattle.exception.specs.Seek.{climbing}
use Rattle.exception.proofs.climb.Given as goal

-- as many jobs are left as the definition has
abbrev pub invariant-loop-step : goal.invariant-loop-step
invariant-loop-step l =
    (climbing (32 - l._step) l.debugger l.jobs l.at ≡ climbing 32 l.debugger l.fn.jobs l.fn.job)
    × (l._step ≤ 32) × (length l.jobs ≡ 32)
