-- The first i entries are merged, the rest are the policy's own.
use Rattle.std.proofs.Common.{◌≡◌, ◌≤◌}
use Rattle.laws.proofs.Loops.{zip_to}
use Rattle.job_policy.specs.Policy.{merged_action}
use Rattle.job_policy.proofs.Laws.{policy}
use Rattle.job_policy.proofs.JobPolicy.merge.Given as goal

abbrev pub invariant-loop-i : goal.invariant-loop-i
invariant-loop-i l =
    (l.self ≡ policy (zip_to merged_action l.i l.fn.self.action l.parent.action))
    × (l.i ≤ 15)
