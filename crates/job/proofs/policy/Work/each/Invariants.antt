-- What the entries that are left bring to what is noted so far is what the whole list brings to the start.
use Rattle.std.proofs.Common.{◌≡◌, drop}
use Rattle.job.specs.Work.{after_each}
use Rattle.job.proofs.policy.Work.each.Given as goal

abbrev pub invariant-loop-policy : goal.invariant-loop-policy
invariant-loop-policy l = after_each l.self (drop l.policy-index l.policies) ≡ after_each l.fn.self l.policies
