use Rattle.std.proofs.Common.{◌∷◌, ◌+◌}
use Rattle.lines.specs.Line.{SPACE, policy_chars}
use Rattle.lines.specs.Writer.{Appends}
use Rattle.lines.proofs.Writer.policy.Given as goal

abbrev pub invariant-loop-condition : goal.invariant-loop-condition
invariant-loop-condition l =
    Appends (1 + l.condition) l.fn.self l.self (SPACE ∷ policy_chars l.policy l.condition)
