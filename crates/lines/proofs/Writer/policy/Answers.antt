use Rattle.std.proofs.Common.{arith, ◌≡◌, ◌∙◌, ap}
use Rattle.lines.specs.Line.{action_char, policy_chars, policy_text}
use Rattle.lines.proofs.Texts.{policy_more}
use Rattle.lines.proofs.Writer.policy.Goals as goal

pub loop-condition-init : goal.loop-condition-init
unfolding policy_chars
loop-condition-init c = c.byte.ensures

pub byte-requires-in-loop-condition : goal.byte-requires-in-loop-condition
byte-requires-in-loop-condition c = omega arith

pub loop-condition-preserved : goal.loop-condition-preserved
loop-condition-preserved c =
    policy_more _ _ c.loop-condition.invariant c.byte-in-loop-condition.ensures
    (c.action_char.ensures ∙ ap action_char c.get_action.ensures)

pub returns : goal.returns
unfolding policy_text
returns c = let e : c.loop-condition.condition ≡ 15 = omega arith in rw e at c.loop-condition.invariant
