use Rattle.std.proofs.Common.{◌≡◌, ◌/◌, ◌^◌}
use Rattle.lines.proofs.Texts.{Filled}
use Rattle.lines.proofs.Writer.digits.Given as goal

abbrev pub invariant-loop-i : goal.invariant-loop-i
invariant-loop-i g l = (l.left ≡ l.n / 10 ^ l.i) × Filled l.fn.self l.self g.row.N l.n l.i
