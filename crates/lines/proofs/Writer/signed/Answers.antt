use Rattle.std.proofs.Common.{rules}
use Rattle.lines.proofs.Numbers.{number_is, zero_text, below_text, from_text}
use Rattle.lines.proofs.Texts.{then, widen}
use Rattle.lines.proofs.Writer.signed.Goals as goal
use Rattle.lines.proofs.Writer.signed.Goals.{then-z-lt0, else-z-lt0}

pub returns-then-z-eq0 : goal.returns-then-z-eq0
returns-then-z-eq0 c =
    rw (zero_text _ c.ranges.z c.if-z-eq0.true)
    (widen (then c.byte.ensures c.byte-then-z-eq0.ensures) (search rules))

pub returns : goal.returns
returns c =
    let z = number_is c.args.z c.ranges.z in
    let n = rw z at c.unsigned_abs.ensures.value in
    elim c.if-z-lt0.branch [
      | then-z-lt0 w ↦
          rw (below_text _ (rw z at w.if-z-lt0.true), ← n)
          (then (then c.byte.ensures w.byte-then-z-lt0.ensures) (rw w.self-is at c.number.ensures))
      | else-z-lt0 w ↦
          rw (from_text _ (rw z at w.if-z-lt0.false), ← n)
          (widen (then c.byte.ensures (rw w.self-is at c.number.ensures)) (search rules))
    ]
