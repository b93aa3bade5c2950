use Rattle.std.proofs.Common.{refl, sym, arith, ◌≡◌}
use native.Mathlib.Nat.{div-one}
use Rattle.lines.proofs.Texts.{filled_none, filled_more, filled_all, left_more}
use Rattle.lines.proofs.Writer.digits.Goals as goal

pub loop-i-init : goal.loop-i-init
loop-i-init g c = (sym (div-one c.args.n), filled_none _ _ _)

pub loop-i-preserved : goal.loop-i-preserved
loop-i-preserved g c =
    let v = c.loop-i.invariant in
    (left_more _ _ _ v.0, filled_more v.1 c.loop-i-test.true c.requires _ v.0 refl refl refl)

pub returns : goal.returns
returns g c =
    let e : c.loop-i.i ≡ g.row.N = omega arith in
    filled_all (rw e at c.loop-i.invariant.1) refl refl refl
