use Rattle.std.proofs.Common.{◌∙◌, arith}
use Rattle.std.proofs.lemmas.List.{length-take}
use Rattle.listed.proofs.Next.{next_on_lem, found_next, found_none, among}
use Rattle.listed.proofs.next_on.Goals as goal

pub loop-i-preserved : goal.loop-i-preserved
loop-i-preserved g c =
    next_on_lem _ _ _ c.index-table-i.result
    (omega (arith, c.loop-i-test.true, c.told-table, c.min-i-end.ensures, length-take 256 c.args.table.now))
    (c.is_on.ensures ∙ among (λ v. g.T.Listed.is_on v c.args.owner) c.args.table.now c.loop-i.i c.index-table-i.result
    (omega (arith, c.loop-i-test.true, c.min-i-end.ensures)))
    c.if-is_on.false ∙ c.loop-i.invariant

pub returns-then-is_on : goal.returns-then-is_on
returns-then-is_on g c =
    found_next _ _ _ _ c.index-table-i.result c.loop-i.invariant
    (omega (arith, c.loop-i-test.true, c.told-table, c.min-i-end.ensures, length-take 256 c.args.table.now))
    (c.is_on.ensures ∙ among (λ v. g.T.Listed.is_on v c.args.owner) c.args.table.now c.loop-i.i c.index-table-i.result
    (omega (arith, c.loop-i-test.true, c.min-i-end.ensures)))
    c.if-is_on.true

pub returns : goal.returns
returns g c =
    found_none _ _ _ _ c.loop-i.invariant
    (omega (arith, c.loop-i-test.false, c.told-table, c.min-i-end.ensures, length-take 256 c.args.table.now))
