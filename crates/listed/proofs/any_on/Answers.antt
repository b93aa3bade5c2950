use Rattle.std.proofs.Common.{rules, tests, ◌∙◌, sym}
use Rattle.std.proofs.lemmas.Iterator.{YieldsList-from_slice}
use Rattle.std.proofs.lemmas.Iterator.Search.{any_from_yields_List}
use Rattle.listed.proofs.Next.{any_is}
use Rattle.listed.proofs.any_on.Goals as goal

pub returns : goal.returns
returns g c =
    any_from_yields_List (λ v. g.T.Listed.is_on v c.args.owner) _ _ _ c.any.ensures.ran
    (YieldsList-from_slice c.args.table.now cc) (λ x b q k. search (rules, tests))
    ∙ sym (any_is (λ v. g.T.Listed.is_on v c.args.owner) c.args.table.now)
