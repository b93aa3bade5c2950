-- The pairs that agree at the front, counted.
use Rattle.std.proofs.Common.{◌∙◌, rules, tests}
use Rattle.std.specs.List.{zip}
use Rattle.std.proofs.lemmas.Iterator.{YieldsList-from_slice, YieldsList-from_zip}
use Rattle.std.proofs.lemmas.Iterator.Consumers.{count_from_yields_List}
use Rattle.std.proofs.lemmas.Iterator.Search.{YieldsList-from_take_while}
use Rattle.std.proofs.lemmas.List.Folds.{length-prefix_len}
use Rattle.replay.proofs.Agree.{alike, zipped}
use Rattle.replay.proofs.recorded.common.Goals as goal

pub returns : goal.returns
returns c =
    let a = c.args.a.now in
    let b = c.args.b.now in
    count_from_yields_List c.take_while.result c.count.result c.count.ensures.ran
    (YieldsList-from_take_while _ alike
    (YieldsList-from_zip (YieldsList-from_slice a cc) (YieldsList-from_slice b cc))
    c.take_while.ensures.closure c.take_while.ensures.done (λ x r q k. search (rules, tests)))
    ∙ length-prefix_len alike (zip a b)
    ∙ zipped a b
