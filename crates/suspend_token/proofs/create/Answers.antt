use Rattle.std.proofs.Common.{◌∙◌}
use Rattle.thread_lists.specs.Each.{SUSPEND}
use Rattle.model.specs.ThreadCalls.{create_token_call}
use Rattle.suspend_token.proofs.Moving.{changing, token_refused}
use Rattle.suspend_token.proofs.create.Goals as goal

pub returns-then-bars : goal.returns-then-bars
unfolding create_token_call
returns-then-bars c =
    rw (← c.in-Ok.ensures) (λ t o h a b u. token_refused SUSPEND t _ _ _ o h ∙ search (changing) depth 20)

pub returns : goal.returns
unfolding create_token_call
returns c = rw (← c.in-Ok.ensures) (λ t o h a b u. search (changing) depth 20 fits 2000)
