use Rattle.model.specs.ThreadCalls.{drop_token_call}
use Rattle.suspend_token.proofs.Moving.{dropping}
use Rattle.suspend_token.proofs.drop.Goals as goal

pub returns-then-none_at : goal.returns-then-none_at
unfolding drop_token_call
returns-then-none_at c t a z o y h g = search (dropping) depth 20

pub returns : goal.returns
unfolding drop_token_call
returns c t a z o y h g = search (dropping) depth 20
