use Rattle.suspend_token.specs.SuspendToken.{change_call}
use Rattle.suspend_token.proofs.Moving.{changing}
use Rattle.suspend_token.proofs.change_task.Goals as goal

pub returns-then-bars : goal.returns-then-bars
unfolding change_call
returns-then-bars c = rw (← c.in-Ok.ensures) (λ t h a b u. search (changing) depth 20)

pub returns : goal.returns
unfolding change_call
returns c = rw (← c.in-Ok.ensures) (λ t h a b u. search (changing) depth 20)
