use Rattle.model.specs.ThreadCalls.{start_thread}
use Rattle.thread.proofs.Moving.{settling}
use Rattle.thread.proofs.start.Goals as goal

pub returns-then-w : goal.returns-then-w
unfolding start_thread
returns-then-w c t h = search settling depth 20

pub returns : goal.returns
unfolding start_thread
returns c t h = search settling depth 20
