use Rattle.model.specs.ThreadCalls.{kill_thread}
use Rattle.thread.proofs.Moving.{settling}
use Rattle.thread.proofs.kill.Goals as goal

pub returns : goal.returns
unfolding kill_thread
returns c t h = search settling depth 20
