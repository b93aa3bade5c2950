use Rattle.model.specs.JobCalls.{kill_process, exit_process_call}
use Rattle.process.proofs.kill.Goals as goal

pub returns : goal.returns
unfolding kill_process exit_process_call
returns c t h = c.exit.ensures t h
