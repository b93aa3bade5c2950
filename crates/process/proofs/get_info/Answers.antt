use Rattle.model.specs.JobCalls.{process_information}
use Rattle.process.proofs.Moving.{moving}
use Rattle.process.proofs.get_info.Goals as goal

pub returns : goal.returns
unfolding process_information
returns c t h = search moving depth 20
