use Rattle.model.specs.JobCalls.{create_process}
use Rattle.process.proofs.Moving.{moving, makes}
use Rattle.process.proofs.create_with_ext.Goals as goal

pub returns-then-job-ge32 : goal.returns-then-job-ge32
unfolding create_process
returns-then-job-ge32 c t a b d e f = search moving depth 20

pub returns-then-new-ge64 : goal.returns-then-new-ge64
unfolding create_process
returns-then-new-ge64 c t a b d e f = search moving depth 20

pub returns-in_default : goal.returns-in_default
unfolding create_process
returns-in_default c t a b d e f = search moving depth 20

pub returns-then-q : goal.returns-then-q
unfolding create_process
returns-then-q c t a b d e f = search moving depth 20

pub returns-then-v : goal.returns-then-v
unfolding create_process
returns-then-v c t a b d e f = search moving depth 20

pub returns : goal.returns
unfolding create_process
returns c t a b d e f = search (moving, makes) depth 20
