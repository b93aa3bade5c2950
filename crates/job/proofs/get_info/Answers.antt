use Rattle.model.specs.JobCalls.{job_information}
use Rattle.job.proofs.Moving.{moving}
use Rattle.job.proofs.get_info.Goals as goal

pub returns : goal.returns
unfolding job_information
returns c t h o i =
    let f = c.fields_of.ensures in
    let m = c.merge.ensures in
    search (moving, f, m) depth 20
