-- The records that a call on a task lends are those that the definitions read: `places` closes what the call over them
-- asks. Assumes nothing.
use Rattle.laws.proofs.Loops.{length_mapped}
use Rattle.records.proofs.Places.{job_place, process_place, thread_place, token_place}

pub ruleset places = (job_place, process_place, thread_place, token_place, length_mapped)
