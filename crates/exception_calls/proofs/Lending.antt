-- What a call makes of the records that it is lent in their places is what it makes of the tables: `lending` is named
-- on the crate. Assumes nothing.
use Rattle.laws.proofs.Flow.{first, second, told}
use Rattle.laws.proofs.Loops.{length_mapped}
use Rattle.records.proofs.Places.{job_place, process_place, thread_place}

pub ruleset lending = (job_place, process_place, thread_place, length_mapped, first, second, told)
