-- What a call makes of the records that it is lent in their places is what it makes of the tables: `lending` is named
-- on each entry point.
-- Assumes nothing.
use Rattle.laws.proofs.Loops.{length_mapped}
use Rattle.records.proofs.Places.{job_place, own_place, inherited_place, process_place, fixed_place, thread_place}
use Rattle.cascade.proofs.Ends.{ends_here_lem}

pub ruleset lending = (
  job_place,
  own_place,
  inherited_place,
  process_place,
  fixed_place,
  thread_place,
  length_mapped,
  ends_here_lem,
)
