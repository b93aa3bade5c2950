-- What an entry point reads in place is what the definitions read. Assumes nothing.
use Prim.Native.Nat.{ℕ}
use mathlib.Core.Path.{◌≡◌, refl}
use Rattle.laws.specs.Choice.{◌and◌}
use Rattle.laws.specs.Lists.{any}
use Rattle.std.proofs.Common.{not}
use Rattle.record_job.specs.Job.{child_of}
use Rattle.record_process.specs.Process.{member_of}
use Rattle.records.specs.declared.tables.Tables.{Tables}
use Rattle.records.proofs.Places.{job_place, own_place, inherited_place}
use Rattle.laws.proofs.Loops.{length_mapped}
use Rattle.model.specs.Job.{job_empty, lists_child, lists_process}

pub is_empty : (t : Tables) (j : ℕ) →
    job_empty t j ≡ (not (any (λ v. child_of v j) t.jobs) and not (any (λ q. member_of q j) t.processes))
unfolding job_empty lists_child lists_process
is_empty t j = refl

pub ruleset placed = (job_place, own_place, inherited_place, length_mapped, is_empty)
