-- Whether a job is another or an ancestor of it, told by the table of jobs alone.
use Rattle.std.specs.Prelude.{ℕ, ◌≡◌, Bool, List}
use Rattle.record_job.specs.declared.Job.{Job}
use Rattle.records.specs.declared.tables.Tables.{Tables}
use Rattle.model.specs.Job.{at_or_above}

-- of any tables with these jobs
abbrev pub Above : List Job → (j i : ℕ) → Bool → Type 0
Above jobs j i r = (t : Tables) → t.jobs ≡ jobs → r ≡ at_or_above t j i
