-- The end of a process that no other record is changed by.
use Rattle.std.specs.Prelude.{ℕ, Bool, false, not, List}
use Rattle.laws.specs.Choice.{◌≤?◌, ◌and◌, if◌then◌otherwise◌}
use Rattle.laws.specs.Lists.{any}
use Rattle.record_job.specs.declared.Job.{Job}
use Rattle.record_process.specs.declared.Process.{Process}
use Rattle.record_process.specs.Process.{is_critical}
use Rattle.record_thread.specs.declared.Thread.{Thread}
use Rattle.record_thread.specs.Thread.{thread_of}

-- it is bound to no job, and its job, j, is not killed
unfoldable pub ends_alone : Process → Job → Bool
ends_alone q j = not (is_critical q.critical) and not j.killed

-- process p, marked Exited, lists no thread
unfoldable pub ends_here : ℕ → Process → Job → List Thread → Bool
ends_here p q j threads =
    if any (λ v. thread_of v p) threads then false otherwise
    if 32 ≤? q.job then false otherwise
    ends_alone q j
