use Rattle.laws.specs.Choice.{◌and◌}
use Rattle.laws.proofs.Loops.{Searched}
use Rattle.record_thread.specs.Thread.{thread_of}
use Rattle.thread_lists.proofs.one_bars.Given as goal

abbrev pub invariant-loop-v : goal.invariant-loop-v
invariant-loop-v g l = Searched (λ v. thread_of v l.p and g.C.Change.bars l.change v) l.threads 128 l.v-index
