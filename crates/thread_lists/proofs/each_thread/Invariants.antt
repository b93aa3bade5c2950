use Rattle.std.proofs.Common.{◌≡◌, length}
use Rattle.laws.proofs.Loops.{map_to}
use Rattle.thread_lists.specs.Each.{changed_in}
use Rattle.thread_lists.proofs.each_thread.Given as goal

abbrev pub invariant-loop-each : goal.invariant-loop-each
invariant-loop-each g l = record {
  long : length l.fn.threads ≡ 128;
  changed : l.each-items ≡ map_to (changed_in (g.C.Change.after l.change) l.p) l.each-index l.fn.threads;
}
