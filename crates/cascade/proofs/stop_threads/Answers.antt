use Rattle.std.proofs.Common.{ap}
use Rattle.thread_lists.specs.Each.{one_of, changed_in}
use Rattle.records.specs.Tables.{with_threads}
use Rattle.model.specs.Job.{stop_in, stop_threads}
use Rattle.cascade.proofs.stop_threads.Goals as goal

pub returns : goal.returns
unfolding stop_threads stop_in one_of changed_in
returns c = ap (with_threads c.args.t) c.each_thread.ensures
