use Rattle.model.specs.ThreadCalls.{create_thread}
use Rattle.thread.proofs.Pairs.{pairs}
use Rattle.thread.proofs.create_with_ext.Goals as goal

pub returns-then-process-ge64 : goal.returns-then-process-ge64
unfolding create_thread
returns-then-process-ge64 c t h k = search pairs depth 20

pub returns-then-new-ge128 : goal.returns-then-new-ge128
unfolding create_thread
returns-then-new-ge128 c t h k = search pairs depth 20

pub returns-in_default : goal.returns-in_default
unfolding create_thread
returns-in_default c t h k = search pairs depth 20

pub returns-then-v : goal.returns-then-v
unfolding create_thread
returns-then-v c t h k = search pairs depth 20

pub returns-then-is_exited : goal.returns-then-is_exited
unfolding create_thread
returns-then-is_exited c t h k = search pairs depth 20

pub returns : goal.returns
unfolding create_thread
returns c t h k = search pairs depth 20
