use Rattle.model.specs.JobCalls.{start_process, with_started}
use Rattle.thread.proofs.Pairs.{pairs, both_stored}
use Rattle.process.proofs.start.Goals as goal

pub returns-then-process-ge64 : goal.returns-then-process-ge64
unfolding start_process
returns-then-process-ge64 c t h k = search pairs depth 20

pub returns-then-thread-ge128 : goal.returns-then-thread-ge128
unfolding start_process
returns-then-thread-ge128 c t h k = search pairs depth 20

pub returns-in_default : goal.returns-in_default
unfolding start_process
returns-in_default c t h k = search pairs depth 20

pub returns-in_default-found : goal.returns-in_default-found
unfolding start_process
returns-in_default-found c t h k = search pairs depth 20

pub returns-then-w : goal.returns-then-w
unfolding start_process
returns-then-w c t h k = search pairs depth 20

pub returns-then-not-thread_of : goal.returns-then-not-thread_of
unfolding start_process
returns-then-not-thread_of c t h k = search pairs depth 20

pub returns-then-not-is_init : goal.returns-then-not-is_init
unfolding start_process
returns-then-not-is_init c t h k = search pairs depth 20

pub returns : goal.returns
unfolding start_process with_started
returns c t h k =
    let e = both_stored t _ _ _ _ c.with_status.ensures c.start.ensures c.if-process-ge64.false
    c.if-thread-ge128.false in
    search (pairs, e) depth 20
