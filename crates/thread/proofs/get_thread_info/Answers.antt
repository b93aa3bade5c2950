use Rattle.model.specs.ThreadCalls.{thread_information, thread_info}
use Rattle.thread.proofs.Moving.{settling, informs}
use Rattle.thread.proofs.get_thread_info.Goals as goal

pub returns : goal.returns
unfolding thread_information thread_info
returns c t h =
    let e = informs t _ (simp (c.state.ensures, c.waiting_level.ensures) at c.new.ensures) in
    search (settling, e) depth 20
