use mathlib.Core.Bool.{not}
use mathlib.Core.Path.{ap}
use borrow.Author.Tests.{lt-leb}
use Rattle.laws.proofs.Flow.{passes, told}
use Rattle.records.proofs.Kept.{thread_looked_up_at}
use Rattle.model.specs.ExceptionCalls.{raise_exception}
use Rattle.model.proofs.Answering.{refuses, the_record}
use Rattle.exception.proofs.Raising.{raising, stays, route_told}
use Rattle.exception.proofs.handle_exception.Goals as goal

pub returns-then-not-is_free : goal.returns-then-not-is_free
unfolding raise_exception
returns-then-not-is_free c t z a b d =
    let h = c.if-thread-ge128.false in
    passes _ _ _ (route_told _ c.is_no_type.ensures c.if-is_no_type.false c.route_of-route.ensures)
    (passes _ _ _ (lt-leb _ _ h)
    (the_record t _ _ (thread_looked_up_at t _ c.found.ensures h a) c.in-Some.is
    (refuses t _ _ (stays t _ _ a b d) (ap not (told c.is_free.ensures c.if-not-is_free.true)))))

pub returns-then-v-ge64 : goal.returns-then-v-ge64
unfolding raise_exception
returns-then-v-ge64 c t z a b d = search raising depth 20

pub returns : goal.returns
unfolding raise_exception
returns c t z a b d = search raising depth 20
