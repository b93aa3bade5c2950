use Rattle.laws.specs.Choice.{if◌then◌otherwise◌}
use borrow.Author.Tests.{le-leb, lt-leb}
use Rattle.thread.specs.Move.{free_in, free_found}
use Rattle.thread.proofs.free.Goals as goal

pub returns-then-thread-ge128 : goal.returns-then-thread-ge128
unfolding free_in if◌then◌otherwise◌
returns-then-thread-ge128 c = rw (le-leb 128 _ c.if-thread-ge128.true)

pub returns-in_default : goal.returns-in_default
unfolding free_in free_found if◌then◌otherwise◌
returns-in_default c = rw (lt-leb 128 _ c.if-thread-ge128.false, ← c.found.ensures, c.in_default.is)

pub returns-then-not-is_free : goal.returns-then-not-is_free
unfolding free_in free_found if◌then◌otherwise◌
returns-then-not-is_free c =
    rw (lt-leb 128 _ c.if-thread-ge128.false, ← c.found.ensures, c.in-Some.is, ← c.if-not-is_free.ensures)

pub returns : goal.returns
unfolding free_in free_found if◌then◌otherwise◌
returns c = rw (lt-leb 128 _ c.if-thread-ge128.false, ← c.found.ensures, c.in-Some.is, ← c.if-not-is_free.ensures)
