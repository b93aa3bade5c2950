-- How many bytes came is what the read answered.
use borrow.Author.Tests.{eq-eqb, ne_eqb, lt-ltb, le-ltb}
use Rattle.laws.specs.Choice.{if◌then◌otherwise◌}
use Rattle.replay.specs.Agree.{length_of}
use Rattle.replay.proofs.pack.next_length.Goals as goal

pub returns-then-got-eq0 : goal.returns-then-got-eq0
unfolding length_of if◌then◌otherwise◌
returns-then-got-eq0 c = (c.read_full-got.result, rw (eq-eqb _ _ c.if-got-eq0.true))

pub returns-then-got-lt4 : goal.returns-then-got-lt4
unfolding length_of if◌then◌otherwise◌
returns-then-got-lt4 c =
    (c.read_full-got.result, rw (ne_eqb _ _ c.if-got-eq0.false, lt-ltb _ _ c.if-got-lt4.true))

pub returns : goal.returns
unfolding length_of if◌then◌otherwise◌
returns c = (
  c.read_full-got.result,
  rw (ne_eqb _ _ c.if-got-eq0.false, le-ltb _ _ c.if-got-lt4.false, c.from_le_bytes.ensures),
)
