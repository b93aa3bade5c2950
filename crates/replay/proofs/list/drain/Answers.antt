-- What a comparison says comes behind all that came before.
use Rattle.std.proofs.Common.{arith}
use borrow.Author.Rules.{rules}
use Rattle.replay.specs.Agree.{lines_of}
use Rattle.replay.proofs.Agree.{stays, hence, goes_on_lem, compares, faults}
use Rattle.replay.proofs.list.drain.Goals as goal

pub loop-recorded-init : goal.loop-recorded-init
loop-recorded-init c = record { in_bounds = omega arith; follows = stays _ }

pub returns-in_err-recorded-clause-follows : goal.returns-in_err-recorded-clause-follows
returns-in_err-recorded-clause-follows c =
    faults _ (goes_on_lem c.loop-recorded.invariant.follows (compares c.compare.ensures)) c.in_err-recorded.was
    c.from_residual.ensures.1

pub returns-then-r-clause-follows : goal.returns-then-r-clause-follows
unfolding lines_of
returns-then-r-clause-follows c =
    hence (goes_on_lem c.loop-recorded.invariant.follows (compares c.compare.ensures)) c.in_ok-recorded.was

pub loop-recorded-preserved : goal.loop-recorded-preserved
loop-recorded-preserved c = record {
  in_bounds = search rules;
  follows = hence (goes_on_lem c.loop-recorded.invariant.follows (compares c.compare.ensures)) c.in_ok-recorded.was;
}
