-- What a turn compares comes behind all that came before.
use Rattle.std.proofs.Common.{ap}
use Rattle.replay.specs.Agree.{lines_of}
use Rattle.replay.proofs.Agree.{stays, hence, goes_on_lem, finishes, fails, replays, never_replayed}
use Rattle.replay.proofs.list.replay.Goals as goal

pub loop-unread-init : goal.loop-unread-init
loop-unread-init c = stays _

pub returns-in_err-p : goal.returns-in_err-p
unfolding lines_of
returns-in_err-p c =
    never_replayed (goes_on_lem c.loop-unread.invariant c.turn.ensures) (ap lines_of c.in_err-p.was)
    c.from_residual.ensures.1

pub loop-unread-preserved : goal.loop-unread-preserved
unfolding lines_of
loop-unread-preserved c =
    hence (goes_on_lem c.loop-unread.invariant c.turn.ensures) (ap lines_of c.in_ok-p.was)

pub returns-in_err-agreed : goal.returns-in_err-agreed
returns-in_err-agreed c =
    fails (finishes c.loop-unread.invariant c.finish.ensures) c.in_err-agreed.was
    c.from_residual-in_err-agreed.ensures.1

pub returns : goal.returns
returns c = replays (finishes c.loop-unread.invariant c.finish.ensures) c.in_ok-agreed.was c.pass.ensures
