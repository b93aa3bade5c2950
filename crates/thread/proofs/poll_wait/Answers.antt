use mathlib.Core.Path.{sym}
use lib.IntN.{pos}
use borrow.Author.Tests.{le-ltb}
use Rattle.laws.proofs.Flow.{first, second, passes, not_yes, not_no}
use Rattle.model.proofs.Answering.{refuses, accepts}
use Rattle.model.specs.ThreadCalls.{poll_wait, wait_polled}
use Rattle.reply.specs.Reply.{answered}
use Rattle.thread.proofs.Moving.{is_found, settles_refused, settles_outcome}
use Rattle.thread.proofs.poll_wait.Goals as goal

pub returns-then-not-is_in_wait : goal.returns-then-not-is_in_wait
unfolding poll_wait
returns-then-not-is_in_wait c t h =
    let turn = refuses t _ _ (settles_refused t _ _ h) (not_yes (sym c.if-not-is_in_wait.ensures)) in
    passes (answered t) (pos 104) _ (le-ltb _ _ c.if-ready-gt7.false)
    (is_found t _ _ c.if-thread-ge128.false h c.found.ensures c.in-Some.is turn)

pub returns-then-is_pending : goal.returns-then-is_pending
unfolding poll_wait wait_polled
returns-then-is_pending c t h =
    let still = first _ _ (sym c.if-is_pending.ensures) (settles_refused t _ _ h) in
    let turn = passes (answered t) (pos 105) _ (not_no (sym c.if-not-is_in_wait.ensures)) (accepts t still) in
    passes (answered t) (pos 104) _ (le-ltb _ _ c.if-ready-gt7.false)
    (is_found t _ _ c.if-thread-ge128.false h c.found.ensures c.in-Some.is turn)

pub returns : goal.returns
unfolding poll_wait wait_polled
returns c t h =
    let over = settles_outcome t _ _ _ c.end_wait.ensures c.if-thread-ge128.false c.wait_answer.ensures in
    let ended = second _ _ (sym c.if-is_pending.ensures) over in
    let turn = passes (answered t) (pos 105) _ (not_no (sym c.if-not-is_in_wait.ensures)) (accepts t ended) in
    passes (answered t) (pos 104) _ (le-ltb _ _ c.if-ready-gt7.false)
    (is_found t _ _ c.if-thread-ge128.false h c.found.ensures c.in-Some.is turn)
