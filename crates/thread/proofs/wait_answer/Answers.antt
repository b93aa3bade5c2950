use borrow.Author.Tests.{eq-eqb, ne_eqb}
use Rattle.laws.proofs.Flow.{first, second}
use Rattle.model.specs.ThreadCalls.{wait_answer}
use Rattle.thread.proofs.Bits.{bit_set, bit_clear}
use Rattle.thread.proofs.wait_answer.Goals as goal

pub returns-then-ready-ne0 : goal.returns-then-ready-ne0
unfolding wait_answer
returns-then-ready-ne0 c =
    let done = bit_set _ 0 c.if-ready-ne0.true in
    search (first, done)

pub returns-then-v-eq-DYING : goal.returns-then-v-eq-DYING
unfolding wait_answer
returns-then-v-eq-DYING c =
    let done = bit_clear _ 0 c.if-ready-ne0.false in
    search (first, second, eq-eqb, done)

pub returns-then-ready-ne0-2 : goal.returns-then-ready-ne0-2
unfolding wait_answer
returns-then-ready-ne0-2 c =
    let done = bit_clear _ 0 c.if-ready-ne0.false in
    let late = bit_set _ 1 c.if-ready-ne0-2.true in
    search (first, second, ne_eqb, done, late)

pub returns-then-ready-ne0-3 : goal.returns-then-ready-ne0-3
unfolding wait_answer
returns-then-ready-ne0-3 c =
    let done = bit_clear _ 0 c.if-ready-ne0.false in
    let late = bit_clear _ 1 c.if-ready-ne0-2.false in
    let cancelled = bit_set _ 2 c.if-ready-ne0-3.true in
    search (first, second, ne_eqb, done, late, cancelled)

pub returns : goal.returns
unfolding wait_answer
returns c =
    let done = bit_clear _ 0 c.if-ready-ne0.false in
    let late = bit_clear _ 1 c.if-ready-ne0-2.false in
    let cancelled = bit_clear _ 2 c.if-ready-ne0-3.false in
    search (second, ne_eqb, done, late, cancelled)
