use Prim.Native.Nat.{◌+◌, ◌≤◌}
use native.Mathlib.Omega.{arith}
use mathlib.Core.Path.{sym}
use borrow.Author.Rules.{rules}
use lib.ListN.{length, length-take, length-drop}
use lib.Seq.{length-take-le}
use Rattle.lines.proofs.Puts.{roomy}
use Rattle.stream_state.specs.State.{state_of}
use Rattle.stream_state.proofs.Feeding.{full, waits, stops}
use Rattle.recorder.proofs.Turning.{turns, fits, falls}
use Rattle.recorder.proofs.feed.Goals as goal

pub returns-then-out-written-lt-LINE-clause-feeds : goal.returns-then-out-written-lt-LINE-clause-feeds
returns-then-out-written-lt-LINE-clause-feeds c =
    let l = c.loop-out in
    rw c.fed_at.ensures
    (full c.args.input.now c.args.out.now l.out c.args.state (state_of l.t l.number) l.at l.written l.invariant
    c.if-out-written-lt-LINE.true)

pub returns-in-Wait-clause-feeds : goal.returns-in-Wait-clause-feeds
returns-in-Wait-clause-feeds c =
    let l = c.loop-out in
    rw c.fed_at-in-Wait.ensures
    (waits c.args.input.now c.args.out.now l.out c.args.state (state_of l.t l.number) l.at l.written l.invariant
    c.if-out-written-lt-LINE.false _ c.next_of.ensures c.in-Wait.is)

pub returns-in-Stop-clause-feeds : goal.returns-in-Stop-clause-feeds
returns-in-Stop-clause-feeds c =
    let l = c.loop-out in
    let put = simp c.next_number.ensures at (roomy c.if-out-written-lt-LINE.false c.put_stop-written.ensures.put) in
    rw c.fed_at-in-Stop.ensures
    (stops c.args.input.now c.args.out.now l.out c.args.state (state_of l.t l.number) l.at l.written l.invariant
    c.if-out-written-lt-LINE.false _ c.next_of.ensures c.in-Stop.is put)

pub overflow_add-at : goal.overflow_add-at
overflow_add-at c =
    let l = c.loop-out in
    let b =
    fits c.args.input.now c.args.out.now c.args.state l.out l.t l.number l.at l.written l.invariant
    c.if-out-written-lt-LINE.false c.next_of.ensures c.in-Whole.is in
    search (rules, b)

pub slice_bounds-perform-end : goal.slice_bounds-perform-end
slice_bounds-perform-end c =
    let l = c.loop-out in
    let b : l.at + c.in-Whole.n ≤ length c.args.input.now =
    fits c.args.input.now c.args.out.now c.args.state l.out l.t l.number l.at l.written l.invariant
    c.if-out-written-lt-LINE.false c.next_of.ensures c.in-Whole.is in
    sym (length-take-le _ _ (rw (length-take, length-drop) (omega (arith, b))))

pub loop-out-smaller : goal.loop-out-smaller
loop-out-smaller c =
    let l = c.loop-out in
    falls c.args.input.now c.args.out.now c.args.state l.out l.t l.number l.at l.written l.invariant
    c.if-out-written-lt-LINE.false c.next_of.ensures c.in-Whole.is

pub loop-out-preserved : goal.loop-out-preserved
loop-out-preserved c =
    let l = c.loop-out in
    let u = c.put_line-written in
    turns c.args.input.now c.args.out.now c.args.state l.out l.t l.number l.at l.written l.invariant
    c.if-out-written-lt-LINE.false c.next_of.ensures c.in-Whole.is _ c.perform-shown.result
    c.perform-shown.ensures c.next_number-number.ensures u.ensures.put u.ensures.upper_bound u.auto.out
