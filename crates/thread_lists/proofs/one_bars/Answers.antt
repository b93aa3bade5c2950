use Rattle.std.proofs.Common.{◌∙◌, sym, refl}
use Rattle.laws.proofs.Flow.{and_goes, and_stops}
use Rattle.laws.proofs.Loops.{any_here, any_next, any_none}
use Rattle.record_thread.specs.Thread.{no_thread}
use Rattle.thread_lists.proofs.one_bars.Goals.{else-thread_of-via-then-thread_of+else-bars}
use Rattle.thread_lists.proofs.one_bars.Goals.{else-thread_of-via-else-thread_of}
use Rattle.thread_lists.proofs.one_bars.Goals as goal

pub returns : goal.returns
returns g c = any_none _ _ _ _ c.loop-v.invariant c.loop-v-test.false

pub returns-then-bars : goal.returns-then-bars
returns-then-bars g c =
    any_here _ _ _ _ c.loop-v.invariant no_thread c.loop-v-test.true
    (and_goes _ (sym c.thread_of.ensures ∙ c.if-thread_of.true) c.bars.ensures) c.if-bars.true

pub loop-v-preserved : goal.loop-v-preserved
loop-v-preserved g c =
    let at = c.loop-v-test.true in
    let i = c.loop-v.invariant in
    elim c.else-thread_of.branch [
      | else-thread_of-via-then-thread_of+else-bars w ↦
          let e = and_goes _ (sym c.thread_of.ensures ∙ w.if-thread_of.true) w.bars.ensures in
          (i.0, any_next _ _ _ _ i no_thread at e w.if-bars.false)
      | else-thread_of-via-else-thread_of w ↦
          let e = and_stops _ (sym c.thread_of.ensures ∙ w.if-thread_of.false) in
          (i.0, any_next _ _ _ _ i no_thread at e refl)
    ]
