use Rattle.std.proofs.Common.{arith, sym, ◌∙◌}
use Rattle.laws.proofs.Loops.{map_to_all}
use Rattle.thread_lists.proofs.Turn.{one_changed, one_kept}
use Rattle.thread_lists.proofs.each_thread.Goals.{then-thread_of, else-thread_of}
use Rattle.thread_lists.proofs.each_thread.Goals as goal

pub returns : goal.returns
returns g c =
    let i = c.loop-each.invariant in
    let l = c.args.threads.now in
    i.changed ∙ sym (map_to_all _ l c.loop-each.each-index (omega (arith, i.long, c.loop-each-test.false)))

pub loop-each-preserved : goal.loop-each-preserved
loop-each-preserved g c =
    let i = c.loop-each.invariant in
    elim c.if-thread_of.branch [
      | then-thread_of w ↦ record {
        long = i.long;
        changed = one_changed _ _ _ _ _ i.changed c.thread_of.ensures w.if-thread_of.true w.after.ensures
            w.each-items-is;
      }
      | else-thread_of w ↦ record {
        long = i.long;
        changed = one_kept _ _ _ _ _ i.changed c.thread_of.ensures w.if-thread_of.false w.each-items-is;
      }
    ]
