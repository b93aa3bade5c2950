use Rattle.record_process.specs.declared.Status.TheVariants.{Exited}
use Rattle.record_process.specs.Process.{with_status}
use mir.Syntax.{w64}
use mir.Facts.{to_z-of_z}
use Rattle.std.proofs.Common.{◌≡◌, sym, ◌∙◌}
use Rattle.records.proofs.Kept.{process_is, process_made}
use Rattle.model.specs.JobCalls.{exit_process_call}
use Rattle.process.proofs.Moving.{moving, exited, exits}
use Rattle.process.proofs.exit.Goals as goal

pub returns-then-process-ge64 : goal.returns-then-process-ge64
unfolding exit_process_call
returns-then-process-ge64 c t h = search moving depth 20

pub returns-in_default : goal.returns-in_default
unfolding exit_process_call
returns-in_default c t h = search moving depth 20

pub returns-then-is_exited : goal.returns-then-is_exited
unfolding exit_process_call
returns-then-is_exited c t h =
    let is = process_is c.found.ensures c.in-Some.is in
    let x = sym c.is_exited.ensures ∙ c.if-is_exited.true in
    let e = exited t c.args.process c.args.code c.if-process-ge64.false h (rw is x) in
    search (moving, e) depth 20

pub returns : goal.returns
unfolding exit_process_call
returns c t h =
    let is = process_is c.found.ensures c.in-Some.is in
    let x = sym c.is_exited.ensures ∙ c.if-is_exited.false in
    let w : c.with_status.result ≡ with_status c.args.q.now (Exited c.args.code) =
    rw is (simp (to_z-of_z {w = w64} c.ranges.code) at c.with_status.ensures) in
    let e = exits t c.args.process c.args.code w c.if-process-ge64.false h
    (process_made _ c.found.ensures c.in-Some.is) (rw is x) in
    search (moving, e) depth 20
