-- Each return is one law of the model's Steps.
use native.Mathlib.Omega.{arith}
use mathlib.Core.Path.{◌≡◌, refl, ap, ◌∙◌}
use Prim.Native.Nat.{ℕ}
use mathlib.Core.Bool.{Bool, true}
use lib.IntN.{ℤ}
use mir.Syntax.{w64}
use mir.Val.{to_z, of_z, SFits}
use mir.Facts.{to_z-of_z}
use Rattle.laws.proofs.Flow.{told}
use Rattle.laws.proofs.Loops.{length_mapped}
use Rattle.record_job.specs.declared.Job.{Job}
use Rattle.record_job.specs.Job.{killed}
use Rattle.record_process.specs.declared.Process.{Process}
use Rattle.record_process.specs.declared.Status.TheVariants.{Exited}
use Rattle.record_process.specs.Process.{with_status, acts}
use Rattle.records.specs.declared.tables.Tables.{Tables}
use Rattle.records.specs.Tables.{job_at, process_at, put_job, put_process}
use Rattle.model.specs.Job.{is_live_job, is_live_process}
use Rattle.cascade.proofs.Walks.{child_in, child_turn, child_end, member_in, member_turn, member_end}
use Rattle.model.proofs.Upward.{up_to_none}
use Rattle.model.proofs.Steps.{Marked, kill_dead, marked, kill_empty, kill_loops, children_lt, members_le}
use Rattle.model.proofs.Steps.{Exiting, exit_done, exiting, exit_stops, exit_ends, exiting_lt}
use Rattle.model.proofs.Steps.{end_free, end_acts, end_rests, unlisted_le}
use Rattle.cascade.proofs.+end_process_exit_process_kill_job.Goals as goal

-- ---- Ending a process ----------------------------------------------------------------------

-- a binding that was asked with the code that was read
asked : {r x : Bool} (nonzero : Bool) (code z : ℤ) → r ≡ acts nonzero (to_z w64 (of_z w64 code))
    → SFits w64 code → code ≡ z → r ≡ x → acts nonzero z ≡ x
asked nonzero code z e f g h = told (e ∙ ap (acts nonzero) (to_z-of_z {w = w64} f ∙ g)) h

pub end_process-kill_job-requires : goal.end_process-kill_job-requires
end_process-kill_job-requires t c =
    let h = unlisted_le c.args.t c.args.p _ _ c.process_at-process.ensures c.unlist_process-t.ensures in
    (omega (arith, c.decreases, h), tt)

pub end_process-returns-in-None : goal.end_process-returns-in-None
end_process-returns-in-None t c =
    end_free _ _ _ _ c.process_at-process.ensures c.unlist_process-t.ensures c.in-None.is

pub end_process-returns-then-acts : goal.end_process-returns-then-acts
end_process-returns-then-acts t c =
    let d = c.code-code in
    c.kill_job.ensures ∙ end_acts _ _ _ _ c.process_at-process.ensures c.unlist_process-t.ensures _
    c.in-Some.binding.nonzero c.in-Some.is
    (asked c.in-Some.binding.nonzero d.result _ c.acts.ensures (record { sfits = d.type_inv }) d.ensures
    c.if-acts.true)

pub end_process-returns-else-acts : goal.end_process-returns-else-acts
end_process-returns-else-acts t c =
    let d = c.code-code in
    end_rests _ _ _ _ c.process_at-process.ensures c.unlist_process-t.ensures _
    c.in-Some.binding.nonzero c.in-Some.is
    (asked c.in-Some.binding.nonzero d.result _ c.acts.ensures (record { sfits = d.type_inv }) d.ensures
    c.if-acts.false)

-- ---- Exiting a process ---------------------------------------------------------------------

-- the process is marked Exited
exits : (t : Tables) (p : ℕ) (code : ℤ) {v w : Process} {r : Bool} {u : Tables} → v ≡ process_at t p →
    r ≡ is_live_process v → r ≡ true → w ≡ with_status v (Exited (to_z w64 (of_z w64 code))) → SFits w64 code →
    u ≡ put_process t p w → Exiting t p code u
exits t p code {v} e f h g b k =
    exiting t p code _ _ _ e (told f h) (g ∙ ap (λ (z : ℤ). with_status v (Exited z)) (to_z-of_z {w = w64} b)) k

pub exit_process-returns-then-not-is_live_process :
    goal.exit_process-returns-then-not-is_live_process
exit_process-returns-then-not-is_live_process t c =
    exit_done _ _ _ _ c.process_at-process.ensures
    (told c.is_live_process.ensures c.if-not-is_live_process.true)

pub exit_process-returns-then-lists_thread : goal.exit_process-returns-then-lists_thread
exit_process-returns-then-lists_thread t c =
    let m =
    exits c.args.t c.args.p c.args.code c.process_at-process.ensures c.is_live_process.ensures
    c.if-not-is_live_process.false c.with_status.ensures c.ranges.code c.with_process-t.ensures in
    c.stop_threads.ensures ∙ exit_stops _ _ _ _ m (told c.lists_thread.ensures c.if-lists_thread.true)

pub exit_process-end_process-requires : goal.exit_process-end_process-requires
exit_process-end_process-requires t c =
    let m =
    exits c.args.t c.args.p c.args.code c.process_at-process.ensures c.is_live_process.ensures
    c.if-not-is_live_process.false c.with_status.ensures c.ranges.code c.with_process-t.ensures in
    let h = exiting_lt _ _ _ _ m in
    (omega (arith, c.decreases, h), tt)

pub exit_process-returns : goal.exit_process-returns
exit_process-returns t c =
    let m =
    exits c.args.t c.args.p c.args.code c.process_at-process.ensures c.is_live_process.ensures
    c.if-not-is_live_process.false c.with_status.ensures c.ranges.code c.with_process-t.ensures in
    c.end_process.ensures ∙ exit_ends _ _ _ _ m (told c.lists_thread.ensures c.if-lists_thread.false)

-- ---- Killing a job -------------------------------------------------------------------------

-- the job is marked killed
kills : (t : Tables) (j : ℕ) {v w : Job} {r : Bool} {u : Tables} → v ≡ job_at t j → r ≡ is_live_job v → r ≡ true →
    w ≡ killed v → u ≡ put_job t j w → Marked t j u
kills t j e f h g k = marked t j _ _ _ e (told f h) g k

pub kill_job-returns-then-not-is_live_job : goal.kill_job-returns-then-not-is_live_job
kill_job-returns-then-not-is_live_job t c =
    kill_dead _ _ _ c.job_at-job.ensures (told c.is_live_job.ensures c.if-not-is_live_job.true)

pub kill_job-returns-then-job_empty : goal.kill_job-returns-then-job_empty
kill_job-returns-then-job_empty t c =
    let m =
    kills c.args.t c.args.j c.job_at-job.ensures c.is_live_job.ensures c.if-not-is_live_job.false c.killed.ensures
    c.with_job-t.ensures in
    c.terminate_job.ensures ∙ kill_empty _ _ _ m (told c.job_empty.ensures c.if-job_empty.true)

pub kill_job-loop-c-init : goal.kill_job-loop-c-init
kill_job-loop-c-init t c = record {
  done = up_to_none _ _;
  within = omega arith;
  long = search length_mapped;
  wide = search length_mapped;
}

pub kill_job-kill_job-t-requires : goal.kill_job-kill_job-t-requires
kill_job-kill_job-t-requires t c =
    let m =
    kills c.args.t c.args.j c.job_at-job.ensures c.is_live_job.ensures c.if-not-is_live_job.false c.killed.ensures
    c.with_job-t.ensures in
    let h = children_lt _ _ _ m c.loop-c.child c.loop-c.t c.loop-c.invariant.done in
    (omega (arith, c.decreases, h), tt)

pub kill_job-overflow_add-child : goal.kill_job-overflow_add-child
kill_job-overflow_add-child t c =
    let h = child_in _ _ _ _ c.loop-c.invariant c.next_child.ensures c.in-Some.is in
    record { fits = omega (arith, h.1) }

pub kill_job-loop-c-smaller : goal.kill_job-loop-c-smaller
kill_job-loop-c-smaller t c =
    let h = child_in _ _ _ _ c.loop-c.invariant c.next_child.ensures c.in-Some.is in
    omega (arith, h.0, h.1)

pub kill_job-loop-c-preserved : goal.kill_job-loop-c-preserved
kill_job-loop-c-preserved t c =
    let o = c.kill_job-t.type_inv in
    child_turn _ _ _ _ c.loop-c.invariant c.next_child.ensures c.in-Some.is _ c.kill_job-t.ensures
    (search (length_mapped, o)) (search (length_mapped, o))

pub kill_job-loop-p-init : goal.kill_job-loop-p-init
kill_job-loop-p-init t c = record {
  done = up_to_none _ _;
  within = omega arith;
  long = c.loop-c.invariant.wide;
}

pub kill_job-exit_process-t-requires : goal.kill_job-exit_process-t-requires
kill_job-exit_process-t-requires t c =
    let m =
    kills c.args.t c.args.j c.job_at-job.ensures c.is_live_job.ensures c.if-not-is_live_job.false c.killed.ensures
    c.with_job-t.ensures in
    let h = children_lt _ _ _ m c.loop-c.child c.loop-c.t c.loop-c.invariant.done in
    let i = members_le _ _ c.loop-p.member c.loop-p.t c.loop-p.invariant.done in
    (omega (arith, c.decreases, h, i), tt)

pub kill_job-overflow_add-member : goal.kill_job-overflow_add-member
kill_job-overflow_add-member t c =
    let h =
    member_in _ _ _ _ c.loop-p.invariant c.next_process.ensures c.in-Some-next_process.is in
    record { fits = omega (arith, h.1) }

pub kill_job-loop-p-smaller : goal.kill_job-loop-p-smaller
kill_job-loop-p-smaller t c =
    let h =
    member_in _ _ _ _ c.loop-p.invariant c.next_process.ensures c.in-Some-next_process.is in
    omega (arith, h.0, h.1)

pub kill_job-loop-p-preserved : goal.kill_job-loop-p-preserved
kill_job-loop-p-preserved t c =
    let o = c.exit_process-t.type_inv in
    member_turn _ _ _ _ c.loop-p.invariant c.next_process.ensures c.in-Some-next_process.is _
    c.exit_process-t.ensures (search (length_mapped, o))

pub kill_job-returns : goal.kill_job-returns
kill_job-returns t c =
    let m =
    kills c.args.t c.args.j c.job_at-job.ensures c.is_live_job.ensures c.if-not-is_live_job.false c.killed.ensures
    c.with_job-t.ensures in
    kill_loops _ _ _ m (told c.job_empty.ensures c.if-job_empty.false) 32 64 c.loop-c.t c.loop-p.t refl refl
    (child_end _ _ _ _ c.loop-c.invariant c.next_child.ensures c.in_default.is)
    (member_end _ _ _ _ c.loop-p.invariant c.next_process.ensures c.in_default-next_process.is)
