use Rattle.std.proofs.Common.{◌≡◌, ℕ, suc, ◌+◌, ◌-◌, List, get_or, ◌∙◌, arith, refl}
use borrow.Author.Tests.{eq-eqb, ne_eqb}
use Rattle.record_job.specs.declared.Job.{Job}
use Rattle.record_job.specs.Job.{no_job}
use Rattle.records.specs.declared.tables.Tables.{Tables}
use Rattle.records.specs.Tables.{job_at}
use Rattle.model.proofs.Upward.{above_out, above_here, above_orphan, above_goes}
use Rattle.lists.proofs.at_or_above.Goals as goal

-- a job read from the table is that of the tables
read : (t : Tables) {jobs : List Job} (n : ℕ) {v : Job} → t.jobs ≡ jobs → v ≡ get_or jobs n no_job → v ≡ job_at t n
unfolding job_at
read t n h e = rw h e

pub loop-step-init : goal.loop-step-init
loop-step-init c t h = refl

pub returns-then-at-j : goal.returns-then-at-j
returns-then-at-j c t h =
    let l = c.loop-step in
    let e : suc (32 - (l._step + 1)) ≡ 32 - l._step = omega (arith, c.loop-step-test.true) in
    above_here (32 - (l._step + 1)) _ e _ _ _ (eq-eqb _ _ c.if-at-j.true) ∙ l.invariant t h

pub returns-in_default : goal.returns-in_default
returns-in_default c t h =
    let l = c.loop-step in
    let e : suc (32 - (l._step + 1)) ≡ 32 - l._step = omega (arith, c.loop-step-test.true) in
    above_orphan (32 - (l._step + 1)) _ e _ _ _ (ne_eqb _ _ c.if-at-j.false) _ (read t _ h c.job_in.ensures)
    c.in_default.is ∙ l.invariant t h

pub loop-step-preserved : goal.loop-step-preserved
loop-step-preserved c t h =
    let l = c.loop-step in
    let e : suc (32 - (l._step + 1)) ≡ 32 - l._step = omega (arith, c.loop-step-test.true) in
    above_goes (32 - (l._step + 1)) _ e _ _ _ (ne_eqb _ _ c.if-at-j.false) _ (read t _ h c.job_in.ensures) _
    c.in-Some.is ∙ l.invariant t h

pub returns : goal.returns
returns c t h =
    let l = c.loop-step in
    let e : 0 ≡ 32 - l._step = omega (arith, c.loop-step-test.false) in
    above_out _ _ _ _ e ∙ l.invariant t h
