-- A process that exits, over the tables in place.
--     ends_alone_lem, ends_here_lem    its end stays with its record
-- Assumes nothing.
use Rattle.std.proofs.Common.{Some}
use Rattle.std.proofs.Common.{Option, None}
use Prim.Native.Nat.{ℕ, ◌%◌}
use mathlib.Core.Path.{◌≡◌, refl, sym, ap, ◌∙◌}
use mathlib.Core.Bool.{true, false}
use borrow.Author.Tests.{leb-false}
use Rattle.laws.specs.Choice.{◌≤?◌, ◌and◌, if◌then◌otherwise◌}
use Rattle.laws.specs.Lists.{any}
use Rattle.laws.proofs.Cases.{by, no_both}
use Rattle.laws.proofs.Flow.{and_stops, no}
use Rattle.record_job.specs.declared.Job.{Job}
use Rattle.record_process.specs.declared.Process.{Process}
use Rattle.record_process.specs.declared.Critical.{Critical}
use Rattle.record_process.specs.Process.{is_critical, ended}
use Rattle.record_thread.specs.Thread.{thread_of}
use Rattle.records.specs.declared.tables.Tables.{Tables}
use Rattle.records.specs.Tables.{job_at, process_at, put_process}
use Rattle.records.proofs.Kept.{job_at_lem}
use Rattle.model.specs.Job.{may_terminate, lists_thread, kill_job, exit_listed, end_process}
use Rattle.model.proofs.Steps.{end_free}
use Rattle.model.proofs.Upward.{unlist_stays}
use Rattle.cascade.specs.Ends.{ends_alone, ends_here}

-- ---- Its end -----------------------------------------------------------------------------------------

unbound : (b : Option Critical) → is_critical b ≡ false → b ≡ None
unbound None e = refl
unbound (Some b) e = no_both refl e

lives_on : (t : Tables) (j p : ℕ) (a : Process) → (job_at t j).killed ≡ false →
    may_terminate (put_process t p a) j ≡ false
unfolding may_terminate job_at put_process
lives_on t j p a k = sym (and_stops _ k)

pub ends_alone_lem : (t : Tables) (p : ℕ) {q : Process} {j : Job} → process_at t p ≡ q → job_at t q.job ≡ j →
    ends_alone q j ≡ true → put_process t p (ended q) ≡ end_process t p
unfolding ends_alone ◌and◌
ends_alone_lem t p {q} {j} h g e =
    by (is_critical q.critical) (λ a. no_both (rw a at e) refl)
    (λ a. by j.killed (λ b. no_both (rw (a, b) at e) refl)
    (λ b.
    let u : Tables = put_process t p (ended q) in
    let k = ap (λ (w : Job). w.killed) g ∙ b in
    end_free t p q u (sym h) (unlist_stays t p q (ended q) u (sym h) refl refl (lives_on t q.job p (ended q) k))
    (unbound q.critical a)))

-- the same of a process marked Exited, whose job is looked up by its place
pub ends_here_lem : (t : Tables) (p : ℕ) {q : Process} {j : Job} → process_at t p ≡ q → job_at t (q.job % 32) ≡ j →
    ends_here p q j t.threads ≡ true → put_process t p (ended q) ≡ exit_listed kill_job t p
unfolding ends_here if◌then◌otherwise◌ exit_listed end_process lists_thread
ends_here_lem t p {q} {j} h g e =
    by (any (λ v. thread_of v p) t.threads) (λ a. no_both (rw a at e) refl)
    (λ a. by (32 ≤? q.job) (λ b. no_both (rw (a, b) at e) refl)
    (λ b. ends_alone_lem t p h (job_at_lem t q.job (leb-false 32 q.job b) g) (rw (a, b) at e) ∙ no _ _ a refl))
