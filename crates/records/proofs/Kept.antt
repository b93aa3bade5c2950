-- A record stored where it was read changes nothing, and a name is looked up by its record.
--     thread_kept, ..          storing what is there
--     thread_looked_up, ..     the lookup of a name, from the lookup of its record
--     thread_is, thread_made, ..   what a lookup of a record found is the record, and it is made
--     job_looked_up_at, new_job_lem, ..   a name within its table, looked up by the record at its place; and a new name
-- Assumes nothing.
use Rattle.std.proofs.Common.{Option, Some, None}
use Prim.Native.Nat.{ℕ, ◌%◌, ◌<◌}
use native.Mathlib.Nat.{mod-eq_of_lt}
use native.Mathlib.Omega.{arith}
use mathlib.Core.Path.{◌≡◌, refl, ap, sym, ◌∙◌}
use mathlib.Core.Bool.{Bool, true, false}
use lib.Seq.{set-get_or}
use Rattle.laws.specs.Choice.{if◌then◌otherwise◌}
use Rattle.job_policy.specs.declared.JobPolicy.{JobPolicy}
use Rattle.job_policy.specs.Policy.{no_policy}
use Rattle.record_job.specs.declared.Job.{Job}
use Rattle.record_job.specs.Job.{no_job, found_job_in}
use Rattle.record_process.specs.declared.Process.{Process}
use Rattle.record_process.specs.Process.{no_process, found_process_in}
use Rattle.record_thread.specs.declared.Thread.{Thread}
use Rattle.record_thread.specs.Thread.{no_thread, found_thread_in}
use Rattle.record_token.specs.declared.SuspendToken.{SuspendToken}
use Rattle.record_token.specs.declared.Task.{Task}
use Rattle.record_token.specs.SuspendToken.{no_token}
use Rattle.records.specs.declared.tables.Tables.{Tables}
use Rattle.records.specs.Tables.{job_at, own_at, inherited_at, process_at, fixed_at, thread_at, token_at}
use Rattle.records.specs.Tables.{put_job, put_own, put_inherited, put_process, put_fixed, put_thread, put_token}
use Rattle.records.specs.Tables.{with_jobs, with_own, with_inherited, with_processes, with_fixed, with_threads}
use Rattle.records.specs.Tables.{with_tokens, found_job, found_process, found_thread, found_token}

-- ---- Storing what is there ---------------------------------------------------------------------

pub job_kept : (t : Tables) (n : ℕ) {v : Job} → job_at t n ≡ v → put_job t n v ≡ t
unfolding job_at put_job
job_kept t n h = rw (← h) (ap (with_jobs t) (set-get_or t.jobs n no_job))

pub own_kept : (t : Tables) (n : ℕ) {v : JobPolicy} → own_at t n ≡ v → put_own t n v ≡ t
unfolding own_at put_own
own_kept t n h = rw (← h) (ap (with_own t) (set-get_or t.own n no_policy))

pub inherited_kept : (t : Tables) (n : ℕ) {v : JobPolicy} → inherited_at t n ≡ v → put_inherited t n v ≡ t
unfolding inherited_at put_inherited
inherited_kept t n h = rw (← h) (ap (with_inherited t) (set-get_or t.inherited n no_policy))

pub process_kept : (t : Tables) (n : ℕ) {q : Process} → process_at t n ≡ q → put_process t n q ≡ t
unfolding process_at put_process
process_kept t n h = rw (← h) (ap (with_processes t) (set-get_or t.processes n no_process))

pub fixed_kept : (t : Tables) (n : ℕ) {v : JobPolicy} → fixed_at t n ≡ v → put_fixed t n v ≡ t
unfolding fixed_at put_fixed
fixed_kept t n h = rw (← h) (ap (with_fixed t) (set-get_or t.fixed n no_policy))

pub thread_kept : (t : Tables) (n : ℕ) {v : Thread} → thread_at t n ≡ v → put_thread t n v ≡ t
unfolding thread_at put_thread
thread_kept t n h = rw (← h) (ap (with_threads t) (set-get_or t.threads n no_thread))

pub token_kept : (t : Tables) (n : ℕ) {k : SuspendToken} → token_at t n ≡ k → put_token t n k ≡ t
unfolding token_at put_token
token_kept t n h = rw (← h) (ap (with_tokens t) (set-get_or t.tokens n no_token))

-- ---- Looking up --------------------------------------------------------------------------------

pub job_looked_up : {g : Option Job} (t : Tables) (n : ℕ) {v : Job} →
    g ≡ found_job_in v → job_at t n ≡ v → g ≡ found_job t n
unfolding found_job_in found_job
job_looked_up t n e p = e ∙ rw (← p)

pub process_looked_up : {g : Option Process} (t : Tables) (n : ℕ) {q : Process} →
    g ≡ found_process_in q → process_at t n ≡ q → g ≡ found_process t n
unfolding found_process_in found_process
process_looked_up t n e p = e ∙ rw (← p)

pub thread_looked_up : {g : Option Thread} (t : Tables) (n : ℕ) {v : Thread} →
    g ≡ found_thread_in v → thread_at t n ≡ v → g ≡ found_thread t n
unfolding found_thread_in found_thread
thread_looked_up t n e p = e ∙ rw (← p)

pub token_looked_up : {g : Option Task} (t : Tables) (n : ℕ) {k : SuspendToken} →
    g ≡ k.task → token_at t n ≡ k → g ≡ found_token t n
unfolding found_token
token_looked_up t n e p = e ∙ rw (← p)

-- a lookup that finds s, of a record r: it is r, and its mark is set
found_it : {R : Type 0} (b : Bool) (r s : R) → if b then Some r otherwise None ≡ Some s → (b ≡ true) × (r ≡ s)
unfolding if◌then◌otherwise◌
found_it true r s e = (refl, cc)
found_it false r s e = absurd (let z : ◌≡◌ {A = ℕ} 0 1 = cc in omega arith)

pub job_is : {g : Option Job} {r s : Job} → g ≡ found_job_in r → g ≡ Some s → r ≡ s
unfolding found_job_in
job_is {r = r} {s} e f = (found_it r.made r s (sym e ∙ f)).1

pub process_is : {g : Option Process} {r s : Process} → g ≡ found_process_in r → g ≡ Some s → r ≡ s
unfolding found_process_in
process_is {r = r} {s} e f = (found_it r.made r s (sym e ∙ f)).1

pub thread_is : {g : Option Thread} {r s : Thread} → g ≡ found_thread_in r → g ≡ Some s → r ≡ s
unfolding found_thread_in
thread_is {r = r} {s} e f = (found_it r.made r s (sym e ∙ f)).1

pub job_made : {g : Option Job} (r : Job) {s : Job} → g ≡ found_job_in r → g ≡ Some s → r.made ≡ true
unfolding found_job_in
job_made r {s} e f = (found_it r.made r s (sym e ∙ f)).0

pub process_made : {g : Option Process} (r : Process) {s : Process} → g ≡ found_process_in r → g ≡ Some s →
    r.made ≡ true
unfolding found_process_in
process_made r {s} e f = (found_it r.made r s (sym e ∙ f)).0

pub thread_made : {g : Option Thread} (r : Thread) {s : Thread} → g ≡ found_thread_in r → g ≡ Some s → r.made ≡ true
unfolding found_thread_in
thread_made r {s} e f = (found_it r.made r s (sym e ∙ f)).0

-- ---- A name within its table is its own place --------------------------------------------------

pub job_at_lem : (t : Tables) (n : ℕ) {v : Job} → n < 32 → job_at t (n % 32) ≡ v → job_at t n ≡ v
job_at_lem t n l h = rw (← mod-eq_of_lt l) h

pub job_looked_up_at : {g : Option Job} (t : Tables) (n : ℕ) {v : Job} →
    g ≡ found_job_in v → n < 32 → job_at t (n % 32) ≡ v → g ≡ found_job t n
job_looked_up_at t n e l h = job_looked_up t n e (job_at_lem t n l h)

pub new_job_lem : {v : Job} {b : Bool} (t : Tables) (n : ℕ) →
    job_at t (n % 32) ≡ v → n < 32 → v.made ≡ b → (job_at t n).made ≡ b
new_job_lem t n e h m = ap (λ (x : Job). x.made) (job_at_lem t n h e) ∙ m

pub process_at_lem : (t : Tables) (n : ℕ) {q : Process} → n < 64 → process_at t (n % 64) ≡ q → process_at t n ≡ q
process_at_lem t n l h = rw (← mod-eq_of_lt l) h

pub process_looked_up_at : {g : Option Process} (t : Tables) (n : ℕ) {q : Process} →
    g ≡ found_process_in q → n < 64 → process_at t (n % 64) ≡ q → g ≡ found_process t n
process_looked_up_at t n e l h = process_looked_up t n e (process_at_lem t n l h)

pub new_process_lem : {q : Process} {b : Bool} (t : Tables) (n : ℕ) →
    process_at t (n % 64) ≡ q → n < 64 → q.made ≡ b → (process_at t n).made ≡ b
new_process_lem t n e h m = ap (λ (x : Process). x.made) (process_at_lem t n h e) ∙ m

pub thread_at_lem : (t : Tables) (n : ℕ) {v : Thread} → n < 128 → thread_at t (n % 128) ≡ v → thread_at t n ≡ v
thread_at_lem t n l h = rw (← mod-eq_of_lt l) h

pub thread_looked_up_at : {g : Option Thread} (t : Tables) (n : ℕ) {v : Thread} →
    g ≡ found_thread_in v → n < 128 → thread_at t (n % 128) ≡ v → g ≡ found_thread t n
thread_looked_up_at t n e l h = thread_looked_up t n e (thread_at_lem t n l h)

pub new_thread_lem : {v : Thread} {b : Bool} (t : Tables) (n : ℕ) →
    thread_at t (n % 128) ≡ v → n < 128 → v.made ≡ b → (thread_at t n).made ≡ b
new_thread_lem t n e h m = ap (λ (x : Thread). x.made) (thread_at_lem t n h e) ∙ m

pub token_at_lem : (t : Tables) (n : ℕ) {k : SuspendToken} → n < 64 → token_at t (n % 64) ≡ k → token_at t n ≡ k
token_at_lem t n l h = rw (← mod-eq_of_lt l) h

pub token_looked_up_at : {g : Option Task} (t : Tables) (n : ℕ) {k : SuspendToken} →
    g ≡ k.task → n < 64 → token_at t (n % 64) ≡ k → g ≡ found_token t n
token_looked_up_at t n e l h = token_looked_up t n e (token_at_lem t n l h)

pub new_token_lem : {k : SuspendToken} {b : Bool} (t : Tables) (n : ℕ) →
    token_at t (n % 64) ≡ k → n < 64 → k.made ≡ b → (token_at t n).made ≡ b
new_token_lem t n e h m = ap (λ (x : SuspendToken). x.made) (token_at_lem t n h e) ∙ m
