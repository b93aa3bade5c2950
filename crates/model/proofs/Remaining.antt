-- The count of live jobs and live processes, which measures a cascade: it falls at each mark and
-- never rises. Assumes nothing.
use Prim.Native.Nat.{ℕ, zero, suc, ◌≤◌, ◌<◌}
use native.Mathlib.Nat.{le_refl, le_trans}
use native.Mathlib.Omega.{arith}
use mathlib.Core.Path.{◌≡◌, refl}
use mathlib.Core.Bool.{Bool, true, false}
use mathlib.Core.List.{List, [], ◌∷◌}
use lib.IntN.{ℤ}
use lib.ListN.{get_or, set}
use Rattle.laws.specs.Choice.{if◌then◌otherwise◌}
use Rattle.laws.proofs.Cases.{no_both, ite_on}
use Rattle.record_job.specs.declared.Job.{Job}
use Rattle.record_job.specs.Job.{no_job, killed, terminated}
use Rattle.record_process.specs.declared.Status.TheVariants.{Exited}
use Rattle.record_process.specs.declared.Process.{Process}
use Rattle.record_process.specs.Process.{no_process, KILL_CODE, with_status, ended}
use Rattle.records.specs.declared.tables.Tables.{Tables}
use Rattle.records.specs.Tables.{job_at, process_at, put_job, put_process}
use Rattle.model.specs.Job.{stop_threads, up_to, is_live_job, is_live_process, kill_child}
use Rattle.model.specs.Job.{exit_member, unlist_process, kill_within, exit_within, count}
use Rattle.model.specs.Job.{remaining, kill_job, exit_process}
use Rattle.model.proofs.Live.{unmade_job, killed_job, unmade_process, exited_process}
use Rattle.model.proofs.Stores.{Stores, anywhere, stores}
use Rattle.model.proofs.Keeps.{up_to_keeps, unlist_process_keeps, kill_within_keeps}
use Rattle.model.proofs.Keeps.{exit_within_keeps}

-- ---- The count of a list after a store -----------------------------------------------------

one_le : (b c : Bool) → (b ≡ true → c ≡ true) → (if b then 1 otherwise 0) ≤ (if c then 1 otherwise 0)
unfolding if◌then◌otherwise◌
one_le true c h = rw (h refl) (le_refl 1)
one_le false true h = omega arith
one_le false false h = le_refl 0

module _ {A : Type 0} (f : A → Bool) (d : A) where
  pub count_set_le : (l : List A) (i : ℕ) (v : A) → (f v ≡ true → f (get_or l i d) ≡ true)
      → count f (set l i v) ≤ count f l
  unfolding count
  count_set_le [] i v h = le_refl 0
  count_set_le (x ∷ l) zero v h = omega (arith, one_le (f v) (f x) h)
  count_set_le (x ∷ l) (suc i) v h = omega (arith, count_set_le l i v h)

  pub count_set_lt : f d ≡ false → (l : List A) (i : ℕ) (v : A) → f (get_or l i d) ≡ true
      → f v ≡ false
      → count f (set l i v) < count f l
  unfolding count if◌then◌otherwise◌
  count_set_lt z [] i v g h = no_both g z
  count_set_lt z (x ∷ l) zero v g h = rw (g, h) (omega arith)
  count_set_lt z (x ∷ l) (suc i) v g h = omega (arith, count_set_lt z l i v g h)

-- ---- The count of the tables after a store -------------------------------------------------

pub job_le : (t : Tables) (j : ℕ) (v : Job) → (is_live_job v ≡ true → is_live_job (job_at t j) ≡ true)
    → remaining (put_job t j v) ≤ remaining t
unfolding remaining job_at put_job
job_le t j v h = omega (arith, count_set_le is_live_job no_job t.jobs j v h)

pub process_le : (t : Tables) (p : ℕ) (v : Process)
    → (is_live_process v ≡ true → is_live_process (process_at t p) ≡ true)
    → remaining (put_process t p v) ≤ remaining t
unfolding remaining process_at put_process
process_le t p v h = omega (arith, count_set_le is_live_process no_process t.processes p v h)

pub mark_lt : (t : Tables) (j : ℕ) → is_live_job (job_at t j) ≡ true
    → remaining (put_job t j (killed (job_at t j))) < remaining t
unfolding remaining job_at put_job
mark_lt t j e =
    let v : Job = killed (job_at t j) in
    let z : is_live_job no_job ≡ false = unmade_job no_job refl in
    let h : is_live_job v ≡ false = killed_job v refl in
    omega (arith, count_set_lt is_live_job no_job z t.jobs j v e h)

pub exit_lt : (t : Tables) (p : ℕ) (code : ℤ) → is_live_process (process_at t p) ≡ true
    → remaining (put_process t p (with_status (process_at t p) (Exited code))) < remaining t
unfolding remaining process_at put_process
exit_lt t p code e =
    let v : Process = with_status (process_at t p) (Exited code) in
    let z : is_live_process no_process ≡ false = unmade_process no_process refl in
    let h : is_live_process v ≡ false = exited_process v refl in
    omega (arith, count_set_lt is_live_process no_process z t.processes p v e h)

terminated_le : (t : Tables) (j : ℕ) → remaining (put_job t j (terminated (job_at t j))) ≤ remaining t
unfolding is_live_job
terminated_le t j = job_le t j (terminated (job_at t j)) (λ h. h)

ended_le : (t : Tables) (p : ℕ) → remaining (put_process t p (ended (process_at t p))) ≤ remaining t
unfolding ended
ended_le t p =
    process_le t p (ended (process_at t p))
    (λ h. no_both h (exited_process (ended (process_at t p)) refl))

pub stop_threads_remaining : (t : Tables) (p : ℕ) → remaining (stop_threads t p) ≡ remaining t
unfolding remaining stop_threads
stop_threads_remaining t p = refl

-- ---- No cascade raises the count -----------------------------------------------------------

AtMost : ℕ → Tables → Type 0
AtMost m u = remaining u ≤ m

at_most : (m : ℕ) → Stores (AtMost m) anywhere
unfolding AtMost
at_most m =
    stores (AtMost m)
    (λ t j e h. omega (arith, mark_lt t j e))
    (λ t j e h. le_trans (terminated_le t j) h)
    (λ t p code e h. omega (arith, exit_lt t p code e))
    (λ t p h. le_trans (ended_le t p) h)
    (λ t p e l h. rw (stop_threads_remaining t p) h)

pub unlist_le : (t : Tables) (p : ℕ) → remaining (unlist_process t p) ≤ remaining t
unfolding AtMost
unlist_le t p =
    unlist_process_keeps (AtMost (remaining t)) anywhere (at_most (remaining t)) t p tt tt
    (le_refl (remaining t))

pub kill_within_le : (n : ℕ) (t : Tables) (j : ℕ) → remaining (kill_within n t j) ≤ remaining t
unfolding AtMost
kill_within_le n t j =
    kill_within_keeps (AtMost (remaining t)) anywhere (at_most (remaining t)) n t j tt
    (le_refl (remaining t))

pub exit_within_le : (n : ℕ) (t : Tables) (p : ℕ) (code : ℤ)
    → remaining (exit_within n t p code) ≤ remaining t
unfolding AtMost
exit_within_le n t p code =
    exit_within_keeps (AtMost (remaining t)) anywhere (at_most (remaining t)) n t p code tt tt
    (le_refl (remaining t))

pub kill_job_le : (t : Tables) (j : ℕ) → remaining (kill_job t j) ≤ remaining t
unfolding kill_job
kill_job_le t j = kill_within_le (suc (remaining t)) t j

pub exit_process_le : (t : Tables) (p : ℕ) (code : ℤ)
    → remaining (exit_process t p code) ≤ remaining t
unfolding exit_process
exit_process_le t p code = exit_within_le (suc (remaining t)) t p code

-- ---- Loops of calls that do not ------------------------------------------------------------

pub up_to_le : (f : ℕ → Tables → Tables) → ((i : ℕ) (t : Tables) → remaining (f i t) ≤ remaining t)
    → (n : ℕ) (t : Tables) → remaining (up_to n f t) ≤ remaining t
unfolding AtMost
up_to_le f h n t =
    up_to_keeps (AtMost (remaining t)) f (λ i u g. le_trans (h i u) g) n t (le_refl (remaining t))

pub kill_child_le : (K : Tables → ℕ → Tables)
    → ((t : Tables) (j : ℕ) → remaining (K t j) ≤ remaining t)
    → (j c : ℕ) (t : Tables) → remaining (kill_child K j c t) ≤ remaining t
unfolding AtMost kill_child
kill_child_le K k j c t =
    ite_on (AtMost (remaining t)) _ _ _ (λ e. k t c) (λ e. le_refl (remaining t))

pub exit_member_le : (X : Tables → ℕ → ℤ → Tables)
    → ((t : Tables) (p : ℕ) (code : ℤ) → remaining (X t p code) ≤ remaining t)
    → (j p : ℕ) (t : Tables) → remaining (exit_member X j p t) ≤ remaining t
unfolding AtMost exit_member
exit_member_le X x j p t =
    ite_on (AtMost (remaining t)) _ _ _ (λ e. x t p KILL_CODE) (λ e. le_refl (remaining t))
