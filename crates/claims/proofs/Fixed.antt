-- What no cascade changes, and what it never takes back: instances of `Keeps`, once for killing,
-- exiting and ending.
--     Cascade t u        u is what a cascade made of t
--     job_stays, process_stays, thread_stays    what a change of one record keeps, of every record
--     job_same, process_same, thread_same       a part of a record that no change touches
-- Assumes nothing.
use Prim.Native.Nat.{ℕ}
use mathlib.Core.Path.{◌≡◌, refl, sym, ◌∙◌, subst}
use mathlib.Core.Bool.{true}
use lib.IntN.{ℤ}
use Rattle.laws.proofs.Cases.{if_on}
use Rattle.record_job.specs.declared.Job.{Job}
use Rattle.record_job.specs.Job.{killed, terminated}
use Rattle.record_process.specs.declared.Status.{Status}
use Rattle.record_process.specs.declared.Status.TheVariants.{Exited}
use Rattle.record_process.specs.declared.Process.{Process}
use Rattle.record_process.specs.Process.{is_exited, with_status, ended_with, ended}
use Rattle.record_thread.specs.declared.Thread.{Thread}
use Rattle.record_thread.specs.Thread.{dying, kill}
use Rattle.records.specs.declared.tables.Tables.{Tables}
use Rattle.records.specs.Tables.{job_at, process_at, thread_at}
use Rattle.model.specs.Job.{stop_in, is_live_job, is_live_process, kill_listed, exit_listed}
use Rattle.model.specs.Job.{kill_job}
use Rattle.model.specs.Job.{exit_process, end_process}
use Rattle.model.proofs.TaskTables.{on_job, on_process}
use Rattle.claims.proofs.Cross.{job_at_put_process, process_at_put_job, thread_at_put_job}
use Rattle.claims.proofs.Cross.{thread_at_put_process}
use Rattle.claims.proofs.ThreadMaps.{thread_at_stop_threads, job_at_stop_threads}
use Rattle.claims.proofs.ThreadMaps.{process_at_stop_threads, kill_keeps}
use Rattle.model.proofs.Lists.{may_killed}
use Rattle.model.proofs.Stores.{Stores, anywhere, stores}
use Rattle.model.proofs.Keeps.{kill_job_keeps, exit_process_keeps, end_process_keeps}
use Rattle.model.proofs.Keeps.{kill_listed_keeps, exit_listed_keeps}

-- u has all that t has and that each store of a cascade keeps
abbrev pub Cascade : Tables → Tables → Type 1
Cascade t u = (P : Tables → Type 0) → Stores P anywhere → P t → P u

pub cascade_kill : (t : Tables) (j : ℕ) → Cascade t (kill_job t j)
cascade_kill t j P s = kill_job_keeps P anywhere s t j tt

pub cascade_exit : (t : Tables) (p : ℕ) (code : ℤ) → Cascade t (exit_process t p code)
cascade_exit t p code P s = exit_process_keeps P anywhere s t p code tt tt

pub cascade_end : (t : Tables) (p : ℕ) → Cascade t (end_process t p)
cascade_end t p P s = end_process_keeps P anywhere s t p tt tt

-- after the mark
pub cascade_kill_listed : (t : Tables) (j : ℕ) → (job_at t j).killed ≡ true
    → Cascade t (kill_listed kill_job exit_process t j)
cascade_kill_listed t j h P s =
    kill_listed_keeps P anywhere s kill_job (kill_job_keeps P anywhere s) exit_process
    (exit_process_keeps P anywhere s) t j tt h

pub cascade_exit_listed : (t : Tables) (p : ℕ) → is_exited (process_at t p).status ≡ true
    → Cascade t (exit_listed kill_job t p)
cascade_exit_listed t p h P s =
    exit_listed_keeps P anywhere s kill_job (kill_job_keeps P anywhere s) t p tt h

-- ---- Records ---------------------------------------------------------------------------------

pub job_stays : (Q : Job → Type 0) → ((v : Job) → is_live_job v ≡ true → Q v → Q (killed v))
    → ((v : Job) → v.killed ≡ true → Q v → Q (terminated v))
    → (t u : Tables) → Cascade t u → (i : ℕ) → Q (job_at t i) → Q (job_at u i)
job_stays Q m d t u c i =
    let at : (w : Tables) (j : ℕ) → i ≡ j → Q (job_at w i) → Q (job_at w j) = λ w j e. subst
    (λ (n : ℕ). Q (job_at w n)) e in
    c (λ w. Q (job_at w i))
    (stores (λ w. Q (job_at w i))
    (λ w j e x. on_job Q w j i _ (λ h. m (job_at w j) e (at w j h x)) x)
    (λ w j e x. on_job Q w j i _ (λ h. d (job_at w j) (may_killed w j e) (at w j h x)) x)
    (λ w p code e x. subst Q (sym (job_at_put_process w p _ i)) x)
    (λ w p x. subst Q (sym (job_at_put_process w p _ i)) x)
    (λ w p e l x. subst Q (sym (job_at_stop_threads w p i)) x))

pub process_stays : (Q : Process → Type 0)
    → ((q : Process) (code : ℤ) → is_live_process q ≡ true → Q q → Q (with_status q (Exited code)))
    → ((q : Process) → Q q → Q (ended q))
    → (t u : Tables) → Cascade t u → (i : ℕ) → Q (process_at t i) → Q (process_at u i)
process_stays Q m d t u c i =
    let at : (w : Tables) (p : ℕ) → i ≡ p → Q (process_at w i) → Q (process_at w p) =
    λ w p e. subst (λ (n : ℕ). Q (process_at w n)) e in
    c (λ w. Q (process_at w i))
    (stores (λ w. Q (process_at w i))
    (λ w j e x. subst Q (sym (process_at_put_job w j _ i)) x)
    (λ w j e x. subst Q (sym (process_at_put_job w j _ i)) x)
    (λ w p code e x. on_process Q w p i _ (λ h. m (process_at w p) code e (at w p h x)) x)
    (λ w p x. on_process Q w p i _ (λ h. d (process_at w p) (at w p h x)) x)
    (λ w p e l x. subst Q (sym (process_at_stop_threads w p i)) x))

pub thread_stays : (Q : Thread → Type 0) → ((v : Thread) → Q v → Q (kill v))
    → (t u : Tables) → Cascade t u → (i : ℕ) → Q (thread_at t i) → Q (thread_at u i)
unfolding stop_in
thread_stays Q m t u c i =
    c (λ w. Q (thread_at w i))
    (stores (λ w. Q (thread_at w i))
    (λ w j e x. subst Q (sym (thread_at_put_job w j _ i)) x)
    (λ w j e x. subst Q (sym (thread_at_put_job w j _ i)) x)
    (λ w p code e x. subst Q (sym (thread_at_put_process w p _ i)) x)
    (λ w p x. subst Q (sym (thread_at_put_process w p _ i)) x)
    (λ w p e l x.
    subst Q (sym (thread_at_stop_threads w p i)) (if_on Q _ _ _ (λ h. m (thread_at w i) x) (λ h. x))))

-- ---- Parts of records ------------------------------------------------------------------------

module _ {B : Type 0} (t u : Tables) (c : Cascade t u) where
  pub job_same : (f : Job → B) → ((v : Job) → f (killed v) ≡ f v)
      → ((v : Job) → f (terminated v) ≡ f v)
      → (i : ℕ) → f (job_at u i) ≡ f (job_at t i)
  job_same f m d i =
      job_stays (λ v. f v ≡ f (job_at t i)) (λ v e x. m v ∙ x) (λ v e x. d v ∙ x) t u c i refl

  pub process_same : (f : Process → B) → ((q : Process) (s : Status) → f (with_status q s) ≡ f q)
      → ((q : Process) (code : ℤ) → f (ended_with q code) ≡ f q) → (i : ℕ)
      → f (process_at u i) ≡ f (process_at t i)
  unfolding ended
  process_same f m d i =
      process_stays (λ q. f q ≡ f (process_at t i)) (λ q code e x. m q (Exited code) ∙ x)
      (λ q x. d q _ ∙ x) t u c i refl

  pub thread_same : (f : Thread → B) → ((v : Thread) → f (dying v true) ≡ f v)
      → (i : ℕ) → f (thread_at u i) ≡ f (thread_at t i)
  thread_same f m i =
      thread_stays (λ v. f v ≡ f (thread_at t i)) (λ v x. kill_keeps f m v ∙ x) t u c i refl
