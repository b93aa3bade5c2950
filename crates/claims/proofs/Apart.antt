-- A cascade that starts within a closed set of names leaves every record outside the set as it was.
-- J and Q are the set's jobs and processes; its threads are those of its processes. The set is
-- closed under lists, owners and bindings, and the job above its top, if any, is not killed.
-- Assumes nothing.
use Rattle.std.proofs.Common.{Option, Some}
use Prim.Native.Nat.{ℕ}
use mathlib.Core.Path.{◌≡◌, refl, sym, ap, ◌∙◌, subst}
use mathlib.Core.Bool.{Bool, true, false}
use mathlib.Core.Logic.{◌⊎◌, ⊎_elim}
use borrow.Author.Tests.{eqb-true}
use lib.IntN.{ℤ}
use Rattle.laws.specs.Choice.{◌=?◌}
use Rattle.laws.proofs.Cases.{by, no_both, and_left, and_right, and_true}
use Rattle.laws.proofs.Flow.{second}
use Rattle.record_job.specs.declared.Job.{Job}
use Rattle.record_job.specs.Job.{killed, terminated, is_parent, child_of}
use Rattle.record_process.specs.declared.Status.TheVariants.{Exited}
use Rattle.record_process.specs.declared.Process.{Process}
use Rattle.record_process.specs.Process.{critical_to, with_status, ended, member_of}
use Rattle.record_thread.specs.declared.Thread.{Thread}
use Rattle.record_thread.specs.Thread.{thread_of}
use Rattle.records.specs.declared.tables.Tables.{Tables}
use Rattle.records.specs.Tables.{job_at, process_at, thread_at, put_job, put_process}
use Rattle.model.specs.Job.{may_terminate, stop_in, stop_threads, kill_job, exit_process}
use Rattle.model.specs.Job.{end_process}
use Rattle.model.proofs.TaskTables.{on_job, keep_job, put_job_else, on_process, keep_process}
use Rattle.model.proofs.TaskTables.{put_process_else}
use Rattle.claims.proofs.ThreadMaps.{thread_at_stop_threads, stop_threads_keeps_part}
use Rattle.model.proofs.Lists.{may_killed}
use Rattle.model.proofs.Stores.{Reach, Stores}
use Rattle.model.proofs.Keeps.{kill_job_keeps, exit_process_keeps, end_process_keeps}

-- a set of names that a cascade from within does not leave
pub record Closed (t : Tables) (J Q : ℕ → Type 0) : Type 0 where
  pub child : (j c : ℕ) → J j → child_of (job_at t c) j ≡ true → J c
  pub member : (j p : ℕ) → J j → member_of (process_at t p) j ≡ true → Q p
  pub above : (j p : ℕ) → J j → (job_at t j).parent ≡ Some p
      → J p ⊎ ((J p → ⊥) × ((job_at t p).killed ≡ false))
  pub home : (p : ℕ) → Q p → J (process_at t p).job
  pub bound_to : (p j : ℕ) (nonzero : Bool) → Q p → (process_at t p).critical ≡ critical_to j nonzero → J j

-- u is t after stores within the set
pub record Apart (t : Tables) (J Q : ℕ → Type 0) (u : Tables) : Type 0 where
  pub jobs_same : (i : ℕ) → (J i → ⊥) → job_at u i ≡ job_at t i
  pub processes_same : (i : ℕ) → (Q i → ⊥) → process_at u i ≡ process_at t i
  pub threads_same : (i : ℕ) → (Q (thread_at t i).process → ⊥) → thread_at u i ≡ thread_at t i
  pub parents : (i : ℕ) → (job_at u i).parent ≡ (job_at t i).parent
  pub listed : (i : ℕ) → (job_at u i).listed ≡ true → (job_at t i).listed ≡ true
  pub homes : (i : ℕ) → (process_at u i).job ≡ (process_at t i).job
  pub members : (i : ℕ) → (process_at u i).listed ≡ true → (process_at t i).listed ≡ true
  pub bounds : (i : ℕ) → (process_at u i).critical ≡ (process_at t i).critical
  pub owners : (i : ℕ) → (thread_at u i).process ≡ (thread_at t i).process

of_process_lem : (v : Thread) (p : ℕ) → thread_of v p ≡ true → v.process ≡ p
unfolding thread_of
of_process_lem v p e = eqb-true v.process p (and_right v.listed (v.process =? p) e)

not_stopped : (v : Thread) (p : ℕ) → thread_of v p ≡ false → v ≡ stop_in p v
unfolding stop_in
not_stopped v p e = second _ _ e refl

module _ (t : Tables) (J Q : ℕ → Type 0) where
  within : Reach
  within = record { job = J; process = Q; code = λ z. Unit {0}; ending = λ u p. Unit {0} }

  -- a store at a job of the set that keeps its parent and sets no listed mark
  job_stored : (u : Tables) (j : ℕ) (v : Job) → J j → v.parent ≡ (job_at u j).parent
      → (v.listed ≡ true → (job_at u j).listed ≡ true) → Apart t J Q u → Apart t J Q (put_job u j v)
  unfolding process_at thread_at put_job
  job_stored u j v a p l x =
      record {
        jobs_same = λ i n. put_job_else u j i v (λ e. n (subst J (sym e) a)) ∙ x.jobs_same i n;
        processes_same = x.processes_same;
        threads_same = x.threads_same;
        parents = λ i. keep_job (λ (w : Job). w.parent) u j v p i ∙ x.parents i;
        listed = λ i.
            on_job (λ w. w.listed ≡ true → (job_at t i).listed ≡ true) u j i v
            (λ e h. subst (λ (k : ℕ). (job_at t k).listed ≡ true) (sym e) (x.listed j (l h)))
            (x.listed i);
        homes = x.homes;
        members = x.members;
        bounds = x.bounds;
        owners = x.owners;
      }

  process_stored : (u : Tables) (p : ℕ) (v : Process) → Q p → v.job ≡ (process_at u p).job
      → (v.listed ≡ true → (process_at u p).listed ≡ true) → v.critical ≡ (process_at u p).critical
      → Apart t J Q u → Apart t J Q (put_process u p v)
  unfolding job_at thread_at put_process
  process_stored u p v a o l b x =
      record {
        jobs_same = x.jobs_same;
        processes_same = λ i n.
            put_process_else u p i v (λ e. n (subst Q (sym e) a)) ∙ x.processes_same i n;
        threads_same = x.threads_same;
        parents = x.parents;
        listed = x.listed;
        homes = λ i. keep_process (λ (w : Process). w.job) u p v o i ∙ x.homes i;
        members = λ i.
            on_process (λ w. w.listed ≡ true → (process_at t i).listed ≡ true) u p i v
            (λ e h. subst (λ (k : ℕ). (process_at t k).listed ≡ true) (sym e) (x.members p (l h)))
            (x.members i);
        bounds = λ i. keep_process (λ (w : Process). w.critical) u p v b i ∙ x.bounds i;
        owners = x.owners;
      }

  threads_stopped : (u : Tables) (p : ℕ) → Q p → Apart t J Q u → Apart t J Q (stop_threads u p)
  unfolding job_at process_at stop_threads
  threads_stopped u p a x =
      record {
        jobs_same = x.jobs_same;
        processes_same = x.processes_same;
        threads_same = λ i n.
            by (thread_of (thread_at u i) p)
            (λ e. absurd (n (subst Q (sym (of_process_lem _ p e) ∙ x.owners i) a)))
            (λ e. thread_at_stop_threads u p i ∙ sym (not_stopped _ p e) ∙ x.threads_same i n);
        parents = x.parents;
        listed = x.listed;
        homes = x.homes;
        members = x.members;
        bounds = x.bounds;
        owners =
            λ i. stop_threads_keeps_part (λ (v : Thread). v.process) (λ v. refl) u p i
            ∙ x.owners i;
      }

  listed_child : (u : Tables) (j c : ℕ) → Apart t J Q u → child_of (job_at u c) j ≡ true
      → child_of (job_at t c) j ≡ true
  unfolding child_of
  listed_child u j c x e =
      and_true (x.listed c (and_left (job_at u c).listed _ e))
      (ap (λ (q : Option ℕ). is_parent q j) (sym (x.parents c)) ∙ and_right (job_at u c).listed _ e)

  listed_member : (u : Tables) (j p : ℕ) → Apart t J Q u → member_of (process_at u p) j ≡ true
      → member_of (process_at t p) j ≡ true
  unfolding member_of
  listed_member u j p x e =
      and_true (x.members p (and_left (process_at u p).listed _ e))
      (ap (λ (k : ℕ). k =? j) (sym (x.homes p)) ∙ and_right (process_at u p).listed _ e)

  start : Apart t J Q t
  start =
      record {
        jobs_same = λ i n. refl;
        processes_same = λ i n. refl;
        threads_same = λ i n. refl;
        parents = λ i. refl;
        listed = λ i h. h;
        homes = λ i. refl;
        members = λ i h. h;
        bounds = λ i. refl;
        owners = λ i. refl;
      }

  module _ (k : Closed t J Q) where
    -- a job above the set is not killed, so it does not terminate
    goes_above : (u : Tables) (j p : ℕ) → J j → Apart t J Q u → (job_at u j).parent ≡ Some p
        → may_terminate (put_job u j (terminated (job_at u j))) p ≡ true → J p
    goes_above u j p a x e m =
        ⊎_elim (λ h. h)
        (λ h.
        let f : (job_at u p).killed ≡ true =
        sym (keep_job (λ (w : Job). w.killed) u j (terminated (job_at u j)) refl p)
        ∙ may_killed _ p m in
        no_both f (ap (λ (v : Job). v.killed) (x.jobs_same p h.0) ∙ h.1))
        (k.above j p a (sym (x.parents j) ∙ e))

    apart_stores : Stores (Apart t J Q) within
    unfolding within ended
    apart_stores =
        record {
          marks = λ u j a e x. job_stored u j (killed (job_at u j)) a refl (λ h. h) x;
          terminates = λ u j a e x.
              job_stored u j (terminated (job_at u j)) a refl (λ h. no_both h refl) x;
          exits = λ u p code a b e x.
              process_stored u p (with_status (process_at u p) (Exited code)) a refl (λ h. h) refl x;
          ends = λ u p a b x.
              process_stored u p (ended (process_at u p)) a refl (λ h. no_both h refl) refl x;
          stops = λ u p a e l x. threads_stopped u p a x;
          empties = λ u p a e l x. tt;
          kill_code = tt;
          child = λ u j c a x e. k.child j c a (listed_child u j c x e);
          member = λ u j p a x e. k.member j p a (listed_member u j p x e);
          above = goes_above;
          home = λ u p a x e. subst J (sym (x.homes p)) (k.home p a);
          bound_to = λ u p j nonzero a x e h. k.bound_to p j nonzero a (sym (x.bounds p) ∙ e);
        }

    pub kill_job_apart : (j : ℕ) → J j → Apart t J Q (kill_job t j)
    unfolding within
    kill_job_apart j a = kill_job_keeps (Apart t J Q) within apart_stores t j a start

    pub exit_process_apart : (p : ℕ) (code : ℤ) → Q p → Apart t J Q (exit_process t p code)
    unfolding within
    exit_process_apart p code a =
        exit_process_keeps (Apart t J Q) within apart_stores t p code a tt start

    pub end_process_apart : (p : ℕ) → Q p → Apart t J Q (end_process t p)
    unfolding within
    end_process_apart p a = end_process_keeps (Apart t J Q) within apart_stores t p a tt start
