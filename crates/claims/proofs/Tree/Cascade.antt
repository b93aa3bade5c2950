-- The cascade keeps `Tree`: killing a job, exiting a process, and a thread that finishes. Between
-- any two of its stores `Tree` holds, so this is an instance of `Keeps`. Assumes nothing.
use Rattle.std.proofs.Common.{Option, Some}
use Prim.Native.Nat.{ℕ}
use mathlib.Core.Path.{◌≡◌, refl, ap, ◌∙◌, subst}
use mathlib.Core.Bool.{true, false}
use lib.IntN.{ℤ}
use borrow.Author.Tests.{eq-eqb}
use Rattle.laws.specs.Choice.{◌and◌, if◌then◌otherwise◌}
use Rattle.laws.proofs.Cases.{by, no_both, if_on, and_true}
use Rattle.record_job.specs.declared.Job.{Job}
use Rattle.record_job.specs.Job.{killed, terminated, is_parent, child_of}
use Rattle.record_process.specs.declared.Status.TheVariants.{Exited}
use Rattle.record_process.specs.declared.Process.{Process}
use Rattle.record_process.specs.Process.{is_exited, with_status, ended, member_of}
use Rattle.record_thread.specs.declared.Waiting.TheVariants.{NotWaiting}
use Rattle.record_thread.specs.declared.Thread.{Thread}
use Rattle.record_thread.specs.Thread.{thread_of, finish}
use Rattle.records.specs.declared.tables.Tables.{Tables}
use Rattle.records.specs.Tables.{job_at, process_at, thread_at, put_job, put_process, put_thread}
use Rattle.model.specs.Job.{lists_thread, may_terminate, stop_in, stop_threads, kill_job}
use Rattle.model.specs.Job.{exit_process, end_process, finish_thread}
use Rattle.claims.specs.Reachable.{Tree}
use Rattle.claims.proofs.Cross.{process_at_put_thread}
use Rattle.model.proofs.Lists.{may_killed, may_empty, empty_child, empty_member, no_thread_lem}
use Rattle.claims.proofs.ThreadMaps.{stop_in_keeps}
use Rattle.model.proofs.Live.{live_job_made, live_process_made}
use Rattle.model.proofs.Stores.{Reach, Stores}
use Rattle.model.proofs.Keeps.{kill_job_keeps, exit_process_keeps, end_process_keeps}
use Rattle.model.proofs.Keeps.{finish_thread_keeps}
use Rattle.claims.proofs.Tree.Parts.{GoodThread, good_job, good_process, good_thread}
use Rattle.claims.proofs.Tree.Puts.{put_job_tree, put_process_tree, put_thread_tree}
use Rattle.claims.proofs.Tree.Puts.{map_threads_tree}
use Rattle.claims.proofs.Tree.Records.{killed_good, terminated_good, status_good, ended_good}
use Rattle.claims.proofs.Tree.Threads.{kill_good, finish_good}

-- ---- What is killed, Exited or listed is made ------------------------------------------------

module _ {t : Tables} (T : Tree t) where
  pub killed_made : (j : ℕ) → (job_at t j).killed ≡ true → (job_at t j).made ≡ true
  killed_made j k =
      by (job_at t j).made (λ m. m)
      (λ m. no_both k (ap (λ (v : Job). v.killed) (T.job_unmade j m).0))

  pub exited_made : (p : ℕ) → is_exited (process_at t p).status ≡ true → (process_at t p).made ≡ true
  exited_made p k =
      by (process_at t p).made (λ m. m)
      (λ m. no_both k (ap (λ (q : Process). is_exited q.status) (T.process_unmade p m).0))

  -- a job that lists nothing has no listed child and no listed process
  pub empty_no_child : (j i : ℕ) → may_terminate t j ≡ true → (job_at t i).listed ≡ true
      → (job_at t i).parent ≡ Some j → ⊥
  unfolding child_of
  empty_no_child j i e l h =
      no_both (and_true l (ap (λ (q : Option ℕ). is_parent q j) h ∙ eq-eqb j j refl))
      (empty_child t j (may_empty t j e) i)

  pub empty_no_member : (j p : ℕ) → may_terminate t j ≡ true → (process_at t p).listed ≡ true
      → (process_at t p).job ≡ j → ⊥
  unfolding member_of
  empty_no_member j p e l h =
      no_both (and_true l (eq-eqb (process_at t p).job j h))
      (empty_member t j (may_empty t j e) p)

  pub unlisted_thread : (p n : ℕ) → lists_thread t p ≡ false → (thread_at t n).listed ≡ true
      → (thread_at t n).process ≡ p → ⊥
  unfolding thread_of
  unlisted_thread p n e l h =
      no_both (and_true l (eq-eqb (thread_at t n).process p h)) (no_thread_lem t p n e)

-- ---- Each store ------------------------------------------------------------------------------

module _ (t : Tables) (T : Tree t) where
  pub marks_tree : (j : ℕ) → (job_at t j).made ≡ true → Tree (put_job t j (killed (job_at t j)))
  marks_tree j m =
      put_job_tree t T j (killed (job_at t j)) (killed_good (good_job T j) m) (λ h. (m, refl))
      (λ i l e. T.parent_alive i j l e)
      (λ p l e. subst (λ (n : ℕ). (job_at t n).terminated ≡ false) e (T.job_alive p l))

  pub terminates_tree : (j : ℕ) → may_terminate t j ≡ true
      → Tree (put_job t j (terminated (job_at t j)))
  terminates_tree j e =
      let k : (job_at t j).killed ≡ true = may_killed t j e in
      let m : (job_at t j).made ≡ true = killed_made T j k in
      put_job_tree t T j (terminated (job_at t j)) (terminated_good (good_job T j) m k)
      (λ h. (m, refl))
      (λ i l h. absurd (empty_no_child T j i e l h))
      (λ p l h. absurd (empty_no_member T j p e l h))

  pub exits_tree : (p : ℕ) (code : ℤ) → (process_at t p).made ≡ true
      → Tree (put_process t p (with_status (process_at t p) (Exited code)))
  exits_tree p code m =
      put_process_tree t T p _ (status_good (good_process T p) (Exited code) m (λ h. refl))
      (λ h. (m, refl))
      (λ n l e. subst (λ (i : ℕ). (process_at t i).listed ≡ true) e (T.process_alive n l))

  pub ends_tree : (p : ℕ) → (process_at t p).made ≡ true → lists_thread t p ≡ false
      → Tree (put_process t p (ended (process_at t p)))
  unfolding ended
  ends_tree p m e =
      put_process_tree t T p _ (ended_good (good_process T p) m) (λ h. (m, refl))
      (λ n l h. absurd (unlisted_thread T p n e l h))

  pub stops_tree : (p : ℕ) → Tree (stop_threads t p)
  unfolding stop_threads stop_in thread_of ◌and◌ if◌then◌otherwise◌
  stops_tree p =
      map_threads_tree t T (stop_in p) refl
      (λ v g. if_on (GoodThread t) (thread_of v p) _ _
      (λ e. kill_good g (by v.made (λ m. m)
      (λ m. no_both e (ap (λ (w : Thread). thread_of w p) (g.unmade m))))) (λ e. g))
      (λ v m. stop_in_keeps (λ w. w.made) (λ w. refl) p v ∙ m)

-- ---- The cascade -----------------------------------------------------------------------------

-- a process that ends is made, and lists no thread
abbrev pub anything : Reach
anything =
    record {
      job = λ j. Unit {0};
      process = λ p. Unit {0};
      code = λ z. Unit {0};
      ending = λ t p. ((process_at t p).made ≡ true) × (lists_thread t p ≡ false);
    }

pub tree_stores : Stores Tree anything
tree_stores =
    record {
      marks = λ t j a e T. marks_tree t T j (live_job_made (job_at t j) e);
      terminates = λ t j a e T. terminates_tree t T j e;
      exits = λ t p code a b e T. exits_tree t T p code (live_process_made (process_at t p) e);
      ends = λ t p a l T. ends_tree t T p l.0 l.1;
      stops = λ t p a e l T. stops_tree t T p;
      empties = λ t p a e l T. (exited_made T p e, l);
      kill_code = tt;
      child = λ t j c a T h. tt;
      member = λ t j p a T h. tt;
      above = λ t j p a T g h. tt;
      home = λ t p a T h. tt;
      bound_to = λ t p j nonzero a T g h. tt;
    }

pub tree_kill : {t : Tables} → Tree t → (j : ℕ) → Tree (kill_job t j)
tree_kill {t} T j = kill_job_keeps Tree anything tree_stores t j tt T

pub tree_exit : {t : Tables} → Tree t → (p : ℕ) (code : ℤ) → Tree (exit_process t p code)
tree_exit {t} T p code = exit_process_keeps Tree anything tree_stores t p code tt tt T

pub tree_end : {t : Tables} → Tree t → (p : ℕ) → (process_at t p).made ≡ true
    → lists_thread t p ≡ false → Tree (end_process t p)
tree_end {t} T p m e = end_process_keeps Tree anything tree_stores t p tt (m, e) T

-- a started thread that waits for nothing
pub finishes_tree : {t : Tables} → Tree t → (n : ℕ) → (thread_at t n).made ≡ true
    → (thread_at t n).started ≡ true → (thread_at t n).waiting ≡ NotWaiting
    → Tree (put_thread t n (finish (thread_at t n)))
finishes_tree {t} T n m s w =
    put_thread_tree t T n _ (finish_good (good_thread T n) m s w) (λ h. h)

pub tree_finish : {t : Tables} → Tree t → (n : ℕ) → (thread_at t n).made ≡ true
    → (thread_at t n).started ≡ true → (thread_at t n).waiting ≡ NotWaiting → Tree (finish_thread t n)
tree_finish {t} T n m s w =
    finish_thread_keeps Tree anything tree_stores t n tt (finishes_tree T n m s w)
    (λ e. (
      ap (λ (q : Process). q.made) (process_at_put_thread t n _ (thread_at t n).process)
          ∙ T.process_made n m,
      e,
    ))
