-- A search for a handler keeps `Tree`, and all but the levels of jobs, processes and threads
-- (`Passed`); a handler of a job that it finds is at or above the thread's own. Assumes nothing.
use Rattle.std.proofs.Common.{Some}
use Prim.Native.Nat.{ℕ, ◌<◌}
use native.Mathlib.Omega.{arith}
use mathlib.Core.Path.{◌≡◌, refl, sym, ap, ◌∙◌, subst}
use mathlib.Core.Bool.{true, false}
use Rattle.record_exception.specs.declared.Level.{Level}
use Rattle.record_exception.specs.declared.Level.TheVariants.{Unbound, Bound, HungUp, Shut}
use Rattle.record_exception.specs.declared.Place.{Place}
use Rattle.record_exception.specs.declared.Place.TheVariants.{Debugger, OwnThread, OwnProcess}
use Rattle.record_exception.specs.declared.Place.TheVariants.{SecondChance, OfJob, OfJobDebugger}
use Rattle.record_exception.specs.declared.Place.TheVariants.{Exiting}
use Rattle.record_exception.specs.Channel.{is_shut, tried}
use Rattle.record_exception.specs.Exception.{level_of}
use Rattle.record_job.specs.declared.Job.{Job}
use Rattle.record_job.specs.Job.{with_level4, with_level5}
use Rattle.record_process.specs.declared.Process.{Process}
use Rattle.record_process.specs.Process.{with_level1, with_level3}
use Rattle.record_thread.specs.declared.Thread.{Thread}
use Rattle.record_thread.specs.Thread.{with_level2}
use Rattle.records.specs.declared.tables.Tables.{Tables}
use Rattle.records.specs.Tables.{job_at, own_at, inherited_at, process_at, fixed_at, thread_at, put_job}
use Rattle.records.specs.Tables.{put_process, put_thread}
use Rattle.model.specs.Exception.{process_of, level_at, put_level_at, pass_over, own_job}
use Rattle.claims.specs.Reachable.{AtOrAbove, here, below, Tree}
use Rattle.model.proofs.TaskTables.{keep_job, keep_process, keep_thread}
use Rattle.claims.proofs.Cross.{job_at_put_process, job_at_put_thread, process_at_put_job}
use Rattle.claims.proofs.Cross.{process_at_put_thread, thread_at_put_job, thread_at_put_process}
use Rattle.claims.proofs.Searches.{Passing}
use Rattle.claims.proofs.Tree.Parts.{GoodJob, GoodProcess, GoodThread, good_job}
use Rattle.claims.proofs.Tree.Parts.{good_process, good_thread}
use Rattle.claims.proofs.Tree.Puts.{put_job_tree, put_process_tree, put_thread_tree}
use Rattle.claims.proofs.Tree.Records.{level1_good, level3_good, level4_good, level5_good}
use Rattle.claims.proofs.Tree.Threads.{level2_good}

-- ---- All but the levels ----------------------------------------------------------------------

abbrev pub bare_job : Job → Job
bare_job v = with_level5 (with_level4 v Unbound) Unbound

abbrev pub bare_process : Process → Process
bare_process q = with_level3 (with_level1 q Unbound) Unbound

abbrev pub bare_thread : Thread → Thread
bare_thread v = with_level2 v Unbound

pub record Passed (t u : Tables) : Type 0 where
  pub jobs : (j : ℕ) → bare_job (job_at u j) ≡ bare_job (job_at t j)
  pub processes : (p : ℕ) → bare_process (process_at u p) ≡ bare_process (process_at t p)
  pub threads : (n : ℕ) → bare_thread (thread_at u n) ≡ bare_thread (thread_at t n)

pub passed_none : (t : Tables) → Passed t t
passed_none t = record { jobs = λ j. refl; processes = λ p. refl; threads = λ n. refl }

pub passed_both : {t u w : Tables} → Passed t u → Passed u w → Passed t w
passed_both a b =
    record {
      jobs = λ j. b.jobs j ∙ a.jobs j;
      processes = λ p. b.processes p ∙ a.processes p;
      threads = λ n. b.threads n ∙ a.threads n;
    }

module _ (t : Tables) where
  pub passed_job : (j : ℕ) (v : Job) → bare_job v ≡ bare_job (job_at t j) → Passed t (put_job t j v)
  passed_job j v e =
      record {
        jobs = keep_job (λ w. bare_job w) t j v e;
        processes = λ p. ap (λ (q : Process). bare_process q) (process_at_put_job t j v p);
        threads = λ n. ap (λ (w : Thread). bare_thread w) (thread_at_put_job t j v n);
      }

  pub passed_process : (p : ℕ) (q : Process) → bare_process q ≡ bare_process (process_at t p)
      → Passed t (put_process t p q)
  passed_process p q e =
      record {
        jobs = λ j. ap (λ (v : Job). bare_job v) (job_at_put_process t p q j);
        processes = keep_process (λ w. bare_process w) t p q e;
        threads = λ n. ap (λ (w : Thread). bare_thread w) (thread_at_put_process t p q n);
      }

  pub passed_thread : (n : ℕ) (v : Thread) → bare_thread v ≡ bare_thread (thread_at t n)
      → Passed t (put_thread t n v)
  passed_thread n v e =
      record {
        jobs = λ j. ap (λ (w : Job). bare_job w) (job_at_put_thread t n v j);
        processes = λ p. ap (λ (q : Process). bare_process q) (process_at_put_thread t n v p);
        threads = keep_thread (λ w. bare_thread w) t n v e;
      }

  pub pass_over_passed : (n : ℕ) (p : Place) → Passed t (pass_over t n p)
  unfolding pass_over put_level_at
  pass_over_passed n Debugger = passed_process _ _ refl
  pass_over_passed n OwnThread = passed_thread _ _ refl
  pass_over_passed n OwnProcess = passed_process _ _ refl
  pass_over_passed n SecondChance = passed_process _ _ refl
  pass_over_passed n (OfJob j) = passed_job _ _ refl
  pass_over_passed n (OfJobDebugger j) = passed_job _ _ refl
  pass_over_passed n Exiting = passed_process _ _ refl

-- ---- A level passed over ---------------------------------------------------------------------

tried_shut : (l : Level) → is_shut (tried l) ≡ is_shut l
tried_shut Unbound = refl
tried_shut Bound = refl
tried_shut HungUp = refl
tried_shut Shut = refl

module _ (t : Tables) (T : Tree t) where
  -- a store that leaves all but the levels of a job, a process or a thread
  pub levels_job : (j : ℕ) (v : Job) → bare_job v ≡ bare_job (job_at t j)
      → GoodJob t j v (own_at t j) (inherited_at t j) → Tree (put_job t j v)
  levels_job j v e g =
      put_job_tree t T j v g
      (λ m. (ap (λ (w : Job). w.made) e ∙ m, ap (λ (w : Job). w.parent) e))
      (λ i l h. ap (λ (w : Job). w.terminated) e ∙ T.parent_alive i j l h)
      (λ p l h. ap (λ (w : Job). w.terminated) e
      ∙ subst (λ (n : ℕ). (job_at t n).terminated ≡ false) h (T.job_alive p l))

  pub levels_process : (p : ℕ) (q : Process) → bare_process q ≡ bare_process (process_at t p)
      → GoodProcess t q (fixed_at t p) → Tree (put_process t p q)
  levels_process p q e g =
      put_process_tree t T p q g
      (λ m. (ap (λ (w : Process). w.made) e ∙ m, ap (λ (w : Process). w.job) e))
      (λ n l h. ap (λ (w : Process). w.listed) e
      ∙ subst (λ (i : ℕ). (process_at t i).listed ≡ true) h (T.process_alive n l))

  pub levels_thread : (n : ℕ) (v : Thread) → bare_thread v ≡ bare_thread (thread_at t n)
      → GoodThread t v → Tree (put_thread t n v)
  levels_thread n v e g = put_thread_tree t T n v g (λ m. ap (λ (w : Thread). w.made) e ∙ m)

  passed_level1 : (p : ℕ)
      → Tree (put_process t p (with_level1 (process_at t p) (tried (process_at t p).level1)))
  passed_level1 p =
      levels_process p _ refl
      (level1_good (good_process T p) _ (ap (λ (q : Process). tried q.level1))
      (tried_shut (process_at t p).level1))

  pub pass_over_tree : (n : ℕ) (p : Place) → Tree (pass_over t n p)
  unfolding pass_over put_level_at level_at
  pass_over_tree n Debugger = passed_level1 (process_of t n)
  pass_over_tree n OwnThread =
      levels_thread n _ refl
      (level2_good (good_thread T n) _ (ap (λ (v : Thread). tried v.level2))
      (tried_shut (thread_at t n).level2))
  pass_over_tree n OwnProcess =
      levels_process (process_of t n) _ refl
      (level3_good (good_process T (process_of t n)) _ (ap (λ (q : Process). tried q.level3))
      (tried_shut (process_at t (process_of t n)).level3))
  pass_over_tree n SecondChance = passed_level1 (process_of t n)
  pass_over_tree n (OfJob j) =
      levels_job j _ refl
      (level4_good (good_job T j) _ (ap (λ (v : Job). tried v.level4))
      (tried_shut (job_at t j).level4))
  pass_over_tree n (OfJobDebugger j) =
      levels_job j _ refl
      (level5_good (good_job T j) _ (ap (λ (v : Job). tried v.level5))
      (tried_shut (job_at t j).level5))
  pass_over_tree n Exiting = passed_level1 (process_of t n)

-- ---- A search --------------------------------------------------------------------------------

pub above_both : {t : Tables} {i j k : ℕ} → AtOrAbove t i j → AtOrAbove t j k → AtOrAbove t i k
above_both a here = a
above_both a (below e b) = below e (above_both a b)

-- the jobs whose handlers may have an exception of thread n
pub record AboveOwn (t : Tables) (n : ℕ) (p : Place) : Type 0 where
  pub handler : (j : ℕ) → p ≡ OfJob j → AtOrAbove t j (own_job t n)
  pub debugger : (j : ℕ) → p ≡ OfJobDebugger j → AtOrAbove t j (own_job t n)

pub record Searched (t u : Tables) : Type 0 where
  pub tree : Tree u
  pub passed : Passed t u

pub own_job_same : {t u : Tables} → Passed t u → (n : ℕ) → own_job u n ≡ own_job t n
own_job_same {t} {u} s n =
    ap (λ (v : Thread). (process_at u v.process).job) (s.threads n)
    ∙ ap (λ (q : Process). q.job) (s.processes (process_of t n))

of_job_inj : {i j : ℕ} → OfJob i ≡ OfJob j → i ≡ j
of_job_inj {i} {j} e = cc

of_debugger_inj : {i j : ℕ} → OfJobDebugger i ≡ OfJobDebugger j → i ≡ j
of_debugger_inj {i} {j} e = cc

module _ (t : Tables) (n : ℕ) where
  at_handler : (j : ℕ) → AtOrAbove t j (own_job t n) → AboveOwn t n (OfJob j)
  at_handler j a =
      record {
        handler = λ i e. subst (λ (m : ℕ). AtOrAbove t m (own_job t n)) (of_job_inj e) a;
        debugger = λ i e. absurd (let z : ◌≡◌ {A = ℕ} 0 1 = cc in omega arith);
      }

  at_debugger : (j : ℕ) → AtOrAbove t j (own_job t n) → AboveOwn t n (OfJobDebugger j)
  at_debugger j a =
      record {
        handler = λ i e. absurd (let z : ◌≡◌ {A = ℕ} 0 1 = cc in omega arith);
        debugger = λ i e. subst (λ (m : ℕ). AtOrAbove t m (own_job t n)) (of_debugger_inj e) a;
      }

  pub at_own : (p : Place) → level_of p < 4 → AboveOwn t n p
  at_own p h =
      record {
        handler = λ i e. absurd (omega (arith, ap (λ (x : Place). level_of x) e));
        debugger = λ i e. absurd (omega (arith, ap (λ (x : Place). level_of x) e));
      }

  -- a parent of a job at or above the own job is above it too
  up : {u : Tables} → Searched t u → (j i : ℕ) → (job_at u j).parent ≡ Some i
      → AtOrAbove t j (own_job t n) → AtOrAbove t i (own_job t n)
  up s j i e a =
      above_both (below (sym (ap (λ (v : Job). v.parent) (s.passed.jobs j)) ∙ e) here) a

  pub searching : Passing n (Searched t) (AboveOwn t n)
  searching =
      record {
        pass = λ u p q s. record {
          tree = pass_over_tree u s.tree n p;
          passed = passed_both s.passed (pass_over_passed u n p);
        };
        debugger = at_own Debugger (omega arith);
        thread = at_own OwnThread (omega arith);
        process = at_own OwnProcess (omega arith);
        second = at_own SecondChance (omega arith);
        job = λ u s. at_handler (own_job u n) (rw (own_job_same s.passed n) here);
        job_debugger = λ u s. at_debugger (own_job u n) (rw (own_job_same s.passed n) here);
        job_up = λ u j i s e a. at_handler i (up s j i e (a.handler j refl));
        job_debugger_up = λ u j i s e a. at_debugger i (up s j i e (a.debugger j refl));
      }
