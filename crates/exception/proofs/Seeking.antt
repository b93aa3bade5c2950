-- What the records say of the search is what the model's search over the tables comes to. Assumes nothing.
use Rattle.std.proofs.Common.{Option, Some, None}
use Prim.Native.Nat.{ℕ, zero, suc, ◌<◌}
use mathlib.Core.Path.{◌≡◌, refl, sym, ap, ◌∙◌, subst}
use mathlib.Core.Bool.{Bool, true, false}
use lib.ListN.{get_or}
use Rattle.laws.specs.Choice.{◌=?◌, ite, if◌then◌otherwise◌}
use Rattle.laws.proofs.Cases.{no_both}
use Rattle.record_exception.specs.declared.Level.{Level}
use Rattle.record_exception.specs.declared.Place.{Place}
use Rattle.record_exception.specs.declared.Place.TheVariants.{Debugger, OwnThread, OwnProcess}
use Rattle.record_exception.specs.declared.Place.TheVariants.{SecondChance, OfJob, OfJobDebugger}
use Rattle.record_exception.specs.declared.Place.TheVariants.{Exiting}
use Rattle.record_exception.specs.declared.Exception.{Exception}
use Rattle.record_exception.specs.Channel.{is_bound, tried}
use Rattle.record_job.specs.Job.{no_job}
use Rattle.record_process.specs.declared.Process.{Process}
use Rattle.record_process.specs.Process.{with_level1, with_level3}
use Rattle.record_thread.specs.declared.Thread.{Thread}
use Rattle.record_thread.specs.Thread.{with_level2}
use Rattle.records.specs.declared.tables.Tables.{Tables}
use Rattle.records.specs.Tables.{Sized, job_at, put_job, put_process, put_thread, with_jobs}
use Rattle.model.specs.declared.Route.{Route}
use Rattle.model.specs.declared.Route.TheVariants.{Ordinary, JobDebuggers, DebuggerOnly}
use Rattle.model.specs.declared.Route.TheVariants.{ToExiting, NoType}
use Rattle.model.specs.declared.Search.{Search}
use Rattle.model.specs.Job.{on_parent}
use Rattle.model.specs.Exception as model
use Rattle.model.specs.Exception.{process_of, level_at, put_level_at, pass_over, no_handler, try_at, search_up, own_job}
use Rattle.exception.specs.Seek.{Climbed, level_in, job_place, climbed, passed_jobs, climbing, above_job}
use Rattle.exception.specs.Seek.{Found, found, climbed_to, from_job, from_second_chance, from_process, from_thread}
use Rattle.exception.specs.Seek.{from_debugger, alone, first_found, after_debugger, next_found}
use Rattle.exception.proofs.Stored.{Fits, fits_level1, fits_level3, stored, own_there}
use Rattle.exception.proofs.Stored.{level1_there, level2_there, level3_there}
use Rattle.exception.proofs.Stored.{pass_level1, pass_level2, pass_level3}

-- ---- A level -----------------------------------------------------------------------------------

abbrev taken : Tables → Place → Search
taken u p = record { tables = u; at = Some p }

-- l is the level, w the tables past it
tries : (u : Tables) (n : ℕ) (p : Place) (k : Tables → Search) {l : Level} {w : Tables} →
    level_at u n p ≡ l → pass_over u n p ≡ w → try_at u n p k ≡ if is_bound l then taken u p otherwise k w
unfolding try_at ite if◌then◌otherwise◌
tries u n p k {l} {w} e f = go (is_bound l) (ap is_bound e)
  where
    go : (b : Bool) → is_bound (level_at u n p) ≡ b → try_at u n p k ≡ if b then taken u p otherwise k w
    go true h = rw h
    go false h = rw (h, f)

-- ---- The jobs ----------------------------------------------------------------------------------

abbrev pub climbed_in : Tables → Climbed → Search
climbed_in u c = record { tables = with_jobs u c.jobs; at = c.at }

-- the tables with job j's level passed
abbrev past : Bool → Tables → ℕ → Tables
past d u j = with_jobs u (passed_jobs d u.jobs j)

module _ (n : ℕ) where
  job_level_lem : (u : Tables) (d : Bool) (j : ℕ) → level_at u n (job_place d j) ≡ level_in d (get_or u.jobs j no_job)
  unfolding level_at job_at
  job_level_lem u true j = refl
  job_level_lem u false j = refl

  job_passed : (u : Tables) (d : Bool) (j : ℕ) →
      pass_over u n (job_place d j) ≡ past d u j
  unfolding pass_over put_level_at level_at job_at put_job
  job_passed u true j = refl
  job_passed u false j = refl

  -- on over the parent, and one step, by what holds of the jobs above
  module _ (k : ℕ) (d : Bool) (u : Tables) (j : ℕ)
      (above : (i : ℕ) →
      search_up k (job_place d) (past d u j) n i ≡ climbed_in u (climbing k d (passed_jobs d u.jobs j) i)) where
    parent_is : (q : Option ℕ) →
        on_parent q (no_handler (past d u j)) (λ i. search_up k (job_place d) (past d u j) n i)
        ≡ climbed_in u (on_parent q (climbed None (passed_jobs d u.jobs j)) λ i.
        climbing k d (passed_jobs d u.jobs j) i)
    unfolding on_parent
    parent_is None = refl
    parent_is (Some i) = above i

    step_is : (b : Bool) →
        if b then taken u (job_place d j) otherwise
        on_parent (job_at (past d u j) j).parent (no_handler (past d u j))
        (λ i. search_up k (job_place d) (past d u j) n i)
        ≡ climbed_in u (ite b (λ _. climbed (Some (job_place d j)) u.jobs) λ _.
        on_parent (get_or (passed_jobs d u.jobs j) j no_job).parent (climbed None (passed_jobs d u.jobs j)) λ i.
        climbing k d (passed_jobs d u.jobs j) i)
    unfolding if◌then◌otherwise◌ ite job_at
    step_is true = refl
    step_is false = parent_is (get_or (passed_jobs d u.jobs j) j no_job).parent

  pub up_is : (k : ℕ) (d : Bool) (u : Tables) (j : ℕ) →
      search_up k (job_place d) u n j ≡ climbed_in u (climbing k d u.jobs j)
  unfolding search_up climbing
  up_is zero d u j = refl
  up_is (suc k) d u j =
      tries u n (job_place d j) _ (job_level_lem u d j) (job_passed u d j)
      ∙ step_is k d u j (λ i. up_is k d (past d u j) i) (is_bound (level_in d (get_or u.jobs j no_job)))

-- ---- The search --------------------------------------------------------------------------------

abbrev pub is_to_exiting : Route → Bool
is_to_exiting Ordinary = false
is_to_exiting JobDebuggers = false
is_to_exiting DebuggerOnly = false
is_to_exiting ToExiting = true
is_to_exiting NoType = false

-- what was found, as the tables have it
abbrev pub search_found : Tables → ℕ → Found → Search
search_found t n f = record { tables = with_jobs (stored t n f.thread f.process) f.jobs; at = f.at }

-- s is what the search finds, by the records; the process keeps its name p
pub record Finds (t : Tables) (n p : ℕ) (s : Search) (f : Found) : Type 0 where
  pub is : s ≡ search_found t n f
  pub process : f.thread.process ≡ p
  pub fits : Fits p f.process

module _ (t : Tables) (z : Sized t) (n : ℕ) (h : n < 128) where
  -- a level tried: there, or on
  tried_lem : {p : ℕ} (u w : Tables) (place : Place) (k : Tables → Search) {l : Level} {x y : Found} →
      level_at u n place ≡ l → pass_over u n place ≡ w → Finds t n p (taken u place) x → Finds t n p (k w) y →
      Finds t n p (try_at u n place k) (if is_bound l then x otherwise y)
  unfolding if◌then◌otherwise◌
  tried_lem {p} u w place k {l} {x} {y} e f a b =
      subst (λ (s : Search). Finds t n p s (if is_bound l then x otherwise y))
      (sym (tries u n place k e f)) (go (is_bound l))
    where
      go : (c : Bool) → Finds t n p (if c then taken u place otherwise k w) (if c then x otherwise y)
      go true = a
      go false = b

  module _ (v : Thread) (q : Process) (f : Fits v.process q) where
    ends : (at : Option Place) →
        Finds t n v.process (record { tables = stored t n v q; at = at }) (found at v q t.jobs)
    unfolding put_process put_thread
    ends at = record { is = refl; process = refl; fits = f }

    climbs : (d : Bool) (j : ℕ) →
        Finds t n v.process (search_up 32 (job_place d) (stored t n v q) n j) (from_job d j v q t.jobs)
    unfolding put_process put_thread
    climbs d j = record { is = up_is n 32 d (stored t n v q) j; process = refl; fits = f }

    jobs_found : (d : Bool) →
        Finds t n v.process (search_up 32 (job_place d) (stored t n v q) n (own_job (stored t n v q) n))
        (from_job d q.job v q t.jobs)
    jobs_found d =
        subst (λ (x : Process). Finds t n v.process (search_up 32 (job_place d) (stored t n v q) n x.job)
        (from_job d q.job v q t.jobs))
        (sym (own_there t z n h v q f)) (climbs d q.job)

  second_found : (v : Thread) (q : Process) (f : Fits v.process q) (b : Bool) →
      Finds t n v.process (model.from_second_chance (stored t n v q) n b) (from_second_chance v q t.jobs b)
  unfolding model.from_second_chance model.from_jobs from_second_chance if◌then◌otherwise◌ level_at pass_over
      put_level_at
  second_found v q f true =
      tried_lem (stored t n v q) _ SecondChance (λ u. model.from_jobs u n) (level1_there t z n h v q f)
      (pass_level1 t z n h v q f) (ends v q f (Some SecondChance))
      (jobs_found v (with_level1 q (tried q.level1)) (fits_level1 f) false)
  second_found v q f false = jobs_found v q f false

  process_found : (v : Thread) (q : Process) (f : Fits v.process q) (b : Bool) →
      Finds t n v.process (model.from_process (stored t n v q) n b) (from_process v q t.jobs b)
  unfolding model.from_process from_process
  process_found v q f b =
      tried_lem (stored t n v q) _ OwnProcess (λ u. model.from_second_chance u n b) (level3_there t z n h v q f)
      (pass_level3 t z n h v q f) (ends v q f (Some OwnProcess))
      (second_found v (with_level3 q (tried q.level3)) (fits_level3 f) b)

  thread_found : (v : Thread) (q : Process) (f : Fits v.process q) (b : Bool) →
      Finds t n v.process (model.from_thread (stored t n v q) n b) (from_thread v q t.jobs b)
  unfolding model.from_thread from_thread
  thread_found v q f b =
      tried_lem (stored t n v q) _ OwnThread (λ u. model.from_process u n b) (level2_there t z n h v q f)
      (pass_level2 t z n h v q f) (ends v q f (Some OwnThread))
      (process_found (with_level2 v (tried v.level2)) q f b)

  debugger_found : (v : Thread) (q : Process) (f : Fits v.process q) (b : Bool) →
      Finds t n v.process (model.from_debugger (stored t n v q) n b) (from_debugger v q t.jobs b)
  unfolding model.from_debugger from_debugger
  debugger_found v q f b =
      tried_lem (stored t n v q) _ Debugger (λ u. model.from_thread u n b) (level1_there t z n h v q f)
      (pass_level1 t z n h v q f) (ends v q f (Some Debugger))
      (thread_found v (with_level1 q (tried q.level1)) (fits_level1 f) b)

  -- level 1 and no other, at either of its places
  alone_found : (v : Thread) (q : Process) (f : Fits v.process q) (place : Place) →
      level_at (stored t n v q) n place ≡ q.level1 →
      pass_over (stored t n v q) n place ≡ stored t n v (with_level1 q (tried q.level1)) →
      Finds t n v.process (try_at (stored t n v q) n place no_handler) (alone place v q t.jobs)
  unfolding alone
  alone_found v q f place e g =
      tried_lem (stored t n v q) _ place no_handler e g (ends v q f (Some place))
      (ends v (with_level1 q (tried q.level1)) (fits_level1 f) None)

  -- where the search starts
  pub finds_exiting : (v : Thread) (q : Process) → Fits v.process q →
      Finds t n v.process (try_at (stored t n v q) n Exiting no_handler) (alone Exiting v q t.jobs)
  unfolding level_at pass_over put_level_at
  finds_exiting v q f = alone_found v q f Exiting (level1_there t z n h v q f) (pass_level1 t z n h v q f)

  pub finds_first : (v : Thread) (q : Process) → Fits v.process q → (r : Route) → is_to_exiting r ≡ false →
      Finds t n v.process (model.first_handler r (stored t n v q) n) (first_found r v q t.jobs)
  unfolding model.first_handler first_found
  finds_first v q f Ordinary x = debugger_found v q f false
  finds_first v q f JobDebuggers x = jobs_found v q f true
  finds_first v q f DebuggerOnly x =
      alone_found v q f Debugger (level1_there t z n h v q f) (pass_level1 t z n h v q f)
  finds_first v q f ToExiting x = no_both refl x
  finds_first v q f NoType x = ends v q f None

  after_found : (v : Thread) (q : Process) → Fits v.process q → (x : Exception) →
      let u : Tables = stored t n v q in
      Finds t n v.process (if x.kind =? 0x8008 then no_handler u otherwise model.from_thread u n x.second)
      (after_debugger x v q t.jobs)
  unfolding after_debugger if◌then◌otherwise◌
  after_found v q f x = go (x.kind =? 0x8008)
    where
      go : (a : Bool) →
          let u : Tables = stored t n v q in
          Finds t n v.process (if a then no_handler u otherwise model.from_thread u n x.second)
          (if a then found None v q t.jobs otherwise from_thread v q t.jobs x.second)
      go true = ends v q f None
      go false = thread_found v q f x.second

  above_found : (v : Thread) (q : Process) → Fits v.process q → (w : Option ℕ) →
      let u : Tables = stored t n v q in
      Finds t n v.process (on_parent w (no_handler u) (λ i. search_up 32 OfJob u n i))
      (climbed_to (on_parent w (climbed None t.jobs) λ i. climbing 32 false t.jobs i) v q)
  unfolding on_parent
  above_found v q f None = ends v q f None
  above_found v q f (Some i) = climbs v q f false i

  pub finds_next : (v : Thread) (q : Process) → Fits v.process q → (x : Exception) (p : Place) →
      Finds t n v.process (model.next_handler p (stored t n v q) n x) (next_found p x v q t.jobs)
  unfolding model.next_handler model.from_jobs next_found above_job job_at put_process put_thread
  finds_next v q f x Debugger = after_found v q f x
  finds_next v q f x OwnThread = process_found v q f x.second
  finds_next v q f x OwnProcess = second_found v q f x.second
  finds_next v q f x SecondChance = jobs_found v q f false
  finds_next v q f x (OfJob j) = above_found v q f (get_or t.jobs j no_job).parent
  finds_next v q f x (OfJobDebugger j) = ends v q f None
  finds_next v q f x Exiting = ends v q f None
