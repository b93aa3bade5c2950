-- What a search for a handler leaves, and where it ends: what each passing over of a level keeps,
-- the search keeps, and it ends only at places that it may reach (`Passing`). Assumes nothing.
use Rattle.std.proofs.Common.{Some, None}
use Prim.Native.Nat.{ℕ, zero, suc}
use native.Mathlib.Omega.{arith}
use mathlib.Core.Path.{◌≡◌, subst}
use mathlib.Core.Bool.{Bool, false}
use Rattle.laws.specs.Choice.{◌=?◌}
use Rattle.laws.proofs.Cases.{ite_on, if_on}
use Rattle.record_exception.specs.declared.Place.{Place}
use Rattle.record_exception.specs.declared.Place.TheVariants.{Debugger, OwnThread, OwnProcess}
use Rattle.record_exception.specs.declared.Place.TheVariants.{SecondChance, OfJob, OfJobDebugger}
use Rattle.record_exception.specs.declared.Place.TheVariants.{Exiting}
use Rattle.record_exception.specs.declared.Exception.{Exception}
use Rattle.records.specs.declared.tables.Tables.{Tables}
use Rattle.records.specs.Tables.{job_at}
use Rattle.model.specs.declared.Route.{Route}
use Rattle.model.specs.declared.Route.TheVariants.{Ordinary, JobDebuggers, DebuggerOnly}
use Rattle.model.specs.declared.Route.TheVariants.{ToExiting, NoType}
use Rattle.model.specs.declared.Search.{Search}
use Rattle.model.specs.Exception.{pass_over, no_handler, try_at, search_up, own_job, from_jobs}
use Rattle.model.specs.Exception.{from_second_chance, from_process, from_thread, from_debugger}
use Rattle.model.specs.Exception.{first_handler, next_handler}
use Rattle.model.proofs.Keeps.{on_parent_on}

-- P of the tables that a search leaves, and Q of the place where it ends
pub record Found (P : Tables → Type 0) (Q : Place → Type 0) (s : Search) : Type 0 where
  pub left : P s.tables
  pub place : (p : Place) → s.at ≡ Some p → Q p

-- Q of the places that may be reached for thread n
pub record Passing (n : ℕ) (P : Tables → Type 0) (Q : Place → Type 0) : Type 0 where
  pub pass : (t : Tables) (p : Place) → Q p → P t → P (pass_over t n p)
  pub debugger : Q Debugger
  pub thread : Q OwnThread
  pub process : Q OwnProcess
  pub second : Q SecondChance
  pub job : (t : Tables) → P t → Q (OfJob (own_job t n))
  pub job_debugger : (t : Tables) → P t → Q (OfJobDebugger (own_job t n))
  pub job_up : (t : Tables) (j i : ℕ) → P t → (job_at t j).parent ≡ Some i → Q (OfJob j)
      → Q (OfJob i)
  pub job_debugger_up : (t : Tables) (j i : ℕ) → P t → (job_at t j).parent ≡ Some i
      → Q (OfJobDebugger j) → Q (OfJobDebugger i)

nobody≢handler {ℓ} : {A : Type ℓ} {p : Place} → None ≡ Some p → A
nobody≢handler {p = p} e = absurd (let z : ◌≡◌ {A = ℕ} 0 1 = cc in omega arith)

handler_inj : {p q : Place} → Some p ≡ Some q → p ≡ q
handler_inj {p} {q} e = cc

pub none_found : {P : Tables → Type 0} {Q : Place → Type 0} (t : Tables) → P t
    → Found P Q (no_handler t)
none_found t x = record { left = x; place = λ p e. nobody≢handler e }

module _ (n : ℕ) (P : Tables → Type 0) (Q : Place → Type 0) (s : Passing n P Q) where
  try_at_found : (t : Tables) (p : Place) (k : Tables → Search) → P t → Q p
      → ((u : Tables) → P u → Found P Q (k u)) → Found P Q (try_at t n p k)
  unfolding try_at
  try_at_found t p k x y h =
      ite_on (Found P Q) _ _ _ (λ e. record { left = x; place = λ q f. subst Q (handler_inj f) y })
      (λ e. h (pass_over t n p) (s.pass t p y x))

  search_up_found : (m : ℕ) (at : ℕ → Place)
      → ((t : Tables) (j i : ℕ) → P t → (job_at t j).parent ≡ Some i → Q (at j) → Q (at i))
      → (t : Tables) (j : ℕ) → P t → Q (at j) → Found P Q (search_up m at t n j)
  unfolding search_up
  search_up_found zero at up t j x y = none_found t x
  search_up_found (suc m) at up t j x y =
      try_at_found t (at j) _ x y
      λ u z. on_parent_on (Found P Q) (job_at u j).parent _ _ (λ e. none_found u z)
      λ i e. search_up_found m at up u i z (up u j i z e y)

  from_jobs_found : (t : Tables) → P t → Found P Q (from_jobs t n)
  unfolding from_jobs
  from_jobs_found t x = search_up_found 32 OfJob s.job_up t (own_job t n) x (s.job t x)

  from_second_chance_found : (t : Tables) (second : Bool) → P t
      → Found P Q (from_second_chance t n second)
  unfolding from_second_chance
  from_second_chance_found t second x =
      if_on (Found P Q) second _ _ (λ e. try_at_found t SecondChance _ x s.second from_jobs_found)
      (λ e. from_jobs_found t x)

  from_process_found : (t : Tables) (second : Bool) → P t → Found P Q (from_process t n second)
  unfolding from_process
  from_process_found t second x =
      try_at_found t OwnProcess _ x s.process (λ u. from_second_chance_found u second)

  from_thread_found : (t : Tables) (second : Bool) → P t → Found P Q (from_thread t n second)
  unfolding from_thread
  from_thread_found t second x =
      try_at_found t OwnThread _ x s.thread (λ u. from_process_found u second)

  pub first_found : (r : Route) (t : Tables) → P t → Found P Q (first_handler r t n)
  unfolding first_handler from_debugger
  first_found Ordinary t x =
      try_at_found t Debugger _ x s.debugger (λ u. from_thread_found u false)
  first_found JobDebuggers t x =
      search_up_found 32 OfJobDebugger s.job_debugger_up t (own_job t n) x (s.job_debugger t x)
  first_found DebuggerOnly t x = try_at_found t Debugger _ x s.debugger none_found
  first_found ToExiting t x = none_found t x
  first_found NoType t x = none_found t x

  pub next_found : (p : Place) (t : Tables) (e : Exception) → P t → Q p
      → Found P Q (next_handler p t n e)
  unfolding next_handler
  next_found Debugger t e x y =
      if_on (Found P Q) (e.kind =? 0x8008) _ _ (λ h. none_found t x)
      (λ h. from_thread_found t e.second x)
  next_found OwnThread t e x y = from_process_found t e.second x
  next_found OwnProcess t e x y = from_second_chance_found t e.second x
  next_found SecondChance t e x y = from_jobs_found t x
  next_found (OfJob j) t e x y =
      on_parent_on (Found P Q) (job_at t j).parent _ _ (λ h. none_found t x)
      λ i h. search_up_found 32 OfJob s.job_up t i x (s.job_up t j i x h y)
  next_found (OfJobDebugger j) t e x y = none_found t x
  next_found Exiting t e x y = none_found t x
