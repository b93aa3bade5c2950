-- A closing leaves an exception at a lower place, or ends it: `closing`. Places stand in the order
-- in which an exception goes through them (`height`); jobs have a rank r that falls from each to
-- its parent. Assumes nothing.
use Rattle.std.proofs.Common.{Option, Some, None}
use Prim.Native.Nat.{ℕ, zero, suc, ◌<◌, ◌≤◌}
use native.Mathlib.Omega.{arith}
use mathlib.Core.Path.{◌≡◌, refl, sym, ap, ◌∙◌, subst}
use mathlib.Core.Bool.{Bool, true}
use borrow.Author.Tests.{lt-leb}
use Rattle.laws.specs.Choice.{◌=?◌}
use Rattle.laws.specs.Guarded.{found}
use Rattle.laws.proofs.Cases.{no_both, ite_on, if_on}
use Rattle.laws.proofs.Flow.{passes, finds, accepts}
use Rattle.record_exception.specs.declared.Place.{Place}
use Rattle.record_exception.specs.declared.Place.TheVariants.{Debugger, OwnThread, OwnProcess}
use Rattle.record_exception.specs.declared.Place.TheVariants.{SecondChance, OfJob, OfJobDebugger}
use Rattle.record_exception.specs.declared.Place.TheVariants.{Exiting}
use Rattle.record_exception.specs.declared.Exception.{Exception}
use Rattle.record_exception.specs.Exception.{exception_at}
use Rattle.record_job.specs.declared.Job.{Job}
use Rattle.record_thread.specs.declared.Waiting.{Waiting}
use Rattle.record_thread.specs.declared.Waiting.TheVariants.{InException}
use Rattle.record_thread.specs.declared.Thread.{Thread}
use Rattle.record_thread.specs.Thread.{held_in}
use Rattle.records.specs.declared.tables.Tables.{Tables}
use Rattle.reply.specs.declared.Reply.{Reply}
use Rattle.reply.specs.Reply.{answered}
use Rattle.records.specs.Tables.{job_at, thread_at, found_thread}
use Rattle.model.specs.declared.Search.{Search}
use Rattle.model.specs.Replies.{present, thread, held_exception, exception}
use Rattle.model.specs.Exception.{pass_over, try_at, search_up, own_job, from_jobs}
use Rattle.model.specs.Exception.{from_second_chance, from_process, from_thread, next_handler}
use Rattle.model.specs.Exception.{over_tables, unhandled, deliver, close}
use Rattle.model.specs.ExceptionCalls.{close_exception}
use Rattle.model.specs.Step.{cmd15, step}
use Rattle.claims.specs.Reachable.{Tree}
use Rattle.model.proofs.TaskTables.{made_thread_in, put_thread_made}
use Rattle.claims.proofs.Fixed.{cascade_exit}
use Rattle.model.proofs.Keeps.{on_parent_on}
use Rattle.claims.proofs.Found.{After}
use Rattle.claims.proofs.Searches.{Found, none_found}
use Rattle.claims.proofs.Tree.Search.{Passed, pass_over_passed, own_job_same}
use Rattle.claims.proofs.Tree.Raise.{reply_on}
use Rattle.claims.proofs.Closings.Places.{at_held, at_end_wait, WaitsAt, runs}

-- how many closings an exception at a place has left at most
abbrev pub height : (ℕ → ℕ) → Place → ℕ
height r Debugger = 35
height r OwnThread = 34
height r OwnProcess = 33
height r SecondChance = 32
height r (OfJob j) = r j
height r (OfJobDebugger j) = 0
height r Exiting = 0

pub record Below (r : ℕ → ℕ) (m : ℕ) (p : Place) : Type 0 where
  pub low : height r p < m

-- what a search keeps, and what makes its places fall
pub record Ready (r : ℕ → ℕ) (n : ℕ) (t : Tables) : Type 0 where
  pub falls : (j i : ℕ) → (job_at t j).parent ≡ Some i → r i < r j
  pub own : r (own_job t n) < 32
  pub made : (thread_at t n).made ≡ true

handler_inj : {p q : Place} → Some p ≡ Some q → p ≡ q
handler_inj {p} {q} e = cc

-- ---- The search after a closing ----------------------------------------------------------------

module _ (r : ℕ → ℕ) (n : ℕ) where
  passed_ready : (t u : Tables) → Passed t u → Ready r n t → Ready r n u
  passed_ready t u s R =
      record {
        falls = λ j i e. R.falls j i (sym (ap (λ (v : Job). v.parent) (s.jobs j)) ∙ e);
        own = rw (own_job_same s n) R.own;
        made = ap (λ (v : Thread). v.made) (s.threads n) ∙ R.made;
      }

  module _ (m : ℕ) where
    try_at_low : (t : Tables) (p : Place) (k : Tables → Search) → Ready r n t → height r p < m
        → ((u : Tables) → Ready r n u → Found (Ready r n) (Below r m) (k u))
        → Found (Ready r n) (Below r m) (try_at t n p k)
    unfolding try_at
    try_at_low t p k R h f =
        ite_on (Found (Ready r n) (Below r m)) _ _ _
        (λ e. record {
          left = R;
          place = λ q o. subst (Below r m) (handler_inj o) (record { low = h });
        })
        (λ e. f (pass_over t n p) (passed_ready t _ (pass_over_passed t n p) R))

    search_up_low : (k : ℕ) (t : Tables) (j : ℕ) → Ready r n t → r j < m
        → Found (Ready r n) (Below r m) (search_up k OfJob t n j)
    unfolding search_up
    search_up_low zero t j R h = none_found t R
    search_up_low (suc k) t j R h =
        try_at_low t (OfJob j) _ R h
        λ u S. on_parent_on (Found (Ready r n) (Below r m)) (job_at u j).parent _ _
        (λ e. none_found u S)
        λ i e. search_up_low k u i S (omega (arith, S.falls j i e))

    from_jobs_low : 32 ≤ m → (t : Tables) → Ready r n t
        → Found (Ready r n) (Below r m) (from_jobs t n)
    unfolding from_jobs
    from_jobs_low h t R = search_up_low 32 t (own_job t n) R (omega (arith, R.own))

    from_second_chance_low : 33 ≤ m → (t : Tables) (second : Bool) → Ready r n t
        → Found (Ready r n) (Below r m) (from_second_chance t n second)
    unfolding from_second_chance
    from_second_chance_low h t second R =
        if_on (Found (Ready r n) (Below r m)) second _ _
        (λ e. try_at_low t SecondChance _ R (omega arith) (from_jobs_low (omega arith)))
        (λ e. from_jobs_low (omega arith) t R)

    from_process_low : 34 ≤ m → (t : Tables) (second : Bool) → Ready r n t
        → Found (Ready r n) (Below r m) (from_process t n second)
    unfolding from_process
    from_process_low h t second R =
        try_at_low t OwnProcess _ R (omega arith)
        (λ u. from_second_chance_low (omega arith) u second)

    from_thread_low : 35 ≤ m → (t : Tables) (second : Bool) → Ready r n t
        → Found (Ready r n) (Below r m) (from_thread t n second)
    unfolding from_thread
    from_thread_low h t second R =
        try_at_low t OwnThread _ R (omega arith) (λ u. from_process_low (omega arith) u second)

  next_low : (p : Place) (t : Tables) (e : Exception) → Ready r n t
      → Found (Ready r n) (Below r (height r p)) (next_handler p t n e)
  unfolding next_handler
  next_low Debugger t e R =
      if_on (Found (Ready r n) (Below r 35)) (e.kind =? 0x8008) _ _ (λ h. none_found t R)
      (λ h. from_thread_low 35 (omega arith) t e.second R)
  next_low OwnThread t e R = from_process_low 34 (omega arith) t e.second R
  next_low OwnProcess t e R = from_second_chance_low 33 (omega arith) t e.second R
  next_low SecondChance t e R = from_jobs_low 32 (omega arith) t R
  next_low (OfJob j) t e R =
      on_parent_on (Found (Ready r n) (Below r (r j))) (job_at t j).parent _ _
      (λ h. none_found t R) λ i h. search_up_low (r j) 32 t _ R (R.falls j i h)
  next_low (OfJobDebugger j) t e R = none_found t R
  next_low Exiting t e R = none_found t R

  -- ---- What becomes of the thread ------------------------------------------------------------

  module _ (Q : Place → Type 0) where
    over_at : (t : Tables) → (thread_at t n).made ≡ true → WaitsAt Q n (over_tables t n)
    over_at t m =
        record {
          wait = rw (put_thread_made t n _ m) (at_end_wait (thread_at t n));
        }

    unhandled_at : (t : Tables) (kind : ℕ) → (thread_at t n).made ≡ true
        → WaitsAt Q n (unhandled t n kind)
    unfolding unhandled
    unhandled_at t kind m =
        if_on (WaitsAt Q n) _ _ _ (λ e. over_at t m)
        (λ e. runs Q n _ (over_at t m) _ (cascade_exit _ _ _))

    deliver_at : (h : Option Place) (t : Tables) (kind : ℕ) (second : Bool)
        → (thread_at t n).made ≡ true → ((p : Place) → h ≡ Some p → Q p)
        → After (WaitsAt Q n) (deliver h t n kind second)
    unfolding deliver
    deliver_at None t kind second m f = reply_on _ _ _ (unhandled_at t kind m)
    deliver_at (Some p) t kind second m f =
        reply_on _ _ _ (record {
          wait = rw (put_thread_made t n _ m) (at_held (exception_at kind p second) (f p refl));
        })

  close_low : (t : Tables) (e : Exception) → Ready r n t
      → After (WaitsAt (Below r (height r e.place)) n) (close t n e)
  unfolding close
  close_low t e R =
      let Q : Place → Type 0 = Below r (height r e.place) in
      let f : Found (Ready r n) Q (next_handler e.place t n e) = next_low e.place t e R in
      let s : Search = next_handler e.place t n e in
      if_on (After (WaitsAt Q n)) _ _ _ (λ h. reply_on _ _ _ (over_at Q t R.made))
      (λ h. deliver_at Q s.at s.tables e.kind e.second f.left.made f.place)

-- ---- The call ----------------------------------------------------------------------------------

module _ (t : Tables) (n : ℕ) where
  made_found : (thread_at t n).made ≡ true → thread t n ≡ found (thread_at t n)
  unfolding present found_thread
  made_found m =
      if_on (λ x. present x ≡ found (thread_at t n)) _ _ _ (λ e. refl) (λ e. no_both m e)

  held_found : (e : Exception) → (thread_at t n).waiting ≡ InException e
      → exception (thread_at t n) ≡ found e
  unfolding held_exception
  held_found e w = ap (λ (x : Waiting). held_exception (held_in x)) w

  closed : (e : Exception) → Tree t → (thread_at t n).made ≡ true
      → (thread_at t n).waiting ≡ InException e → close t n e ≡ step t (cmd15 n)
  unfolding step close_exception
  closed e T m w =
      passes (answered t) _ _
      (lt-leb 128 n (omega (arith, made_thread_in t n m, T.sized.threads)))
      (finds (answered t) _ (thread_at t n) (made_found m)
      (finds (answered t) _ e (held_found e w) (accepts (answered t) refl)))

  pub closing : (r : ℕ → ℕ) (e : Exception) → Tree t → Ready r n t
      → (thread_at t n).waiting ≡ InException e
      → WaitsAt (Below r (height r e.place)) n (step t (cmd15 n)).tables
  closing r e T R w =
      subst (λ (x : Reply). WaitsAt (Below r (height r e.place)) n x.tables)
      (closed e T R.made w) (close_low r n t e R).tables
