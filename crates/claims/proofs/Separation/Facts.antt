-- What the invariants say of a thread that acts: its own job and all above it run, and the handler
-- that holds its exception is at or above its own job. Assumes `Tree`, which every call keeps.
use Prim.Native.Nat.{ℕ}
use mathlib.Core.Path.{◌≡◌, refl, sym, ap, ◌∙◌}
use mathlib.Core.Bool.{Bool, true, false, not}
use borrow.Author.Tests.{eqb-true, not-true}
use Rattle.laws.specs.Choice.{◌=?◌}
use Rattle.laws.proofs.Cases.{by, no_both, and_left, and_right}
use Rattle.record_exception.specs.declared.Place.{Place}
use Rattle.record_exception.specs.declared.Place.TheVariants.{Debugger, OwnThread, OwnProcess}
use Rattle.record_exception.specs.declared.Place.TheVariants.{SecondChance, OfJob, OfJobDebugger}
use Rattle.record_exception.specs.declared.Place.TheVariants.{Exiting}
use Rattle.record_exception.specs.declared.Exception.{Exception}
use Rattle.record_thread.specs.declared.Waiting.TheVariants.{NotWaiting, InException}
use Rattle.record_thread.specs.declared.Thread.{Thread}
use Rattle.record_thread.specs.Thread.{DEAD, is_live, is_idle, is_free}
use Rattle.records.specs.declared.tables.Tables.{Tables}
use Rattle.records.specs.Tables.{job_at, thread_at}
use Rattle.model.specs.Exception.{process_of, own_job}
use Rattle.claims.specs.Reachable.{AtOrAbove, here, below, Tree}
use Rattle.claims.specs.Separation.{Trip}
use Rattle.claims.proofs.Separation.Agree.{Agree, JobFits, x_not_y}
use Rattle.claims.proofs.Separation.Frames.{RunsUp}
use Rattle.claims.proofs.Separation.SearchOne.{Within, Outside}
use Rattle.claims.proofs.Separation.SearchTwo.{Beside}
use Rattle.claims.proofs.Separation.HandlersTwo.{RunsFrom}

-- ---- Above a job -----------------------------------------------------------------------------

above_trans : {t : Tables} (d j i : ℕ) → AtOrAbove t d j → AtOrAbove t j i → AtOrAbove t d i
above_trans d j i a here = a
above_trans d j i a (below {p = p} e b) = below e (above_trans d j p a b)

-- below a trip's job all is the trip's
module _ {x y : Trip} {t : Tables} (f : (k : ℕ) → JobFits x y k (job_at t k)) where
  pub above_x : (d j : ℕ) → AtOrAbove t d j → x.jobs d ≡ true → x.jobs j ≡ true
  above_x d j here h = h
  above_x d j (below {p = p} e a) h = (f j).below_x p e (above_x d p a h)

  above_y : (d j : ℕ) → AtOrAbove t d j → y.jobs d ≡ true → y.jobs j ≡ true
  above_y d j here h = h
  above_y d j (below {p = p} e a) h = (f j).below_y p e (above_y d p a h)

  not_x : (d j : ℕ) → AtOrAbove t d j → x.jobs j ≡ false → x.jobs d ≡ false
  not_x d j a h = by (x.jobs d) (λ q. no_both (above_x d j a q) h) (λ q. q)

  not_y : (d j : ℕ) → AtOrAbove t d j → y.jobs j ≡ false → y.jobs d ≡ false
  not_y d j a h = by (y.jobs d) (λ q. no_both (above_y d j a q) h) (λ q. q)

-- ---- A thread that is not Dead ---------------------------------------------------------------

pub free_alive : (v : Thread) → is_free v ≡ true → (v.state =? DEAD) ≡ false
unfolding is_free is_live
free_alive v h =
    not-true (v.state =? DEAD)
    (and_right v.started (not (v.state =? DEAD)) (and_left (is_live v) (is_idle v) h))

module _ {t : Tables} (T : Tree t) where
  runs_at : (d j : ℕ) → AtOrAbove t d j → (job_at t j).terminated ≡ false → (job_at t d).terminated ≡ false
  runs_at d j here h = h
  runs_at d j (below {p = p} e a) h = runs_at d p a (T.parent_alive j p (T.job_listed j p e h) e)

  runs : (j : ℕ) → (job_at t j).terminated ≡ false → RunsUp t j
  runs j h d a = runs_at d j a h

  module _ (n : ℕ) (m : (thread_at t n).made ≡ true) where
    own_runs : ((thread_at t n).state =? DEAD) ≡ false → RunsUp t (own_job t n)
    own_runs h =
        runs (own_job t n)
        (T.job_alive (process_of t n) (T.process_alive n (T.thread_listed n m h)))

    pub waiting_alive : (e : Exception) → (thread_at t n).waiting ≡ InException e →
        ((thread_at t n).state =? DEAD) ≡ false
    waiting_alive e w =
        by ((thread_at t n).state =? DEAD)
        (λ h.
        let i : (thread_at t n).waiting ≡ NotWaiting = T.dead_idle n (eqb-true _ _ h) in
        let z : ◌≡◌ {A = Bool} true false = cc in no_both refl z)
        (λ h. h)

-- ---- A thread of x ---------------------------------------------------------------------------

module _ {x y : Trip} {s t : Tables} (r : Agree x y s t) (T : Tree s) (n : ℕ)
    (h : x.threads n ≡ true) (m : (thread_at s n).made ≡ true) where
  process_x : x.processes (process_of s n) ≡ true
  process_x = sym ((r.threads n).fits₁.of_x m) ∙ h

  own_x : x.jobs (own_job s n) ≡ true
  own_x = sym ((r.processes (process_of s n)).fits₁.of_x (T.process_made n m)) ∙ process_x

  pub within : Within x y t n s
  within =
      record {
        rel = r;
        thread = h;
        process = process_x;
        job = x_not_y r.apart
            (own_job s n) own_x;
      }

  pub outside_y : (e : Exception) → (thread_at s n).waiting ≡ InException e → (place : Place) →
      e.place ≡ place → Outside y place
  outside_y e w Debugger q = tt
  outside_y e w OwnThread q = tt
  outside_y e w OwnProcess q = tt
  outside_y e w SecondChance q = tt
  outside_y e w (OfJob j) q =
      not_y (λ k. (r.jobs k).fits₁) j (own_job s n) (T.handler_above n j e w q) within.job
  outside_y e w (OfJobDebugger j) q =
      not_y (λ k. (r.jobs k).fits₁) j (own_job s n) (T.debugger_above n j e w q) within.job
  outside_y e w Exiting q = tt

-- ---- A thread outside x ----------------------------------------------------------------------

module _ {x y : Trip} {s t : Tables} (r : Agree x y s t) (T : Tree s) (U : Tree t) (n : ℕ)
    (h : x.threads n ≡ false) (m : (thread_at s n).made ≡ true)
    (a : ((thread_at s n).state =? DEAD) ≡ false) where
  same : thread_at s n ≡ thread_at t n
  same = (r.threads n).same h

  made_t : (thread_at t n).made ≡ true
  made_t = ap (λ (v : Thread). v.made) (sym same) ∙ m

  alive_t : ((thread_at t n).state =? DEAD) ≡ false
  alive_t = ap (λ (v : Thread). v.state =? DEAD) (sym same) ∙ a

  process_out : x.processes (process_of s n) ≡ false
  process_out = sym ((r.threads n).fits₁.of_x m) ∙ h

  own_out : x.jobs (own_job s n) ≡ false
  own_out = sym ((r.processes (process_of s n)).fits₁.of_x (T.process_made n m)) ∙ process_out

  pub beside : Beside x y n s t
  beside =
      record {
        rel = r;
        thread = h;
        process = process_out;
        job = own_out;
        runs₁ = own_runs T n m a;
        runs₂ = own_runs U n made_t alive_t;
      }

  pub runs_from : (e : Exception) → (thread_at s n).waiting ≡ InException e → (place : Place) →
      e.place ≡ place → RunsFrom x s t place
  runs_from e w Debugger q = tt
  runs_from e w OwnThread q = tt
  runs_from e w OwnProcess q = tt
  runs_from e w SecondChance q = tt
  runs_from e w (OfJob j) q =
      let b : AtOrAbove s j (own_job s n) = T.handler_above n j e w q in
      let c : AtOrAbove t j (own_job t n) =
      U.handler_above n j e (ap (λ (v : Thread). v.waiting) (sym same) ∙ w) q in (
        not_x (λ k. (r.jobs k).fits₁) j (own_job s n) b own_out,
        λ d i. beside.runs₁ d (above_trans d j (own_job s n) i b),
        λ d i. beside.runs₂ d (above_trans d j (own_job t n) i c),
      )
  runs_from e w (OfJobDebugger j) q = tt
  runs_from e w Exiting q = tt
