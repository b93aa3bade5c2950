-- The place of the exception that thread n waits in, and what changes of the tables leave it: Q of that place
-- (`WaitsAt`) stays over each store, over a search of another thread and over a cascade. Assumes nothing.
use Prim.Native.Nat.{ℕ}
use native.Mathlib.Omega.{arith}
use mathlib.Core.Path.{◌≡◌, refl, sym, ap, subst}
use Rattle.laws.specs.Choice.{◌=?◌, ◌and◌, if◌then◌otherwise◌}
use Rattle.laws.specs.Guarded.{found}
use Rattle.laws.proofs.Cases.{if_on}
use Rattle.record_exception.specs.declared.Level.{Level}
use Rattle.record_exception.specs.declared.Place.{Place}
use Rattle.record_exception.specs.declared.Exception.{Exception}
use Rattle.record_thread.specs.declared.Waiting.{Waiting}
use Rattle.record_thread.specs.declared.Waiting.TheVariants.{NotWaiting, InWait, InException}
use Rattle.record_thread.specs.declared.Thread.{Thread}
use Rattle.record_thread.specs.Thread.{DEAD, DYING, without_exception, kill, exit, suspend, resume}
use Rattle.record_thread.specs.Thread.{thread_of, end_wait}
use Rattle.records.specs.declared.tables.Tables.{Tables}
use Rattle.records.specs.Tables.{thread_at, put_job, put_own, put_inherited, put_process, put_fixed}
use Rattle.records.specs.Tables.{put_thread, put_token}
use Rattle.records.specs.Owners.{put_level}
use Rattle.model.specs.Replies.{thread}
use Rattle.model.specs.SuspendToken.{PROCESS, change_in, change_task, suspend_task, resume_task}
use Rattle.model.proofs.TaskTables.{on_thread}
use Rattle.claims.proofs.ThreadMaps.{thread_at_map}
use Rattle.claims.proofs.Fixed.{Cascade}
use Rattle.claims.proofs.Fixed.{thread_stays}
use Rattle.claims.proofs.Found.{thread_is}
use Rattle.claims.proofs.Tree.Search.{Passed}

-- ---- The place of a wait -----------------------------------------------------------------------

-- Q of the place, if the wait is in an exception
pub record At (Q : Place → Type 0) (w : Waiting) : Type 0 where
  pub place : (e : Exception) → w ≡ InException e → Q e.place

pub idle≢held {ℓ} : {P : Type ℓ} {e : Exception} → NotWaiting ≡ InException e → P
idle≢held {e = e} h = absurd (let z : ◌≡◌ {A = ℕ} 0 1 = cc in omega arith)

wait≢held {ℓ} : {P : Type ℓ} {e : Exception} → InWait ≡ InException e → P
wait≢held {e = e} h = absurd (let z : ◌≡◌ {A = ℕ} 0 1 = cc in omega arith)

held_inj : {e f : Exception} → InException e ≡ InException f → e ≡ f
held_inj {e} {f} h = cc

module _ {Q : Place → Type 0} where
  pub at_idle : At Q NotWaiting
  at_idle = record { place = λ e h. idle≢held h }

  pub at_wait : At Q InWait
  at_wait = record { place = λ e h. wait≢held h }

  pub at_held : (e : Exception) → Q e.place → At Q (InException e)
  at_held e x =
      record { place = λ f h. subst (λ (y : Exception). Q y.place) (held_inj h) x }

  at_without : (w : Waiting) → At Q w → At Q (without_exception w)
  at_without NotWaiting x = x
  at_without InWait x = x
  at_without (InException e) x = at_idle

  pub at_kill : (v : Thread) → At Q v.waiting → At Q (kill v).waiting
  unfolding kill
  at_kill v x =
      if_on (λ (w : Thread). At Q w.waiting) _ _ _ (λ e. x) (λ e. at_without v.waiting x)

  pub at_exit : (v : Thread) → At Q v.waiting → At Q (exit v).waiting
  unfolding exit
  at_exit v x =
      if_on (λ (w : Thread). At Q w.waiting) (v.state =? DEAD) _ _ (λ e. x)
      (λ e. if_on (λ (w : Thread). At Q w.waiting) (v.state =? DYING) _ _ (λ h. x)
      (λ h. at_without v.waiting x))

  at_suspend : (v : Thread) → At Q v.waiting → At Q (suspend v).waiting
  unfolding suspend
  at_suspend v x = if_on (λ (w : Thread). At Q w.waiting) _ _ _ (λ e. x) (λ e. x)

  at_resume : (v : Thread) → At Q v.waiting → At Q (resume v).waiting
  unfolding resume
  at_resume v x = if_on (λ (w : Thread). At Q w.waiting) _ _ _ (λ e. x) (λ e. x)

  pub at_end_wait : (v : Thread) → At Q (end_wait v).waiting
  unfolding end_wait
  at_end_wait v = if_on (λ (w : Thread). At Q w.waiting) _ _ _ (λ e. at_idle) (λ e. at_idle)

-- Q of the place of thread n's exception
pub record WaitsAt (Q : Place → Type 0) (n : ℕ) (u : Tables) : Type 0 where
  pub wait : At Q (thread_at u n).waiting

-- ---- Changes ---------------------------------------------------------------------------------

module _ (Q : Place → Type 0) (n : ℕ) (t : Tables) (K : WaitsAt Q n t) where
  over : (u : Tables) → (thread_at u n).waiting ≡ (thread_at t n).waiting → WaitsAt Q n u
  over u e = record { wait = subst (At Q) (sym e) K.wait }

  pub put : (i : ℕ) (v : Thread) → (n ≡ i → At Q v.waiting) → WaitsAt Q n (put_thread t i v)
  put i v h =
      record { wait = on_thread (λ (w : Thread). At Q w.waiting) t i n v h K.wait }

  pub runs : (u : Tables) → Cascade t u → WaitsAt Q n u
  runs u c =
      record {
        wait = thread_stays (λ (w : Thread). At Q w.waiting) at_kill t u c n K.wait;
      }

  pub put_job_lem : (i : ℕ) → (v : _) → WaitsAt Q n (put_job t i v)
  unfolding put_job thread_at
  put_job_lem i v = over _ refl

  pub put_process_lem : (i : ℕ) → (v : _) → WaitsAt Q n (put_process t i v)
  unfolding put_process thread_at
  put_process_lem i v = over _ refl

  pub put_own_lem : (i : ℕ) → (v : _) → WaitsAt Q n (put_own t i v)
  unfolding put_own thread_at
  put_own_lem i v = over _ refl

  pub put_inherited_lem : (i : ℕ) → (v : _) → WaitsAt Q n (put_inherited t i v)
  unfolding put_inherited thread_at
  put_inherited_lem i v = over _ refl

  pub put_fixed_lem : (i : ℕ) → (v : _) → WaitsAt Q n (put_fixed t i v)
  unfolding put_fixed thread_at
  put_fixed_lem i v = over _ refl

  pub put_token_lem : (i : ℕ) → (v : _) → WaitsAt Q n (put_token t i v)
  unfolding put_token thread_at
  put_token_lem i v = over _ refl

  -- the thread that a lookup found
  pub own : (i : ℕ) (v : Thread) → thread t i ≡ found v → n ≡ i → At Q v.waiting
  own i v e h =
      subst (λ (w : Thread). At Q w.waiting) (thread_is t i v e).1
      (subst (λ (k : ℕ). At Q (thread_at t k).waiting) h K.wait)

  pub here : (i : ℕ) → n ≡ i → At Q (thread_at t i).waiting
  here i h = subst (λ (k : ℕ). At Q (thread_at t k).waiting) h K.wait

  -- f at each thread of a task
  task_at : (f : Thread → Thread) → ((v : Thread) → At Q v.waiting → At Q (f v).waiting)
      → (kind i : ℕ) → WaitsAt Q n (change_task f t kind i)
  unfolding change_task change_in thread_of ◌and◌ if◌then◌otherwise◌
  task_at f h kind i =
      if_on (WaitsAt Q n) (kind =? PROCESS) _ _
      (λ e. record {
        wait = subst (λ (w : Thread). At Q w.waiting)
            (sym (thread_at_map (change_in f i) refl t n))
            (if_on (λ (w : Thread). At Q w.waiting) (thread_of (thread_at t n) i) _ _
            (λ o. h (thread_at t n) K.wait) (λ o. K.wait));
      })
      (λ e. put i (f (thread_at t i)) (λ o. h (thread_at t i) (here i o)))

  pub suspend_at : (kind i : ℕ) → WaitsAt Q n (suspend_task t kind i)
  unfolding suspend_task
  suspend_at kind i = task_at suspend at_suspend kind i

  pub resume_at : (kind i : ℕ) → WaitsAt Q n (resume_task t kind i)
  unfolding resume_task
  resume_at kind i = task_at resume at_resume kind i

  pub level_at_lem : (level i : ℕ) (l : Level) → WaitsAt Q n (put_level t level i l)
  unfolding put_level
  level_at_lem level i l =
      if_on (WaitsAt Q n) (level =? 1) _ _ (λ e. put_process_lem i _)
      (λ a. if_on (WaitsAt Q n) (level =? 2) _ _ (λ e. put i _ (here i))
      (λ b. if_on (WaitsAt Q n) (level =? 3) _ _ (λ e. put_process_lem i _)
      (λ d. if_on (WaitsAt Q n) (level =? 4) _ _ (λ e. put_job_lem i _) (λ e. put_job_lem i _))))

  -- a search
  pub searched : (u : Tables) → Passed t u → WaitsAt Q n u
  searched u s = over u (ap (λ (v : Thread). v.waiting) (s.threads n))
