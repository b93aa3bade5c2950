-- What each change of a thread leaves of its part of `Tree`. A change of a thread that is not Dead
-- is one law (`live_good`). Assumes nothing.
use Prim.Native.Nat.{ℕ}
use native.Mathlib.Omega.{arith}
use mathlib.Core.Path.{◌≡◌, refl, sym, ap, ◌∙◌}
use mathlib.Core.Bool.{Bool, true, false}
use borrow.Author.Tests.{eqb-true, eq-eqb}
use Rattle.laws.specs.Choice.{◌=?◌}
use Rattle.laws.proofs.Cases.{by, no_both, if_on}
use Rattle.record_exception.specs.declared.Level.{Level}
use Rattle.record_exception.specs.declared.Level.TheVariants.{Unbound}
use Rattle.record_exception.specs.declared.Place.TheVariants.{OfJob, OfJobDebugger}
use Rattle.record_exception.specs.declared.Exception.{Exception}
use Rattle.record_exception.specs.Channel.{is_shut}
use Rattle.record_thread.specs.declared.Waiting.{Waiting}
use Rattle.record_thread.specs.declared.Waiting.TheVariants.{NotWaiting, InWait, InException}
use Rattle.record_thread.specs.declared.Thread.{Thread}
use Rattle.record_thread.specs.Thread.{RUNNING, DYING, DEAD, no_thread, new_thread, start}
use Rattle.record_thread.specs.Thread.{without_exception, dying, kill, exit, finish, with_suspends}
use Rattle.record_thread.specs.Thread.{suspend, resume, waits, end_wait, with_level2}
use Rattle.records.specs.declared.tables.Tables.{Tables}
use Rattle.records.specs.Tables.{process_at}
use Rattle.claims.specs.Reachable.{AtOrAbove}
use Rattle.claims.proofs.Tree.Parts.{GoodThread}

-- a job whose handler has the exception is at or above the job of process p
pub record Placed (t : Tables) (p : ℕ) (w : Waiting) : Type 0 where
  pub handler : (j : ℕ) (e : Exception) → w ≡ InException e → e.place ≡ OfJob j
      → AtOrAbove t j (process_at t p).job
  pub debugger : (j : ℕ) (e : Exception) → w ≡ InException e → e.place ≡ OfJobDebugger j
      → AtOrAbove t j (process_at t p).job

idle≢held {ℓ} : {P : Type ℓ} {e : Exception} → NotWaiting ≡ InException e → P
idle≢held {e = e} h = absurd (let z : ◌≡◌ {A = ℕ} 0 1 = cc in omega arith)

wait≢held {ℓ} : {P : Type ℓ} {e : Exception} → InWait ≡ InException e → P
wait≢held {e = e} h = absurd (let z : ◌≡◌ {A = ℕ} 0 1 = cc in omega arith)

pub placed_idle : {t : Tables} {p : ℕ} → Placed t p NotWaiting
placed_idle = record { handler = λ j e h. idle≢held h; debugger = λ j e h. idle≢held h }

pub placed_wait : {t : Tables} {p : ℕ} → Placed t p InWait
placed_wait = record { handler = λ j e h. wait≢held h; debugger = λ j e h. wait≢held h }

-- an exception at a place
pub placed_at : {t : Tables} {p : ℕ} (e : Exception)
    → ((j : ℕ) → e.place ≡ OfJob j → AtOrAbove t j (process_at t p).job)
    → ((j : ℕ) → e.place ≡ OfJobDebugger j → AtOrAbove t j (process_at t p).job)
    → Placed t p (InException e)
placed_at {t} {p} e a b =
    record {
      handler = λ j f h q. a j (same f h ∙ q);
      debugger = λ j f h q. b j (same f h ∙ q);
    }
  where
    same : (f : Exception) → InException e ≡ InException f → e.place ≡ f.place
    same f h = let i : e ≡ f = cc in ap (λ (x : Exception). x.place) i

placed_without : {t : Tables} {p : ℕ} (w : Waiting) → Placed t p (without_exception w)
placed_without NotWaiting = placed_idle
placed_without InWait = placed_wait
placed_without (InException e) = placed_idle

pub new_thread_good : {t : Tables} (p : ℕ) → (process_at t p).made ≡ true
    → (process_at t p).listed ≡ true
    → GoodThread t (new_thread p)
new_thread_good p m l =
    record {
      unmade = λ h. no_both refl h;
      process_made = λ h. m;
      process_alive = λ h. l;
      on_list = λ h e. refl;
      unlisted = λ h. refl;
      dead_idle = λ h. refl;
      dead_started = λ h. absurd (omega arith);
      handler_above = λ j e h. idle≢held h;
      debugger_above = λ j e h. idle≢held h;
      level2_shut = refl;
    }

module _ {t : Tables} {v : Thread} (g : GoodThread t v) where
  pub placed : Placed t v.process v.waiting
  placed = record { handler = g.handler_above; debugger = g.debugger_above }

  -- of a thread that is not Dead: not Dead afterwards, in place, listed or not as before
  pub live_good : v.made ≡ true → (v.state =? DEAD) ≡ false → (w : Thread) → w.made ≡ true
      → w.listed ≡ v.listed → w.process ≡ v.process → (w.state =? DEAD) ≡ false
      → w.level2 ≡ v.level2 → Placed t v.process w.waiting → GoodThread t w
  live_good m d w wm wl wp wd w2 x =
      let dead : w.state ≡ DEAD → ⊥ = λ h. no_both (eq-eqb w.state DEAD h) wd in
      record {
        unmade = λ h. no_both wm h;
        process_made = λ h. rw wp (g.process_made m);
        process_alive = λ h. rw wp (g.process_alive (sym wl ∙ h));
        on_list = λ h e. wl ∙ g.on_list m d;
        unlisted = λ h. wd;
        dead_idle = λ h. absurd (dead h);
        dead_started = λ h. absurd (dead h);
        handler_above = λ j e. rw wp (x.handler j e);
        debugger_above = λ j e. rw wp (x.debugger j e);
        level2_shut = ap is_shut w2 ∙ g.level2_shut ∙ d ∙ sym wd;
      }

  pub start_good : v.made ≡ true → v.started ≡ false → GoodThread t (start v)
  start_good m s =
      live_good m
      (by (v.state =? DEAD)
      (λ e. no_both (g.dead_started (eqb-true v.state DEAD e)) s) (λ e. e))
      (start v) m refl refl refl refl placed

  dying_good : (b : Bool) → v.made ≡ true → (v.state =? DEAD) ≡ false → GoodThread t (dying v b)
  dying_good b m d = live_good m d (dying v b) m refl refl refl refl (placed_without v.waiting)

  pub kill_good : v.made ≡ true → GoodThread t (kill v)
  unfolding kill
  kill_good m = if_on (GoodThread t) (v.state =? DEAD) _ _ (λ e. g) (dying_good true m)

  pub exit_good : v.made ≡ true → GoodThread t (exit v)
  unfolding exit
  exit_good m =
      if_on (GoodThread t) (v.state =? DEAD) _ _ (λ e. g)
      (λ d. if_on (GoodThread t) (v.state =? DYING) _ _ (λ e. g)
      (λ e. dying_good v.killed m d))

  pub waits_good : (state : ℕ) (w : Waiting) → v.made ≡ true → (v.state =? DEAD) ≡ false
      → (state =? DEAD) ≡ false → Placed t v.process w → GoodThread t (waits v state w)
  waits_good state w m d e x = live_good m d (waits v state w) m refl refl e refl x

  pub end_wait_good : v.made ≡ true → (v.state =? DEAD) ≡ false → GoodThread t (end_wait v)
  unfolding end_wait
  end_wait_good m d =
      if_on (GoodThread t) (v.state =? DYING) _ _
      (λ e. waits_good DYING NotWaiting m d refl placed_idle)
      (λ e. waits_good RUNNING NotWaiting m d refl placed_idle)

  with_suspends_good : (n : ℕ) → v.made ≡ true → GoodThread t (with_suspends v n)
  with_suspends_good n m =
      record {
        unmade = λ h. no_both m h;
        process_made = g.process_made;
        process_alive = g.process_alive;
        on_list = g.on_list;
        unlisted = g.unlisted;
        dead_idle = g.dead_idle;
        dead_started = g.dead_started;
        handler_above = g.handler_above;
        debugger_above = g.debugger_above;
        level2_shut = g.level2_shut;
      }

  pub suspend_good : v.made ≡ true → GoodThread t (suspend v)
  unfolding suspend
  suspend_good m = if_on (GoodThread t) _ _ _ (λ e. g) (λ e. with_suspends_good _ m)

  pub resume_good : v.made ≡ true → GoodThread t (resume v)
  unfolding resume
  resume_good m = if_on (GoodThread t) _ _ _ (λ e. g) (λ e. with_suspends_good _ m)

  pub level2_good : (l : Level) → (v ≡ no_thread → l ≡ Unbound) → is_shut l ≡ is_shut v.level2
      → GoodThread t (with_level2 v l)
  level2_good l n e =
      record {
        unmade = λ h. let r = g.unmade h in
            ap (λ (x : Thread). with_level2 x l) r ∙ ap (λ x. with_level2 no_thread x) (n r);
        process_made = g.process_made;
        process_alive = g.process_alive;
        on_list = g.on_list;
        unlisted = g.unlisted;
        dead_idle = g.dead_idle;
        dead_started = g.dead_started;
        handler_above = g.handler_above;
        debugger_above = g.debugger_above;
        level2_shut = e ∙ g.level2_shut;
      }

  pub finish_good : v.made ≡ true → v.started ≡ true → v.waiting ≡ NotWaiting
      → GoodThread t (finish v)
  finish_good m s i =
      record {
        unmade = λ h. no_both m h;
        process_made = g.process_made;
        process_alive = λ h. no_both h refl;
        on_list = λ h e. no_both refl e;
        unlisted = λ h. no_both h refl;
        dead_idle = λ h. i;
        dead_started = λ h. s;
        handler_above = g.handler_above;
        debugger_above = g.debugger_above;
        level2_shut = refl;
      }
