-- What stores leave of the records that they do not write (`Kept`): a made name stays made, at its
-- place. Along it a record's part of `Tree` goes from one state to the next. Assumes nothing.
use Rattle.std.proofs.Common.{Option}
use Rattle.std.proofs.lemmas.Option.{none-some}
use Rattle.std.proofs.Common.{Some, None}
use Prim.Native.Nat.{ℕ}
use mathlib.Core.Path.{◌≡◌, refl, sym, ap, ◌∙◌}
use mathlib.Core.Bool.{true, false}
use Rattle.laws.specs.Choice.{◌=?◌}
use Rattle.laws.proofs.Cases.{by, no_both, if_on, if_two}
use Rattle.job_policy.specs.declared.JobPolicy.{JobPolicy}
use Rattle.record_job.specs.declared.Job.{Job}
use Rattle.record_process.specs.declared.Process.{Process}
use Rattle.record_thread.specs.declared.Waiting.{Waiting}
use Rattle.record_thread.specs.declared.Thread.{Thread}
use Rattle.record_thread.specs.Thread.{is_waiting}
use Rattle.record_token.specs.declared.SuspendToken.{SuspendToken}
use Rattle.record_token.specs.SuspendToken.{number}
use Rattle.records.specs.declared.tables.Tables.{Tables}
use Rattle.records.specs.Tables.{job_at, process_at, thread_at, found_job, found_process, found_thread}
use Rattle.records.specs.Owners.{found_task, as_task}
use Rattle.claims.specs.Reachable.{AtOrAbove, here, below}
use Rattle.claims.proofs.Tree.Parts.{GoodJob, GoodProcess, GoodThread, GoodToken}

-- a made name stays made, at its place
pub record Kept (t u : Tables) : Type 0 where
  pub job : (j : ℕ) → (job_at t j).made ≡ true → (job_at u j).made ≡ true
  pub parent : (j p : ℕ) → (job_at t j).parent ≡ Some p → (job_at u j).parent ≡ Some p
  pub root : (job_at t 0).parent ≡ None → (job_at u 0).parent ≡ None
  pub process : (p : ℕ) → (process_at t p).made ≡ true → (process_at u p).made ≡ true
  pub home : (p : ℕ) → (process_at t p).made ≡ true → (process_at u p).job ≡ (process_at t p).job
  pub thread : (n : ℕ) → (thread_at t n).made ≡ true → (thread_at u n).made ≡ true

pub above_over : {t u : Tables} {j i : ℕ}
    → ((i p : ℕ) → (job_at t i).parent ≡ Some p → (job_at u i).parent ≡ Some p)
    → AtOrAbove t j i → AtOrAbove u j i
above_over m here = here
above_over m (below {i = i} {p = p} e r) = below (m i p e) (above_over m r)

-- an unmade thread waits for nothing
waiting_made : {t : Tables} {v : Thread} → GoodThread t v → {w : Waiting} → v.waiting ≡ w
    → is_waiting w ≡ true → v.made ≡ true
waiting_made {v = v} g e h =
    by v.made (λ m. m)
    (λ m. no_both h (ap is_waiting (sym e) ∙ ap (λ (x : Thread). is_waiting x.waiting)
    (g.unmade m)))

-- a task that is found is made
module _ (t : Tables) (n : ℕ) where
  pub found_job_lem : as_task (found_job t n) ≡ Some tt → (job_at t n).made ≡ true
  unfolding found_job as_task
  found_job_lem =
      if_on (λ (x : Option Job). as_task x ≡ Some tt → (job_at t n).made ≡ true) _ _ _ (λ h e. h)
      (λ h e. absurd (none-some _ e))

  pub found_process_lem : as_task (found_process t n) ≡ Some tt → (process_at t n).made ≡ true
  unfolding found_process as_task
  found_process_lem =
      if_on (λ (x : Option Process). as_task x ≡ Some tt → (process_at t n).made ≡ true) _ _ _ (λ h e. h)
      (λ h e. absurd (none-some _ e))

  pub found_thread_lem : as_task (found_thread t n) ≡ Some tt → (thread_at t n).made ≡ true
  unfolding found_thread as_task
  found_thread_lem =
      if_on (λ (x : Option Thread). as_task x ≡ Some tt → (thread_at t n).made ≡ true) _ _ _ (λ h e. h)
      (λ h e. absurd (none-some _ e))

  pub job_found : (job_at t n).made ≡ true → as_task (found_job t n) ≡ Some tt
  unfolding found_job as_task
  job_found m = if_on (λ (x : Option Job). as_task x ≡ Some tt) _ _ _ (λ h. refl) (λ h. no_both m h)

  pub process_found : (process_at t n).made ≡ true → as_task (found_process t n) ≡ Some tt
  unfolding found_process as_task
  process_found m = if_on (λ (x : Option Process). as_task x ≡ Some tt) _ _ _ (λ h. refl) (λ h. no_both m h)

  pub thread_found : (thread_at t n).made ≡ true → as_task (found_thread t n) ≡ Some tt
  unfolding found_thread as_task
  thread_found m = if_on (λ (x : Option Thread). as_task x ≡ Some tt) _ _ _ (λ h. refl) (λ h. no_both m h)

pub found_task_over : {t u : Tables} → Kept t u → (kind n : ℕ) → found_task t kind n ≡ Some tt
    → found_task u kind n ≡ Some tt
unfolding found_task
found_task_over {t} {u} k kind n =
    if_two (λ x y. x ≡ Some tt → y ≡ Some tt) (kind =? 0) (kind =? 0) _ _ _ _ refl
    (λ a b e. job_found u n (k.job n (found_job_lem t n e)))
    λ a b. if_two (λ x y. x ≡ Some tt → y ≡ Some tt) (kind =? 1) (kind =? 1) _ _ _ _ refl
    (λ c d e. process_found u n (k.process n (found_process_lem t n e)))
    (λ c d e. thread_found u n (k.thread n (found_thread_lem t n e)))

module _ {t u : Tables} (k : Kept t u) where
  pub job_over : {j : ℕ} {v : Job} {own inherited : JobPolicy}
      → ((p : ℕ) → v.listed ≡ true → v.parent ≡ Some p → (job_at t p).terminated ≡ false
      → (job_at u p).terminated ≡ false)
      → GoodJob t j v own inherited → GoodJob u j v own inherited
  job_over alive g =
      record {
        unmade = g.unmade;
        orphan_root = g.orphan_root;
        parent_made = λ p e. k.job p (g.parent_made p e);
        terminated_killed = g.terminated_killed;
        on_list = g.on_list;
        unlisted = g.unlisted;
        parent_alive = λ p l e. alive p l e (g.parent_alive p l e);
        level4_shut = g.level4_shut;
        level5_shut = g.level5_shut;
      }

  pub process_over : {q : Process} {fixed : JobPolicy}
      → (q.listed ≡ true → (job_at t q.job).terminated ≡ false
      → (job_at u q.job).terminated ≡ false)
      → GoodProcess t q fixed → GoodProcess u q fixed
  process_over {q = q} alive g =
      record {
        unmade = g.unmade;
        job_made = λ m. k.job q.job (g.job_made m);
        job_alive = λ l. alive l (g.job_alive l);
        on_list = g.on_list;
        unlisted = g.unlisted;
        terminated_exited = g.terminated_exited;
        bound_above = λ j b e. above_over k.parent (g.bound_above j b e);
        level1_shut = g.level1_shut;
        level3_shut = g.level3_shut;
      }

  pub thread_over : {v : Thread}
      → (v.listed ≡ true → (process_at t v.process).listed ≡ true
      → (process_at u v.process).listed ≡ true)
      → GoodThread t v → GoodThread u v
  thread_over {v = v} alive g =
      let over : (j : ℕ) → v.made ≡ true → AtOrAbove t j (process_at t v.process).job
      → AtOrAbove u j (process_at u v.process).job =
      λ j m a. rw (k.home v.process (g.process_made m)) (above_over k.parent a) in
      record {
        unmade = g.unmade;
        process_made = λ m. k.process v.process (g.process_made m);
        process_alive = λ l. alive l (g.process_alive l);
        on_list = g.on_list;
        unlisted = g.unlisted;
        dead_idle = g.dead_idle;
        dead_started = g.dead_started;
        handler_above = λ j e w h. over j (waiting_made g w refl) (g.handler_above j e w h);
        debugger_above = λ j e w h. over j (waiting_made g w refl) (g.debugger_above j e w h);
        level2_shut = g.level2_shut;
      }

  pub token_over : {v : SuspendToken} → GoodToken t v → GoodToken u v
  token_over {v = v} g =
      record {
        unmade = g.unmade;
        held_made = g.held_made;
        held_kind = g.held_kind;
        task_made = λ a h. found_task_over k (number a.kind) a.name (g.task_made a h);
      }
