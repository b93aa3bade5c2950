-- The calls on threads, their waits and suspend tokens keep `Tree`. Assumes nothing.
use Rattle.std.proofs.Common.{Some}
use Rattle.std.proofs.lemmas.Option.{none-some, same_Some}
use Prim.Native.Nat.{ℕ}
use mathlib.Core.Path.{◌≡◌, refl, sym, ap, ◌∙◌, subst}
use mathlib.Core.Bool.{true, false}
use mathlib.Core.List.{map}
use borrow.Author.Tests.{not-false, eqb-true}
use Rattle.laws.specs.Choice.{◌=?◌, ◌and◌, ◌or◌, if◌then◌otherwise◌}
use Rattle.laws.specs.Guarded.{found}
use Rattle.laws.proofs.Cases.{by, no_both, if_on, ok_on, guard_on, find_on}
use Rattle.record_process.specs.declared.Process.{Process}
use Rattle.record_process.specs.Process.{is_exited}
use Rattle.record_thread.specs.declared.Waiting.{Waiting}
use Rattle.record_thread.specs.declared.Waiting.TheVariants.{NotWaiting, InWait, InException}
use Rattle.record_thread.specs.declared.Thread.{Thread}
use Rattle.record_thread.specs.Thread.{DYING, DEAD, no_thread, new_thread, start, kill, exit}
use Rattle.record_thread.specs.Thread.{waits_plainly, is_free, thread_of, suspend, resume, waits}
use Rattle.record_thread.specs.Thread.{end_wait, is_waiting}
use Rattle.record_token.proofs.Numbers.{numbered, not_job}
use Rattle.record_token.specs.SuspendToken.{number, kind_of, new_token, drop}
use Rattle.records.specs.declared.tables.Tables.{Tables}
use Rattle.records.specs.Tables.{job_at, process_at, thread_at, token_at, put_thread, with_threads}
use Rattle.records.specs.Owners.{found_task}
use Rattle.model.specs.Replies.{thread}
use Rattle.model.specs.SuspendToken.{PROCESS, change_in, change_task, suspend_task, resume_task}
use Rattle.model.specs.SuspendToken.{create_token, drop_token}
use Rattle.model.specs.ThreadCalls.{create_thread, start_thread, kill_thread, exit_thread}
use Rattle.model.specs.ThreadCalls.{finish_thread_call, thread_info, thread_information}
use Rattle.model.specs.ThreadCalls.{is_wait_state, wait_begun, begin_wait, wait_polled, poll_wait}
use Rattle.model.specs.ThreadCalls.{create_token_call, drop_token_call, suspend_call, resume_call}
use Rattle.claims.specs.Reachable.{Tree}
use Rattle.model.proofs.TaskTables.{keep_thread}
use Rattle.claims.proofs.ThreadMaps.{thread_at_map, kill_keeps}
use Rattle.claims.proofs.Found.{After, answered_on, call_on, accept_on, process_is}
use Rattle.claims.proofs.Found.{thread_is, token_is, task_is}
use Rattle.claims.proofs.Tree.Parts.{GoodThread, good_thread}
use Rattle.claims.proofs.Tree.Over.{Kept, found_thread_lem, found_task_over}
use Rattle.claims.proofs.Tree.Puts.{kept_of, put_thread_tree, map_threads_tree, put_token_tree}
use Rattle.claims.proofs.Tree.Threads.{new_thread_good, start_good, kill_good, exit_good}
use Rattle.claims.proofs.Tree.Threads.{placed_wait, suspend_good, resume_good}
use Rattle.claims.proofs.Tree.Cascade.{tree_finish}
use Rattle.claims.proofs.Tree.Raise.{free_started, free_alive, free_idle, waiting_alive}
use Rattle.claims.proofs.Tree.Raise.{reply_on, tree_over, tree_waits}
use Rattle.claims.proofs.Tree.JobCalls.{unexited_alive}

-- ---- Threads ---------------------------------------------------------------------------------

module _ {t : Tables} (T : Tree t) where
  pub create_thread_tree : (p new : ℕ) → After Tree (create_thread t p new)
  unfolding create_thread
  create_thread_tree p new =
      call_on t _ T (guard_on λ a. guard_on λ b. find_on λ q e. guard_on λ c. guard_on λ d.
      let f = process_is t p q e in
      let x : is_exited (process_at t p).status ≡ false =
      ap (λ (w : Process). is_exited w.status) f.1 ∙ d in
      accept_on _ (put_thread_tree t T new (new_thread p)
      (new_thread_good p f.0 (T.process_listed p f.0 (unexited_alive T p x)))
      (λ h. no_both h c)))

  found_thread_good : (n : ℕ) (v : Thread) → thread t n ≡ found v
      → (v.made ≡ true) × GoodThread t v
  found_thread_good n v e =
      let f = thread_is t n v e in (
        ap (λ (w : Thread). w.made) (sym f.1) ∙ f.0,
        subst (GoodThread t) f.1
            (good_thread T n),
      )

  pub start_thread_tree : (n : ℕ) → After Tree (start_thread t n)
  unfolding start_thread
  start_thread_tree n =
      call_on t _ T (guard_on λ a. find_on λ v e. guard_on λ c.
      let f = found_thread_good n v e in
      accept_on _ (put_thread_tree t T n (start v) (start_good f.1 f.0 c) (λ h. f.0)))

  pub kill_thread_tree : (n : ℕ) → After Tree (kill_thread t n)
  unfolding kill_thread
  kill_thread_tree n =
      call_on t _ T (guard_on λ a. find_on λ v e.
      let f = found_thread_good n v e in
      accept_on _ (put_thread_tree t T n (kill v) (kill_good f.1 f.0)
      (λ h. kill_keeps (λ w. w.made) (λ w. refl) v ∙ f.0)))

  exit_made : (v : Thread) → (exit v).made ≡ v.made
  unfolding exit
  exit_made v =
      if_on (λ (w : Thread). w.made ≡ v.made) (v.state =? DEAD) _ _ (λ e. refl)
      (λ e. if_on (λ (w : Thread). w.made ≡ v.made) (v.state =? DYING) _ _ (λ h. refl)
      (λ h. refl))

  pub exit_thread_tree : (n : ℕ) → After Tree (exit_thread t n)
  unfolding exit_thread
  exit_thread_tree n =
      call_on t _ T (guard_on λ a. find_on λ v e. guard_on λ c.
      let f = found_thread_good n v e in
      accept_on _ (put_thread_tree t T n (exit v) (exit_good f.1 f.0)
      (λ h. exit_made v ∙ f.0)))

  pub finish_thread_call_tree : (n : ℕ) → After Tree (finish_thread_call t n)
  unfolding finish_thread_call
  finish_thread_call_tree n =
      call_on t _ T (guard_on λ a. find_on λ v e. guard_on λ c.
      let f = thread_is t n v e in
      let g : is_free (thread_at t n) ≡ true = ap is_free f.1 ∙ not-false _ c in
      accept_on _ (tree_finish T n f.0 (free_started _ g) (free_idle _ g)))

  pub thread_information_tree : (n : ℕ) → After Tree (thread_information t n)
  unfolding thread_information thread_info
  thread_information_tree n =
      call_on t _ T (guard_on λ a. find_on λ v e. ok_on (reply_on _ _ _ T))

  -- ---- Waits ---------------------------------------------------------------------------------

  wait_alive : (state : ℕ) → is_wait_state state ≡ true → (state =? DEAD) ≡ false
  unfolding is_wait_state ◌or◌ ◌and◌
  wait_alive state h =
      by (state =? DEAD)
      (λ d. no_both (subst (λ (s : ℕ). is_wait_state s ≡ true) (eqb-true state DEAD d) h) refl)
      (λ d. d)

  pub begin_wait_tree : (n state : ℕ) → After Tree (begin_wait t n state)
  unfolding begin_wait wait_begun
  begin_wait_tree n state =
      call_on t _ T (guard_on λ s. guard_on λ a. find_on λ v e. guard_on λ c.
      let f = thread_is t n v e in
      let g : is_free (thread_at t n) ≡ true = ap is_free f.1 ∙ not-false _ c in
      ok_on (if_on (After Tree) _ _ _ (λ h. answered_on _ _ T)
      (λ h. answered_on _ _
      (subst (λ (w : Thread). Tree (put_thread t n (waits w state InWait))) f.1
      (tree_waits T n f.0 (free_alive _ g) state InWait (wait_alive state (not-false _ s))
      placed_wait)))))

  plain_waiting : (w : Waiting) → waits_plainly w ≡ true → is_waiting w ≡ true
  plain_waiting NotWaiting e = e
  plain_waiting InWait e = refl
  plain_waiting (InException x) e = refl

  pub poll_wait_tree : (n ready : ℕ) → After Tree (poll_wait t n ready)
  unfolding poll_wait wait_polled
  poll_wait_tree n ready =
      call_on t _ T (guard_on λ s. guard_on λ a. find_on λ v e. guard_on λ c.
      let f = thread_is t n v e in
      ok_on (if_on (After Tree) _ _ _ (λ h. answered_on _ _ T)
      (λ h. answered_on _ _ (subst (λ (w : Thread). Tree (put_thread t n (end_wait w))) f.1
      (tree_over T n f.0
      (waiting_alive T n v.waiting (ap (λ (w : Thread). w.waiting) f.1)
      (plain_waiting v.waiting (not-false _ c))))))))

-- ---- Suspending ------------------------------------------------------------------------------

suspend_made : (v : Thread) → (suspend v).made ≡ v.made
unfolding suspend
suspend_made v = if_on (λ (w : Thread). w.made ≡ v.made) _ _ _ (λ e. refl) (λ e. refl)

resume_made : (v : Thread) → (resume v).made ≡ v.made
unfolding resume
resume_made v = if_on (λ (w : Thread). w.made ≡ v.made) _ _ _ (λ e. refl) (λ e. refl)

module _ {t : Tables} (T : Tree t) (f : Thread → Thread) (fm : (v : Thread) → (f v).made ≡ v.made)
    (g : (v : Thread) → GoodThread t v → v.made ≡ true → GoodThread t (f v)) where
  change_in_made : (p : ℕ) (v : Thread) → (change_in f p v).made ≡ v.made
  unfolding change_in
  change_in_made p v =
      if_on (λ (w : Thread). w.made ≡ v.made) (thread_of v p) _ _ (λ e. fm v) (λ e. refl)

  change_none : (p : ℕ) → change_in f p no_thread ≡ no_thread
  unfolding change_in thread_of ◌and◌ if◌then◌otherwise◌
  change_none p = refl

  -- of a process, or of a made thread
  change_task_tree : (kind n : ℕ) → ((kind =? 1) ≡ false → (thread_at t n).made ≡ true)
      → Tree (change_task f t kind n)
  unfolding change_task change_in thread_of ◌and◌
  change_task_tree kind n m =
      if_on Tree (kind =? PROCESS) _ _
      (λ e. map_threads_tree t T (change_in f n) (change_none n)
      (λ v h. if_on (GoodThread t) (thread_of v n) _ _
      (λ o. g v h (by v.made (λ c. c)
      (λ c. no_both o (ap (λ (w : Thread). thread_of w n) (h.unmade c))))) (λ o. h))
      (λ v h. change_in_made n v ∙ h))
      (λ e. put_thread_tree t T n _ (g (thread_at t n) (good_thread T n) (m e))
      (λ h. fm (thread_at t n) ∙ h))

  change_task_kept : (kind n : ℕ) → Kept t (change_task f t kind n)
  unfolding change_task job_at process_at put_thread
  change_task_kept kind n =
      if_on (Kept t) (kind =? PROCESS) _ _
      (λ e. kept_of t (with_threads t (map (change_in f n) t.threads)) (λ j. refl) (λ p. refl)
      (λ i m. ap (λ (w : Thread). w.made) (thread_at_map (change_in f n) (change_none n) t i)
      ∙ change_in_made n (thread_at t i) ∙ m))
      (λ e. kept_of t (put_thread t n (f (thread_at t n))) (λ j. refl) (λ p. refl)
      (λ i m. keep_thread (λ w. w.made) t n (f (thread_at t n)) (fm (thread_at t n)) i ∙ m))

module _ {t : Tables} (T : Tree t) where
  -- a task that is found, and neither a job nor a process, is a made thread
  task_thread : (kind n : ℕ) → (kind =? 0) ≡ false → found_task t kind n ≡ Some tt
      → (kind =? 1) ≡ false → (thread_at t n).made ≡ true
  unfolding found_task if◌then◌otherwise◌
  task_thread kind n a e b = found_thread_lem t n (rw (a, b) at e)

  suspend_tree : (kind n : ℕ) → (kind =? 0) ≡ false → found_task t kind n ≡ Some tt
      → Tree (suspend_task t kind n)
  unfolding suspend_task
  suspend_tree kind n a e =
      change_task_tree T suspend suspend_made (λ v h m. suspend_good h m) kind n
      (task_thread kind n a e)

  resume_tree : (kind n : ℕ) → (kind =? 0) ≡ false → found_task t kind n ≡ Some tt
      → Tree (resume_task t kind n)
  unfolding resume_task
  resume_tree kind n a e =
      change_task_tree T resume resume_made (λ v h m. resume_good h m) kind n
      (task_thread kind n a e)

  pub create_token_call_tree : (new kind n : ℕ) → After Tree (create_token_call t new kind n)
  unfolding create_token_call create_token suspend_task
  create_token_call_tree new kind n =
      call_on t _ T (guard_on λ a. guard_on λ b. guard_on λ c. find_on λ v e. guard_on λ d.
      guard_on λ h. guard_on λ i.
      let f : found_task t kind n ≡ Some tt = task_is t n kind v e in
      let k : Kept t (suspend_task t kind n) =
      change_task_kept T suspend suspend_made (λ v h m. suspend_good h m) kind n in
      accept_on _ (put_token_tree _ (suspend_tree kind n h f) new (new_token (kind_of kind) n)
      (record {
        unmade = λ x. no_both refl x;
        held_made = λ a x. refl;
        held_kind = λ b x. rw (← same_Some _ _ x)
            (λ z. no_both (ap (λ (c : ℕ). c =? 0) (sym (numbered kind a) ∙ ap number z)) h);
        task_made = λ b x. rw (← same_Some _ _ x, numbered kind a) (found_task_over k kind n f);
      })))

  pub drop_token_call_tree : (k : ℕ) → After Tree (drop_token_call t k)
  unfolding drop_token_call drop_token
  drop_token_call_tree k =
      call_on t _ T (guard_on λ a. find_on λ v e. guard_on λ b.
      let f : (token_at t k).task ≡ Some v = token_is t k v e in
      accept_on _ (put_token_tree _ (resume_tree _ _ (not_job v.kind (T.held_kind k v f)) (T.task_made k v f)) k
      (drop (token_at t k))
      (record {
        unmade = λ x. no_both (T.held_made k v f) x;
        held_made = λ a x. absurd (none-some _ x);
        held_kind = λ a x. absurd (none-some _ x);
        task_made = λ a x. absurd (none-some _ x);
      })))

  pub suspend_call_tree : (kind n : ℕ) → After Tree (suspend_call t kind n)
  unfolding suspend_call
  suspend_call_tree kind n =
      call_on t _ T (guard_on λ a. guard_on λ b. find_on λ v e. guard_on λ c. guard_on λ d.
      accept_on _ (suspend_tree kind n c (task_is t n kind v e)))

  pub resume_call_tree : (kind n : ℕ) → After Tree (resume_call t kind n)
  unfolding resume_call
  resume_call_tree kind n =
      call_on t _ T (guard_on λ a. guard_on λ b. find_on λ v e. guard_on λ c. guard_on λ d.
      accept_on _ (resume_tree kind n c (task_is t n kind v e)))
