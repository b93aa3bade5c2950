-- Which of the ways of `Does` each call on threads, their waits, tokens and exceptions goes.
-- Assumes nothing.
use Prim.Native.Nat.{ℕ}
use mathlib.Core.Path.{◌≡◌, refl, ap, ◌∙◌}
use mathlib.Core.Bool.{true}
use borrow.Author.Tests.{not-false, leb-false}
use Rattle.laws.proofs.Cases.{if_on, ok_on, guard_on, find_on}
use Rattle.record_process.specs.declared.Process.{Process}
use Rattle.record_process.specs.Process.{is_exited}
use Rattle.record_thread.specs.declared.Waiting.TheVariants.{InException}
use Rattle.record_thread.specs.declared.Thread.{Thread}
use Rattle.record_thread.specs.Thread.{start, kill, exit, is_free, suspend, resume, end_wait}
use Rattle.records.specs.declared.tables.Tables.{Tables}
use Rattle.records.specs.Tables.{thread_at}
use Rattle.model.specs.SuspendToken.{suspend_task, resume_task, create_token, drop_token}
use Rattle.model.specs.ThreadCalls.{create_thread, start_thread, kill_thread, exit_thread}
use Rattle.model.specs.ThreadCalls.{finish_thread_call, thread_info, thread_information}
use Rattle.model.specs.ThreadCalls.{wait_begun, begin_wait, wait_polled, poll_wait}
use Rattle.model.specs.ThreadCalls.{create_token_call, drop_token_call, suspend_call, resume_call}
use Rattle.model.specs.ExceptionCalls.{bind_level, hang_up_level, raise_exception}
use Rattle.model.specs.ExceptionCalls.{close_exception, set_state, set_strategy}
use Rattle.model.specs.ExceptionCalls.{get_process_handle}
use Rattle.model.specs.Step.{Call, cmd0c}
use Rattle.claims.specs.Reachable.{Tree}
use Rattle.claims.proofs.ThreadMaps.{kill_keeps}
use Rattle.claims.proofs.Found.{After, answered_on, call_on, accept_on, process_is}
use Rattle.claims.proofs.Found.{thread_is, exception_is}
use Rattle.claims.proofs.Tree.Raise.{free_started, free_alive, free_idle, waiting_alive}
use Rattle.claims.proofs.Tree.Raise.{reply_on}
use Rattle.claims.proofs.Quiet.{thread_key, Quiet, quiet_both, quiet_token}
use Rattle.claims.proofs.Does.Ways.{Does, rests, new_thread_lem, finishes, exit_key, end_wait_key}
use Rattle.claims.proofs.Does.Ways.{suspend_key, resume_key, quiet_task, raise_does}
use Rattle.claims.proofs.Does.Ways.{close_does, quiet_level, none, changes}

module _ {t : Tables} (T : Tree t) (c : Call) where
  -- ---- Threads -------------------------------------------------------------------------------

  pub create_thread_does : (p new : ℕ) → After (Does t c) (create_thread t p new)
  unfolding create_thread
  create_thread_does p new =
      call_on t _ (none t c)
      (guard_on λ a. guard_on λ b. find_on λ q e. guard_on λ f. guard_on λ d.
      let g = process_is t p q e in
      accept_on _ (new_thread_lem p new g.0 (ap (λ (w : Process). is_exited w.status) g.1 ∙ d)
      (leb-false 128 new b) f))

  pub start_thread_does : (n : ℕ) → After (Does t c) (start_thread t n)
  unfolding start_thread
  start_thread_does n =
      call_on t _ (none t c) (guard_on λ a. find_on λ v e. guard_on λ d.
      accept_on _ (changes t c n v (start v) e refl))

  pub kill_thread_does : (n : ℕ) → After (Does t c) (kill_thread t n)
  unfolding kill_thread
  kill_thread_does n =
      call_on t _ (none t c) (guard_on λ a. find_on λ v e.
      accept_on _ (changes t c n v (kill v) e (kill_keeps (λ w. thread_key w) (λ w. refl) v)))

  pub exit_thread_does : (n : ℕ) → After (Does t c) (exit_thread t n)
  unfolding exit_thread
  exit_thread_does n =
      call_on t _ (none t c) (guard_on λ a. find_on λ v e. guard_on λ d.
      accept_on _ (changes t c n v (exit v) e (exit_key v)))

  pub finish_thread_call_does : (n : ℕ) → c ≡ cmd0c n → After (Does t c) (finish_thread_call t n)
  unfolding finish_thread_call
  finish_thread_call_does n h =
      call_on t _ (none t c) (guard_on λ a. find_on λ v e. guard_on λ d.
      let f = thread_is t n v e in
      let g : is_free (thread_at t n) ≡ true = ap is_free f.1 ∙ not-false _ d in
      accept_on _ (finishes n h f.0 (free_started _ g) (free_idle _ g)))

  pub thread_information_does : (n : ℕ) → After (Does t c) (thread_information t n)
  unfolding thread_information thread_info
  thread_information_does n =
      call_on t _ (none t c) (guard_on λ a. find_on λ v e. ok_on (reply_on _ _ _ (none t c)))

  pub begin_wait_does : (n state : ℕ) → After (Does t c) (begin_wait t n state)
  unfolding begin_wait wait_begun
  begin_wait_does n state =
      call_on t _ (none t c) (guard_on λ s. guard_on λ a. find_on λ v e. guard_on λ d.
      ok_on (if_on (After (Does t c)) _ _ _ (λ h. answered_on _ _ (none t c))
      (λ h. answered_on _ _ (changes t c n v _ e refl))))

  pub poll_wait_does : (n ready : ℕ) → After (Does t c) (poll_wait t n ready)
  unfolding poll_wait wait_polled
  poll_wait_does n ready =
      call_on t _ (none t c) (guard_on λ s. guard_on λ a. find_on λ v e. guard_on λ d.
      ok_on (if_on (After (Does t c)) _ _ _ (λ h. answered_on _ _ (none t c))
      (λ h. answered_on _ _ (changes t c n v (end_wait v) e (end_wait_key v)))))

  pub suspend_does : (kind n : ℕ) → Quiet t (suspend_task t kind n)
  unfolding suspend_task
  suspend_does kind n = quiet_task t suspend suspend_key kind n

  pub resume_does : (kind n : ℕ) → Quiet t (resume_task t kind n)
  unfolding resume_task
  resume_does kind n = quiet_task t resume resume_key kind n

  pub create_token_call_does : (new kind n : ℕ) → After (Does t c) (create_token_call t new kind n)
  unfolding create_token_call create_token
  create_token_call_does new kind n =
      call_on t _ (none t c)
      (guard_on λ a. guard_on λ b. guard_on λ d. find_on λ v e. guard_on λ f.
      guard_on λ h. guard_on λ i.
      accept_on _ (rests (quiet_both (suspend_does kind n) (quiet_token _ new _))))

  pub drop_token_call_does : (k : ℕ) → After (Does t c) (drop_token_call t k)
  unfolding drop_token_call drop_token
  drop_token_call_does k =
      call_on t _ (none t c) (guard_on λ a. find_on λ v e. guard_on λ b.
      accept_on _ (rests (quiet_both (resume_does _ _) (quiet_token _ k _))))

  pub suspend_call_does : (kind n : ℕ) → After (Does t c) (suspend_call t kind n)
  unfolding suspend_call
  suspend_call_does kind n =
      call_on t _ (none t c)
      (guard_on λ a. guard_on λ b. find_on λ v e. guard_on λ d. guard_on λ f.
      accept_on _ (rests (suspend_does kind n)))

  pub resume_call_does : (kind n : ℕ) → After (Does t c) (resume_call t kind n)
  unfolding resume_call
  resume_call_does kind n =
      call_on t _ (none t c)
      (guard_on λ a. guard_on λ b. find_on λ v e. guard_on λ d. guard_on λ f.
      accept_on _ (rests (resume_does kind n)))

  -- ---- Exceptions ----------------------------------------------------------------------------

  pub bind_level_does : (level n : ℕ) → After (Does t c) (bind_level t level n)
  unfolding bind_level
  bind_level_does level n =
      call_on t _ (none t c)
      (guard_on λ a. guard_on λ b. find_on λ l e. guard_on λ d. guard_on λ f.
      accept_on _ (rests (quiet_level t c level n _)))

  pub hang_up_level_does : (level n : ℕ) → After (Does t c) (hang_up_level t level n)
  unfolding hang_up_level
  hang_up_level_does level n =
      call_on t _ (none t c) (guard_on λ a. guard_on λ b. find_on λ l e. guard_on λ d.
      accept_on _ (rests (quiet_level t c level n _)))

  pub raise_exception_does : (n kind : ℕ) → After (Does t c) (raise_exception t n kind)
  unfolding raise_exception
  raise_exception_does n kind =
      call_on t _ (none t c) (guard_on λ a. guard_on λ b. find_on λ v e. guard_on λ d.
      let f = thread_is t n v e in
      ok_on (raise_does t c T n f.0 (free_alive _ (ap is_free f.1 ∙ not-false _ d)) kind))

  pub close_exception_does : (n : ℕ) → After (Does t c) (close_exception t n)
  unfolding close_exception
  close_exception_does n =
      call_on t _ (none t c) (guard_on λ a. find_on λ v e. find_on λ x h.
      let f = thread_is t n v e in
      let w : (thread_at t n).waiting ≡ InException x =
      ap (λ (u : Thread). u.waiting) f.1 ∙ exception_is v x h in
      ok_on (close_does t c T n f.0 (waiting_alive T n (InException x) w refl) x w))

  pub set_state_does : (n state : ℕ) → After (Does t c) (set_state t n state)
  unfolding set_state
  set_state_does n state =
      call_on t _ (none t c) (guard_on λ a. find_on λ v e. find_on λ x h. guard_on λ b.
      accept_on _ (changes t c n v _ e refl))

  pub set_strategy_does : (n strategy : ℕ) → After (Does t c) (set_strategy t n strategy)
  unfolding set_strategy
  set_strategy_does n strategy =
      call_on t _ (none t c)
      (guard_on λ a. find_on λ v e. find_on λ x h. guard_on λ b. guard_on λ d.
      accept_on _ (changes t c n v _ e refl))

  pub get_process_handle_does : (n : ℕ) → After (Does t c) (get_process_handle t n)
  unfolding get_process_handle
  get_process_handle_does n =
      call_on t _ (none t c)
      (guard_on λ a. find_on λ v e. find_on λ x h. guard_on λ b. accept_on _ (none t c))
