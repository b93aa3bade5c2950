-- Calls of x on threads, waits and tokens, in one run: the tables that they leave are still
-- related to the other run's. Assumes `Tree`, which every call keeps.
use Rattle.std.proofs.Common.{Some}
use Prim.Native.Nat.{ℕ}
use mathlib.Core.Path.{◌≡◌, sym, ◌∙◌}
use mathlib.Core.Bool.{true}
use Rattle.laws.proofs.Cases.{if_on, Every, ok_on, guard_on, find_on}
use Rattle.record_thread.specs.declared.Thread.{Thread}
use Rattle.record_thread.specs.Thread.{suspend, resume}
use Rattle.record_token.proofs.Numbers.{a_task}
use Rattle.record_token.specs.SuspendToken.{number}
use Rattle.records.specs.declared.tables.Tables.{Tables}
use Rattle.reply.specs.Reply.{reply}
use Rattle.records.specs.Tables.{token_at, put_thread}
use Rattle.model.specs.Replies.{accept}
use Rattle.model.specs.ThreadCalls.{create_thread, start_thread, kill_thread, exit_thread}
use Rattle.model.specs.ThreadCalls.{thread_info, thread_information, wait_begun, begin_wait}
use Rattle.model.specs.ThreadCalls.{wait_polled, poll_wait, create_token_call, drop_token_call}
use Rattle.model.specs.ThreadCalls.{suspend_call, resume_call}
use Rattle.model.specs.SuspendToken.{suspend_task, resume_task, create_token, drop_token}
use Rattle.claims.specs.Reachable.{Tree}
use Rattle.claims.specs.Separation.{Trip, task_of, OwnProcess, OwnThread, OwnToken, OwnTask}
use Rattle.claims.proofs.Found.{answered_on, call_on, accept_on, token_is}
use Rattle.claims.proofs.Separation.Agree.{Agree, ThreadFits, x_not_y_process}
use Rattle.claims.proofs.Separation.Agree.{x_not_y_thread, x_not_y_token}
use Rattle.claims.proofs.Separation.Fits.{fits_start, fits_kill, fits_exit, fits_waits}
use Rattle.claims.proofs.Separation.Fits.{fits_end_wait, fits_suspend, fits_resume}
use Rattle.claims.proofs.Separation.Stores.{thread_one, token_one}
use Rattle.claims.proofs.Separation.SearchOne.{Left}
use Rattle.claims.proofs.Separation.Lookups.{in_table, task_not_y, IsTask, thread_fits}
use Rattle.claims.proofs.Separation.Owners.{own_task, change_task_one}
use Rattle.claims.proofs.Separation.Effects.{new_thread_lem, new_token_lem, no_token_lem}

module _ {x y : Trip} {s t : Tables} (r : Agree x y s t) where
  -- a call on a thread of x that stores one thread, or none
  thread_left : (n : ℕ) → x.threads n ≡ true → (v : Thread) → ThreadFits x y n v →
      Every (Left x y t) (accept (put_thread s n v))
  thread_left n h v f = accept_on _ (thread_one r n h v f)

  pub create_thread_one : (p new : ℕ) → OwnProcess x p → OwnThread x new → Left x y t
      (create_thread s p new)
  unfolding create_thread
  create_thread_one p new o u =
      call_on s _ r
      (guard_on λ a. guard_on λ b. find_on λ q m. guard_on λ c. guard_on λ d.
      let h : x.processes p ≡ true = in_table _ _ o a in
      let k : x.threads new ≡ true = in_table _ _ u b in
      accept_on _ (thread_one r new k _ (new_thread_lem p new (k ∙ sym h)
      (x_not_y_thread r.apart new k ∙ sym (x_not_y_process r.apart p h)))))

  pub start_thread_one : (n : ℕ) → OwnThread x n → Left x y t (start_thread s n)
  unfolding start_thread
  start_thread_one n o =
      call_on s _ r
      (guard_on λ a. find_on λ v m. guard_on λ b.
      thread_left n (in_table _ _ o a) _ (fits_start v (thread_fits r n v m)))

  pub kill_thread_one : (n : ℕ) → OwnThread x n → Left x y t (kill_thread s n)
  unfolding kill_thread
  kill_thread_one n o =
      call_on s _ r
      (guard_on λ a. find_on λ v m.
      thread_left n (in_table _ _ o a) _ (fits_kill v (thread_fits r n v m)))

  pub exit_thread_one : (n : ℕ) → OwnThread x n → Left x y t (exit_thread s n)
  unfolding exit_thread
  exit_thread_one n o =
      call_on s _ r
      (guard_on λ a. find_on λ v m. guard_on λ b.
      thread_left n (in_table _ _ o a) _ (fits_exit v (thread_fits r n v m)))

  pub thread_information_one : (n : ℕ) → Left x y t (thread_information s n)
  unfolding thread_information thread_info reply
  thread_information_one n =
      call_on s _ r (guard_on λ a. find_on λ v m. ok_on (record { tables = r }))

  pub begin_wait_one : (n state : ℕ) → OwnThread x n → Left x y t (begin_wait s n state)
  unfolding begin_wait wait_begun
  begin_wait_one n state o =
      call_on s _ r
      (guard_on λ a. guard_on λ b. find_on λ v m. guard_on λ c.
      ok_on (if_on (Left x y t) _ _ _ (λ e. answered_on _ _ r)
      (λ e. answered_on _ _
      (thread_one r n (in_table _ _ o b) _ (fits_waits v (thread_fits r n v m) _ _)))))

  pub poll_wait_one : (n ready : ℕ) → OwnThread x n → Left x y t (poll_wait s n ready)
  unfolding poll_wait wait_polled
  poll_wait_one n ready o =
      call_on s _ r
      (guard_on λ a. guard_on λ b. find_on λ v m. guard_on λ c.
      ok_on (if_on (Left x y t) _ _ _ (λ e. answered_on _ _ r)
      (λ e. answered_on _ _
      (thread_one r n (in_table _ _ o b) _ (fits_end_wait v (thread_fits r n v m))))))

  -- ---- Suspending ------------------------------------------------------------------------------

  pub create_token_one : (new kind n : ℕ) → OwnToken x new → OwnTask x n kind →
      Left x y t (create_token_call s new kind n)
  unfolding create_token_call create_token suspend_task
  create_token_one new kind n o u =
      call_on s _ r
      (guard_on λ a. guard_on λ b. guard_on λ c. find_on λ v m. guard_on λ d.
      guard_on λ e. guard_on λ f.
      let h : x.tokens new ≡ true = in_table _ _ o b in
      let k : IsTask kind × (task_of x kind n ≡ true) = own_task u a c e in
      accept_on _
      (token_one (change_task_one r suspend (λ i w g. fits_suspend w g) kind n k.0 k.1)
      new h _ (new_token_lem new kind n (h ∙ sym k.1)
      (x_not_y_token r.apart new h ∙ sym (task_not_y r.apart kind n k.1)))))

  pub drop_token_one : Tree s → (k : ℕ) → OwnToken x k → Left x y t (drop_token_call s k)
  unfolding drop_token_call drop_token resume_task
  drop_token_one T k o =
      call_on s _ r
      (guard_on λ a. find_on λ v m. guard_on λ b.
      let h : x.tokens k ≡ true = in_table _ _ o a in
      let q : (token_at s k).task ≡ Some v = token_is s k v m in
      let f : task_of x (number v.kind) v.name ≡ true = sym ((r.tokens k).fits₁.of_x v q) ∙ h in
      accept_on _
      (token_one (change_task_one r resume (λ n w g. fits_resume w g) _ v.name (a_task v.kind (T.held_kind k v q)) f)
      k h _ (no_token_lem k (token_at s k))))

  pub suspend_one : (kind n : ℕ) → OwnTask x n kind → Left x y t (suspend_call s kind n)
  unfolding suspend_call suspend_task
  suspend_one kind n u =
      call_on s _ r
      (guard_on λ a. guard_on λ b. find_on λ v m. guard_on λ c. guard_on λ d.
      let k : IsTask kind × (task_of x kind n ≡ true) = own_task u a b c in
      accept_on _ (change_task_one r suspend (λ i w g. fits_suspend w g) kind n k.0 k.1))

  pub resume_one : (kind n : ℕ) → OwnTask x n kind → Left x y t (resume_call s kind n)
  unfolding resume_call resume_task
  resume_one kind n u =
      call_on s _ r
      (guard_on λ a. guard_on λ b. find_on λ v m. guard_on λ c. guard_on λ d.
      let k : IsTask kind × (task_of x kind n ≡ true) = own_task u a b c in
      accept_on _ (change_task_one r resume (λ i w g. fits_resume w g) kind n k.0 k.1))
