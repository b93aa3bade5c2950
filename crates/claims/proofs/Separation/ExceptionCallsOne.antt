-- Calls of x on levels and exceptions, and a thread of x that finishes, in one run: the tables
-- that they leave are still related to the other run's. Assumes `Tree`, which every call keeps.
use Prim.Native.Nat.{ℕ}
use mathlib.Core.Path.{◌≡◌, refl, ap, ◌∙◌}
use mathlib.Core.Bool.{true}
use Rattle.laws.proofs.Cases.{Every, ok_on, guard_on, find_on}
use Rattle.record_exception.specs.declared.Level.TheVariants.{Bound, HungUp}
use Rattle.record_thread.specs.declared.Waiting.TheVariants.{InException}
use Rattle.record_thread.specs.declared.Thread.{Thread}
use Rattle.records.specs.declared.tables.Tables.{Tables}
use Rattle.records.specs.Tables.{thread_at, put_thread}
use Rattle.model.specs.Replies.{accept}
use Rattle.model.specs.ThreadCalls.{finish_thread_call}
use Rattle.model.specs.ExceptionCalls.{bind_level, hang_up_level, raise_exception}
use Rattle.model.specs.ExceptionCalls.{close_exception, set_state, set_strategy}
use Rattle.model.specs.ExceptionCalls.{get_process_handle}
use Rattle.claims.specs.Reachable.{Tree}
use Rattle.claims.specs.Separation.{Trip, OwnThread, OwnOwner}
use Rattle.claims.proofs.Found.{call_on, accept_on, thread_is, exception_is}
use Rattle.claims.proofs.Separation.Agree.{Agree, ThreadFits}
use Rattle.claims.proofs.Separation.Fits.{fits_waits}
use Rattle.claims.proofs.Separation.Stores.{thread_one}
use Rattle.claims.proofs.Separation.SearchOne.{Left, raise_one, close_one}
use Rattle.claims.proofs.Separation.Lookups.{in_table, thread_fits}
use Rattle.claims.proofs.Separation.Owners.{put_level_one}
use Rattle.claims.proofs.Separation.Facts.{within, outside_y}
use Rattle.claims.proofs.Separation.Effects.{finish_one}

module _ {x y : Trip} {s t : Tables} (r : Agree x y s t) where
  -- a call on a thread of x that stores one thread, or none
  thread_left : (n : ℕ) → x.threads n ≡ true → (v : Thread) → ThreadFits x y n v →
      Every (Left x y t) (accept (put_thread s n v))
  thread_left n h v f = accept_on _ (thread_one r n h v f)

  pub bind_level_one : (level n : ℕ) → OwnOwner x n level → Left x y t (bind_level s level n)
  unfolding bind_level
  bind_level_one level n u =
      call_on s _ r
      (guard_on λ a. guard_on λ b. find_on λ l m. guard_on λ c. guard_on λ d.
      accept_on _ (put_level_one r u a b Bound))

  pub hang_up_one : (level n : ℕ) → OwnOwner x n level → Left x y t (hang_up_level s level n)
  unfolding hang_up_level
  hang_up_one level n u =
      call_on s _ r
      (guard_on λ a. guard_on λ b. find_on λ l m. guard_on λ c.
      accept_on _ (put_level_one r u a b HungUp))

  pub set_state_one : (n state : ℕ) → OwnThread x n → Left x y t (set_state s n state)
  unfolding set_state
  set_state_one n state o =
      call_on s _ r
      (guard_on λ a. find_on λ v m. find_on λ e q. guard_on λ b.
      thread_left n (in_table _ _ o a) _ (fits_waits v (thread_fits r n v m) _ _))

  pub set_strategy_one : (n strategy : ℕ) → OwnThread x n → Left x y t (set_strategy s n strategy)
  unfolding set_strategy
  set_strategy_one n strategy o =
      call_on s _ r
      (guard_on λ a. find_on λ v m. find_on λ e q. guard_on λ b. guard_on λ c.
      thread_left n (in_table _ _ o a) _ (fits_waits v (thread_fits r n v m) _ _))

  pub get_handle_one : (n : ℕ) → Left x y t (get_process_handle s n)
  unfolding get_process_handle
  get_handle_one n =
      call_on s _ r (guard_on λ a. find_on λ v m. find_on λ e q. guard_on λ b. accept_on s r)

  module _ (T : Tree s) where
    pub finish_thread_one : (n : ℕ) → OwnThread x n → Left x y t (finish_thread_call s n)
    unfolding finish_thread_call
    finish_thread_one n o =
        call_on s _ r
        (guard_on λ a. find_on λ v m. guard_on λ b.
        let h : x.threads n ≡ true = in_table _ _ o a in
        let k : (thread_at s n).made ≡ true = (thread_is s n v m).0 in
        accept_on _ (finish_one r n (T.process_made n k) h (within r T n h k).process))

    pub raise_left : (n kind : ℕ) → OwnThread x n → Left x y t (raise_exception s n kind)
    unfolding raise_exception
    raise_left n kind o =
        call_on s _ r
        (guard_on λ a. guard_on λ b. find_on λ v m. guard_on λ c.
        ok_on (raise_one s (within r T n (in_table _ _ o b) (thread_is s n v m).0) kind))

    pub close_left : (n : ℕ) → OwnThread x n → Left x y t (close_exception s n)
    unfolding close_exception
    close_left n o =
        call_on s _ r
        (guard_on λ a. find_on λ v m. find_on λ e q.
        let h : x.threads n ≡ true = in_table _ _ o a in
        let k : ((thread_at s n).made ≡ true) × (thread_at s n ≡ v) = thread_is s n v m in
        let w : (thread_at s n).waiting ≡ InException e =
        ap (λ (u : Thread). u.waiting) k.1 ∙ exception_is v e q in
        ok_on (close_one s (within r T n h k.0) e
        (outside_y r T n h k.0 e w e.place refl)))
