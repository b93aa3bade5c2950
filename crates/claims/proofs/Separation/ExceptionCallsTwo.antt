-- Calls of y on levels and exceptions, and a thread of y that finishes, in both runs: the same
-- answers, and tables that are still related. Assumes `Tree`, which every call keeps.
use Prim.Native.Nat.{ℕ}
use mathlib.Core.Path.{◌≡◌, refl, sym, ap, ◌∙◌}
use mathlib.Core.Bool.{true, false}
use borrow.Author.Tests.{not-false}
use Rattle.laws.specs.Choice.{◌≤?◌, ◌=?◌}
use Rattle.laws.proofs.Cases.{ok_two, guard_two, find_same}
use Rattle.record_exception.specs.declared.Level.TheVariants.{Bound, HungUp}
use Rattle.record_thread.specs.declared.Waiting.TheVariants.{InException}
use Rattle.record_thread.specs.declared.Thread.{Thread}
use Rattle.record_thread.specs.Thread.{DEAD, is_free}
use Rattle.records.specs.declared.tables.Tables.{Tables}
use Rattle.records.specs.Tables.{thread_at}
use Rattle.model.specs.Replies.{present}
use Rattle.model.specs.ThreadCalls.{finish_thread_call}
use Rattle.model.specs.ExceptionCalls.{bind_level, hang_up_level, raise_exception}
use Rattle.model.specs.ExceptionCalls.{close_exception, set_state, set_strategy}
use Rattle.model.specs.ExceptionCalls.{get_process_handle}
use Rattle.claims.specs.Reachable.{Tree}
use Rattle.claims.specs.Separation.{Trip, OwnThread, OwnOwner}
use Rattle.claims.proofs.Found.{thread_is, exception_is}
use Rattle.claims.proofs.Separation.Agree.{Agree}
use Rattle.claims.proofs.Separation.Fits.{fits_waits}
use Rattle.claims.proofs.Separation.Stores.{thread_both}
use Rattle.claims.proofs.Separation.HandlersTwo.{raise_two, close_two}
use Rattle.claims.proofs.Separation.Lookups.{in_table, thread_same, thread_fits}
use Rattle.claims.proofs.Separation.Owners.{put_level_two, level_same}
use Rattle.claims.proofs.Separation.Facts.{free_alive, waiting_alive, beside, runs_from}
use Rattle.claims.proofs.Separation.Effects.{finish_two}
use Rattle.claims.proofs.Separation.Replied.{Replied, accept_two, call_two}

module _ {x y : Trip} {s t : Tables} (r : Agree x y s t) where
  module _ (n : ℕ) (o : OwnThread y n) where
    thread_out : 128 ≤? n ≡ false → x.threads n ≡ false
    thread_out a = r.apart.threads n (in_table _ _ o a)

    pub set_state_two : (state : ℕ) → Replied x y (set_state s n state) (set_state t n state)
    unfolding set_state
    set_state_two state =
        call_two s t _ _ r
        (guard_two refl λ a _. find_same (thread_same r n (thread_out a)) λ v m.
        find_same refl λ e q. guard_two refl λ _ _.
        accept_two _ _ (thread_both r n _ (fits_waits v (thread_fits r n v m) _ _)))

    pub set_strategy_two : (strategy : ℕ) → Replied x y (set_strategy s n strategy)
        (set_strategy t n strategy)
    unfolding set_strategy
    set_strategy_two strategy =
        call_two s t _ _ r
        (guard_two refl λ a _. find_same (thread_same r n (thread_out a)) λ v m.
        find_same refl λ e q. guard_two refl λ _ _. guard_two refl λ _ _.
        accept_two _ _ (thread_both r n _ (fits_waits v (thread_fits r n v m) _ _)))

    pub get_handle_two : Replied x y (get_process_handle s n) (get_process_handle t n)
    unfolding get_process_handle
    get_handle_two =
        call_two s t _ _ r
        (guard_two refl λ a _. find_same (thread_same r n (thread_out a)) λ v m.
        find_same refl λ e q. guard_two refl λ _ _. accept_two s t r)

    module _ (T : Tree s) (U : Tree t) where
      pub finish_thread_two : Replied x y (finish_thread_call s n) (finish_thread_call t n)
      unfolding finish_thread_call
      finish_thread_two =
          call_two s t _ _ r
          (guard_two refl λ a _. find_same (thread_same r n (thread_out a)) λ v m.
          guard_two refl λ _ _.
          let k : (thread_at s n).made ≡ true = (thread_is s n v m).0 in
          accept_two _ _ (finish_two r n (T.process_made n k) (thread_out a)
          (sym ((r.threads n).fits₁.of_x k) ∙ thread_out a)))

      pub raise_both : (kind : ℕ) → Replied x y (raise_exception s n kind) (raise_exception t n kind)
      unfolding raise_exception
      raise_both kind =
          call_two s t _ _ r
          (guard_two refl λ _ _. guard_two refl λ a _.
          find_same (thread_same r n (thread_out a)) λ v m. guard_two refl λ b _.
          let k : ((thread_at s n).made ≡ true) × (thread_at s n ≡ v) = thread_is s n v m in
          let l : ((thread_at s n).state =? DEAD) ≡ false =
          ap (λ (w : Thread). w.state =? DEAD) k.1 ∙ free_alive v (not-false (is_free v) b) in
          ok_two (raise_two s t (beside r T U n (thread_out a) k.0 l) kind))

      pub close_both : Replied x y (close_exception s n) (close_exception t n)
      unfolding close_exception
      close_both =
          call_two s t _ _ r
          (guard_two refl λ a _. find_same (thread_same r n (thread_out a)) λ v m.
          find_same refl λ e q.
          let k : ((thread_at s n).made ≡ true) × (thread_at s n ≡ v) = thread_is s n v m in
          let w : (thread_at s n).waiting ≡ InException e =
          ap (λ (u : Thread). u.waiting) k.1 ∙ exception_is v e q in
          let l : ((thread_at s n).state =? DEAD) ≡ false = waiting_alive T n k.0 e w in
          ok_two (close_two s t (beside r T U n (thread_out a) k.0 l) e
          (runs_from r T U n (thread_out a) k.0 l e w e.place refl)))

  -- ---- Levels ----------------------------------------------------------------------------------

  pub bind_level_two : (level n : ℕ) → OwnOwner y n level →
      Replied x y (bind_level s level n) (bind_level t level n)
  unfolding bind_level
  bind_level_two level n u =
      call_two s t _ _ r
      (guard_two refl λ a _. guard_two refl λ b _.
      find_same (ap present (level_same r u a b)) λ l m. guard_two refl λ _ _.
      guard_two refl λ _ _.
      accept_two _ _ (put_level_two r u a b Bound))

  pub hang_up_two : (level n : ℕ) → OwnOwner y n level →
      Replied x y (hang_up_level s level n) (hang_up_level t level n)
  unfolding hang_up_level
  hang_up_two level n u =
      call_two s t _ _ r
      (guard_two refl λ a _. guard_two refl λ b _.
      find_same (ap present (level_same r u a b)) λ l m. guard_two refl λ _ _.
      accept_two _ _ (put_level_two r u a b HungUp))
