-- The calls on exceptions and their channels keep `Tree`. Assumes nothing.
use Prim.Native.Nat.{ℕ}
use native.Mathlib.Omega.{arith}
use mathlib.Core.Path.{◌≡◌, refl, sym, ap, ◌∙◌, subst}
use mathlib.Core.Bool.{Bool, true, false}
use borrow.Author.Tests.{not-false, eqb-true, ltb-false, eqb-false}
use Rattle.laws.specs.Choice.{◌=?◌, ◌or◌, if◌then◌otherwise◌}
use Rattle.laws.specs.Guarded.{found}
use Rattle.laws.proofs.Cases.{by, no_both, ok_on, guard_on, find_on}
use Rattle.record_exception.specs.declared.Level.{Level}
use Rattle.record_exception.specs.declared.Level.TheVariants.{Unbound, Bound, HungUp, Shut}
use Rattle.record_exception.specs.declared.Exception.{Exception}
use Rattle.record_exception.specs.Channel.{is_bound, is_shut}
use Rattle.record_exception.specs.Exception.{with_handled, with_second}
use Rattle.record_job.specs.declared.Job.{Job}
use Rattle.record_process.specs.declared.Process.{Process}
use Rattle.record_thread.specs.declared.Waiting.TheVariants.{InException}
use Rattle.record_thread.specs.declared.Thread.{Thread}
use Rattle.record_thread.specs.Thread.{DEAD, is_free, waits}
use Rattle.records.specs.declared.tables.Tables.{Tables}
use Rattle.records.specs.Tables.{job_at, process_at, thread_at, put_thread}
use Rattle.records.specs.Owners.{found_level, process_level, job_level, put_level}
use Rattle.model.specs.Replies.{thread, exception, channel}
use Rattle.model.specs.ExceptionCalls.{bad_level, bind_level, hang_up_level, raise_exception}
use Rattle.model.specs.ExceptionCalls.{close_exception, with_exception, set_state, set_strategy}
use Rattle.model.specs.ExceptionCalls.{get_process_handle}
use Rattle.claims.specs.Reachable.{Tree}
use Rattle.claims.proofs.Found.{After, call_on, accept_on, thread_is, exception_is}
use Rattle.claims.proofs.Found.{process_level_is, job_level_is, thread_level_is}
use Rattle.claims.proofs.Tree.Parts.{good_job, good_process, good_thread}
use Rattle.claims.proofs.Tree.Records.{level1_good, level3_good, level4_good, level5_good}
use Rattle.claims.proofs.Tree.Threads.{level2_good, placed_at}
use Rattle.claims.proofs.Tree.Search.{levels_job, levels_process, levels_thread}
use Rattle.claims.proofs.Tree.Raise.{free_alive, waiting_alive, tree_waits, raise_tree}
use Rattle.claims.proofs.Tree.Raise.{close_tree}

-- ---- Channels --------------------------------------------------------------------------------

or_false_left : (b c : Bool) → b or c ≡ false → b ≡ false
unfolding ◌or◌
or_false_left true c e = e
or_false_left false c e = refl

or_false_right : (b c : Bool) → b or c ≡ false → c ≡ false
unfolding ◌or◌
or_false_right true c e = no_both refl e
or_false_right false c e = e

bound_open : (l : Level) → is_bound l ≡ true → is_shut l ≡ false
bound_open Unbound e = refl
bound_open Bound e = refl
bound_open HungUp e = refl
bound_open Shut e = sym e

-- an open level of a made owner, made another open level
module _ {t : Tables} (T : Tree t) (n : ℕ) (l new : Level) (a : is_shut l ≡ false)
    (b : is_shut new ≡ false) where
  open_level : (old : Level) → old ≡ l → is_shut new ≡ is_shut old
  open_level old e = b ∙ sym (ap (λ (x : Level). is_shut x) e ∙ a)

  level1_tree : channel t 1 n ≡ found l → Tree (put_level t 1 n new)
  unfolding found_level process_level put_level if◌then◌otherwise◌
  level1_tree h =
      let f = process_level_is t n 1 l h in
      levels_process t T n _ refl (level1_good (good_process T n) new
      (λ z. no_both f.0 (ap (λ (q : Process). q.made) z))
      (open_level (process_at t n).level1 f.1))

  level2_tree : channel t 2 n ≡ found l → Tree (put_level t 2 n new)
  unfolding found_level put_level if◌then◌otherwise◌
  level2_tree h =
      let f = thread_level_is t n l h in
      levels_thread t T n _ refl (level2_good (good_thread T n) new
      (λ z. no_both f.0 (ap (λ (q : Thread). q.made) z))
      (open_level (thread_at t n).level2 f.1))

  level3_tree : channel t 3 n ≡ found l → Tree (put_level t 3 n new)
  unfolding found_level process_level put_level if◌then◌otherwise◌
  level3_tree h =
      let f = process_level_is t n 3 l h in
      levels_process t T n _ refl (level3_good (good_process T n) new
      (λ z. no_both f.0 (ap (λ (q : Process). q.made) z))
      (open_level (process_at t n).level3 f.1))

  level4_tree : channel t 4 n ≡ found l → Tree (put_level t 4 n new)
  unfolding found_level job_level put_level if◌then◌otherwise◌
  level4_tree h =
      let f = job_level_is t n 4 l h in
      levels_job t T n _ refl (level4_good (good_job T n) new
      (λ z. no_both f.0 (ap (λ (q : Job). q.made) z))
      (open_level (job_at t n).level4 f.1))

  level5_tree : channel t 5 n ≡ found l → Tree (put_level t 5 n new)
  unfolding found_level job_level put_level if◌then◌otherwise◌
  level5_tree h =
      let f = job_level_is t n 5 l h in
      levels_job t T n _ refl (level5_good (good_job T n) new
      (λ z. no_both f.0 (ap (λ (q : Job). q.made) z))
      (open_level (job_at t n).level5 f.1))

  put_level_tree : (level : ℕ) → bad_level level ≡ false → channel t level n ≡ found l
      → Tree (put_level t level n new)
  put_level_tree level g h =
      let move : (k : ℕ) → level ≡ k → (channel t k n ≡ found l → Tree (put_level t k n new))
      → Tree (put_level t level n new) =
      λ k e c. subst (λ (i : ℕ). Tree (put_level t i n new)) (sym e)
      (c (subst (λ (i : ℕ). channel t i n ≡ found l) e h)) in
      by (level =? 1) (λ e. move 1 (eqb-true level 1 e) level1_tree)
      λ e₁. by (level =? 2) (λ e. move 2 (eqb-true level 2 e) level2_tree)
      λ e₂. by (level =? 3) (λ e. move 3 (eqb-true level 3 e) level3_tree)
      λ e₃. by (level =? 4) (λ e. move 4 (eqb-true level 4 e) level4_tree)
      λ e₄. move 5
      (let x₀ : level ≡ 0 → ⊥ = eqb-false level 0 (or_false_left (level =? 0) _ g) in
      let x₁ : level ≡ 1 → ⊥ = eqb-false level 1 e₁ in
      let x₂ : level ≡ 2 → ⊥ = eqb-false level 2 e₂ in
      let x₃ : level ≡ 3 → ⊥ = eqb-false level 3 e₃ in
      let x₄ : level ≡ 4 → ⊥ = eqb-false level 4 e₄ in
      omega (arith, ltb-false 5 level (or_false_right (level =? 0) _ g))) level5_tree

module _ {t : Tables} (T : Tree t) where
  pub bind_level_tree : (level n : ℕ) → After Tree (bind_level t level n)
  unfolding bind_level
  bind_level_tree level n =
      call_on t _ T (guard_on λ a. guard_on λ b. find_on λ l e. guard_on λ c. guard_on λ d.
      accept_on _ (put_level_tree T n l Bound c refl level a e))

  pub hang_up_level_tree : (level n : ℕ) → After Tree (hang_up_level t level n)
  unfolding hang_up_level
  hang_up_level_tree level n =
      call_on t _ T (guard_on λ a. guard_on λ b. find_on λ l e. guard_on λ c.
      accept_on _ (put_level_tree T n l HungUp (bound_open l (not-false _ c)) refl level a e))

  -- ---- Exceptions ----------------------------------------------------------------------------

  pub raise_exception_tree : (n kind : ℕ) → After Tree (raise_exception t n kind)
  unfolding raise_exception
  raise_exception_tree n kind =
      call_on t _ T (guard_on λ a. guard_on λ b. find_on λ v e. guard_on λ c.
      let f = thread_is t n v e in
      ok_on (raise_tree T n f.0 (free_alive _ (ap is_free f.1 ∙ not-false _ c)) kind))

  -- the thread found is made, holds the exception and is not Dead
  held : (n : ℕ) (v : Thread) (x : Exception) → thread t n ≡ found v → exception v ≡ found x
      → ((thread_at t n).waiting ≡ InException x) × ((thread_at t n).state =? DEAD) ≡ false
  held n v x e h =
      let w : (thread_at t n).waiting ≡ InException x =
      ap (λ (u : Thread). u.waiting) (thread_is t n v e).1 ∙ exception_is v x h in
      (w, waiting_alive T n (InException x) w refl)

  pub close_exception_tree : (n : ℕ) → After Tree (close_exception t n)
  unfolding close_exception
  close_exception_tree n =
      call_on t _ T (guard_on λ a. find_on λ v e. find_on λ x h.
      let r = held n v x e h in
      ok_on (close_tree T n (thread_is t n v e).0 r.1 x r.0))

  -- the exception changed, at its place
  with_exception_tree : (n : ℕ) (v : Thread) (x y : Exception) → thread t n ≡ found v
      → exception v ≡ found x → y.place ≡ x.place → Tree (with_exception t n v y)
  with_exception_tree n v x y e h p =
      let f = thread_is t n v e in
      let r = held n v x e h in
      subst (λ (w : Thread). Tree (put_thread t n (waits w w.state (InException y)))) f.1
      (tree_waits T n f.0 r.1 (thread_at t n).state (InException y) r.1
      (placed_at y (λ j q. T.handler_above n j x r.0 (sym p ∙ q))
      (λ j q. T.debugger_above n j x r.0 (sym p ∙ q))))

  pub set_state_tree : (n state : ℕ) → After Tree (set_state t n state)
  unfolding set_state
  set_state_tree n state =
      call_on t _ T (guard_on λ a. find_on λ v e. find_on λ x h. guard_on λ b.
      accept_on _ (with_exception_tree n v x (with_handled x (state =? 1)) e h refl))

  pub set_strategy_tree : (n strategy : ℕ) → After Tree (set_strategy t n strategy)
  unfolding set_strategy
  set_strategy_tree n strategy =
      call_on t _ T (guard_on λ a. find_on λ v e. find_on λ x h. guard_on λ b. guard_on λ c.
      accept_on _ (with_exception_tree n v x (with_second x (strategy =? 1)) e h refl))

  pub get_process_handle_tree : (n : ℕ) → After Tree (get_process_handle t n)
  unfolding get_process_handle
  get_process_handle_tree n =
      call_on t _ T (guard_on λ a. find_on λ v e. find_on λ x h. guard_on λ b. accept_on _ T)
