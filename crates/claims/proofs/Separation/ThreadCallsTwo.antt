-- Calls of y on threads, waits and tokens, in both runs: the same answers, and tables that are
-- still related. Assumes `Tree`, which every call keeps.
use Rattle.std.proofs.Common.{Some}
use Prim.Native.Nat.{ℕ}
use mathlib.Core.Path.{◌≡◌, refl, sym, ap, ◌∙◌, subst}
use mathlib.Core.Bool.{true, false}
use Rattle.laws.specs.Choice.{◌≤?◌, ◌=?◌}
use Rattle.laws.proofs.Cases.{if_two, ok_two, guard_two, find_same}
use Rattle.record_thread.specs.Thread.{DYING, suspend, resume}
use Rattle.record_token.proofs.Numbers.{a_task}
use Rattle.record_token.specs.declared.SuspendToken.{SuspendToken}
use Rattle.record_token.specs.SuspendToken.{number, drop}
use Rattle.records.specs.declared.tables.Tables.{Tables}
use Rattle.reply.specs.Reply.{reply}
use Rattle.records.specs.Tables.{token_at, put_token}
use Rattle.model.specs.Replies.{present}
use Rattle.model.specs.ThreadCalls.{start_thread, kill_thread, exit_thread, thread_info}
use Rattle.model.specs.ThreadCalls.{thread_information, wait_begun, begin_wait, is_pending}
use Rattle.model.specs.ThreadCalls.{wait_polled, poll_wait, create_token_call, drop_token_call}
use Rattle.model.specs.ThreadCalls.{suspend_call, resume_call}
use Rattle.model.specs.SuspendToken.{change_task, suspend_task, resume_task, create_token}
use Rattle.model.specs.SuspendToken.{drop_token}
use Rattle.claims.specs.Reachable.{Tree}
use Rattle.claims.specs.Separation.{Trip, task_of, OwnThread, OwnToken, OwnTask}
use Rattle.claims.proofs.Found.{token_is}
use Rattle.claims.proofs.Separation.Agree.{Agree}
use Rattle.claims.proofs.Separation.Fits.{fits_start, fits_kill, fits_exit, fits_waits}
use Rattle.claims.proofs.Separation.Fits.{fits_end_wait, fits_suspend, fits_resume}
use Rattle.claims.proofs.Separation.Stores.{thread_both, token_both}
use Rattle.claims.proofs.Separation.Lookups.{in_table, task_apart, IsTask, thread_same}
use Rattle.claims.proofs.Separation.Lookups.{token_same, thread_fits}
use Rattle.claims.proofs.Separation.Owners.{own_task, task_same, change_task_two, some_at_same}
use Rattle.claims.proofs.Separation.Effects.{new_token_lem, no_token_lem}
use Rattle.claims.proofs.Separation.Replied.{Replied, answered_two, accept_two, call_two}

module _ {x y : Trip} {s t : Tables} (r : Agree x y s t) where
  module _ (n : ℕ) (o : OwnThread y n) where
    thread_out : 128 ≤? n ≡ false → x.threads n ≡ false
    thread_out a = r.apart.threads n (in_table _ _ o a)

    pub start_thread_two : Replied x y (start_thread s n) (start_thread t n)
    unfolding start_thread
    start_thread_two =
        call_two s t _ _ r
        (guard_two refl λ a _. find_same (thread_same r n (thread_out a)) λ v m.
        guard_two refl λ _ _.
        accept_two _ _ (thread_both r n _ (fits_start v (thread_fits r n v m))))

    pub kill_thread_two : Replied x y (kill_thread s n) (kill_thread t n)
    unfolding kill_thread
    kill_thread_two =
        call_two s t _ _ r
        (guard_two refl λ a _. find_same (thread_same r n (thread_out a)) λ v m.
        accept_two _ _ (thread_both r n _ (fits_kill v (thread_fits r n v m))))

    pub exit_thread_two : Replied x y (exit_thread s n) (exit_thread t n)
    unfolding exit_thread
    exit_thread_two =
        call_two s t _ _ r
        (guard_two refl λ a _. find_same (thread_same r n (thread_out a)) λ v m.
        guard_two refl λ _ _.
        accept_two _ _ (thread_both r n _ (fits_exit v (thread_fits r n v m))))

    pub thread_information_two : Replied x y (thread_information s n) (thread_information t n)
    unfolding thread_information thread_info reply
    thread_information_two =
        call_two s t _ _ r
        (guard_two refl λ a _. find_same (thread_same r n (thread_out a)) λ v m.
        ok_two (record { shows = refl; rel = r }))

    pub begin_wait_two : (state : ℕ) → Replied x y (begin_wait s n state) (begin_wait t n state)
    unfolding begin_wait wait_begun
    begin_wait_two state =
        call_two s t _ _ r
        (guard_two refl λ _ _. guard_two refl λ a _.
        find_same (thread_same r n (thread_out a)) λ v m. guard_two refl λ _ _.
        ok_two (if_two (Replied x y) (v.state =? DYING) (v.state =? DYING) _ _ _ _ refl
        (λ _ _. answered_two s t _ r)
        (λ _ _. answered_two _ _ _ (thread_both r n _ (fits_waits v (thread_fits r n v m) _ _)))))

    pub poll_wait_two : (ready : ℕ) → Replied x y (poll_wait s n ready) (poll_wait t n ready)
    unfolding poll_wait wait_polled
    poll_wait_two ready =
        call_two s t _ _ r
        (guard_two refl λ _ _. guard_two refl λ a _.
        find_same (thread_same r n (thread_out a)) λ v m. guard_two refl λ _ _.
        ok_two (if_two (Replied x y) (is_pending v ready) (is_pending v ready) _ _ _ _ refl
        (λ _ _. answered_two s t _ r)
        (λ _ _. answered_two _ _ _ (thread_both r n _ (fits_end_wait v (thread_fits r n v m))))))

  -- ---- Suspending ------------------------------------------------------------------------------

  pub create_token_two : (new kind n : ℕ) → OwnToken y new → OwnTask y n kind →
      Replied x y (create_token_call s new kind n) (create_token_call t new kind n)
  unfolding create_token_call create_token suspend_task
  create_token_two new kind n o u =
      call_two s t _ _ r
      (guard_two refl λ a _. guard_two refl λ b _. guard_two refl λ c _.
      let h : y.tokens new ≡ true = in_table _ _ o b in
      let g : x.tokens new ≡ false = r.apart.tokens new h in
      find_same (ap present (task_same r u a c)) λ v m.
      guard_two (ap (λ (w : SuspendToken). w.made) ((r.tokens new).same g)) λ _ _.
      guard_two refl λ e _.
      let k : IsTask kind × (task_of y kind n ≡ true) = own_task u a c e in
      let l : task_of x kind n ≡ false = task_apart r.apart kind n k.1 in
      guard_two (some_at_same r kind n _ k.0 l) λ _ _.
      accept_two _ _
      (token_both (change_task_two r suspend (λ i w f. fits_suspend w f) kind n) new _
      (new_token_lem new kind n (g ∙ sym l) (h ∙ sym k.1))))

  pub drop_token_two : Tree s → (k : ℕ) → OwnToken y k → Replied x y (drop_token_call s k)
      (drop_token_call t k)
  unfolding drop_token_call drop_token resume_task
  drop_token_two T k o =
      call_two s t _ _ r
      (guard_two refl λ a _.
      let g : x.tokens k ≡ false = r.apart.tokens k (in_table _ _ o a) in
      find_same (token_same r k g) λ v m.
      let q : (token_at s k).task ≡ Some v = token_is s k v m in
      let l : task_of x (number v.kind) v.name ≡ false = sym ((r.tokens k).fits₁.of_x v q) ∙ g in
      guard_two (some_at_same r _ v.name 0 (a_task v.kind (T.held_kind k v q)) l) λ _ _.
      accept_two _ _ (subst (λ (w : SuspendToken). Agree x y
      (put_token (change_task resume s (number v.kind) v.name) k (drop (token_at s k)))
      (put_token (change_task resume t (number v.kind) v.name) k (drop w))) ((r.tokens k).same g)
      (token_both (change_task_two r resume (λ n w f. fits_resume w f) (number v.kind) v.name) k _
      (no_token_lem k (token_at s k)))))

  pub suspend_two : (kind n : ℕ) → OwnTask y n kind →
      Replied x y (suspend_call s kind n) (suspend_call t kind n)
  unfolding suspend_call suspend_task
  suspend_two kind n u =
      call_two s t _ _ r
      (guard_two refl λ a _. guard_two refl λ b _.
      find_same (ap present (task_same r u a b)) λ v m. guard_two refl λ c _.
      let k : IsTask kind × (task_of y kind n ≡ true) = own_task u a b c in
      guard_two (some_at_same r kind n _ k.0 (task_apart r.apart kind n k.1)) λ _ _.
      accept_two _ _ (change_task_two r suspend (λ i w f. fits_suspend w f) kind n))

  pub resume_two : (kind n : ℕ) → OwnTask y n kind →
      Replied x y (resume_call s kind n) (resume_call t kind n)
  unfolding resume_call resume_task
  resume_two kind n u =
      call_two s t _ _ r
      (guard_two refl λ a _. guard_two refl λ b _.
      find_same (ap present (task_same r u a b)) λ v m. guard_two refl λ c _.
      let k : IsTask kind × (task_of y kind n ≡ true) = own_task u a b c in
      guard_two (some_at_same r kind n _ k.0 (task_apart r.apart kind n k.1)) λ _ _.
      accept_two _ _ (change_task_two r resume (λ i w f. fits_resume w f) kind n))
