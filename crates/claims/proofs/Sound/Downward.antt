-- A whole cascade leaves what it reached closed (`Closed`), by recursion on the count of what is
-- live: a job's children and processes are all visited, so the job is closed when its loops are
-- over; a process's bound job is killed, so the process is closed when it has ended. Assumes
-- nothing.
use Rattle.std.proofs.lemmas.Option.{none-some, same_Some}
use Rattle.std.proofs.Common.{Some}
use Rattle.std.proofs.Common.{Option, None}
use Prim.Native.Nat.{ℕ, zero, suc, ◌<◌, ◌≤◌}
use native.Mathlib.Nat.{le_refl, lt_of_le_of_lt}
use native.Mathlib.Omega.{arith}
use mathlib.Core.Path.{◌≡◌, refl, sym, ap, ◌∙◌, subst}
use mathlib.Core.Bool.{Bool, true, false}
use lib.IntN.{ℤ}
use Rattle.laws.proofs.Cases.{no_both, ite_on, if_on}
use Rattle.record_job.specs.declared.Job.{Job}
use Rattle.record_job.specs.Job.{killed}
use Rattle.record_process.specs.declared.Critical.{Critical}
use Rattle.record_process.specs.declared.Status.TheVariants.{Exited}
use Rattle.record_process.specs.declared.Process.{Process}
use Rattle.record_process.specs.Process.{critical_to, is_exited, code_of, with_status, ended, acts}
use Rattle.records.specs.declared.tables.Tables.{Tables}
use Rattle.records.specs.Tables.{job_at, process_at, put_job, put_process}
use Rattle.model.specs.Job.{job_empty, lists_thread, stop_threads, up_to, kill_child, exit_member}
use Rattle.model.specs.Job.{kill_listed, kill_step, kill_bound, unlist_process, end_step}
use Rattle.model.specs.Job.{exit_listed, exit_step, remaining, kill_job, exit_process}
use Rattle.model.specs.Job.{end_process}
use Rattle.claims.specs.Reachable.{AtOrAbove, here, below, Tree}
use Rattle.model.proofs.TaskTables.{put_process_made}
use Rattle.model.proofs.Lists.{empty_child, empty_member}
use Rattle.claims.proofs.ThreadMaps.{job_at_stop_threads, process_at_stop_threads}
use Rattle.model.proofs.Live.{live_job_made, live_process_made}
use Rattle.model.proofs.Keeps.{up_to_keeps, unlist_process_keeps}
use Rattle.model.proofs.Remaining.{mark_lt, exit_lt, unlist_le}
use Rattle.model.proofs.Depth.{kill_is, exit_is}
use Rattle.claims.proofs.Fixed.{cascade_kill}
use Rattle.claims.proofs.Stays.{critical_stays, kill_kills}
use Rattle.claims.proofs.Tree.Cascade.{anything, tree_stores, marks_tree, exits_tree}
use Rattle.claims.proofs.Sound.Settle.{up_processes}
use Rattle.claims.proofs.Sound.Closure.{Closed, but, closed_over, close_job, close_process}
use Rattle.claims.proofs.Sound.Closure.{mark_closed, exit_closed, terminate_closed}
use Rattle.claims.proofs.Sound.Closure.{unlist_closed}
use Rattle.claims.proofs.Sound.Visits.{unlisted_kid, unlisted_man, KillCloses, ExitCloses}
use Rattle.claims.proofs.Sound.Visits.{Part, Childless, men_childless, all_kids, all_men}

-- ---- A process that has ended, and the job that it is bound to -------------------------------

pub above_made : {t : Tables} {j i : ℕ} → Tree t → AtOrAbove t j i → (job_at t i).made ≡ true
    → (job_at t j).made ≡ true
above_made T here m = m
above_made T (below {i = i} {p = p} e r) m = above_made T r (T.parent_made i p e)

free≢bound {ℓ} : {P : Type ℓ} {j : ℕ} {b : Bool} → None ≡ critical_to j b → P
free≢bound e = absurd (none-some _ e)

bound_job : {i j : ℕ} {a b : Bool} → critical_to i a ≡ critical_to j b → i ≡ j
bound_job e = ap (λ (b : Critical). b.job) (same_Some _ _ e)

bound_flag : {i j : ℕ} {a b : Bool} → critical_to i a ≡ critical_to j b → a ≡ b
bound_flag e = ap (λ (b : Critical). b.nonzero) (same_Some _ _ e)

pub unlisted_else : (t : Tables) (p q : ℕ)
    → process_at (unlist_process t p) q ≡ process_at (put_process t p (ended (process_at t p))) q
unfolding unlist_process
unlisted_else t p q =
    let u : Tables = put_process t p (ended (process_at t p)) in
    if_on (λ (w : Tables). process_at w q ≡ process_at u q) _ _ _
    (λ h. unfold process_at in (rw (up_processes u (process_at t p).job))) (λ h. refl)

unlisted_at : (t : Tables) (p : ℕ) → (process_at t p).made ≡ true
    → process_at (unlist_process t p) p ≡ ended (process_at t p)
unlisted_at t p l = unlisted_else t p p ∙ put_process_made t p (ended (process_at t p)) l

-- ---- One level of the cascade ----------------------------------------------------------------

module _ (m : ℕ) (kill : KillCloses m) (exit : ExitCloses m) where
  kill_listed_closes : (N M : ℕ → Type 0) (s t : Tables) (j : ℕ) → Tree t → remaining t < m
      → Closed (but N j) M s t → Closed N M s (kill_listed kill_job exit_process t j)
  unfolding kill_listed
  kill_listed_closes N M s t j T r K =
      ite_on (Closed N M s) (job_empty t j) _ _
      (λ e. terminate_closed t j (close_job t j
      (λ c. unlisted_kid t T j c (empty_child t j e c))
      (λ p. unlisted_man t T j p (empty_member t j e p)) K))
      λ e.
      let x : Part m (but N j) M s t = record { tree = T; small = r; closed = K } in
      let u : Tables = up_to 32 (kill_child kill_job j) t in
      let w : Tables = up_to 64 (exit_member exit_process j) u in
      let y : Childless m kill exit (but N j) M s j u = all_kids m kill exit (but N j) M s j t x in
      let z : Childless m kill exit (but N j) M s j w =
      up_to_keeps (Childless m kill exit (but N j) M s j) (exit_member exit_process j)
      (men_childless m kill exit (but N j) M s j) 64 u y in
      close_job w j z.kids (all_men m kill exit (but N j) M s j u y) z.part.closed

  -- the bound job is killed, or the binding does not act
  kill_bound_closes : (N M : ℕ → Type 0) (s t : Tables) (p : ℕ) → Tree t → remaining t < m
      → (process_at t p).made ≡ true → (b : Option Critical) (code : ℤ) → (process_at t p).critical ≡ b
      → code_of (process_at t p).status ≡ code → is_exited (process_at t p).status ≡ true
      → Closed N (but M p) s t → Closed N M s (kill_bound kill_job b code t)
  unfolding kill_bound
  kill_bound_closes N M s t p T r l None code e f g K =
      close_process t p (λ j z c. free≢bound (sym e ∙ c)) K
  kill_bound_closes N M s t p T r l (Some b) code e f g K =
      let i : ℕ = b.job in
      let z : Bool = b.nonzero in
      ite_on (Closed N M s) (acts z code) _ _
      (λ a.
      let w : Tables = kill_job t i in
      let k : (job_at w i).killed ≡ true = kill_kills t i
      (above_made T (T.bound_above p i z e) (T.job_made p l)) in
      close_process w p
      (λ j y c h. ap (λ (x : ℕ). (job_at w x).killed)
      (sym (bound_job (sym e ∙ sym (critical_stays t w (cascade_kill t i) p) ∙ c))) ∙ k)
      (kill N (but M p) s t i T r K))
      (λ a. close_process t p
      (λ j y c h. no_both
      (subst (λ (x : Bool). acts x code ≡ true) (sym (bound_flag (sym e ∙ c)))
      (subst (λ (x : ℤ). acts y x ≡ true) f h)) a) K)

  end_closes : (N M : ℕ → Type 0) (s t : Tables) (p : ℕ) → Tree t → remaining t < m
      → (process_at t p).made ≡ true → lists_thread t p ≡ false → Closed N M s t
      → Closed N M s (end_step kill_job t p)
  unfolding end_step ended
  end_closes N M s t p T r l e K =
      let u : Tables = unlist_process t p in
      let at : process_at u p ≡ ended (process_at t p) = unlisted_at t p l in
      kill_bound_closes N M s u p (unlist_process_keeps Tree anything tree_stores t p tt (l, e) T)
      (lt_of_le_of_lt (unlist_le t p) r) (ap (λ (q : Process). q.made) at ∙ l) _ _
      (ap (λ (q : Process). q.critical) at) (ap (λ (q : Process). code_of q.status) at)
      (ap (λ (q : Process). is_exited q.status) at) (unlist_closed t p l K)

  exit_step_closes : (N M : ℕ → Type 0) (s t : Tables) (p : ℕ) (code : ℤ) → Tree t
      → remaining t ≤ m → Closed N M s t → Closed N M s (exit_step kill_job t p code)
  unfolding exit_step exit_listed
  exit_step_closes N M s t p code T r K =
      ite_on (Closed N M s) _ _ _
      (λ e.
      let v : Process = with_status (process_at t p) (Exited code) in
      let u : Tables = put_process t p v in
      let l : (process_at t p).made ≡ true = live_process_made (process_at t p) e in
      let L : Closed N M s u = exit_closed t p code T e K in
      ite_on (Closed N M s) (lists_thread u p) _ _
      (λ h. closed_over u (stop_threads u p)
      (λ i. ap (λ (w : Job). w.parent) (job_at_stop_threads u p i))
      (λ i. ap (λ (w : Job). w.killed) (job_at_stop_threads u p i)) (process_at_stop_threads u p) L)
      (λ h. end_closes N M s u p (exits_tree t T p code l) (omega (arith, exit_lt t p code e))
      (ap (λ (q : Process). q.made) (put_process_made t p v l) ∙ l) h L))
      (λ e. K)

  kill_step_closes : (N M : ℕ → Type 0) (s t : Tables) (j : ℕ) → Tree t → remaining t ≤ m
      → Closed N M s t → Closed N M s (kill_step kill_job exit_process t j)
  unfolding kill_step
  kill_step_closes N M s t j T r K =
      ite_on (Closed N M s) _ _ _
      (λ e. kill_listed_closes N M s (put_job t j (killed (job_at t j))) j
      (marks_tree t T j (live_job_made (job_at t j) e)) (omega (arith, mark_lt t j e))
      (mark_closed t j K)) (λ e. K)

-- ---- The whole cascade -----------------------------------------------------------------------

closes : (m : ℕ) → KillCloses m × ExitCloses m
closes zero =
    (λ N M s t j T r K. absurd (omega arith), λ N M s t p code T r K. absurd (omega arith))
closes (suc m) =
    let h = closes m in (
      λ N M s t j T r K. subst (Closed N M s) (sym (kill_is t j))
          (kill_step_closes m h.0 h.1 N M s t j T (omega arith) K),
      λ N M s t p code T r K. subst (Closed N M s) (sym (exit_is t p code))
          (exit_step_closes m h.0 h.1 N M s t p code T (omega arith) K),
    )

module _ {N M : ℕ → Type 0} {s t : Tables} (T : Tree t) (K : Closed N M s t) where
  pub kill_closes : (j : ℕ) → Closed N M s (kill_job t j)
  kill_closes j = (closes (suc (remaining t))).0 N M s t j T (le_refl (suc (remaining t))) K

  pub exit_closes : (p : ℕ) (code : ℤ) → Closed N M s (exit_process t p code)
  exit_closes p code =
      (closes (suc (remaining t))).1 N M s t p code T (le_refl (suc (remaining t))) K

  pub end_process_closes : (p : ℕ) → (process_at t p).made ≡ true → lists_thread t p ≡ false
      → Closed N M s (end_process t p)
  unfolding end_process
  end_process_closes p l e =
      let h = closes (suc (remaining t)) in
      end_closes (suc (remaining t)) h.0 h.1 N M s t p T (le_refl (suc (remaining t))) l e K
