-- The calls on jobs and processes keep `Tree`. Assumes nothing.
use Prim.Native.Nat.{ℕ, zero, suc}
use native.Mathlib.Omega.{arith}
use mathlib.Core.Path.{◌≡◌, refl, sym, ap, ◌∙◌, subst}
use mathlib.Core.Bool.{Bool, true, false}
use mathlib.Core.List.{List}
use lib.IntN.{ℤ}
use borrow.Author.Tests.{not-false, leb-false, eqb-true}
use Rattle.laws.specs.Choice.{◌≤?◌, ◌=?◌}
use Rattle.laws.proofs.Cases.{by, no_both, ite_on, ok_on, guard_on, find_on}
use Rattle.job_policy.specs.declared.BasicPolicy.{BasicPolicy}
use Rattle.job_policy.specs.declared.TimerSlack.{TimerSlack}
use Rattle.job_policy.specs.declared.TimerSlackPolicy.{TimerSlackPolicy}
use Rattle.job_policy.specs.Slack.{generate_new}
use Rattle.record_job.specs.declared.Job.{Job}
use Rattle.record_job.specs.Job.{new_job, with_slack}
use Rattle.record_process.specs.declared.Status.{Status}
use Rattle.record_process.specs.declared.Status.TheVariants.{Init, Running, Exited}
use Rattle.record_process.specs.declared.Process.{Process}
use Rattle.record_process.specs.Process.{new_process, is_init, is_exited, with_status, bind_to}
use Rattle.record_thread.specs.declared.Thread.{Thread}
use Rattle.record_thread.specs.Thread.{start}
use Rattle.records.specs.declared.tables.Tables.{Tables}
use Rattle.records.specs.Tables.{job_at, process_at, thread_at, put_job, put_process}
use Rattle.model.specs.Job.{is_above}
use Rattle.model.specs.JobPolicy.{policy_of, set_policy, policy_set}
use Rattle.model.specs.JobCalls.{with_child, create_child, kill_job_call, set_policy_basic}
use Rattle.model.specs.JobCalls.{set_policy_timer_slack, job_info, job_information}
use Rattle.model.specs.JobCalls.{with_new_process, create_process, with_started, start_process}
use Rattle.model.specs.JobCalls.{exit_process_call, kill_process, set_critical_at_job, check_policy}
use Rattle.model.specs.JobCalls.{process_info, process_information}
use Rattle.claims.specs.Reachable.{AtOrAbove, here, below, Tree}
use Rattle.model.proofs.TaskTables.{put_job_here, put_process_here}
use Rattle.claims.proofs.Cross.{thread_at_put_process}
use Rattle.model.proofs.Keeps.{on_parent_on}
use Rattle.claims.proofs.Found.{After, answered_on, call_on, accept_on, job_is, process_is}
use Rattle.claims.proofs.Found.{thread_is}
use Rattle.claims.proofs.Tree.Parts.{GoodThread, good_job, good_process, good_thread}
use Rattle.claims.proofs.Tree.Puts.{put_job_tree, put_own_tree, put_inherited_tree}
use Rattle.claims.proofs.Tree.Puts.{put_process_tree, put_fixed_tree, put_thread_tree}
use Rattle.claims.proofs.Tree.Records.{new_job_good, slack_good, new_process_good, status_good}
use Rattle.claims.proofs.Tree.Records.{bind_to_good}
use Rattle.claims.proofs.Tree.Threads.{start_good}
use Rattle.claims.proofs.Tree.Cascade.{tree_kill, tree_exit}
use Rattle.claims.proofs.Tree.Raise.{reply_on}

module _ {t : Tables} (T : Tree t) where
  -- a job that is not killed has not ended, nor has a process that is not Exited
  pub unkilled_alive : (j : ℕ) → (job_at t j).killed ≡ false → (job_at t j).terminated ≡ false
  unkilled_alive j k =
      by (job_at t j).terminated (λ e. no_both (T.terminated_killed j e) k) (λ e. e)

  pub unexited_alive : (p : ℕ) → is_exited (process_at t p).status ≡ false
      → (process_at t p).terminated ≡ false
  unexited_alive p x =
      by (process_at t p).terminated (λ e. no_both (T.terminated_exited p e) x) (λ e. e)

  -- ---- Jobs ----------------------------------------------------------------------------------

  pub new_job_tree : (j new : ℕ) → (job_at t j).made ≡ true → (job_at t j).killed ≡ false
      → (job_at t new).made ≡ false → Tree (put_job t new (new_job j))
  new_job_tree j new m k f =
      put_job_tree t T new (new_job j) (new_job_good j new m (unkilled_alive j k))
      (λ h. no_both h f) (λ i l e. refl) (λ p l e. refl)

  with_child_tree : (j new : ℕ) → (job_at t j).made ≡ true → (job_at t j).killed ≡ false
      → (32 ≤? new) ≡ false → (job_at t new).made ≡ false → Tree (with_child t j new)
  unfolding with_child
  with_child_tree j new m k r f =
      put_inherited_tree (put_job t new (new_job j)) (new_job_tree j new m k f) new (policy_of t j)
      (ap (λ (v : Job). v.made)
      (put_job_here t new (new_job j) (omega (arith, leb-false 32 new r, T.sized.jobs))))

  pub create_child_tree : (j new : ℕ) → After Tree (create_child t j new)
  unfolding create_child
  create_child_tree j new =
      call_on t _ T (guard_on λ a. guard_on λ b. find_on λ v e. guard_on λ c. guard_on λ d.
      let f = job_is t j v e in
      accept_on _ (with_child_tree j new f.0 (ap (λ (w : Job). w.killed) f.1 ∙ d) b c))

  pub kill_job_call_tree : (j : ℕ) → After Tree (kill_job_call t j)
  unfolding kill_job_call
  kill_job_call_tree j = call_on t _ T (guard_on λ a. find_on λ v e. accept_on _ (tree_kill T j))

  pub set_policy_basic_tree : (j option : ℕ) (l : List BasicPolicy)
      → After Tree (set_policy_basic t j option l)
  unfolding set_policy_basic set_policy policy_set
  set_policy_basic_tree j option l =
      call_on t _ T (guard_on λ a. guard_on λ b. guard_on λ c. find_on λ v e. guard_on λ d.
      ok_on (answered_on _ _ (put_own_tree t T j _ (job_is t j v e).0)))

  slack_tree : (j : ℕ) (s : TimerSlack) → (job_at t j).made ≡ true
      → Tree (put_job t j (with_slack (job_at t j) s))
  slack_tree j s m =
      put_job_tree t T j _ (slack_good (good_job T j) s m) (λ h. (m, refl))
      (λ i l e. T.parent_alive i j l e)
      (λ p l e. subst (λ (n : ℕ). (job_at t n).terminated ≡ false) e (T.job_alive p l))

  pub set_policy_timer_slack_tree : (j : ℕ) (p : TimerSlackPolicy)
      → After Tree (set_policy_timer_slack t j p)
  unfolding set_policy_timer_slack
  set_policy_timer_slack_tree j p =
      call_on t _ T (guard_on λ a. guard_on λ b. find_on λ v e. guard_on λ c. guard_on λ d.
      let f = job_is t j v e in
      accept_on _ (subst (λ (w : Job). Tree (put_job t j (with_slack w (generate_new w.slack p))))
      f.1 (slack_tree j _ f.0)))

  pub job_information_tree : (j : ℕ) → After Tree (job_information t j)
  unfolding job_information job_info
  job_information_tree j =
      call_on t _ T (guard_on λ a. find_on λ v e. ok_on (record { tables = T }))

  -- ---- Processes -----------------------------------------------------------------------------

  pub new_process_tree : (j new : ℕ) → (job_at t j).made ≡ true → (job_at t j).killed ≡ false
      → (process_at t new).made ≡ false → Tree (put_process t new (new_process j))
  new_process_tree j new m k f =
      put_process_tree t T new (new_process j) (new_process_good j m (unkilled_alive j k))
      (λ h. no_both h f) (λ n l e. refl)

  with_new_process_tree : (j new : ℕ) → (job_at t j).made ≡ true → (job_at t j).killed ≡ false
      → (64 ≤? new) ≡ false → (process_at t new).made ≡ false → Tree (with_new_process t j new)
  unfolding with_new_process
  with_new_process_tree j new m k r f =
      put_fixed_tree (put_process t new (new_process j)) (new_process_tree j new m k f) new
      (policy_of t j)
      (ap (λ (q : Process). q.made)
      (put_process_here t new (new_process j)
      (omega (arith, leb-false 64 new r, T.sized.processes))))

  pub create_process_tree : (j new : ℕ) → After Tree (create_process t j new)
  unfolding create_process
  create_process_tree j new =
      call_on t _ T (guard_on λ a. guard_on λ b. find_on λ v e. guard_on λ c. guard_on λ d.
      let f = job_is t j v e in
      accept_on _ (with_new_process_tree j new f.0 (ap (λ (w : Job). w.killed) f.1 ∙ d) b c))

  init_unexited : (s : Status) → is_init s ≡ true → is_exited s ≡ false
  init_unexited Init e = refl
  init_unexited Running e = refl
  init_unexited (Exited code) e = sym e

  with_started_tree : (p n : ℕ) → (process_at t p).made ≡ true → is_init (process_at t p).status ≡ true
      → (thread_at t n).made ≡ true → (thread_at t n).started ≡ false
      → Tree (with_started t p n (process_at t p) (thread_at t n))
  unfolding with_started
  with_started_tree p n m i tm s =
      let u : Tables = put_process t p (with_status (process_at t p) Running) in
      let U : Tree u = put_process_tree t T p _
      (status_good (good_process T p) Running m (λ h. no_both (T.terminated_exited p h)
      (init_unexited (process_at t p).status i)))
      (λ h. (m, refl))
      (λ k l e. subst (λ (i : ℕ). (process_at t i).listed ≡ true) e (T.process_alive k l)) in
      put_thread_tree u U n (start (thread_at t n))
      (start_good (subst (GoodThread u) (thread_at_put_process t p _ n) (good_thread U n)) tm s)
      (λ h. tm)

  pub start_process_tree : (p n : ℕ) → After Tree (start_process t p n)
  unfolding start_process
  start_process_tree p n =
      call_on t _ T (guard_on λ a. guard_on λ b. find_on λ q e. find_on λ v g. guard_on λ c.
      guard_on λ d. guard_on λ i.
      let f = process_is t p q e in
      let h = thread_is t n v g in
      accept_on _ (subst (λ (w : Process). Tree (with_started t p n w v)) f.1
      (subst (λ (w : Thread). Tree (with_started t p n (process_at t p) w)) h.1
      (with_started_tree p n f.0
      (ap (λ (w : Process). is_init w.status) f.1 ∙ not-false _ i)
      h.0 (ap (λ (w : Thread). w.started) h.1 ∙ c)))))

  pub exit_process_call_tree : (p : ℕ) (code : ℤ) → After Tree (exit_process_call t p code)
  unfolding exit_process_call
  exit_process_call_tree p code =
      call_on t _ T (guard_on λ a. find_on λ q e. accept_on _ (tree_exit T p code))

  pub kill_process_tree : (p : ℕ) → After Tree (kill_process t p)
  unfolding kill_process
  kill_process_tree p =
      call_on t _ T (guard_on λ a. find_on λ q e. accept_on _ (tree_exit T p _))

  bind_to_tree : (p j : ℕ) (b : Bool) → (process_at t p).made ≡ true
      → AtOrAbove t j (process_at t p).job → Tree (put_process t p (bind_to (process_at t p) j b))
  bind_to_tree p j b m a =
      put_process_tree t T p _ (bind_to_good (good_process T p) j b m a) (λ h. (m, refl))
      (λ k l e. subst (λ (i : ℕ). (process_at t i).listed ≡ true) e (T.process_alive k l))

  pub check_policy_tree : (p condition : ℕ) → After Tree (check_policy t p condition)
  unfolding check_policy
  check_policy_tree p condition =
      call_on t _ T (guard_on λ a. guard_on λ b. find_on λ q e. guard_on λ c. guard_on λ d.
      accept_on _ T)

  pub process_information_tree : (p : ℕ) → After Tree (process_information t p)
  unfolding process_information process_info
  process_information_tree p =
      call_on t _ T (guard_on λ a. find_on λ q e. ok_on (reply_on _ _ _ T))

-- the search upward finds what is above
pub above_is : (n : ℕ) (t : Tables) (j i : ℕ) → is_above n t j i ≡ true → AtOrAbove t j i
unfolding is_above
above_is zero t j i = λ e. no_both e refl
above_is (suc n) t j i =
    ite_on (λ b. b ≡ true → AtOrAbove t j i) (i =? j) _ _
    (λ h e. subst (λ (k : ℕ). AtOrAbove t j k) (sym (eqb-true i j h)) here)
    λ h. on_parent_on (λ b. b ≡ true → AtOrAbove t j i) (job_at t i).parent _ _
    (λ q e. no_both e refl) (λ p q e. below q (above_is n t j p e))

pub set_critical_at_job_tree : {t : Tables} → Tree t → (p j flag : ℕ)
    → After Tree (set_critical_at_job t p j flag)
unfolding set_critical_at_job
set_critical_at_job_tree {t} T p j flag =
    call_on t _ T (guard_on λ a. guard_on λ b. guard_on λ c. find_on λ q e. find_on λ v g.
    guard_on λ d. guard_on λ h.
    let f = process_is t p q e in
    accept_on _ (subst (λ (w : Process). Tree (put_process t p (bind_to w j (flag =? 1)))) f.1
    (bind_to_tree T p j (flag =? 1) f.0
    (subst (λ (w : Process). AtOrAbove t j w.job) (sym f.1)
    (above_is 32 t j q.job (not-false _ h))))))
