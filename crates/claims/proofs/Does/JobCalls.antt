-- Which of the ways of `Does` each call on jobs and processes goes. Assumes nothing.
use Prim.Native.Nat.{ℕ}
use mathlib.Core.Path.{◌≡◌, refl, sym, ap, ap₂, ◌∙◌, subst}
use mathlib.Core.Bool.{true}
use mathlib.Core.List.{List}
use Rattle.job_policy.specs.declared.BasicPolicy.{BasicPolicy}
use Rattle.job_policy.specs.declared.TimerSlackPolicy.{TimerSlackPolicy}
use lib.IntN.{ℤ}
use borrow.Author.Tests.{not-false, leb-false}
use Rattle.laws.proofs.Cases.{ok_on, guard_on, find_on, no_both}
use Rattle.record_job.specs.declared.Job.{Job}
use Rattle.record_process.specs.declared.Status.{Status}
use Rattle.record_process.specs.declared.Status.TheVariants.{Init, Running, Exited}
use Rattle.record_process.specs.declared.Process.{Process}
use Rattle.record_process.specs.Process.{is_init, is_exited, code_of, with_status}
use Rattle.record_thread.specs.declared.Thread.{Thread}
use Rattle.records.specs.declared.tables.Tables.{Tables}
use Rattle.records.specs.Tables.{process_at}
use Rattle.model.specs.JobPolicy.{set_policy, policy_set}
use Rattle.model.specs.JobCalls.{create_child, kill_job_call, set_policy_basic}
use Rattle.model.specs.JobCalls.{set_policy_timer_slack, job_info, job_information, create_process}
use Rattle.model.specs.JobCalls.{with_started, start_process, exit_process_call, kill_process}
use Rattle.model.specs.JobCalls.{set_critical_at_job, check_policy, process_info}
use Rattle.model.specs.JobCalls.{process_information}
use Rattle.model.specs.Step.{Call, cmd05}
use Rattle.claims.specs.Reachable.{Tree}
use Rattle.claims.specs.StopsWhole.{EndsWith, by_exit, by_kill}
use Rattle.claims.proofs.Cross.{thread_at_put_process}
use Rattle.claims.proofs.Found.{After, answered_on, call_on, accept_on, job_is, process_is}
use Rattle.claims.proofs.Found.{thread_is}
use Rattle.claims.proofs.Tree.Raise.{reply_on}
use Rattle.claims.proofs.Quiet.{job_key, thread_key, process_key, quiet_none, quiet_both}
use Rattle.claims.proofs.Quiet.{quiet_job, quiet_process, quiet_thread, quiet_own}
use Rattle.claims.proofs.Does.Ways.{Does, rests, new_job_lem, new_process_lem, kills, exits, none}

module _ {t : Tables} (T : Tree t) (c : Call) where
  pub create_child_does : (j new : ℕ) → After (Does t c) (create_child t j new)
  unfolding create_child
  create_child_does j new =
      call_on t _ (none t c)
      (guard_on λ a. guard_on λ b. find_on λ v e. guard_on λ f. guard_on λ d.
      let g = job_is t j v e in
      accept_on _ (new_job_lem j new g.0 (ap (λ (w : Job). w.killed) g.1 ∙ d)
      (leb-false 32 new b) f))

  pub create_process_does : (j new : ℕ) → After (Does t c) (create_process t j new)
  unfolding create_process
  create_process_does j new =
      call_on t _ (none t c)
      (guard_on λ a. guard_on λ b. find_on λ v e. guard_on λ f. guard_on λ d.
      let g = job_is t j v e in
      accept_on _ (new_process_lem j new g.0 (ap (λ (w : Job). w.killed) g.1 ∙ d)
      (leb-false 64 new b) f))

  pub kill_job_call_does : (j : ℕ) → After (Does t c) (kill_job_call t j)
  unfolding kill_job_call
  kill_job_call_does j =
      call_on t _ (none t c)
      (guard_on λ a. find_on λ v e. accept_on _ (kills j (job_is t j v e).0))

  pub set_policy_basic_does : (j option : ℕ) (l : List BasicPolicy)
      → After (Does t c) (set_policy_basic t j option l)
  unfolding set_policy_basic set_policy policy_set
  set_policy_basic_does j option l =
      call_on t _ (none t c)
      (guard_on λ a. guard_on λ b. guard_on λ d. find_on λ v e. guard_on λ f.
      ok_on (answered_on _ _ (rests (quiet_own t j _))))

  pub set_policy_timer_slack_does : (j : ℕ) (p : TimerSlackPolicy)
      → After (Does t c) (set_policy_timer_slack t j p)
  unfolding set_policy_timer_slack
  set_policy_timer_slack_does j p =
      call_on t _ (none t c)
      (guard_on λ a. guard_on λ b. find_on λ v e. guard_on λ d. guard_on λ f.
      accept_on _ (rests (quiet_job t j _
      (ap (λ (w : Job). job_key w) (sym (job_is t j v e).1)))))

  pub job_information_does : (j : ℕ) → After (Does t c) (job_information t j)
  unfolding job_information job_info
  job_information_does j =
      call_on t _ (none t c) (guard_on λ a. find_on λ v e. ok_on (record { tables = none t c }))

  init_code : (s : Status) → is_init s ≡ true
      → (is_exited Running ≡ is_exited s) × (code_of Running ≡ code_of s)
  init_code Init e = (refl, refl)
  init_code Running e = (refl, refl)
  init_code (Exited code) e = no_both e refl

  pub start_process_does : (p n : ℕ) → After (Does t c) (start_process t p n)
  unfolding start_process with_started
  start_process_does p n =
      call_on t _ (none t c)
      (guard_on λ a. guard_on λ b. find_on λ q e. find_on λ v g. guard_on λ d.
      guard_on λ f. guard_on λ i.
      let k = init_code q.status (not-false _ i) in
      let h : process_key (with_status q Running) ≡ process_key (process_at t p) =
      ap₂ (λ x y. (q.made, q.listed, q.terminated, q.job, x, y)) k.0 k.1
      ∙ ap (λ (w : Process). process_key w) (sym (process_is t p q e).1) in
      accept_on _ (rests (quiet_both (quiet_process t p _ h)
      (quiet_thread _ n _ (ap (λ (x : Thread). thread_key x)
      (sym (thread_at_put_process t p _ n ∙ (thread_is t n v g).1)))))))

  pub exit_process_call_does : (p : ℕ) (code : ℤ) → c ≡ cmd05 p code
      → After (Does t c) (exit_process_call t p code)
  unfolding exit_process_call
  exit_process_call_does p code h =
      call_on t _ (none t c) (guard_on λ a. find_on λ q e.
      accept_on _ (exits p code (subst (λ x. EndsWith t p x code) (sym h) by_exit)
      (quiet_none t) T))

  pub kill_process_does : (p : ℕ) → After (Does t c) (kill_process t p)
  unfolding kill_process
  kill_process_does p =
      call_on t _ (none t c) (guard_on λ a. find_on λ q e.
      accept_on _ (exits p _ by_kill (quiet_none t) T))

  pub set_critical_at_job_does : (p j flag : ℕ) → After (Does t c) (set_critical_at_job t p j flag)
  unfolding set_critical_at_job
  set_critical_at_job_does p j flag =
      call_on t _ (none t c)
      (guard_on λ a. guard_on λ b. guard_on λ d. find_on λ q e. find_on λ v g.
      guard_on λ f. guard_on λ h.
      accept_on _ (rests (quiet_process t p _
      (ap (λ (w : Process). process_key w) (sym (process_is t p q e).1)))))

  pub check_policy_does : (p condition : ℕ) → After (Does t c) (check_policy t p condition)
  unfolding check_policy
  check_policy_does p condition =
      call_on t _ (none t c)
      (guard_on λ a. guard_on λ b. find_on λ q e. guard_on λ d. guard_on λ f.
      accept_on _ (none t c))

  pub process_information_does : (p : ℕ) → After (Does t c) (process_information t p)
  unfolding process_information process_info
  process_information_does p =
      call_on t _ (none t c) (guard_on λ a. find_on λ q e. ok_on (reply_on _ _ _ (none t c)))
