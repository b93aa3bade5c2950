-- Calls of x on jobs and processes, in one run: the tables that they leave are still related to
-- the other run's. Assumes nothing.
use Prim.Native.Nat.{ℕ}
use mathlib.Core.Path.{◌≡◌, sym, ◌∙◌}
use mathlib.Core.Bool.{true}
use mathlib.Core.List.{List}
use lib.IntN.{ℤ}
use Rattle.laws.specs.Choice.{◌=?◌}
use Rattle.laws.proofs.Cases.{no_both, ok_on, guard_on, find_on}
use Rattle.job_policy.specs.declared.BasicPolicy.{BasicPolicy}
use Rattle.job_policy.specs.declared.TimerSlackPolicy.{TimerSlackPolicy}
use Rattle.record_process.specs.Process.{KILL_CODE}
use Rattle.records.specs.declared.tables.Tables.{Tables}
use Rattle.reply.specs.Reply.{reply}
use Rattle.model.specs.JobCalls.{with_child, create_child, kill_job_call, set_policy_basic}
use Rattle.model.specs.JobCalls.{set_policy_timer_slack, job_info, job_information}
use Rattle.model.specs.JobCalls.{with_new_process, create_process, with_started, start_process}
use Rattle.model.specs.JobCalls.{exit_process_call, kill_process, set_critical_at_job, check_policy}
use Rattle.model.specs.JobCalls.{process_info, process_information}
use Rattle.model.specs.JobPolicy.{policy_set, set_policy}
use Rattle.claims.specs.Separation.{Trip, OwnJob, OwnProcess, OwnThread}
use Rattle.claims.proofs.Found.{answered_on, call_on, accept_on}
use Rattle.claims.proofs.Separation.Agree.{Agree, x_not_y, x_not_y_process}
use Rattle.claims.proofs.Separation.SideWrites.{put_own_one, put_inherited_one, put_fixed_one}
use Rattle.claims.proofs.Separation.Fits.{fits_slack, fits_status, fits_start}
use Rattle.claims.proofs.Separation.Stores.{job_one, process_one, thread_one}
use Rattle.claims.proofs.Separation.CascadeOne.{kill_job_one, exit_process_one}
use Rattle.claims.proofs.Separation.SearchOne.{Left}
use Rattle.claims.proofs.Separation.Lookups.{in_table, job_fits, process_fits, thread_fits}
use Rattle.claims.proofs.Separation.Effects.{new_job_lem, new_process_lem, new_binding}

module _ {x y : Trip} {s t : Tables} (r : Agree x y s t) where
  pub create_child_one : (j new : ℕ) → OwnJob x j → OwnJob x new → Left x y t (create_child s j new)
  unfolding create_child with_child
  create_child_one j new o u =
      call_on s _ r
      (guard_on λ a. guard_on λ b. find_on λ v m. guard_on λ c. guard_on λ d.
      let h : x.jobs j ≡ true = in_table _ _ o a in
      let k : x.jobs new ≡ true = in_table _ _ u b in
      accept_on _ (put_inherited_one
      (job_one r new k _ (new_job_lem j new (λ e. k) (λ e. no_both e (x_not_y r.apart j h)))) new _
      (λ e. no_both k e)))

  pub kill_job_left : (j : ℕ) → OwnJob x j → Left x y t (kill_job_call s j)
  unfolding kill_job_call
  kill_job_left j o =
      call_on s _ r (guard_on λ a. find_on λ v m. accept_on _ (kill_job_one r j (in_table _ _ o a)))

  pub set_policy_basic_one : (j option : ℕ) (l : List BasicPolicy) → OwnJob x j →
      Left x y t (set_policy_basic s j option l)
  unfolding set_policy_basic set_policy policy_set
  set_policy_basic_one j option l o =
      call_on s _ r
      (guard_on λ a. guard_on λ b. guard_on λ c. find_on λ v m. guard_on λ d.
      ok_on (answered_on _ _ (put_own_one r j _ (λ e. no_both (in_table _ _ o c) e))))

  pub set_slack_one : (j : ℕ) (p : TimerSlackPolicy) → OwnJob x j → Left x y t
      (set_policy_timer_slack s j p)
  unfolding set_policy_timer_slack
  set_slack_one j p o =
      call_on s _ r
      (guard_on λ a. guard_on λ b. find_on λ v m. guard_on λ c. guard_on λ d.
      accept_on _ (job_one r j (in_table _ _ o b) _ (fits_slack v (job_fits r j v m) _)))

  pub job_information_one : (j : ℕ) → Left x y t (job_information s j)
  unfolding job_information job_info
  job_information_one j =
      call_on s _ r (guard_on λ a. find_on λ v m. ok_on (record { tables = r }))

  pub create_process_one : (j new : ℕ) → OwnJob x j → OwnProcess x new → Left x y t
      (create_process s j new)
  unfolding create_process with_new_process
  create_process_one j new o u =
      call_on s _ r
      (guard_on λ a. guard_on λ b. find_on λ v m. guard_on λ c. guard_on λ d.
      let h : x.jobs j ≡ true = in_table _ _ o a in
      let k : x.processes new ≡ true = in_table _ _ u b in
      accept_on _ (put_fixed_one
      (process_one r new k _ (new_process_lem j new (k ∙ sym h)
      (x_not_y_process r.apart new k ∙ sym (x_not_y r.apart j h)))) new _
      (λ e. no_both k e)))

  pub start_process_one : (p n : ℕ) → OwnProcess x p → OwnThread x n → Left x y t
      (start_process s p n)
  unfolding start_process with_started
  start_process_one p n o u =
      call_on s _ r
      (guard_on λ a. guard_on λ b. find_on λ q m. find_on λ v k. guard_on λ c.
      guard_on λ d. guard_on λ e.
      accept_on _
      (thread_one (process_one r p (in_table _ _ o a) _ (fits_status q (process_fits r p q m) _))
      n (in_table _ _ u b) _ (fits_start v (thread_fits r n v k))))

  pub exit_process_left : (p : ℕ) (code : ℤ) → OwnProcess x p → Left x y t
      (exit_process_call s p code)
  unfolding exit_process_call
  exit_process_left p code o =
      call_on s _ r
      (guard_on λ a. find_on λ q m. accept_on _ (exit_process_one r p code (in_table _ _ o a)))

  pub kill_process_one : (p : ℕ) → OwnProcess x p → Left x y t (kill_process s p)
  unfolding kill_process
  kill_process_one p o =
      call_on s _ r
      (guard_on λ a. find_on λ q m. accept_on _ (exit_process_one r p KILL_CODE (in_table _ _ o a)))

  pub set_critical_one : (p j flag : ℕ) → OwnProcess x p → OwnJob x j →
      Left x y t (set_critical_at_job s p j flag)
  unfolding set_critical_at_job
  set_critical_one p j flag o u =
      call_on s _ r
      (guard_on λ a. guard_on λ b. guard_on λ c. find_on λ q m. find_on λ v k.
      guard_on λ d. guard_on λ e.
      let h : x.processes p ≡ true = in_table _ _ o b in
      accept_on _ (process_one r p h _
      (new_binding p j (flag =? 1) q (in_table _ _ u c ∙ sym h) (process_fits r p q m))))

  pub check_policy_one : (p condition : ℕ) → Left x y t (check_policy s p condition)
  unfolding check_policy
  check_policy_one p condition =
      call_on s _ r
      (guard_on λ a. guard_on λ b. find_on λ q m. guard_on λ c. guard_on λ d. accept_on s r)

  pub process_information_one : (p : ℕ) → Left x y t (process_information s p)
  unfolding process_information process_info reply
  process_information_one p =
      call_on s _ r (guard_on λ a. find_on λ q m. ok_on (record { tables = r }))
