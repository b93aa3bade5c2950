-- Calls of y on jobs and processes, in both runs: the same answers, and tables that are still
-- related. Assumes nothing.
use Prim.Native.Nat.{ℕ}
use mathlib.Core.Path.{◌≡◌, refl, sym, ap, ap₂, ◌∙◌, subst}
use mathlib.Core.Bool.{true, false, not}
use mathlib.Core.List.{List}
use lib.IntN.{ℤ, pos}
use Rattle.laws.specs.Choice.{◌≤?◌, ◌=?◌}
use Rattle.laws.specs.Guarded.{found}
use Rattle.laws.proofs.Cases.{no_both, ok_two, guard_two, find_same}
use Rattle.job_policy.specs.declared.BasicPolicy.{BasicPolicy}
use Rattle.job_policy.specs.declared.JobPolicy.{JobPolicy}
use Rattle.job_policy.specs.declared.TimerSlackPolicy.{TimerSlackPolicy}
use Rattle.job_policy.specs.Policy.{get_action}
use Rattle.record_job.specs.declared.Job.{Job}
use Rattle.record_process.specs.declared.Process.{Process}
use Rattle.record_process.specs.Process.{KILL_CODE}
use Rattle.record_thread.specs.declared.Thread.{Thread}
use Rattle.records.specs.declared.tables.Tables.{Tables}
use Rattle.reply.specs.declared.Fields.TheVariants.{JobFields}
use Rattle.reply.specs.Reply.{reply, reply_with}
use Rattle.records.specs.Tables.{own_at, inherited_at}
use Rattle.model.specs.Replies.{process}
use Rattle.model.specs.JobCalls.{with_child, create_child, kill_job_call, set_policy_basic}
use Rattle.model.specs.JobCalls.{set_policy_timer_slack, job_info, job_information}
use Rattle.model.specs.JobCalls.{with_new_process, create_process, with_started, start_process}
use Rattle.model.specs.JobCalls.{exit_process_call, kill_process, set_critical_at_job, check_policy}
use Rattle.model.specs.JobCalls.{process_info, process_information}
use Rattle.model.specs.JobPolicy.{Setting, set_each, policy_set, set_policy, panics_at, is_denied}
use Rattle.model.specs.ThreadCalls.{create_thread}
use Rattle.model.specs.Step.{shown}
use Rattle.claims.specs.Separation.{Trip, OwnJob, OwnProcess, OwnThread}
use Rattle.claims.proofs.Found.{process_is}
use Rattle.claims.proofs.Separation.Agree.{Agree}
use Rattle.claims.proofs.Separation.SideWrites.{put_own_two, put_inherited_two, put_fixed_two}
use Rattle.claims.proofs.Separation.Fits.{fits_slack, fits_status, fits_start}
use Rattle.claims.proofs.Separation.Stores.{job_both, process_both, thread_both}
use Rattle.claims.proofs.Separation.Same.{empty_same}
use Rattle.claims.proofs.Separation.CascadeTwo.{kill_job_two, exit_process_two}
use Rattle.claims.proofs.Separation.Lookups.{in_table, job_same, process_same, thread_same}
use Rattle.claims.proofs.Separation.Lookups.{job_fits, process_fits, thread_fits}
use Rattle.claims.proofs.Separation.Effects.{new_job_lem, new_process_lem, new_thread_lem, new_binding}
use Rattle.claims.proofs.Separation.Effects.{policy_same, above_same}
use Rattle.claims.proofs.Separation.Replied.{Replied, answered_two, accept_two, call_two}

module _ {x y : Trip} {s t : Tables} (r : Agree x y s t) where
  pub create_child_two : (j new : ℕ) → OwnJob y j → OwnJob y new →
      Replied x y (create_child s j new) (create_child t j new)
  unfolding create_child with_child
  create_child_two j new o u =
      call_two s t _ _ r
      (guard_two refl λ a _. guard_two refl λ b _.
      let h : y.jobs j ≡ true = in_table _ _ o a in
      let k : y.jobs new ≡ true = in_table _ _ u b in
      find_same (job_same r j h) λ v m.
      guard_two (ap (λ (w : Job). w.made) ((r.jobs new).same k)) λ _ _. guard_two refl λ _ _.
      accept_two _ _ (put_inherited_two
      (job_both r new _ (new_job_lem j new (λ e. no_both e (r.apart.jobs j h)) (λ e. k)))
      new _ _ (λ e. policy_same r j (r.apart.jobs j h))))

  pub kill_job_both : (j : ℕ) → OwnJob y j → Replied x y (kill_job_call s j) (kill_job_call t j)
  unfolding kill_job_call
  kill_job_both j o =
      call_two s t _ _ r
      (guard_two refl λ a _.
      let h : y.jobs j ≡ true = in_table _ _ o a in
      find_same (job_same r j h) λ v m. accept_two _ _ (kill_job_two s t r j (r.apart.jobs j h)))

  pub set_policy_basic_two : (j option : ℕ) (l : List BasicPolicy) → OwnJob y j →
      Replied x y (set_policy_basic s j option l) (set_policy_basic t j option l)
  unfolding set_policy_basic set_policy policy_set
  set_policy_basic_two j option l o =
      call_two s t _ _ r
      (guard_two refl λ _ _. guard_two refl λ _ _. guard_two refl λ a _.
      let h : y.jobs j ≡ true = in_table _ _ o a in
      let k : x.jobs j ≡ false = r.apart.jobs j h in
      let e : set_each option (inherited_at s j) (own_at s j) l ≡ set_each option (inherited_at t j)
      (own_at t j) l =
      ap₂ (λ (p q : JobPolicy). set_each option p q l) (r.inherited j k) (r.own j k) in
      find_same (job_same r j h) λ v m.
      guard_two (ap not (empty_same r j h)) λ _ _.
      ok_two (subst
      (λ (z : Setting). Replied x y
      (policy_set s j (set_each option (inherited_at s j) (own_at s j) l)) (policy_set t j z)) e
      (answered_two _ _ _ (put_own_two r j _ _ (λ _. refl)))))

  pub set_slack_two : (j : ℕ) (p : TimerSlackPolicy) → OwnJob y j →
      Replied x y (set_policy_timer_slack s j p) (set_policy_timer_slack t j p)
  unfolding set_policy_timer_slack
  set_slack_two j p o =
      call_two s t _ _ r
      (guard_two refl λ _ _. guard_two refl λ a _.
      let h : y.jobs j ≡ true = in_table _ _ o a in
      find_same (job_same r j h) λ v m.
      guard_two (ap not (empty_same r j h)) λ _ _. guard_two refl λ _ _.
      accept_two _ _ (job_both r j _ (fits_slack v (job_fits r j v m) _)))

  pub job_information_two : (j : ℕ) → OwnJob y j → Replied x y (job_information s j)
      (job_information t j)
  unfolding job_information job_info
  job_information_two j o =
      call_two s t _ _ r
      (guard_two refl λ a _.
      let h : y.jobs j ≡ true = in_table _ _ o a in
      find_same (job_same r j h) λ v m.
      ok_two (record {
        shows =
            ap (λ (p : JobPolicy). shown
            (reply_with t
            (JobFields v.killed v.terminated v.slack.amount v.slack.mode) (pos 0) p))
            (policy_same r j (r.apart.jobs j h));
        rel = r;
      }))

  pub create_process_two : (j new : ℕ) → OwnJob y j → OwnProcess y new →
      Replied x y (create_process s j new) (create_process t j new)
  unfolding create_process with_new_process
  create_process_two j new o u =
      call_two s t _ _ r
      (guard_two refl λ a _. guard_two refl λ b _.
      let h : y.jobs j ≡ true = in_table _ _ o a in
      let k : y.processes new ≡ true = in_table _ _ u b in
      let g : x.jobs j ≡ false = r.apart.jobs j h in
      let l : x.processes new ≡ false = r.apart.processes new k in
      find_same (job_same r j h) λ v m.
      guard_two (ap (λ (w : Process). w.made) ((r.processes new).same l)) λ _ _.
      guard_two refl λ _ _.
      accept_two _ _ (put_fixed_two
      (process_both r new _ (new_process_lem j new (l ∙ sym g) (k ∙ sym h)))
      new _ _ (λ e. policy_same r j g)))

  module _ (p : ℕ) (o : OwnProcess y p) where
    process_out : 64 ≤? p ≡ false → x.processes p ≡ false
    process_out a = r.apart.processes p (in_table _ _ o a)

    pub exit_process_both : (code : ℤ) → Replied x y (exit_process_call s p code)
        (exit_process_call t p code)
    unfolding exit_process_call
    exit_process_both code =
        call_two s t _ _ r
        (guard_two refl λ a _. find_same (process_same r p (process_out a)) λ q m.
        accept_two _ _ (exit_process_two s t r p code (process_out a)))

    pub kill_process_two : Replied x y (kill_process s p) (kill_process t p)
    unfolding kill_process
    kill_process_two =
        call_two s t _ _ r
        (guard_two refl λ a _. find_same (process_same r p (process_out a)) λ q m.
        accept_two _ _ (exit_process_two s t r p KILL_CODE (process_out a)))

    pub set_critical_two : (j flag : ℕ) → OwnJob y j →
        Replied x y (set_critical_at_job s p j flag) (set_critical_at_job t p j flag)
    unfolding set_critical_at_job
    set_critical_two j flag u =
        call_two s t _ _ r
        (guard_two refl λ _ _. guard_two refl λ b _. guard_two refl λ c _.
        let h : x.processes p ≡ false = process_out b in
        let k : y.jobs j ≡ true = in_table _ _ u c in
        find_same (process_same r p h) λ q m. find_same (job_same r j k) λ v l.
        guard_two refl λ _ _.
        guard_two
        (ap not (above_same r 32 j q.job
        (sym ((process_fits r p q m).of_x (made_of q m)) ∙ h))) λ _ _.
        accept_two _ _ (process_both r p _
        (new_binding p j (flag =? 1) q (r.apart.jobs j k ∙ sym h) (process_fits r p q m))))
      where
        made_of : (q : Process) → process s p ≡ found q → q.made ≡ true
        made_of q m = let e = process_is s p q m in ap (λ (w : Process). w.made)
            (sym e.1) ∙ e.0

    pub check_policy_two : (condition : ℕ) → Replied x y (check_policy s p condition)
        (check_policy t p condition)
    unfolding check_policy
    check_policy_two condition =
        call_two s t _ _ r
        (guard_two refl λ _ _. guard_two refl λ b _.
        let h : x.processes p ≡ false = process_out b in
        find_same (process_same r p h) λ q m.
        guard_two (ap (λ (z : JobPolicy). panics_at (get_action z condition)) (r.fixed p h)) λ _ _.
        guard_two (ap (λ (z : JobPolicy). is_denied (get_action z condition)) (r.fixed p h)) λ _ _.
        accept_two s t r)

    pub process_information_two : Replied x y (process_information s p) (process_information t p)
    unfolding process_information process_info reply
    process_information_two =
        call_two s t _ _ r
        (guard_two refl λ a _. find_same (process_same r p (process_out a)) λ q m.
        ok_two (record { shows = refl; rel = r }))

    pub start_process_two : (n : ℕ) → OwnThread y n → Replied x y (start_process s p n)
        (start_process t p n)
    unfolding start_process with_started
    start_process_two n u =
        call_two s t _ _ r
        (guard_two refl λ a _. guard_two refl λ b _.
        find_same (process_same r p (process_out a)) λ q m.
        find_same (thread_same r n (r.apart.threads n (in_table _ _ u b))) λ v k.
        guard_two refl λ _ _. guard_two refl λ _ _. guard_two refl λ _ _.
        accept_two _ _ (thread_both (process_both r p _ (fits_status q (process_fits r p q m) _))
        n _ (fits_start v (thread_fits r n v k))))

    pub create_thread_two : (new : ℕ) → OwnThread y new →
        Replied x y (create_thread s p new) (create_thread t p new)
    unfolding create_thread
    create_thread_two new u =
        call_two s t _ _ r
        (guard_two refl λ a _. guard_two refl λ b _.
        let k : y.threads new ≡ true = in_table _ _ u b in
        let l : x.threads new ≡ false = r.apart.threads new k in
        find_same (process_same r p (process_out a)) λ q m.
        guard_two (ap (λ (w : Thread). w.made) ((r.threads new).same l)) λ _ _.
        guard_two refl λ _ _.
        accept_two _ _ (thread_both r new _
        (new_thread_lem p new (l ∙ sym (process_out a)) (k ∙ sym (in_table _ _ o a)))))
