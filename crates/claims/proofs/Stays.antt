-- The parts of the tables that a cascade leaves, and the marks that it never takes back, by name;
-- and that a killed job is killed and an exited process Exited with the code given. u is what a
-- cascade made of t (`cascade_kill`, ..). Assumes nothing.
use Prim.Native.Nat.{ℕ}
use mathlib.Core.Path.{◌≡◌, refl, sym, ap, ◌∙◌, subst}
use mathlib.Core.Bool.{true}
use lib.IntN.{ℤ}
use Rattle.laws.specs.Choice.{◌=?◌}
use Rattle.laws.proofs.Cases.{by, no_both, ite_on, and_left, and_right, and_true}
use Rattle.record_job.specs.declared.Job.{Job}
use Rattle.record_job.specs.Job.{killed, is_parent, child_of}
use Rattle.record_process.specs.declared.Status.TheVariants.{Exited}
use Rattle.record_process.specs.declared.Process.{Process}
use Rattle.record_process.specs.Process.{is_exited, code_of, with_status, ended, member_of}
use Rattle.record_thread.specs.Thread.{thread_of}
use Rattle.records.specs.declared.tables.Tables.{Tables}
use Rattle.records.specs.Tables.{job_at, process_at, thread_at, put_job, put_process}
use Rattle.model.specs.Job.{stop_threads, is_live_process, kill_step, exit_step, kill_job}
use Rattle.model.specs.Job.{exit_process}
use Rattle.model.proofs.TaskTables.{put_job_made, put_process_made}
use Rattle.claims.proofs.Lengths.{lengths, put_job_lengths, put_process_lengths}
use Rattle.claims.proofs.Lengths.{stop_threads_lengths}
use Rattle.model.proofs.Live.{live_job, live_process_made, live_process_unexited}
use Rattle.model.proofs.Stores.{stores}
use Rattle.model.proofs.Depth.{kill_is, exit_is}
use Rattle.claims.proofs.Fixed.{Cascade, job_stays, process_stays, job_same, process_same}
use Rattle.claims.proofs.Fixed.{thread_same, cascade_kill_listed, cascade_exit_listed}

module _ (t u : Tables) (c : Cascade t u) where
  -- ---- Whole tables --------------------------------------------------------------------------

  pub lengths_stay : lengths u ≡ lengths t
  lengths_stay =
      c (λ w. lengths w ≡ lengths t)
      (stores (λ w. lengths w ≡ lengths t)
      (λ w j e x. put_job_lengths w j _ ∙ x) (λ w j e x. put_job_lengths w j _ ∙ x)
      (λ w p code e x. put_process_lengths w p _ ∙ x) (λ w p x. put_process_lengths w p _ ∙ x)
      (λ w p e l x. stop_threads_lengths w p ∙ x))
      refl

  -- what the stores of jobs, processes and threads leave
  beside : {B : Type 0} (f : Tables → B) → ((w : Tables) (j : ℕ) (v : Job) → f (put_job w j v) ≡ f w)
      → ((w : Tables) (p : ℕ) (v : Process) → f (put_process w p v) ≡ f w)
      → ((w : Tables) (p : ℕ) → f (stop_threads w p) ≡ f w) → f u ≡ f t
  beside f j p s =
      c (λ w. f w ≡ f t)
      (stores (λ w. f w ≡ f t)
      (λ w i e x. j w i _ ∙ x) (λ w i e x. j w i _ ∙ x) (λ w i code e x. p w i _ ∙ x)
      (λ w i x. p w i _ ∙ x)
      (λ w i e l x. s w i ∙ x))
      refl

  pub own_stay : u.own ≡ t.own
  unfolding put_job put_process stop_threads
  own_stay = beside (λ w. w.own) (λ w j v. refl) (λ w p v. refl) (λ w p. refl)

  pub inherited_stay : u.inherited ≡ t.inherited
  unfolding put_job put_process stop_threads
  inherited_stay = beside (λ w. w.inherited) (λ w j v. refl) (λ w p v. refl) (λ w p. refl)

  pub fixed_stay : u.fixed ≡ t.fixed
  unfolding put_job put_process stop_threads
  fixed_stay = beside (λ w. w.fixed) (λ w j v. refl) (λ w p v. refl) (λ w p. refl)

  pub tokens_stay : u.tokens ≡ t.tokens
  unfolding put_job put_process stop_threads
  tokens_stay = beside (λ w. w.tokens) (λ w j v. refl) (λ w p v. refl) (λ w p. refl)

  -- ---- Jobs ----------------------------------------------------------------------------------

  module _ (i : ℕ) where
    pub job_made_stays : (job_at u i).made ≡ (job_at t i).made
    job_made_stays = job_same t u c (λ v. v.made) (λ v. refl) (λ v. refl) i

    pub parent_stays : (job_at u i).parent ≡ (job_at t i).parent
    parent_stays = job_same t u c (λ v. v.parent) (λ v. refl) (λ v. refl) i

    pub killed_stays : (job_at t i).killed ≡ true → (job_at u i).killed ≡ true
    killed_stays = job_stays (λ v. v.killed ≡ true) (λ v e x. refl) (λ v e x. x) t u c i

    pub terminated_stays : (job_at t i).terminated ≡ true → (job_at u i).terminated ≡ true
    terminated_stays = job_stays (λ v. v.terminated ≡ true) (λ v e x. x) (λ v e x. refl) t u c i

    pub listed_before : (job_at u i).listed ≡ true → (job_at t i).listed ≡ true
    listed_before =
        job_stays (λ v. v.listed ≡ true → (job_at t i).listed ≡ true) (λ v e x. x)
        (λ v e x h. no_both h refl)
        t u c i (λ h. h)

    pub child_before : (j : ℕ) → child_of (job_at u i) j ≡ true → child_of (job_at t i) j ≡ true
    unfolding child_of
    child_before j h =
        and_true (listed_before (and_left (job_at u i).listed _ h))
        (ap (λ q. is_parent q j) (sym parent_stays) ∙ and_right (job_at u i).listed _ h)

    -- ---- Processes ---------------------------------------------------------------------------

    pub process_made_stays : (process_at u i).made ≡ (process_at t i).made
    process_made_stays = process_same t u c (λ q. q.made) (λ q s. refl) (λ q code. refl) i

    pub home_stays : (process_at u i).job ≡ (process_at t i).job
    home_stays = process_same t u c (λ q. q.job) (λ q s. refl) (λ q code. refl) i

    pub critical_stays : (process_at u i).critical ≡ (process_at t i).critical
    critical_stays = process_same t u c (λ q. q.critical) (λ q s. refl) (λ q code. refl) i

    -- the first code stays (M6)
    pub code_stays : (code : ℤ) → (process_at t i).status ≡ Exited code
        → (process_at u i).status ≡ Exited code
    unfolding ended
    code_stays code =
        process_stays (λ q. q.status ≡ Exited code)
        (λ q z e x. no_both (ap is_exited x) (live_process_unexited q e))
        (λ q x. ap (λ s. Exited (code_of s)) x) t u c i

    pub exited_stays : is_exited (process_at t i).status ≡ true
        → is_exited (process_at u i).status ≡ true
    unfolding ended
    exited_stays =
        process_stays (λ q. is_exited q.status ≡ true) (λ q z e x. refl) (λ q x. refl) t u c i

    pub member_listed_before : (process_at u i).listed ≡ true → (process_at t i).listed ≡ true
    unfolding ended
    member_listed_before =
        process_stays (λ q. q.listed ≡ true → (process_at t i).listed ≡ true) (λ q z e x. x)
        (λ q x h. no_both h refl) t u c i (λ h. h)

    pub member_before : (j : ℕ) → member_of (process_at u i) j ≡ true
        → member_of (process_at t i) j ≡ true
    unfolding member_of
    member_before j h =
        and_true (member_listed_before (and_left (process_at u i).listed _ h))
        (ap (λ k. k =? j) (sym home_stays) ∙ and_right (process_at u i).listed _ h)

    -- ---- Threads -----------------------------------------------------------------------------

    pub thread_made_stays : (thread_at u i).made ≡ (thread_at t i).made
    thread_made_stays = thread_same t u c (λ v. v.made) (λ v. refl) i

    pub thread_of_stays : (p : ℕ) → thread_of (thread_at u i) p ≡ thread_of (thread_at t i) p
    unfolding thread_of
    thread_of_stays p = thread_same t u c (λ v. thread_of v p) (λ v. refl) i

    pub suspends_stay : (thread_at u i).suspends ≡ (thread_at t i).suspends
    suspends_stay = thread_same t u c (λ v. v.suspends) (λ v. refl) i

-- ---- What was asked for is done --------------------------------------------------------------

pub kill_kills : (t : Tables) (j : ℕ) → (job_at t j).made ≡ true
    → (job_at (kill_job t j) j).killed ≡ true
unfolding kill_step
kill_kills t j m =
    subst (λ (w : Tables). (job_at w j).killed ≡ true) (sym (kill_is t j))
    (ite_on (λ (w : Tables). (job_at w j).killed ≡ true) _ _ _
    (λ e.
    let v : Tables = put_job t j (killed (job_at t j)) in
    let h : (job_at v j).killed ≡ true = ap (λ (w : Job). w.killed) (put_job_made t j _ m) in
    killed_stays v _ (cascade_kill_listed v j h) j h)
    (λ e. by (job_at t j).killed (λ h. h) (λ h. no_both (live_job _ m h) e)))

pub exit_exits : (t : Tables) (p : ℕ) (code : ℤ) → is_live_process (process_at t p) ≡ true
    → (process_at (exit_process t p code) p).status ≡ Exited code
unfolding exit_step
exit_exits t p code l =
    subst (λ (w : Tables). (process_at w p).status ≡ Exited code) (sym (exit_is t p code))
    (ite_on (λ (w : Tables). (process_at w p).status ≡ Exited code) _ _ _
    (λ e.
    let v : Tables = put_process t p (with_status (process_at t p) (Exited code)) in
    let h : (process_at v p).status ≡ Exited code =
    ap (λ (q : Process). q.status) (put_process_made t p _ (live_process_made _ l)) in
    code_stays v _ (cascade_exit_listed v p (ap is_exited h)) p code h)
    (λ e. no_both l e))
