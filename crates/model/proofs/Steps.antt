-- Killing, exiting and ending along the ways of their code: what each comes to, by the records that
-- were read (v), the records that were made of them (r), the tests that were met and the tables
-- after each call (u, w). Assumes nothing.
use Rattle.std.proofs.Common.{Option, None}
use Prim.Native.Nat.{ℕ, ◌≤◌, ◌<◌}
use native.Mathlib.Nat.{lt_of_le_of_lt}
use mathlib.Core.Path.{◌≡◌, refl, sym, ap, ◌∙◌, subst}
use mathlib.Core.Bool.{Bool, true, false}
use lib.IntN.{ℤ}
use Rattle.laws.proofs.Flow.{yes, no}
use Rattle.record_job.specs.declared.Job.{Job}
use Rattle.record_job.specs.Job.{killed, child_of}
use Rattle.record_process.specs.declared.Critical.{Critical}
use Rattle.record_process.specs.declared.Status.TheVariants.{Exited}
use Rattle.record_process.specs.declared.Process.{Process}
use Rattle.record_process.specs.Process.{critical_to, KILL_CODE, code_of, with_status, acts, member_of}
use Rattle.records.specs.declared.tables.Tables.{Tables}
use Rattle.records.specs.Tables.{job_at, process_at, put_job, put_process}
use Rattle.model.specs.Job.{job_empty, lists_thread, terminate_job, stop_threads, up_to}
use Rattle.model.specs.Job.{is_live_job}
use Rattle.model.specs.Job.{is_live_process, kill_child, exit_member, kill_listed, kill_step}
use Rattle.model.specs.Job.{kill_bound, unlist_process, end_step, exit_listed, exit_step}
use Rattle.model.specs.Job.{remaining, kill_job, exit_process, end_process}
use Rattle.model.proofs.Depth.{kill_is, exit_is}
use Rattle.model.proofs.Remaining.{mark_lt, exit_lt, unlist_le, up_to_le, kill_child_le}
use Rattle.model.proofs.Remaining.{exit_member_le, kill_job_le, exit_process_le}

-- ---- One turn of each loop of `kill_job` -----------------------------------------------------

module _ (j c : ℕ) (t : Tables) (v : Job) (e : v ≡ job_at t c) where
  pub child_killed : child_of v j ≡ true → kill_job t c ≡ kill_child kill_job j c t
  unfolding kill_child
  child_killed h = yes _ _ (ap (λ (w : Job). child_of w j) (sym e) ∙ h) refl

  pub child_kept : child_of v j ≡ false → t ≡ kill_child kill_job j c t
  unfolding kill_child
  child_kept h = no _ _ (ap (λ (w : Job). child_of w j) (sym e) ∙ h) refl

module _ (j p : ℕ) (t : Tables) (v : Process) (e : v ≡ process_at t p) where
  pub member_exits : member_of v j ≡ true → exit_process t p KILL_CODE ≡ exit_member exit_process j p t
  unfolding exit_member
  member_exits h = yes _ _ (ap (λ (w : Process). member_of w j) (sym e) ∙ h) refl

  pub member_kept : member_of v j ≡ false → t ≡ exit_member exit_process j p t
  unfolding exit_member
  member_kept h = no _ _ (ap (λ (w : Process). member_of w j) (sym e) ∙ h) refl

-- ---- Killing a job ---------------------------------------------------------------------------

pub kill_dead : (t : Tables) (j : ℕ) (v : Job) → v ≡ job_at t j → is_live_job v ≡ false
    → t ≡ kill_job t j
unfolding kill_step
kill_dead t j v e h = no _ _ (ap is_live_job (sym e) ∙ h) refl ∙ sym (kill_is t j)

-- u is t with its live job j marked killed
pub record Marked (t : Tables) (j : ℕ) (u : Tables) : Type 0 where
  pub live : is_live_job (job_at t j) ≡ true
  pub after : u ≡ put_job t j (killed (job_at t j))

pub marked : (t : Tables) (j : ℕ) (v r : Job) (u : Tables) → v ≡ job_at t j → is_live_job v ≡ true
    → r ≡ killed v → u ≡ put_job t j r → Marked t j u
marked t j v r u e h f g =
    record {
      live = ap is_live_job (sym e) ∙ h;
      after = g ∙ ap (put_job t j) (f ∙ ap (λ (w : Job). killed w) e);
    }

module _ (t : Tables) (j : ℕ) (u : Tables) (m : Marked t j u) where
  kill_step_lem : kill_listed kill_job exit_process u j ≡ kill_job t j
  unfolding kill_step
  kill_step_lem =
      ap (λ (w : Tables). kill_listed kill_job exit_process w j) m.after ∙ yes _ _ m.live refl
      ∙ sym (kill_is t j)

  pub kill_empty : job_empty u j ≡ true → terminate_job u j ≡ kill_job t j
  unfolding kill_listed
  kill_empty e = yes _ _ e refl ∙ kill_step_lem

  -- after both loops
  pub kill_loops : job_empty u j ≡ false → (c p : ℕ) (v w : Tables) → c ≡ 32 → p ≡ 64
      → v ≡ up_to c (kill_child kill_job j) u → w ≡ up_to p (exit_member exit_process j) v
      → w ≡ kill_job t j
  unfolding kill_listed
  kill_loops e c p v w ec ep f g =
      g ∙ ap (λ (n : ℕ). up_to n (exit_member exit_process j) v) ep
      ∙ ap (up_to 64 (exit_member exit_process j))
      (f ∙ ap (λ (n : ℕ). up_to n (kill_child kill_job j) u) ec)
      ∙ no _ _ e refl ∙ kill_step_lem

  pub marked_lt : remaining u < remaining t
  marked_lt =
      subst (λ (w : Tables). remaining w < remaining t) (sym m.after) (mark_lt t j m.live)

  -- the count in the first loop is below the count at the job's kill
  pub children_lt : (n : ℕ) (v : Tables) → v ≡ up_to n (kill_child kill_job j) u
      → remaining v < remaining t
  children_lt n v g =
      subst (λ (w : Tables). remaining w < remaining t) (sym g)
      (lt_of_le_of_lt (up_to_le _ (kill_child_le kill_job kill_job_le j) n u) marked_lt)

-- the second loop does not raise it
pub members_le : (j : ℕ) (t : Tables) (n : ℕ) (u : Tables) → u ≡ up_to n (exit_member exit_process j) t
    → remaining u ≤ remaining t
members_le j t n u g =
    subst (λ (w : Tables). remaining w ≤ remaining t) (sym g)
    (up_to_le _ (exit_member_le exit_process exit_process_le j) n t)

-- ---- Exiting a process -----------------------------------------------------------------------

pub exit_done : (t : Tables) (p : ℕ) (code : ℤ) (v : Process) → v ≡ process_at t p
    → is_live_process v ≡ false
    → t ≡ exit_process t p code
unfolding exit_step
exit_done t p code v e h = no _ _ (ap is_live_process (sym e) ∙ h) refl ∙ sym (exit_is t p code)

-- u is t with its live process p marked Exited
pub record Exiting (t : Tables) (p : ℕ) (code : ℤ) (u : Tables) : Type 0 where
  pub live : is_live_process (process_at t p) ≡ true
  pub after : u ≡ put_process t p (with_status (process_at t p) (Exited code))

pub exiting : (t : Tables) (p : ℕ) (code : ℤ) (v r : Process) (u : Tables) → v ≡ process_at t p
    → is_live_process v ≡ true → r ≡ with_status v (Exited code) → u ≡ put_process t p r
    → Exiting t p code u
exiting t p code v r u e h f g =
    record {
      live = ap is_live_process (sym e) ∙ h;
      after = g ∙ ap (put_process t p) (f ∙ ap (λ (w : Process). with_status w (Exited code)) e);
    }

module _ (t : Tables) (p : ℕ) (code : ℤ) (u : Tables) (m : Exiting t p code u) where
  pub exit_step_lem : exit_listed kill_job u p ≡ exit_process t p code
  unfolding exit_step
  exit_step_lem =
      ap (λ (w : Tables). exit_listed kill_job w p) m.after ∙ yes _ _ m.live refl ∙ sym
      (exit_is t p code)

  pub exit_stops : lists_thread u p ≡ true → stop_threads u p ≡ exit_process t p code
  unfolding exit_listed
  exit_stops e = yes _ _ e refl ∙ exit_step_lem

  pub exit_ends : lists_thread u p ≡ false → end_process u p ≡ exit_process t p code
  unfolding exit_listed end_process
  exit_ends e = no _ _ e refl ∙ exit_step_lem

  pub exiting_lt : remaining u < remaining t
  exiting_lt =
      subst (λ (w : Tables). remaining w < remaining t) (sym m.after)
      (exit_lt t p code m.live)

-- ---- Ending a process. u is t without it -----------------------------------------------------

module _ (t : Tables) (p : ℕ) (v : Process) (u : Tables) (e : v ≡ process_at t p)
    (g : u ≡ unlist_process t p) where
  end_step_lem : (b : Option Critical) → v.critical ≡ b
      → kill_bound kill_job b (code_of v.status) u ≡ end_process t p
  unfolding end_process end_step
  end_step_lem b f =
      let w : Tables = unlist_process t p in
      ap (λ (q : Option Critical). kill_bound kill_job q (code_of v.status) u) (sym f)
      ∙ ap (kill_bound kill_job v.critical (code_of v.status)) g
      ∙ ap (λ (q : Process). kill_bound kill_job q.critical (code_of q.status) w) e

  pub end_free : v.critical ≡ None → u ≡ end_process t p
  unfolding kill_bound
  end_free f = end_step_lem None f

  module _ (j : ℕ) (nonzero : Bool) (f : v.critical ≡ critical_to j nonzero) where
    pub end_acts : acts nonzero (code_of v.status) ≡ true → kill_job u j ≡ end_process t p
    unfolding kill_bound
    end_acts h = yes _ _ h refl ∙ end_step_lem (critical_to j nonzero) f

    pub end_rests : acts nonzero (code_of v.status) ≡ false → u ≡ end_process t p
    unfolding kill_bound
    end_rests h = no _ _ h refl ∙ end_step_lem (critical_to j nonzero) f

  pub unlisted_le : remaining u ≤ remaining t
  unlisted_le = subst (λ (w : Tables). remaining w ≤ remaining t) (sym g) (unlist_le t p)
