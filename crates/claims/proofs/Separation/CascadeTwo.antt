-- A cascade that begins at a name outside x, in both runs: what it does to y is the same, and what
-- it does to x's records one run at a time. Assumes nothing.
use Rattle.std.proofs.Common.{Some}
use Rattle.std.proofs.Common.{Option, None}
use Prim.Native.Nat.{ℕ, zero, suc, ◌+◌, ◌<◌}
use native.Mathlib.Omega.{arith}
use mathlib.Core.Path.{◌≡◌, refl, sym, ap, ◌∙◌, subst}
use mathlib.Core.Bool.{Bool, true, false}
use lib.IntN.{ℤ}
use Rattle.laws.proofs.Cases.{by, ite_on, ite_two}
use Rattle.laws.proofs.Flow.{no}
use Rattle.record_job.specs.declared.Job.{Job}
use Rattle.record_job.specs.Job.{killed, child_of}
use Rattle.record_process.specs.declared.Critical.{Critical}
use Rattle.record_process.specs.declared.Status.TheVariants.{Exited}
use Rattle.record_process.specs.declared.Process.{Process}
use Rattle.record_process.specs.Process.{critical_to, KILL_CODE, with_status, code_of, acts, member_of}
use Rattle.records.specs.declared.tables.Tables.{Tables}
use Rattle.records.specs.Tables.{job_at, process_at, put_job}
use Rattle.model.specs.Job.{job_empty, lists_thread, terminate_job, up_to, is_live_job}
use Rattle.model.specs.Job.{is_live_process, kill_child, exit_member, kill_listed, kill_step}
use Rattle.model.specs.Job.{kill_bound, unlist_process, end_step, exit_listed, exit_step}
use Rattle.model.specs.Job.{kill_within, exit_within, remaining, kill_job, exit_process}
use Rattle.model.specs.Job.{end_process}
use Rattle.claims.specs.Separation.{Trip}
use Rattle.model.proofs.TaskTables.{keep_process, put_job_made}
use Rattle.model.proofs.Lists.{empty_child, empty_member}
use Rattle.model.proofs.Live.{live_job_made, live_process_made}
use Rattle.model.proofs.Depth.{kill_within_lem, exit_within_lem}
use Rattle.claims.proofs.Separation.Agree.{Agree, back}
use Rattle.claims.proofs.Separation.Stores.{mark_two, exit_two, stop_two}
use Rattle.claims.proofs.Separation.CascadeOne.{terminate_job_one, kill_within_one}
use Rattle.claims.proofs.Separation.CascadeOne.{exit_within_one, kill_job_one}
use Rattle.claims.proofs.Separation.Same.{live_same, kill_none, unlisted_killed, empty_same}
use Rattle.claims.proofs.Separation.Same.{lists_same}
use Rattle.claims.proofs.Separation.UpTwo.{terminate_up_two, unlist_two}

-- ---- Loops -----------------------------------------------------------------------------------

up_to_two : (R : Tables → Tables → Type 0) (f g : ℕ → Tables → Tables) →
    ((i : ℕ) (s t : Tables) → R s t → R (f i s) (g i t)) →
    (n : ℕ) (s t : Tables) → R s t → R (up_to n f s) (up_to n g t)
unfolding up_to
up_to_two R f g h zero s t r = r
up_to_two R f g h (suc n) s t r = h n (up_to n f s) (up_to n g t) (up_to_two R f g h n s t r)

-- a loop whose turns do nothing
up_to_none : (f : ℕ → Tables → Tables) (t : Tables) → ((i : ℕ) → f i t ≡ t) →
    (n : ℕ) → up_to n f t ≡ t
unfolding up_to
up_to_none f t h zero = refl
up_to_none f t h (suc n) = ap (f n) (up_to_none f t h n) ∙ h n

module _ {x y : Trip} where
  -- ---- Step by step --------------------------------------------------------------------------

  module _ (K : Tables → ℕ → Tables)
      (k₁ : (s t : Tables) → Agree x y s t → (j : ℕ) → x.jobs j ≡ true → Agree x y (K s j) t)
      (k₂ : (s t : Tables) → Agree x y s t → (j : ℕ) → x.jobs j ≡ false →
      Agree x y (K s j) (K t j))
      (k₀ : (t : Tables) (j : ℕ) → (job_at t j).killed ≡ true → K t j ≡ t) where
    kill_bound_two : (b : Option Critical) (code : ℤ) (s t : Tables) →
        ((j : ℕ) (nonzero : Bool) → b ≡ critical_to j nonzero → x.jobs j ≡ false) → Agree x y s t →
        Agree x y (kill_bound K b code s) (kill_bound K b code t)
    unfolding kill_bound
    kill_bound_two None code s t h r = r
    kill_bound_two (Some b) code s t h r =
        ite_two (Agree x y) (acts b.nonzero code) (acts b.nonzero code) _ _ _ _ refl
        (λ e f. k₂ s t r b.job (h b.job b.nonzero refl)) (λ e f. r)

    pub end_step_two : (s t : Tables) → Agree x y s t → (p : ℕ) → x.processes p ≡ false →
        (process_at s p).made ≡ true → Agree x y (end_step K s p) (end_step K t p)
    unfolding end_step
    end_step_two s t r p h m =
        subst (λ (q : Process). Agree x y (end_step K s p)
        (kill_bound K q.critical (code_of q.status) (unlist_process t p)))
        ((r.processes p).same h)
        (kill_bound_two (process_at s p).critical (code_of (process_at s p).status) _ _
        (λ j nonzero e. (r.processes p).fits₁.bound_x j nonzero e ∙ h) (unlist_two s t r p h m))

    exit_listed_two : (s t : Tables) → Agree x y s t → (p : ℕ) → x.processes p ≡ false →
        (process_at s p).made ≡ true → Agree x y (exit_listed K s p) (exit_listed K t p)
    unfolding exit_listed
    exit_listed_two s t r p h m =
        ite_two (Agree x y) (lists_thread s p) (lists_thread t p) _ _ _ _ (lists_same r p h)
        (λ a b. stop_two r p) (λ a b. end_step_two s t r p h m)

    exit_step_two : (s t : Tables) → Agree x y s t → (p : ℕ) (code : ℤ) → x.processes p ≡ false →
        Agree x y (exit_step K s p code) (exit_step K t p code)
    unfolding exit_step
    exit_step_two s t r p code h =
        ite_two (Agree x y) (is_live_process (process_at s p)) (is_live_process (process_at t p)) _ _ _ _
        (ap is_live_process ((r.processes p).same h))
        (λ a b. exit_listed_two _ _ (exit_two r p code) p h
        (keep_process (λ (q : Process). q.made) s p
        (with_status (process_at s p) (Exited code)) refl p
        ∙ live_process_made (process_at s p) a))
        (λ a b. r)

    kill_child_two : (j c : ℕ) (s t : Tables) → Agree x y s t →
        Agree x y (kill_child K j c s) (kill_child K j c t)
    unfolding kill_child
    kill_child_two j c s t r =
        let u : Tables = kill_child K j c s in
        let w : Tables = kill_child K j c t in
        by (x.jobs c)
        (λ h.
        let a : Agree x y u t =
        ite_on (λ (z : Tables). Agree x y z t) (child_of (job_at s c) j) _ _ (λ e. k₁ s t r c h)
        (λ e. r) in
        back (ite_on (λ (z : Tables). Agree x y z u) (child_of (job_at t c) j) _ _
        (λ e. k₁ t u (back a) c h) (λ e. back a)))
        (λ h. ite_on (λ (z : Tables). Agree x y z w) (child_of (job_at s c) j) _ _
        (λ a. ite_on (λ (z : Tables). Agree x y (K s c) z) (child_of (job_at t c) j) _ _
        (λ b. k₂ s t r c h)
        (λ b. subst (λ (z : Tables). Agree x y z t)
        (sym (k₀ s c (unlisted_killed r j c h a b))) r))
        (λ a. ite_on (λ (z : Tables). Agree x y s z) (child_of (job_at t c) j) _ _
        (λ b. subst (λ (z : Tables). Agree x y s z)
        (sym (k₀ t c (unlisted_killed (back r) j c h b a))) r)
        (λ b. r)))

    module _ (X : Tables → ℕ → ℤ → Tables)
        (g₁ : (s t : Tables) → Agree x y s t → (p : ℕ) (code : ℤ) → x.processes p ≡ true →
        Agree x y (X s p code) t)
        (g₂ : (s t : Tables) → Agree x y s t → (p : ℕ) (code : ℤ) → x.processes p ≡ false →
        Agree x y (X s p code) (X t p code)) where
      exit_member_two : (j p : ℕ) (s t : Tables) → Agree x y s t →
          Agree x y (exit_member X j p s) (exit_member X j p t)
      unfolding exit_member
      exit_member_two j p s t r =
          let u : Tables = exit_member X j p s in
          by (x.processes p)
          (λ h.
          let a : Agree x y u t =
          ite_on (λ (z : Tables). Agree x y z t) (member_of (process_at s p) j) _ _
          (λ e. g₁ s t r p KILL_CODE h) (λ e. r) in
          back (ite_on (λ (z : Tables). Agree x y z u) (member_of (process_at t p) j) _ _
          (λ e. g₁ t u (back a) p KILL_CODE h) (λ e. back a)))
          (λ h. ite_two (Agree x y) (member_of (process_at s p) j)
          (member_of (process_at t p) j) _ _ _ _
          (ap (λ (q : Process). member_of q j) ((r.processes p).same h))
          (λ a b. g₂ s t r p KILL_CODE h) (λ a b. r))

      loops : ℕ → Tables → Tables
      loops j t = up_to 64 (exit_member X j) (up_to 32 (kill_child K j) t)

      loops_two : (j : ℕ) (s t : Tables) → Agree x y s t → Agree x y (loops j s) (loops j t)
      unfolding loops
      loops_two j s t r =
          up_to_two (Agree x y) (exit_member X j) (exit_member X j) (exit_member_two j) 64 _ _
          (up_to_two (Agree x y) (kill_child K j) (kill_child K j) (kill_child_two j) 32 s t r)

      -- at a job that lists nothing
      loops_none : (j : ℕ) (t : Tables) → job_empty t j ≡ true → loops j t ≡ t
      unfolding loops kill_child exit_member
      loops_none j t e =
          ap (up_to 64 (exit_member X j))
          (up_to_none (kill_child K j) t (λ c. sym (no _ _ (empty_child t j e c) refl)) 32)
          ∙ up_to_none (exit_member X j) t (λ p. sym (no _ _ (empty_member t j e p) refl)) 64

      kill_listed_two : (s t : Tables) → Agree x y s t → (j : ℕ) → x.jobs j ≡ false →
          (job_at s j).killed ≡ true → (job_at t j).killed ≡ true →
          Agree x y (kill_listed K X s j) (kill_listed K X t j)
      unfolding kill_listed loops terminate_job
      kill_listed_two s t r j h k l =
          let w : Tables = loops j t in
          let a : Agree x y (loops j s) w = loops_two j s t r in
          by (y.jobs j)
          (λ q. ite_two (Agree x y) (job_empty s j) (job_empty t j) _ _ _ _ (empty_same r j q)
          (λ e f. terminate_up_two 32 s t r j h q k l) (λ e f. a))
          (λ q.
          let u : Tables = kill_listed K X s j in
          let b : Agree x y u w =
          ite_on (λ (z : Tables). Agree x y z w) (job_empty s j) _ _
          (λ e. terminate_job_one (subst (λ (z : Tables). Agree x y z w)
          (loops_none j s e) a) j q k)
          (λ e. a) in
          back (ite_on (λ (z : Tables). Agree x y z u) (job_empty t j) _ _
          (λ e. terminate_job_one
          (subst (λ (z : Tables). Agree x y z u) (loops_none j t e) (back b)) j q l)
          (λ e. back b)))

      kill_step_two : (s t : Tables) → Agree x y s t → (j : ℕ) → x.jobs j ≡ false →
          Agree x y (kill_step K X s j) (kill_step K X t j)
      unfolding kill_step
      kill_step_two s t r j h =
          let mark : (u : Tables) → is_live_job (job_at u j) ≡ true →
          (job_at (put_job u j (killed (job_at u j))) j).killed ≡ true =
          λ u e. ap (λ (v : Job). v.killed) (put_job_made u j _ (live_job_made (job_at u j) e)) in
          ite_two (Agree x y) (is_live_job (job_at s j)) (is_live_job (job_at t j)) _ _ _ _
          (live_same (job_at s j) (job_at t j) ((r.jobs j).made h) ((r.jobs j).killed h))
          (λ a b. kill_listed_two _ _ (mark_two r j) j h (mark s a) (mark t b)) (λ a b. r)

  -- ---- The whole cascade ---------------------------------------------------------------------

  within_two : (n : ℕ) →
      ((s t : Tables) → Agree x y s t → (j : ℕ) → x.jobs j ≡ false →
      Agree x y (kill_within n s j) (kill_within n t j))
      × ((s t : Tables) → Agree x y s t → (p : ℕ) (code : ℤ) → x.processes p ≡ false →
      Agree x y (exit_within n s p code) (exit_within n t p code))
  unfolding kill_within
  within_two zero = (λ s t r j h. r, λ s t r p code h. r)
  within_two (suc n) =
      let i = within_two n in
      let k₁ : (s t : Tables) → Agree x y s t → (j : ℕ) → x.jobs j ≡ true → Agree x y
      (kill_within n s j) t =
      λ s t r j h. kill_within_one n r j h in (
        kill_step_two (kill_within n) k₁ i.0 (kill_none n) (exit_within n)
            (λ s t r p code h. exit_within_one n r p code h) i.1,
        exit_step_two (kill_within n) k₁ i.0 (kill_none n),
      )

  pub kill_job_two : (s t : Tables) → Agree x y s t → (j : ℕ) → x.jobs j ≡ false →
      Agree x y (kill_job s j) (kill_job t j)
  kill_job_two s t r j h =
      let n : ℕ = suc (remaining s + remaining t) in
      let a : remaining s < n = omega arith in
      let b : remaining t < n = omega arith in
      subst (λ (z : Tables). Agree x y z (kill_job t j)) (kill_within_lem n s j a)
      (subst (λ (z : Tables). Agree x y (kill_within n s j) z) (kill_within_lem n t j b)
      ((within_two n).0 s t r j h))

  pub exit_process_two : (s t : Tables) → Agree x y s t → (p : ℕ) (code : ℤ) →
      x.processes p ≡ false →
      Agree x y (exit_process s p code) (exit_process t p code)
  exit_process_two s t r p code h =
      let n : ℕ = suc (remaining s + remaining t) in
      let a : remaining s < n = omega arith in
      let b : remaining t < n = omega arith in
      subst (λ (z : Tables). Agree x y z (exit_process t p code)) (exit_within_lem n s p code a)
      (subst (λ (z : Tables). Agree x y (exit_within n s p code) z) (exit_within_lem n t p code b)
      ((within_two n).1 s t r p code h))

  pub end_process_two : (s t : Tables) → Agree x y s t → (p : ℕ) → x.processes p ≡ false →
      (process_at s p).made ≡ true → Agree x y (end_process s p) (end_process t p)
  unfolding end_process kill_job
  end_process_two s t r p h m =
      end_step_two kill_job (λ u w a j e. kill_job_one a j e) kill_job_two
      (λ u j e. kill_none (suc (remaining u)) u j e) s t r p h m
