-- A cascade's depth does not matter once it is above the count of what is live. So killing and
-- exiting meet the equations that their code follows, in which no depth stands: `kill_is`,
-- `exit_is`. Assumes nothing.
use Rattle.std.proofs.Common.{Option, Some, None}
use Prim.Native.Nat.{ℕ, zero, suc, ◌≤◌, ◌<◌}
use native.Mathlib.Nat.{le_refl, lt_of_le_of_lt}
use native.Mathlib.Omega.{arith}
use mathlib.Core.Path.{◌≡◌, refl, ap, ◌∙◌}
use mathlib.Core.Bool.{Bool, true, false}
use lib.IntN.{ℤ}
use Rattle.laws.specs.Choice.{ite}
use Rattle.laws.proofs.Cases.{ite_two}
use Rattle.record_job.specs.Job.{killed}
use Rattle.record_process.specs.declared.Critical.{Critical}
use Rattle.record_process.specs.declared.Status.TheVariants.{Exited}
use Rattle.record_process.specs.Process.{KILL_CODE, with_status, acts}
use Rattle.records.specs.declared.tables.Tables.{Tables}
use Rattle.records.specs.Tables.{job_at, process_at, put_job, put_process}
use Rattle.model.specs.Job.{up_to, is_live_job, is_live_process, kill_child, exit_member}
use Rattle.model.specs.Job.{kill_listed}
use Rattle.model.specs.Job.{kill_step, kill_bound, unlist_process, end_step, exit_listed}
use Rattle.model.specs.Job.{exit_step}
use Rattle.model.specs.Job.{kill_within, exit_within, remaining, kill_job, exit_process}
use Rattle.model.proofs.Remaining.{mark_lt, exit_lt, unlist_le, kill_within_le}
use Rattle.model.proofs.Remaining.{exit_within_le}
use Rattle.model.proofs.Remaining.{up_to_le, kill_child_le, exit_member_le}

abbrev Kill : Type 0
Kill = Tables → ℕ → Tables

abbrev Exit : Type 0
Exit = Tables → ℕ → ℤ → Tables

-- ---- Two ways to kill and to exit that agree below a count give the same steps ---------------

abbrev KillSame : ℕ → Kill → Kill → Type 0
KillSame m K L = (t : Tables) (j : ℕ) → remaining t < m → K t j ≡ L t j

abbrev ExitSame : ℕ → Exit → Exit → Type 0
ExitSame m X Y = (t : Tables) (p : ℕ) (code : ℤ) → remaining t < m → X t p code ≡ Y t p code

-- two choices by one test that agree on both ways
ways_same : (b : Bool) (x y z w : Unit {0} → Tables) → (b ≡ true → x tt ≡ z tt)
    → (b ≡ false → y tt ≡ w tt)
    → ite b x y ≡ ite b z w
ways_same b x y z w f g =
    ite_two (λ (u v : Tables). u ≡ v) b b x y z w refl (λ e h. f e) (λ e h. g e)

up_to_same : (m : ℕ) (f g : ℕ → Tables → Tables)
    → ((i : ℕ) (t : Tables) → remaining (f i t) ≤ remaining t)
    → ((i : ℕ) (t : Tables) → remaining t < m → f i t ≡ g i t)
    → (n : ℕ) (t : Tables) → remaining t < m → up_to n f t ≡ up_to n g t
unfolding up_to
up_to_same m f g h e zero t r = refl
up_to_same m f g h e (suc n) t r =
    e n (up_to n f t) (lt_of_le_of_lt (up_to_le f h n t) r) ∙ ap (g n) (up_to_same m f g h e n t r)

module _ (m : ℕ) (K L : Kill) (ks : KillSame m K L) where
  kill_bound_same : (b : Option Critical) (code : ℤ) (t : Tables) → remaining t < m
      → kill_bound K b code t ≡ kill_bound L b code t
  unfolding kill_bound
  kill_bound_same None code t r = refl
  kill_bound_same (Some b) code t r =
      ways_same (acts b.nonzero code) _ _ _ _ (λ e. ks t b.job r) (λ e. refl)

  end_step_same : (t : Tables) (p : ℕ) → remaining t < m → end_step K t p ≡ end_step L t p
  unfolding end_step
  end_step_same t p r = kill_bound_same _ _ (unlist_process t p) (lt_of_le_of_lt (unlist_le t p) r)

  exit_listed_same : (t : Tables) (p : ℕ) → remaining t < m → exit_listed K t p ≡ exit_listed L t p
  unfolding exit_listed
  exit_listed_same t p r = ways_same _ _ _ _ _ (λ e. refl) (λ e. end_step_same t p r)

  exit_step_same : (t : Tables) (p : ℕ) (code : ℤ) → remaining t ≤ m
      → exit_step K t p code ≡ exit_step L t p code
  unfolding exit_step
  exit_step_same t p code r =
      ways_same (is_live_process (process_at t p)) _ _ _ _
      (λ e. exit_listed_same (put_process t p (with_status (process_at t p) (Exited code))) p
      (omega (arith, exit_lt t p code e))) (λ e. refl)

  kill_child_same : (j c : ℕ) (t : Tables) → remaining t < m → kill_child K j c t ≡ kill_child L j c t
  unfolding kill_child
  kill_child_same j c t r = ways_same _ _ _ _ _ (λ e. ks t c r) (λ e. refl)

exit_member_same : (m : ℕ) (X Y : Exit) → ExitSame m X Y
    → (j p : ℕ) (t : Tables) → remaining t < m → exit_member X j p t ≡ exit_member Y j p t
unfolding exit_member
exit_member_same m X Y xs j p t r = ways_same _ _ _ _ _ (λ e. xs t p KILL_CODE r) (λ e. refl)

module _ (m : ℕ) (K L : Kill) (X Y : Exit) (ks : KillSame m K L) (xs : ExitSame m X Y)
    (k : (t : Tables) (j : ℕ) → remaining (K t j) ≤ remaining t)
    (x : (t : Tables) (p : ℕ) (code : ℤ) → remaining (X t p code) ≤ remaining t) where
  kill_listed_same : (t : Tables) (j : ℕ) → remaining t < m → kill_listed K X t j ≡ kill_listed L Y t j
  unfolding kill_listed
  kill_listed_same t j r =
      let u : Tables = up_to 32 (kill_child K j) t in
      let h : remaining u < m = lt_of_le_of_lt
      (up_to_le (kill_child K j) (kill_child_le K k j) 32 t) r in
      ways_same _ _ _ _ _ (λ e. refl)
      (λ e.
      up_to_same m _ _ (exit_member_le X x j) (exit_member_same m X Y xs j) 64 u h
      ∙ ap (up_to 64 (exit_member Y j))
      (up_to_same m _ _ (kill_child_le K k j) (kill_child_same m K L ks j) 32 t r))

  kill_step_same : (t : Tables) (j : ℕ) → remaining t ≤ m → kill_step K X t j ≡ kill_step L Y t j
  unfolding kill_step
  kill_step_same t j r =
      ways_same (is_live_job (job_at t j)) _ _ _ _
      (λ e. kill_listed_same (put_job t j (killed (job_at t j))) j (omega (arith, mark_lt t j e)))
      (λ e. refl)

-- ---- More depth does not matter --------------------------------------------------------------

within_same : (n m : ℕ)
    → ((t : Tables) (j : ℕ) → remaining t < n → remaining t < m
    → kill_within n t j ≡ kill_within m t j)
    × ((t : Tables) (p : ℕ) (code : ℤ) → remaining t < n → remaining t < m
    → exit_within n t p code ≡ exit_within m t p code)
unfolding kill_within
within_same zero m = (λ t j a b. absurd (omega arith), λ t p code a b. absurd (omega arith))
within_same (suc n) zero = (λ t j a b. absurd (omega arith), λ t p code a b. absurd (omega arith))
within_same (suc n) (suc m) =
    let h = within_same n m in (
      λ t j a b. kill_step_same (remaining t) (kill_within n) (kill_within m) (exit_within n)
          (exit_within m)
          (λ u c r. h.0 u c (omega arith) (omega arith))
          (λ u p code r. h.1 u p code (omega arith) (omega arith))
          (kill_within_le n) (exit_within_le n) t j (le_refl (remaining t)),
      λ t p code a b. exit_step_same (remaining t) (kill_within n) (kill_within m)
          (λ u c r. h.0 u c (omega arith) (omega arith)) t p code (le_refl (remaining t)),
    )

-- any depth above the count gives the whole cascade
pub kill_within_lem : (n : ℕ) (t : Tables) (j : ℕ) → remaining t < n → kill_within n t j ≡ kill_job t j
unfolding kill_job
kill_within_lem n t j r = (within_same n (suc (remaining t))).0 t j r (le_refl (suc (remaining t)))

pub exit_within_lem : (n : ℕ) (t : Tables) (p : ℕ) (code : ℤ) → remaining t < n
    → exit_within n t p code ≡ exit_process t p code
unfolding exit_process
exit_within_lem n t p code r =
    (within_same n (suc (remaining t))).1 t p code r (le_refl (suc (remaining t)))

-- ---- The equations that the code follows -----------------------------------------------------

pub kill_is : (t : Tables) (j : ℕ) → kill_job t j ≡ kill_step kill_job exit_process t j
unfolding kill_job kill_within
kill_is t j =
    let n : ℕ = remaining t in
    kill_step_same n (kill_within n) kill_job (exit_within n) exit_process (kill_within_lem n)
    (exit_within_lem n)
    (kill_within_le n) (exit_within_le n) t j (le_refl n)

pub exit_is : (t : Tables) (p : ℕ) (code : ℤ) → exit_process t p code ≡ exit_step kill_job t p code
unfolding exit_process kill_within
exit_is t p code =
    let n : ℕ = remaining t in
    exit_step_same n (kill_within n) kill_job (kill_within_lem n) t p code (le_refl n)
