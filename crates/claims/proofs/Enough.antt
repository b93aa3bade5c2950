-- 32 steps upward are enough: where every job has a rank above its parent's, more steps than the
-- rank of the job at which they start change nothing. Assumes nothing.
use Rattle.std.proofs.Common.{Option, Some, None}
use Prim.Native.Nat.{ℕ, zero, suc, ◌<◌}
use native.Mathlib.Omega.{arith}
use mathlib.Core.Path.{◌≡◌, refl, sym, ◌∙◌}
use mathlib.Core.Bool.{Bool, false}
use Rattle.laws.specs.Choice.{◌=?◌}
use Rattle.laws.proofs.Cases.{ite_two}
use Rattle.record_job.specs.declared.Job.{Job}
use Rattle.record_job.specs.Job.{terminated}
use Rattle.records.specs.declared.tables.Tables.{Tables}
use Rattle.records.specs.Tables.{job_at, put_job}
use Rattle.model.specs.Job.{on_parent, is_above, may_terminate, terminate_up}
use Rattle.model.proofs.TaskTables.{keep_job}

-- r ranks the jobs: a job's parent stands lower
unfoldable pub Ranked : (ℕ → ℕ) → Tables → Type 0
Ranked r t = (i p : ℕ) → (job_at t i).parent ≡ Some p → r p < r i

on_parent_same : {A : Type 0} (q : Option ℕ) (a : A) (k l : ℕ → A)
    → ((p : ℕ) → q ≡ Some p → k p ≡ l p)
    → on_parent q a k ≡ on_parent q a l
unfolding on_parent
on_parent_same None a k l h = refl
on_parent_same (Some p) a k l h = h p refl

-- a store that keeps the parent keeps the ranks
pub ranked_put_job : (r : ℕ → ℕ) (t : Tables) (j : ℕ) (v : Job) → v.parent ≡ (job_at t j).parent
    → Ranked r t → Ranked r (put_job t j v)
unfolding Ranked
ranked_put_job r t j v e k i p h = k i p (sym (keep_job (λ (w : Job). w.parent) t j v e i) ∙ h)

pub up_enough : (r : ℕ → ℕ) (n m : ℕ) (t : Tables) (j : ℕ) → Ranked r t → r j < n → r j < m
    → terminate_up n t j ≡ terminate_up m t j
unfolding terminate_up Ranked
up_enough r zero m t j k a b = absurd (omega arith)
up_enough r (suc n) zero t j k a b = absurd (omega arith)
up_enough r (suc n) (suc m) t j k a b =
    let u : Tables = put_job t j (terminated (job_at t j)) in
    let l : Ranked r u = ranked_put_job r t j (terminated (job_at t j)) refl k in
    on_parent_same (job_at t j).parent u _ _
    λ p e.
    let h : r p < r j = k j p e in
    ite_two (λ (x y : Tables). x ≡ y) (may_terminate u p) (may_terminate u p) _ _ _ _ refl
    (λ y z. up_enough r n m u p l (omega arith) (omega arith)) (λ y z. refl)

pub above_enough : (r : ℕ → ℕ) (n m : ℕ) (t : Tables) (j i : ℕ) → Ranked r t → r i < n → r i < m
    → is_above n t j i ≡ is_above m t j i
unfolding is_above Ranked
above_enough r zero m t j i k a b = absurd (omega arith)
above_enough r (suc n) zero t j i k a b = absurd (omega arith)
above_enough r (suc n) (suc m) t j i k a b =
    ite_two (λ (x y : Bool). x ≡ y) (i =? j) (i =? j) _ _ _ _ refl (λ y z. refl)
    (λ y z. on_parent_same (job_at t i).parent false _ _
    λ p e. let h : r p < r i = k i p e in above_enough r n m t j p k (omega arith) (omega arith))
