-- Terminations upward leave no killed job that lists nothing and has not terminated, but for those
-- that there were: one step at a time, with ranks that fall from a job to its parent, so that 32
-- steps are enough. Assumes nothing.
use Rattle.std.proofs.Common.{Option, Some, None}
use Prim.Native.Nat.{ℕ, zero, suc, ◌<◌}
use native.Mathlib.Omega.{arith}
use mathlib.Core.Path.{◌≡◌, refl, sym, ap, ap₂, ◌∙◌}
use mathlib.Core.Bool.{true, false}
use borrow.Author.Tests.{eqb-true, eqb-false}
use Rattle.laws.specs.Choice.{◌=?◌, ◌and◌}
use Rattle.laws.proofs.Cases.{by, no_both, ite_on, and_false}
use Rattle.record_job.specs.declared.Job.{Job}
use Rattle.record_job.specs.Job.{terminated, is_parent, child_of}
use Rattle.record_process.specs.declared.Process.{Process}
use Rattle.record_process.specs.Process.{member_of}
use Rattle.records.specs.declared.tables.Tables.{Tables}
use Rattle.records.specs.Tables.{job_at, process_at, put_job}
use Rattle.model.specs.Job.{may_terminate, terminate_up, terminate_job}
use Rattle.claims.specs.Reachable.{Tree}
use Rattle.model.proofs.TaskTables.{on_job, keep_job, put_job_made, put_job_else}
use Rattle.claims.proofs.Cross.{process_at_put_job}
use Rattle.model.proofs.Lists.{may_killed, job_empty_same}
use Rattle.model.proofs.Keeps.{on_parent_on}
use Rattle.claims.proofs.Enough.{Ranked, ranked_put_job}
use Rattle.claims.proofs.Tree.Puts.{orphan≢child}
use Rattle.claims.proofs.Tree.Cascade.{killed_made, terminates_tree}

-- a killed job that lists nothing has terminated
abbrev pub Settled : Tables → Type 0
Settled t = (k : ℕ) → may_terminate t k ≡ true → (job_at t k).terminated ≡ true

-- but perhaps job j
abbrev pub SettledBut : ℕ → Tables → Type 0
SettledBut j t = (k : ℕ) → (k ≡ j → ⊥) → may_terminate t k ≡ true → (job_at t k).terminated ≡ true

pub settled_all : (t : Tables) (j : ℕ) → may_terminate t j ≡ false → SettledBut j t → Settled t
settled_all t j e s k m =
    by (k =? j) (λ h. no_both m (ap (may_terminate t) (eqb-true k j h) ∙ e))
    (λ h. s k (eqb-false k j h) m)

-- what may terminate, by what is killed and what is listed
pub may_by : (t u : Tables) (k : ℕ) → (job_at u k).killed ≡ (job_at t k).killed
    → ((i : ℕ) → child_of (job_at u i) k ≡ child_of (job_at t i) k)
    → ((i : ℕ) → member_of (process_at u i) k ≡ member_of (process_at t i) k)
    → may_terminate u k ≡ may_terminate t k
unfolding may_terminate
may_by t u k a b c = ap₂ (λ x y. x and y) a (job_empty_same u t k b c)

-- ---- One termination -------------------------------------------------------------------------

child_same : {p q : ℕ} → Some p ≡ Some q → p ≡ q
child_same {p} {q} e = cc

not_parent : (q : Option ℕ) (k : ℕ) → (q ≡ Some k → ⊥) → is_parent q k ≡ false
not_parent None k h = refl
not_parent (Some p) k h =
    by (p =? k) (λ e. absurd (h (ap (λ (n : ℕ). Some n) (eqb-true p k e)))) (λ e. e)

not_child : (v : Job) (k : ℕ) → (v.parent ≡ Some k → ⊥) → child_of v k ≡ false
unfolding child_of
not_child v k h = and_false v.listed (not_parent v.parent k h)

-- it settles itself, and unsettles its parent alone
others_settled : (t : Tables) (j : ℕ) → (job_at t j).made ≡ true → SettledBut j t → (k : ℕ)
    → ((job_at t j).parent ≡ Some k → ⊥)
    → may_terminate (put_job t j (terminated (job_at t j))) k ≡ true
    → (job_at (put_job t j (terminated (job_at t j))) k).terminated ≡ true
unfolding child_of ◌and◌
others_settled t j m s k n e =
    let v : Job = terminated (job_at t j) in
    let u : Tables = put_job t j v in
    by (k =? j)
    (λ h. ap (λ (i : ℕ). (job_at u i).terminated) (eqb-true k j h)
    ∙ ap (λ (w : Job). w.terminated) (put_job_made t j v m))
    λ h.
    let d : k ≡ j → ⊥ = eqb-false k j h in
    let same : job_at u k ≡ job_at t k = put_job_else t j k v d in
    let may : may_terminate u k ≡ may_terminate t k =
    may_by t u k (ap (λ (w : Job). w.killed) same)
    (λ i. on_job (λ w. child_of w k ≡ child_of (job_at t i) k) t j i v
    (λ c. sym (not_child (job_at t i) k
    (λ q. n (ap (λ (x : ℕ). (job_at t x).parent) (sym c) ∙ q)))) refl)
    (λ i. ap (λ (q : Process). member_of q k) (process_at_put_job t j v i)) in
    ap (λ (w : Job). w.terminated) same ∙ s k d (sym may ∙ e)

-- ---- All the way up --------------------------------------------------------------------------

pub up_settles : (r : ℕ → ℕ) (n : ℕ) (t : Tables) (j : ℕ) → Tree t → Ranked r t → r j < n
    → may_terminate t j ≡ true → SettledBut j t → Settled (terminate_up n t j)
unfolding terminate_up Ranked
up_settles r zero t j T l a e s = absurd (omega arith)
up_settles r (suc n) t j T l a e s =
    let u : Tables = put_job t j (terminated (job_at t j)) in
    let o : (k : ℕ) → ((job_at t j).parent ≡ Some k → ⊥) → may_terminate u k ≡ true
    → (job_at u k).terminated ≡ true =
    others_settled t j (killed_made T j (may_killed t j e)) s in
    on_parent_on Settled (job_at t j).parent _ _ (λ q k. o k (λ h. orphan≢child q h))
    λ p q.
    let b : r p < r j = l j p q in
    let s' : SettledBut p u = λ k d. o k (λ h. d (child_same (sym h ∙ q))) in
    ite_on Settled (may_terminate u p) _ _
    (λ h. up_settles r n u p (terminates_tree t T j e)
    (ranked_put_job r t j (terminated (job_at t j)) refl l) (omega arith) h s')
    (λ h. settled_all u p h s')

-- ---- What terminations leave -----------------------------------------------------------------

up_keeps : (P : Tables → Type 0)
    → ((t : Tables) (j : ℕ) → P t → P (put_job t j (terminated (job_at t j))))
    → (n : ℕ) (t : Tables) (j : ℕ) → P t → P (terminate_up n t j)
unfolding terminate_up
up_keeps P h zero t j x = x
up_keeps P h (suc n) t j x =
    on_parent_on P (job_at t j).parent _ _ (λ e. h t j x)
    λ p e. ite_on P _ _ _ (λ m. up_keeps P h n _ p (h t j x)) (λ m. h t j x)

module _ (t : Tables) (j : ℕ) where
  -- a part of a job that termination leaves
  pub up_job : {B : Type 0} (f : Job → B) → ((v : Job) → f (terminated v) ≡ f v) → (i : ℕ)
      → f (job_at (terminate_job t j) i) ≡ f (job_at t i)
  unfolding terminate_job
  up_job f e i =
      up_keeps (λ w. f (job_at w i) ≡ f (job_at t i))
      (λ w k x. keep_job f w k (terminated (job_at w k)) (e (job_at w k)) i ∙ x) 32 t j refl

  pub up_processes : (terminate_job t j).processes ≡ t.processes
  unfolding terminate_job put_job
  up_processes = up_keeps (λ w. w.processes ≡ t.processes) (λ w k x. x) 32 t j refl

  pub up_threads : (terminate_job t j).threads ≡ t.threads
  unfolding terminate_job put_job
  up_threads = up_keeps (λ w. w.threads ≡ t.threads) (λ w k x. x) 32 t j refl
