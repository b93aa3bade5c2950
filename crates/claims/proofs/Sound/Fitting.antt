-- What holds of a cascade's tables between any two of its steps, but not between any two stores: a
-- killed job that lists nothing has terminated, and an Exited process that has not ended lists a
-- thread (`Fit`). So each step keeps it, at any depth. Assumes nothing.
use Prim.Native.Nat.{ℕ, ◌<◌}
use mathlib.Core.Path.{◌≡◌, refl, sym, ap, ◌∙◌}
use mathlib.Core.Bool.{true, false}
use borrow.Author.Tests.{eqb-true, eqb-false, ne_eqb}
use Rattle.laws.specs.Choice.{◌=?◌, ◌and◌}
use Rattle.laws.proofs.Cases.{by, no_both, if_on, and_false}
use Rattle.record_job.specs.declared.Job.{Job}
use Rattle.record_job.specs.Job.{child_of}
use Rattle.record_process.specs.declared.Process.{Process}
use Rattle.record_process.specs.Process.{is_exited, ended, member_of}
use Rattle.record_thread.specs.declared.Thread.{Thread}
use Rattle.record_thread.specs.Thread.{thread_of}
use Rattle.records.specs.declared.tables.Tables.{Tables}
use Rattle.records.specs.Tables.{job_at, process_at, put_process}
use Rattle.model.specs.Job.{lists_thread, may_terminate, terminate_job, unlist_process}
use Rattle.claims.specs.Reachable.{Tree}
use Rattle.model.proofs.TaskTables.{on_process, put_process_made, put_process_else}
use Rattle.claims.proofs.Cross.{job_at_put_process, thread_at_put_process}
use Rattle.model.proofs.Lists.{lists_thread_same}
use Rattle.model.proofs.Keeps.{terminate_job_keeps}
use Rattle.claims.proofs.Enough.{Ranked}
use Rattle.claims.proofs.Tree.Cascade.{anything, tree_stores, ends_tree}
use Rattle.claims.proofs.Sound.Settle.{Settled, SettledBut, settled_all, may_by, up_settles}
use Rattle.claims.proofs.Sound.Settle.{up_job, up_processes, up_threads}

-- ranks that fall from a job to its parent, below 32 where a job is made
pub record Low (r : ℕ → ℕ) (t : Tables) : Type 0 where
  pub falls : Ranked r t
  pub small : (j : ℕ) → (job_at t j).made ≡ true → r j < 32

-- an Exited process that has not ended lists a thread
abbrev pub BusyAt : Tables → ℕ → Type 0
BusyAt t p =
    is_exited (process_at t p).status ≡ true → (process_at t p).terminated ≡ false
    → lists_thread t p ≡ true

pub record Fit (r : ℕ → ℕ) (t : Tables) : Type 0 where
  pub tree : Tree t
  pub low : Low r t
  pub settled : Settled t
  pub busy : (p : ℕ) → BusyAt t p

-- but perhaps process p
pub record FitBut (r : ℕ → ℕ) (p : ℕ) (t : Tables) : Type 0 where
  pub tree : Tree t
  pub low : Low r t
  pub settled : Settled t
  pub busy : (q : ℕ) → (q ≡ p → ⊥) → BusyAt t q

pub low_over : {r : ℕ → ℕ} {t u : Tables} → ((i : ℕ) → (job_at u i).parent ≡ (job_at t i).parent)
    → ((i : ℕ) → (job_at u i).made ≡ (job_at t i).made) → Low r t → Low r u
unfolding Ranked
low_over a b l =
    record {
      falls = λ i p e. l.falls i p (sym (a i) ∙ e);
      small = λ i m. l.small i (sym (b i) ∙ m);
    }

pub busy_over : (t u : Tables) (p : ℕ) → process_at u p ≡ process_at t p
    → lists_thread u p ≡ lists_thread t p → BusyAt t p → BusyAt u p
busy_over t u p a b h x y =
    b ∙ h (ap (λ (q : Process). is_exited q.status) (sym a) ∙ x)
    (ap (λ (q : Process). q.terminated) (sym a) ∙ y)

-- ---- A job ends ------------------------------------------------------------------------------

module _ (r : ℕ → ℕ) where
  pub terminate_fit : (t : Tables) (j : ℕ) → Tree t → Low r t → (job_at t j).made ≡ true
      → may_terminate t j ≡ true → SettledBut j t → ((p : ℕ) → BusyAt t p)
      → Fit r (terminate_job t j)
  unfolding process_at lists_thread
  terminate_fit t j T l m e s b =
      let u : Tables = terminate_job t j in
      record {
        tree = terminate_job_keeps Tree anything tree_stores t j tt e T;
        low = low_over (up_job t j (λ v. v.parent) (λ v. refl))
            (up_job t j (λ v. v.made) (λ v. refl)) l;
        settled = unfold terminate_job in (up_settles r 32 t j T l.falls (l.small j m) e s);
        busy = λ p. rw (up_processes t j, up_threads t j) (b p);
      }

  -- ---- A process ends ------------------------------------------------------------------------

  -- off its job's list
  unlist_settled : (t : Tables) (p : ℕ) → Settled t
      → SettledBut (process_at t p).job (put_process t p (ended (process_at t p)))
  unfolding member_of ended ◌and◌
  unlist_settled t p s k d e =
      let v : Process = ended (process_at t p) in
      let u : Tables = put_process t p v in
      let same : job_at u k ≡ job_at t k = job_at_put_process t p v k in
      let may : may_terminate u k ≡ may_terminate t k =
      may_by t u k (ap (λ (w : Job). w.killed) same)
      (λ i. ap (λ (w : Job). child_of w k) (job_at_put_process t p v i))
      (λ i. on_process (λ q. member_of q k ≡ member_of (process_at t i) k) t p i v
      (λ c. sym (and_false (process_at t i).listed
      (ne_eqb (process_at t i).job k
      (λ h. d (sym h ∙ ap (λ (x : ℕ). (process_at t x).job) c))))) refl) in
      ap (λ (w : Job). w.terminated) same ∙ s k (sym may ∙ e)

  pub unlist_fit : (t : Tables) (p : ℕ) → FitBut r p t → (process_at t p).made ≡ true
      → lists_thread t p ≡ false → Fit r (unlist_process t p)
  unfolding unlist_process ended
  unlist_fit t p F m e =
      let v : Process = ended (process_at t p) in
      let u : Tables = put_process t p v in
      let h : ℕ = (process_at t p).job in
      let T : Tree u = ends_tree t F.tree p m e in
      let l : Low r u = low_over (λ i. ap (λ (w : Job). w.parent) (job_at_put_process t p v i))
      (λ i. ap (λ (w : Job). w.made) (job_at_put_process t p v i)) F.low in
      let s : SettledBut h u = unlist_settled t p F.settled in
      let lists : (q : ℕ) → lists_thread u q ≡ lists_thread t q =
      λ q. lists_thread_same u t q
      (λ i. ap (λ (w : Thread). thread_of w q) (thread_at_put_process t p v i)) in
      let b : (q : ℕ) → BusyAt u q =
      λ q. by (q =? p)
      (λ c x y. no_both (ap (λ (w : Process). w.terminated) (put_process_made t p v m))
      (ap (λ (i : ℕ). (process_at u i).terminated) (sym (eqb-true q p c)) ∙ y))
      (λ c. busy_over t u q (put_process_else t p q v (eqb-false q p c)) (lists q)
      (F.busy q (eqb-false q p c))) in
      if_on (Fit r) (may_terminate u h) _ _
      (λ c. terminate_fit u h T l
      (ap (λ (w : Job). w.made) (job_at_put_process t p v h) ∙ F.tree.job_made p m) c s b)
      (λ c. record { tree = T; low = l; settled = settled_all u h c s; busy = b })
