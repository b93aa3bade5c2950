-- The effects of calls that are more than one store of a found record: new records, bindings,
-- policies, and a thread that finishes. Assumes nothing.
use Rattle.record_process.specs.declared.Critical.{Critical}
use Rattle.std.proofs.lemmas.Option.{none-some, same_Some}
use Prim.Native.Nat.{ℕ, zero, suc, ◌<◌}
use native.Mathlib.Omega.{arith}
use mathlib.Core.Path.{◌≡◌, refl, sym, ap, ap₂, ◌∙◌, subst}
use mathlib.Core.Bool.{Bool, true, false}
use borrow.Author.Tests.{eqb-true, eqb-false, lt-leb}
use Rattle.laws.specs.Choice.{◌=?◌, if◌then◌otherwise◌}
use Rattle.laws.proofs.Cases.{by, no_both, if_on, if_two, ite_two}
use Rattle.job_policy.specs.Policy.{merge}
use Rattle.record_job.specs.Job.{new_job}
use Rattle.record_process.specs.declared.Process.{Process}
use Rattle.record_process.specs.Process.{new_process, bind_to}
use Rattle.record_thread.specs.declared.Thread.{Thread}
use Rattle.record_thread.specs.Thread.{new_thread, finish}
use Rattle.record_token.specs.declared.SuspendToken.{SuspendToken}
use Rattle.record_token.specs.SuspendToken.{number, kind_of, new_token, drop}
use Rattle.records.specs.declared.tables.Tables.{Tables}
use Rattle.records.specs.Tables.{job_at, process_at, thread_at, put_thread}
use Rattle.model.specs.Job.{lists_thread, is_above, end_process, finish_thread}
use Rattle.model.specs.JobPolicy.{policy_of}
use Rattle.claims.specs.Separation.{Trip, task_of}
use Rattle.claims.proofs.Cross.{process_at_put_thread}
use Rattle.claims.proofs.Separation.Agree.{Agree, JobFits, ProcessFits, ThreadFits}
use Rattle.claims.proofs.Separation.Agree.{TokenFits, up_not_x}
use Rattle.claims.proofs.Separation.Fits.{fits_finish}
use Rattle.claims.proofs.Separation.Stores.{thread_one, thread_two}
use Rattle.claims.proofs.Separation.Same.{lists_same}
use Rattle.claims.proofs.Separation.CascadeOne.{end_process_one}
use Rattle.claims.proofs.Separation.UpTwo.{on_parent_two}
use Rattle.claims.proofs.Separation.CascadeTwo.{end_process_two}

-- ---- New records -----------------------------------------------------------------------------

-- a number that is no kind is taken for a thread's, here and by `kind_of`
task_kind : (x : Trip) (kind n : ℕ) → task_of x kind n ≡ task_of x (number (kind_of kind)) n
unfolding kind_of if◌then◌otherwise◌
task_kind x kind n =
    by (kind =? 0) (λ a. rw (eqb-true kind 0 a))
    (λ a. by (kind =? 1) (λ b. rw (eqb-true kind 1 b))
    (λ b.
    let l : 1 < kind = omega (arith, eqb-false kind 0 a, eqb-false kind 1 b) in
    rw (a, b, lt-leb kind 1 l)))

module _ {x y : Trip} where
  pub new_job_lem : (j new : ℕ) → (x.jobs j ≡ true → x.jobs new ≡ true) →
      (y.jobs j ≡ true → y.jobs new ≡ true) → JobFits x y new (new_job j)
  new_job_lem j new f g =
      record {
        below_x = λ d e h. f (ap x.jobs (let q : j ≡ d = cc in q) ∙ h);
        below_y = λ d e h. g (ap y.jobs (let q : j ≡ d = cc in q) ∙ h);
        killed_first = λ e. no_both e refl;
        listed_till = λ d e h. refl;
      }

  pub new_process_lem : (j new : ℕ) → x.processes new ≡ x.jobs j → y.processes new ≡ y.jobs j →
      ProcessFits x y new (new_process j)
  new_process_lem j new f g =
      record {
        of_x = λ e. f;
        of_y = λ e. g;
        bound_x = λ i b e. let z : ◌≡◌ {A = Bool} true false = cc in no_both refl z;
        listed_made = λ e. refl;
      }

  pub new_thread_lem : (p new : ℕ) → x.threads new ≡ x.processes p →
      y.threads new ≡ y.processes p →
      ThreadFits x y new (new_thread p)
  new_thread_lem p new f g = record { of_x = λ e. f; of_y = λ e. g; listed_made = λ e. refl }

  pub new_binding : (p j : ℕ) (b : Bool) (q : Process) → x.jobs j ≡ x.processes p →
      ProcessFits x y p q → ProcessFits x y p (bind_to q j b)
  new_binding p j b q f g =
      record {
        of_x = g.of_x;
        of_y = g.of_y;
        bound_x = λ i c e. ap x.jobs (sym (ap (λ (b : Critical). b.job) (same_Some _ _ e))) ∙ f;
        listed_made = g.listed_made;
      }

  pub new_token_lem : (new kind n : ℕ) → x.tokens new ≡ task_of x kind n →
      y.tokens new ≡ task_of y kind n →
      TokenFits x y new (new_token (kind_of kind) n)
  new_token_lem new kind n f g =
      record {
        of_x = λ a e. rw (← same_Some _ _ e) (f ∙ task_kind x kind n);
        of_y = λ a e. rw (← same_Some _ _ e) (g ∙ task_kind y kind n);
      }

  pub no_token_lem : (k : ℕ) (v : SuspendToken) → TokenFits x y k (drop v)
  no_token_lem k v = record { of_x = λ a e. absurd (none-some _ e); of_y = λ a e. absurd (none-some _ e) }

-- ---- What two runs answer alike --------------------------------------------------------------

module _ {x y : Trip} {s t : Tables} (r : Agree x y s t) where
  pub policy_same : (j : ℕ) → x.jobs j ≡ false → policy_of s j ≡ policy_of t j
  unfolding policy_of
  policy_same j h = ap₂ merge (r.own j h) (r.inherited j h)

  pub above_same : (m j i : ℕ) → x.jobs i ≡ false → is_above m s j i ≡ is_above m t j i
  unfolding is_above
  above_same zero j i h = refl
  above_same (suc m) j i h =
      ite_two (λ (a b : Bool). a ≡ b) (i =? j) (i =? j) _ _ _ _ refl (λ a b. refl)
      λ a b. on_parent_two (λ (c d : Bool). c ≡ d) (job_at s i).parent (job_at t i).parent _ _ _ _
      ((r.jobs i).parent h) (λ c d. refl)
      (λ p e f. above_same m j p (up_not_x (r.jobs i).fits₁ p h e))

  -- ---- A thread finishes -----------------------------------------------------------------------

  module _ (n : ℕ) (m : (process_at s (thread_at s n).process).made ≡ true) where
    pub finish_one : x.threads n ≡ true → x.processes (thread_at s n).process ≡ true →
        Agree x y (finish_thread s n) t
    unfolding finish_thread
    finish_one h k =
        let p : ℕ = (thread_at s n).process in
        let u : Tables = put_thread s n (finish (thread_at s n)) in
        let a : Agree x y u t =
        thread_one r n h (finish (thread_at s n))
        (fits_finish (thread_at s n) (r.threads n).fits₁) in
        if_on (λ (z : Tables). Agree x y z t) (lists_thread u p) _ _ (λ e. a)
        (λ e. end_process_one a p k
        (ap (λ (q : Process). q.made) (process_at_put_thread s n _ p) ∙ m))

    pub finish_two : x.threads n ≡ false → x.processes (thread_at s n).process ≡ false →
        Agree x y (finish_thread s n) (finish_thread t n)
    unfolding finish_thread
    finish_two h k =
        let p : ℕ = (thread_at s n).process in
        let u : Tables = put_thread s n (finish (thread_at s n)) in
        let w : Tables = put_thread t n (finish (thread_at t n)) in
        let a : Agree x y u w = thread_two r n (λ (v : Thread). finish v)
        (λ v f. fits_finish v f) in
        subst (λ (v : Thread). Agree x y (finish_thread s n)
        (if lists_thread w v.process then w otherwise end_process w v.process))
        ((r.threads n).same h)
        (if_two (Agree x y) (lists_thread u p) (lists_thread w p) _ _ _ _ (lists_same a p k)
        (λ d e. a)
        (λ d e. end_process_two u w a p k
        (ap (λ (q : Process). q.made) (process_at_put_thread s n _ p) ∙ m)))
