-- What each change of a record leaves of its part of `Tree`: the changes of jobs, processes and
-- threads, one law each. Assumes nothing.
use Rattle.record_process.specs.declared.Critical.{Critical}
use Rattle.std.proofs.lemmas.Option.{none-some, same_Some}
use Rattle.std.proofs.Common.{None}
use Rattle.std.proofs.Common.{Some}
use Prim.Native.Nat.{ℕ}
use native.Mathlib.Omega.{arith}
use mathlib.Core.Path.{◌≡◌, refl, ap, ◌∙◌, subst}
use mathlib.Core.Bool.{Bool, true, false}
use Rattle.laws.proofs.Cases.{no_both}
use Rattle.job_policy.specs.declared.JobPolicy.{JobPolicy}
use Rattle.job_policy.specs.declared.TimerSlack.{TimerSlack}
use Rattle.record_exception.specs.declared.Level.{Level}
use Rattle.record_exception.specs.declared.Level.TheVariants.{Unbound}
use Rattle.record_exception.specs.Channel.{is_shut}
use Rattle.record_job.specs.declared.Job.{Job}
use Rattle.record_job.specs.Job.{no_job, new_job, killed, terminated, with_slack, with_level4}
use Rattle.record_job.specs.Job.{with_level5}
use Rattle.record_process.specs.declared.Status.{Status}
use Rattle.record_process.specs.declared.Process.{Process}
use Rattle.record_process.specs.Process.{critical_to, no_process, new_process, is_exited, with_status, ended}
use Rattle.record_process.specs.Process.{bind_to, with_level1, with_level3}
use Rattle.records.specs.declared.tables.Tables.{Tables}
use Rattle.records.specs.Tables.{job_at}
use Rattle.claims.specs.Reachable.{AtOrAbove}
use Rattle.claims.proofs.Tree.Parts.{GoodJob, GoodProcess}

-- ---- Jobs ------------------------------------------------------------------------------------

child_inj : {p q : ℕ} → Some p ≡ Some q → p ≡ q
child_inj {p} {q} e = cc

module _ {t : Tables} {own inherited : JobPolicy} where
  pub new_job_good : (j new : ℕ) → (job_at t j).made ≡ true → (job_at t j).terminated ≡ false
      → GoodJob t new (new_job j) own inherited
  new_job_good j new m a =
      record {
        unmade = λ h. no_both refl h;
        orphan_root = λ h e. absurd (let z : ◌≡◌ {A = ℕ} 0 1 = cc in omega arith);
        parent_made = λ p e. subst (λ (n : ℕ). (job_at t n).made ≡ true) (child_inj e) m;
        terminated_killed = λ h. no_both h refl;
        on_list = λ p e h. refl;
        unlisted = λ h. refl;
        parent_alive = λ p h e. subst (λ (n : ℕ). (job_at t n).terminated ≡ false) (child_inj e) a;
        level4_shut = refl;
        level5_shut = refl;
      }

  module _ {j : ℕ} {v : Job} (g : GoodJob t j v own inherited) where
    pub killed_good : v.made ≡ true → GoodJob t j (killed v) own inherited
    killed_good m =
        record {
          unmade = λ h. no_both m h;
          orphan_root = g.orphan_root;
          parent_made = g.parent_made;
          terminated_killed = λ h. refl;
          on_list = g.on_list;
          unlisted = g.unlisted;
          parent_alive = g.parent_alive;
          level4_shut = g.level4_shut;
          level5_shut = g.level5_shut;
        }

    pub terminated_good : v.made ≡ true → v.killed ≡ true
        → GoodJob t j (terminated v) own inherited
    terminated_good m k =
        record {
          unmade = λ h. no_both m h;
          orphan_root = g.orphan_root;
          parent_made = g.parent_made;
          terminated_killed = λ h. k;
          on_list = λ p e h. no_both refl h;
          unlisted = λ h. no_both h refl;
          parent_alive = λ p h. no_both h refl;
          level4_shut = refl;
          level5_shut = refl;
        }

    pub slack_good : (s : TimerSlack) → v.made ≡ true → GoodJob t j (with_slack v s) own inherited
    slack_good s m =
        record {
          unmade = λ h. no_both m h;
          orphan_root = g.orphan_root;
          parent_made = g.parent_made;
          terminated_killed = g.terminated_killed;
          on_list = g.on_list;
          unlisted = g.unlisted;
          parent_alive = g.parent_alive;
          level4_shut = g.level4_shut;
          level5_shut = g.level5_shut;
        }

    module _ (l : Level) (n : v ≡ no_job → l ≡ Unbound) where
      pub level4_good : is_shut l ≡ is_shut v.level4 → GoodJob t j (with_level4 v l) own inherited
      level4_good e =
          record {
            unmade = λ h. let r = g.unmade h in (
              ap (λ (x : Job). with_level4 x l) r.0 ∙ ap (λ x. with_level4 no_job x) (n r.0),
              r.1,
              r.2,
            );
            orphan_root = g.orphan_root;
            parent_made = g.parent_made;
            terminated_killed = g.terminated_killed;
            on_list = g.on_list;
            unlisted = g.unlisted;
            parent_alive = g.parent_alive;
            level4_shut = e ∙ g.level4_shut;
            level5_shut = g.level5_shut;
          }

      pub level5_good : is_shut l ≡ is_shut v.level5 → GoodJob t j (with_level5 v l) own inherited
      level5_good e =
          record {
            unmade = λ h. let r = g.unmade h in (
              ap (λ (x : Job). with_level5 x l) r.0 ∙ ap (λ x. with_level5 no_job x) (n r.0),
              r.1,
              r.2,
            );
            orphan_root = g.orphan_root;
            parent_made = g.parent_made;
            terminated_killed = g.terminated_killed;
            on_list = g.on_list;
            unlisted = g.unlisted;
            parent_alive = g.parent_alive;
            level4_shut = g.level4_shut;
            level5_shut = e ∙ g.level5_shut;
          }

-- ---- Processes -------------------------------------------------------------------------------

free≢bound {ℓ} : {P : Type ℓ} {j : ℕ} {b : Bool} → None ≡ critical_to j b → P
free≢bound e = absurd (none-some _ e)

bound_inj : {i j : ℕ} {a b : Bool} → critical_to i a ≡ critical_to j b → i ≡ j
bound_inj e = ap (λ (b : Critical). b.job) (same_Some _ _ e)

module _ {t : Tables} {fixed : JobPolicy} where
  pub new_process_good : (j : ℕ) → (job_at t j).made ≡ true → (job_at t j).terminated ≡ false
      → GoodProcess t (new_process j) fixed
  new_process_good j m a =
      record {
        unmade = λ h. no_both refl h;
        job_made = λ h. m;
        job_alive = λ h. a;
        on_list = λ h e. refl;
        unlisted = λ h. refl;
        terminated_exited = λ h. no_both h refl;
        bound_above = λ i b e. free≢bound e;
        level1_shut = refl;
        level3_shut = refl;
      }

  module _ {q : Process} (g : GoodProcess t q fixed) where
    pub status_good : (s : Status) → q.made ≡ true → (q.terminated ≡ true → is_exited s ≡ true)
        → GoodProcess t (with_status q s) fixed
    status_good s m e =
        record {
          unmade = λ h. no_both m h;
          job_made = g.job_made;
          job_alive = g.job_alive;
          on_list = g.on_list;
          unlisted = g.unlisted;
          terminated_exited = e;
          bound_above = g.bound_above;
          level1_shut = g.level1_shut;
          level3_shut = g.level3_shut;
        }

    pub ended_good : q.made ≡ true → GoodProcess t (ended q) fixed
    unfolding ended
    ended_good m =
        record {
          unmade = λ h. no_both m h;
          job_made = g.job_made;
          job_alive = λ h. no_both h refl;
          on_list = λ h e. no_both refl e;
          unlisted = λ h. no_both h refl;
          terminated_exited = λ h. refl;
          bound_above = g.bound_above;
          level1_shut = refl;
          level3_shut = refl;
        }

    pub bind_to_good : (j : ℕ) (b : Bool) → q.made ≡ true → AtOrAbove t j q.job
        → GoodProcess t (bind_to q j b) fixed
    bind_to_good j b m a =
        record {
          unmade = λ h. no_both m h;
          job_made = g.job_made;
          job_alive = g.job_alive;
          on_list = g.on_list;
          unlisted = g.unlisted;
          terminated_exited = g.terminated_exited;
          bound_above = λ i c e. subst (λ (n : ℕ). AtOrAbove t n q.job) (bound_inj e) a;
          level1_shut = g.level1_shut;
          level3_shut = g.level3_shut;
        }

    module _ (l : Level) (n : q ≡ no_process → l ≡ Unbound) where
      pub level1_good : is_shut l ≡ is_shut q.level1 → GoodProcess t (with_level1 q l) fixed
      level1_good e =
          record {
            unmade = λ h. let r = g.unmade h in (
              ap (λ (x : Process). with_level1 x l) r.0
                  ∙ ap (λ x. with_level1 no_process x) (n r.0),
              r.1,
            );
            job_made = g.job_made;
            job_alive = g.job_alive;
            on_list = g.on_list;
            unlisted = g.unlisted;
            terminated_exited = g.terminated_exited;
            bound_above = g.bound_above;
            level1_shut = e ∙ g.level1_shut;
            level3_shut = g.level3_shut;
          }

      pub level3_good : is_shut l ≡ is_shut q.level3 → GoodProcess t (with_level3 q l) fixed
      level3_good e =
          record {
            unmade = λ h. let r = g.unmade h in (
              ap (λ (x : Process). with_level3 x l) r.0
                  ∙ ap (λ x. with_level3 no_process x) (n r.0),
              r.1,
            );
            job_made = g.job_made;
            job_alive = g.job_alive;
            on_list = g.on_list;
            unlisted = g.unlisted;
            terminated_exited = g.terminated_exited;
            bound_above = g.bound_above;
            level1_shut = g.level1_shut;
            level3_shut = e ∙ g.level3_shut;
          }
