-- An exception is over after at most 36 closings: `closings`. A closing lowers the exception's
-- place (`Lower`), no other call moves it (`Others`), and no call moves a job to another parent
-- (`Olds`), so one rank serves for all the calls. Assumes nothing.
use Rattle.std.proofs.Common.{Some}
use Prim.Native.Nat.{ℕ, ◌<◌}
use native.Mathlib.Omega.{arith}
use mathlib.Core.Path.{◌≡◌, refl, sym, ap, ◌∙◌, subst}
use mathlib.Core.Bool.{true, false}
use mathlib.Core.List.{List, [], ◌∷◌}
use Rattle.laws.proofs.Cases.{by, no_both, if_on}
use Rattle.record_exception.specs.declared.Place.{Place}
use Rattle.record_exception.specs.declared.Place.TheVariants.{Debugger, OwnThread, OwnProcess}
use Rattle.record_exception.specs.declared.Place.TheVariants.{SecondChance, OfJob, OfJobDebugger}
use Rattle.record_exception.specs.declared.Place.TheVariants.{Exiting}
use Rattle.record_exception.specs.declared.Exception.{Exception}
use Rattle.record_job.specs.declared.Job.{Job}
use Rattle.record_job.specs.Job.{no_job, new_job}
use Rattle.record_thread.specs.declared.Waiting.TheVariants.{InException}
use Rattle.record_thread.specs.declared.Thread.{Thread}
use Rattle.records.specs.declared.tables.Tables.{Tables}
use Rattle.records.specs.Tables.{fresh_tables, job_at, thread_at}
use Rattle.model.specs.Job.{finish_thread}
use Rattle.model.specs.Exception.{own_job}
use Rattle.model.specs.JobCalls.{with_child, with_new_process}
use Rattle.model.specs.Step.{Call, cmd14, cmd15, step, final}
use Rattle.claims.specs.Reachable.{Tree, Sound}
use Rattle.claims.specs.Closings.{Waits, still, between, closed, Closings}
use Rattle.model.proofs.TaskTables.{on_job}
use Rattle.claims.proofs.Cross.{job_at_put_inherited, job_at_put_process, job_at_put_fixed}
use Rattle.claims.proofs.Cross.{job_at_put_thread}
use Rattle.claims.proofs.Fixed.{Cascade, cascade_kill, cascade_exit, cascade_end}
use Rattle.claims.proofs.Stays.{job_made_stays, parent_stays}
use Rattle.claims.proofs.Quiet.{Quiet, job_made_same, parent_same}
use Rattle.claims.proofs.Tree.{tree_step}
use Rattle.claims.proofs.Tree.Puts.{orphan≢child}
use Rattle.claims.proofs.Does.{does_step}
use Rattle.claims.proofs.Does.Ways.{Does, rests, new_job_lem, new_process_lem, new_thread_lem, kills}
use Rattle.claims.proofs.Does.Ways.{exits, finishes}
use Rattle.claims.proofs.Sound.{fresh_sound, sound_final, sound_step}
use Rattle.claims.proofs.Sound.Downward.{above_made}
use Rattle.claims.proofs.Sound.Make.{count_le}
use Rattle.claims.proofs.Closings.Places.{idle≢held, WaitsAt}
use Rattle.claims.proofs.Closings.Others.{others}
use Rattle.claims.proofs.Closings.Lower.{height, Below, Ready, closing}
pub mod Places
pub mod Others
pub mod Lower

-- ---- The jobs that are there -------------------------------------------------------------------

-- u has the jobs of t, each below its parent
record Olds (t u : Tables) : Type 0 where
  made : (i : ℕ) → (job_at t i).made ≡ true → (job_at u i).made ≡ true
  parent : (i : ℕ) → (job_at t i).made ≡ true → (job_at u i).parent ≡ (job_at t i).parent

olds_same : (t u : Tables) → ((i : ℕ) → job_at u i ≡ job_at t i) → Olds t u
olds_same t u e =
    record {
      made = λ i m. ap (λ (v : Job). v.made) (e i) ∙ m;
      parent = λ i m. ap (λ (v : Job). v.parent) (e i);
    }

olds_both : {t u w : Tables} → Olds t u → Olds u w → Olds t w
olds_both a b =
    record {
      made = λ i m. b.made i (a.made i m);
      parent = λ i m. b.parent i (a.made i m) ∙ a.parent i m;
    }

olds_quiet : (t u : Tables) → Quiet t u → Olds t u
olds_quiet t u q =
    record { made = λ i m. job_made_same q i ∙ m; parent = λ i m. parent_same q i }

olds_cascade : (t u : Tables) → Cascade t u → Olds t u
olds_cascade t u c =
    record { made = λ i m. job_made_stays t u c i ∙ m; parent = λ i m. parent_stays t u c i }

-- a new job has a name of its own
olds_new : (t : Tables) (j new : ℕ) → (job_at t new).made ≡ false → Olds t (with_child t j new)
unfolding with_child
olds_new t j new f =
    let no : (i : ℕ) → (job_at t i).made ≡ true → i ≡ new → ⊥ =
    λ i m e. no_both (subst (λ (k : ℕ). (job_at t k).made ≡ true) e m) f in
    record {
      made = λ i m. ap (λ (v : Job). v.made) (job_at_put_inherited _ new _ i)
          ∙ on_job (λ (v : Job). v.made ≡ true) t new i (new_job j) (λ e. refl) m;
      parent = λ i m. ap (λ (v : Job). v.parent) (job_at_put_inherited _ new _ i)
          ∙ on_job (λ (v : Job). v.parent ≡ (job_at t i).parent) t new i (new_job j)
          (λ e. absurd (no i m e)) refl;
    }

olds_does : {t u : Tables} {c : Call} → Does t c u → Olds t u
olds_does {t} {u} (rests q) = olds_quiet t u q
olds_does {t} (new_job_lem j new m k h f) = olds_new t j new f
olds_does {t} (new_process_lem j new m k h f) =
    unfold with_new_process in olds_same t _
    (λ i. job_at_put_fixed _ new _ i ∙ job_at_put_process t new _ i)
olds_does {t} (new_thread_lem p new m x h f) = olds_same t _ (job_at_put_thread t new _)
olds_does {t} (kills j m) = olds_cascade t _ (cascade_kill t j)
olds_does {t} (exits {w = w} p code e q W) =
    olds_both (olds_quiet t w q) (olds_cascade w _ (cascade_exit w p code))
olds_does {t} (finishes n e m s w) = unfold finish_thread in (
    if_on (Olds t) _ _ _ (λ h. olds_same t _ (job_at_put_thread t n _))
    (λ h. olds_both (olds_same t _ (job_at_put_thread t n _)) (olds_cascade _ _ (cascade_end _ _))))

-- ---- One rank for all the calls ----------------------------------------------------------------

record Ranks (r : ℕ → ℕ) (t : Tables) : Type 0 where
  falls : (j p : ℕ) → (job_at t j).parent ≡ Some p → r p < r j
  small : (j : ℕ) → (job_at t j).made ≡ true → r j < 32

ranks_of : {t : Tables} (S : Sound t) → Ranks S.rank t
ranks_of {t} S =
    record {
      falls = S.rank_falls;
      small = λ j m. omega (
        arith,
        S.rank_below j m,
        count_le (λ (v : Job). v.made) no_job t.jobs,
        S.tree.sized.jobs,
      );
    }

-- a job with a parent is made
child_made : {t : Tables} → Tree t → (j p : ℕ) → (job_at t j).parent ≡ Some p
    → (job_at t j).made ≡ true
child_made {t} T j p e =
    by (job_at t j).made (λ m. m)
    (λ m. orphan≢child (ap (λ (v : Job). v.parent) (T.job_unmade j m).0) e)

ranks_before : {r : ℕ → ℕ} {t u : Tables} → Tree t → Olds t u → Ranks r u → Ranks r t
ranks_before T o R =
    record {
      falls = λ j p e. R.falls j p (o.parent j (child_made T j p e) ∙ e);
      small = λ j m. R.small j (o.made j m);
    }

ranks_back : (r : ℕ → ℕ) (t : Tables) (l : List Call) → Tree t → Ranks r (final t l) → Ranks r t
unfolding final
ranks_back r t [] T R = R
ranks_back r t (c ∷ l) T R =
    ranks_before T (olds_does (does_step t c T))
    (ranks_back r (step t c).tables l (tree_step t c T) R)

-- ---- The list of calls -------------------------------------------------------------------------

module _ {t : Tables} (T : Tree t) (n : ℕ) (e : Exception)
    (w : (thread_at t n).waiting ≡ InException e) where
  held_made : (thread_at t n).made ≡ true
  held_made =
      by (thread_at t n).made (λ m. m)
      (λ m. idle≢held (sym (ap (λ (v : Thread). v.waiting) (T.thread_unmade n m)) ∙ w))

  own_made : (job_at t (own_job t n)).made ≡ true
  own_made = T.job_made (thread_at t n).process (T.process_made n held_made)

  module _ (r : ℕ → ℕ) (R : Ranks r t) where
    ready : Ready r n t
    ready =
        record { falls = R.falls; own = R.small (own_job t n) own_made; made = held_made }

    highest : (p : Place) → e.place ≡ p → height r p < 36
    highest Debugger h = omega arith
    highest OwnThread h = omega arith
    highest OwnProcess h = omega arith
    highest SecondChance h = omega arith
    highest (OfJob j) h =
        omega (arith, R.small j (above_made T (T.handler_above n j e w h) own_made))
    highest (OfJobDebugger j) h = omega arith
    highest Exiting h = omega arith

-- the height of the place bounds the closings that are left
bound : (r : ℕ → ℕ) (n : ℕ) {t : Tables} {l : List Call} {k : ℕ} → Waits n t l k → Tree t
    → Ranks r (final t l) → (m : ℕ) → WaitsAt (Below r m) n t → k < m
unfolding final
bound r n {t} (still (e, w)) T R m K = omega (arith, (K.wait.place e w).low)
bound r n {t} (between {c = c} d (e, w) x) T R m K =
    bound r n x (tree_step t c T) R m (others (Below r m) n t K e w c d)
bound r n {t} (closed {l = l} (e, w) x) T R m K =
    let U : Tree (step t (cmd15 n)).tables = tree_step t (cmd15 n) T in
    let S : Ranks r t = ranks_before T (olds_does (does_step t (cmd15 n) T))
    (ranks_back r _ l U R) in
    omega (
      arith,
      (K.wait.place e w).low,
      bound r n x U R (height r e.place) (closing t n r e T (ready T n e w r S) w),
    )

-- from any sound state, raise or not
after : (n : ℕ) (t : Tables) (l : List Call) (k : ℕ) → Sound t → Waits n t l k → k < 36
after n t l k S x =
    let F : Sound (final t l) = sound_final t l S in
    let r : ℕ → ℕ = F.rank in
    let R : Ranks r t = ranks_back r t l S.tree (ranks_of F) in
    bound r n x S.tree (ranks_of F) 36
    (record {
      wait = record {
        place = λ e w. record { low = highest S.tree n e w r R e.place refl };
      };
    })

pub closings : Closings
unfolding Closings
closings before n kind l k =
    let t : Tables = final fresh_tables before in
    after n (step t (cmd14 n kind)).tables l k
    (sound_step t (cmd14 n kind) (sound_final fresh_tables before fresh_sound))
