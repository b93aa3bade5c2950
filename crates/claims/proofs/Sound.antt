-- `Sound` holds at the start (`fresh_sound`) and after every call (`sound_step`), hence of every
-- reachable state: `reachable`. Beside it, what a call has closed since (`closed_step`). Assumes
-- nothing.
use Rattle.std.proofs.Common.{None}
use Prim.Native.Nat.{ℕ, ◌<◌}
use native.Mathlib.Omega.{arith}
use mathlib.Core.Path.{◌≡◌, refl, sym, ap, ◌∙◌}
use mathlib.Core.Bool.{true, false}
use mathlib.Core.List.{List, [], ◌∷◌}
use Rattle.laws.specs.Choice.{if◌then◌otherwise◌}
use Rattle.laws.proofs.Cases.{no_both, if_on}
use Rattle.record_job.specs.declared.Job.{Job}
use Rattle.record_job.specs.Job.{no_job, new_job}
use Rattle.record_process.specs.declared.Process.{Process}
use Rattle.record_process.specs.Process.{new_process, is_exited}
use Rattle.record_thread.specs.declared.Waiting.TheVariants.{NotWaiting}
use Rattle.record_thread.specs.declared.Thread.{Thread}
use Rattle.record_thread.specs.Thread.{new_thread, finish}
use Rattle.records.specs.declared.tables.Tables.{Tables}
use Rattle.records.specs.Tables.{fresh_tables, job_at, process_at, thread_at, put_job, put_inherited}
use Rattle.records.specs.Tables.{put_process, put_thread}
use Rattle.model.specs.Job.{lists_thread, count, finish_thread, kill_job, exit_process}
use Rattle.model.specs.JobCalls.{with_child, with_new_process}
use Rattle.model.specs.Step.{Call, step, final}
use Rattle.claims.specs.Reachable.{Tree, Sound, Reachable}
use Rattle.model.proofs.TaskTables.{on_process}
use Rattle.claims.proofs.Cross.{process_at_put_fixed, job_at_put_thread, process_at_put_thread}
use Rattle.model.proofs.Lists.{may_killed}
use Rattle.claims.proofs.Enough.{Ranked}
use Rattle.claims.proofs.Fixed.{cascade_kill, cascade_exit, cascade_end}
use Rattle.claims.proofs.Stays.{job_made_stays}
use Rattle.claims.proofs.Quiet.{Quiet, quiet_inherited, quiet_fixed, job_made_same}
use Rattle.claims.proofs.Quiet.{killed_same, terminated_same, parent_same, process_made_same}
use Rattle.claims.proofs.Quiet.{ended_same, home_same, exited_same, may_same, lists_same}
use Rattle.claims.proofs.Tree.{fresh_tree, fresh_job, fresh_process, tree_step}
use Rattle.claims.proofs.Tree.Puts.{orphan≢child}
use Rattle.claims.proofs.Tree.Cascade.{finishes_tree}
use Rattle.claims.proofs.Tree.JobCalls.{new_job_tree, new_process_tree}
use Rattle.claims.proofs.Does.{does_step}
use Rattle.claims.proofs.Does.Ways.{Does, rests, new_job_lem, new_process_lem, new_thread_lem, kills}
use Rattle.claims.proofs.Does.Ways.{exits, finishes}
use Rattle.claims.proofs.Sound.Fitting.{Fit}
use Rattle.claims.proofs.Sound.Steps.{kill_fit, exit_fit, finish_fit}
use Rattle.claims.proofs.Sound.Closure.{Closed, closed_over}
use Rattle.claims.proofs.Sound.Downward.{kill_closes, exit_closes, end_process_closes}
use Rattle.claims.proofs.Sound.Make.{count_same, count_le, make_job, make_process}
use Rattle.claims.proofs.Sound.Make.{make_thread}
pub mod Settle
pub mod Fitting
pub mod Steps
pub mod Closure
pub mod Visits
pub mod Downward
pub mod Make

abbrev pub All : ℕ → Type 0
All n = Unit {0}

-- ---- To and from the parts -------------------------------------------------------------------

pub fit_of : {t : Tables} (S : Sound t) → Fit S.rank t
unfolding Ranked
fit_of {t} S =
    record {
      tree = S.tree;
      low = record {
        falls = S.rank_falls;
        small = λ j m. omega (
          arith,
          S.rank_below j m,
          count_le (λ (v : Job). v.made) no_job t.jobs,
          S.tree.sized.jobs,
        );
      };
      settled = S.killed_terminated;
      busy = S.exited_busy;
    }

sound_of : {s t u : Tables} (S : Sound t) → Fit S.rank u → Closed All All s u
    → ((i : ℕ) → (job_at u i).made ≡ (job_at t i).made) → Sound u
unfolding Ranked job_at
sound_of {s} {t} {u} S F K e =
    record {
      tree = F.tree;
      rank = S.rank;
      rank_below = λ j m. rw (count_same (λ (v : Job). v.made) no_job u.jobs t.jobs
          (F.tree.sized.jobs ∙ sym S.tree.sized.jobs) e) (S.rank_below j (sym (e j) ∙ m));
      rank_falls = F.low.falls;
      killed_below = λ j p. K.below j p tt;
      killed_exited = λ p. K.exited p tt;
      killed_terminated = F.settled;
      exited_busy = F.busy;
    }

-- where no process has ended since t
closed_from : {t u : Tables} → Sound u
    → ((p : ℕ) → (process_at u p).terminated ≡ true → (process_at t p).terminated ≡ true)
    → Closed All All t u
closed_from S e =
    record {
      below = λ i p n. S.killed_below i p;
      exited = λ p n. S.killed_exited p;
      tied = λ p j z m x y. no_both (e p y) x;
    }

pub sound_quiet : {t u : Tables} → Quiet t u → Tree u → Sound t → Sound u
unfolding job_at
sound_quiet {t} {u} q U S =
    record {
      tree = U;
      rank = S.rank;
      rank_below = λ j m. rw (count_same (λ (v : Job). v.made) no_job u.jobs t.jobs
          (U.sized.jobs ∙ sym S.tree.sized.jobs) (job_made_same q))
          (S.rank_below j (sym (job_made_same q j) ∙ m));
      rank_falls = λ j p e. S.rank_falls j p (sym (parent_same q j) ∙ e);
      killed_below = λ j p e k. killed_same q j
          ∙ S.killed_below j p (sym (parent_same q j) ∙ e) (sym (killed_same q p) ∙ k);
      killed_exited = λ p m k. exited_same q p
          ∙ S.killed_exited p (sym (process_made_same q p) ∙ m)
          (ap (λ (h : ℕ). (job_at t h).killed) (sym (home_same q p))
          ∙ sym (killed_same q (process_at u p).job) ∙ k);
      killed_terminated = λ j m. terminated_same q j
          ∙ S.killed_terminated j (sym (may_same q j) ∙ m);
      exited_busy = λ p x y. lists_same q p
          ∙ S.exited_busy p (sym (exited_same q p) ∙ x) (sym (ended_same q p) ∙ y);
    }

-- ---- After a call ----------------------------------------------------------------------------

abbrev Next : Tables → Tables → Type 0
Next t u = Sound u × Closed All All t u

next_quiet : {t u : Tables} → Quiet t u → Tree u → Sound t → Next t u
next_quiet q U S =
    let R = sound_quiet q U S in
    (R, closed_from R (λ p x. sym (ended_same q p) ∙ x))

module _ {t : Tables} (S : Sound t) where
  now : Closed All All t t
  now = closed_from S (λ p e. e)

  module _ (n : ℕ) (m : (thread_at t n).made ≡ true) (s : (thread_at t n).started ≡ true)
      (w : (thread_at t n).waiting ≡ NotWaiting) where
    finish_closed : Closed All All t (finish_thread t n)
    unfolding finish_thread
    finish_closed =
        let v : Thread = finish (thread_at t n) in
        let u : Tables = put_thread t n v in
        let p : ℕ = (thread_at t n).process in
        let K : Closed All All t u =
        closed_over t u (λ i. ap (λ (x : Job). x.parent) (job_at_put_thread t n v i))
        (λ i. ap (λ (x : Job). x.killed) (job_at_put_thread t n v i))
        (process_at_put_thread t n v) now in
        if_on (Closed All All t) (lists_thread u p) _ _ (λ e. K)
        (λ e. end_process_closes (finishes_tree S.tree n m s w) K p
        (ap (λ (q : Process). q.made)
        (process_at_put_thread t n v p) ∙ S.tree.process_made n m) e)

    finish_made : (i : ℕ) → (job_at (finish_thread t n) i).made ≡ (job_at t i).made
    unfolding finish_thread
    finish_made i =
        let v : Thread = finish (thread_at t n) in
        let u : Tables = put_thread t n v in
        let e : (job_at u i).made ≡ (job_at t i).made =
        ap (λ (x : Job). x.made) (job_at_put_thread t n v i) in
        if_on (λ (x : Tables). (job_at x i).made ≡ (job_at t i).made) _ _ _ (λ h. e)
        (λ h. job_made_stays u _ (cascade_end u (thread_at t n).process) i ∙ e)

  -- a new process has not ended, and the others are as before
  newest_ended : (j new p : ℕ) → (process_at (with_new_process t j new) p).terminated ≡ true
      → (process_at t p).terminated ≡ true
  unfolding with_new_process
  newest_ended j new p e =
      on_process (λ q. q.terminated ≡ true → (process_at t p).terminated ≡ true) t new p
      (new_process j)
      (λ c x. no_both x refl) (λ x. x)
      (ap (λ (q : Process). q.terminated) (sym (process_at_put_fixed _ new _ p)) ∙ e)

next_does : {t u : Tables} {c : Call} → Does t c u → Tree u → Sound t → Next t u
next_does (rests q) U S = next_quiet q U S
next_does {t} (new_job_lem j new m k h f) U S =
    let x : Tables = put_job t new (new_job j) in
    let R : Sound (with_child t j new) =
    unfold with_child in (sound_quiet (quiet_inherited x new _) U
    (make_job t S j new m k h f (new_job_tree S.tree j new m k f))) in
    (R, closed_from R (λ p e. unfold with_child process_at put_inherited put_job in e))
next_does {t} (new_process_lem j new m k h f) U S =
    let x : Tables = put_process t new (new_process j) in
    let R : Sound (with_new_process t j new) = unfold with_new_process in
    (sound_quiet (quiet_fixed x new _) U
    (make_process t S j new k h f (new_process_tree S.tree j new m k f))) in
    (R, closed_from R (newest_ended S j new))
next_does {t} (new_thread_lem p new m x h f) U S =
    let R : Sound (put_thread t new (new_thread p)) = make_thread t S p new x f U in (
      R,
      closed_from R (λ i e. ap (λ (q : Process). q.terminated)
          (sym (process_at_put_thread t new (new_thread p) i)) ∙ e),
    )
next_does {t} (kills j m) U S =
    let K : Closed All All t (kill_job t j) = kill_closes S.tree (now S) j in
    (sound_of S (kill_fit S.rank t j (fit_of S)) K (job_made_stays t _ (cascade_kill t j)), K)
next_does {t} (exits {w = w} p code e q W) U S =
    let N : Next t w = next_quiet q W S in
    let K : Closed All All t (exit_process w p code) = exit_closes W N.1 p code in (
      sound_of N.0 (exit_fit N.0.rank w p code (fit_of N.0)) K
          (job_made_stays w _ (cascade_exit w p code)),
      K,
    )
next_does {t} (finishes n e m s w) U S =
    let K : Closed All All t (finish_thread t n) = finish_closed S n m s w in
    (sound_of S (finish_fit S.rank t n (fit_of S) m s w) K (finish_made S n m s w), K)

module _ (t : Tables) (c : Call) (S : Sound t) where
  next : Next t (step t c).tables
  next = next_does (does_step t c S.tree) (tree_step t c S.tree) S

  pub sound_step : Sound (step t c).tables
  sound_step = next.0

  -- what has ended by the call has killed the job that it is bound to
  pub closed_step : Closed All All t (step t c).tables
  closed_step = next.1

-- ---- Every reachable state -------------------------------------------------------------------

fresh_orphan : (i : ℕ) → (job_at fresh_tables i).parent ≡ None
fresh_orphan = fresh_job (λ i v. v.parent ≡ None) refl (λ i. refl)

fresh_unkilled : (i : ℕ) → (job_at fresh_tables i).killed ≡ false
fresh_unkilled = fresh_job (λ i v. v.killed ≡ false) refl (λ i. refl)

fresh_count : 0 < count (λ (v : Job). v.made) fresh_tables.jobs
unfolding count fresh_tables if◌then◌otherwise◌
fresh_count = omega arith

pub fresh_sound : Sound fresh_tables
fresh_sound =
    record {
      tree = fresh_tree;
      rank = λ j. 0;
      rank_below = λ j m. fresh_count;
      rank_falls = λ j p e. orphan≢child (fresh_orphan j) e;
      killed_below = λ j p e. orphan≢child (fresh_orphan j) e;
      killed_exited = λ p m. no_both m (ap (λ (q : Process). q.made) (fresh_process p));
      killed_terminated = λ j e. no_both (may_killed fresh_tables j e) (fresh_unkilled j);
      exited_busy = λ p x. no_both x
          (ap (λ (q : Process). is_exited q.status) (fresh_process p));
    }

pub sound_final : (t : Tables) (l : List Call) → Sound t → Sound (final t l)
unfolding final
sound_final t [] S = S
sound_final t (c ∷ l) S = sound_final (step t c).tables l (sound_step t c S)

pub reachable : Reachable
unfolding Reachable
reachable l = sound_final fresh_tables l fresh_sound
