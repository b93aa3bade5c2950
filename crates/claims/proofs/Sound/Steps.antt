-- Each step of a cascade keeps `Fit`, at any depth, and so does a thread that finishes. Assumes
-- nothing.
use Rattle.std.proofs.Common.{Some}
use Rattle.std.proofs.Common.{Option, None}
use Prim.Native.Nat.{ℕ, zero, suc}
use mathlib.Core.Path.{◌≡◌, refl, sym, ap, ◌∙◌}
use mathlib.Core.Bool.{true, false}
use lib.IntN.{ℤ}
use borrow.Author.Tests.{eqb-true, eqb-false, ne_eqb}
use Rattle.laws.specs.Choice.{◌=?◌, ◌and◌}
use Rattle.laws.proofs.Cases.{by, no_both, ite_on, if_on, and_false}
use Rattle.record_job.specs.declared.Job.{Job}
use Rattle.record_job.specs.Job.{killed, child_of}
use Rattle.record_process.specs.declared.Critical.{Critical}
use Rattle.record_process.specs.declared.Status.TheVariants.{Exited}
use Rattle.record_process.specs.declared.Process.{Process}
use Rattle.record_process.specs.Process.{KILL_CODE, with_status, member_of}
use Rattle.record_thread.specs.declared.Waiting.TheVariants.{NotWaiting}
use Rattle.record_thread.specs.declared.Thread.{Thread}
use Rattle.record_thread.specs.Thread.{thread_of, finish}
use Rattle.records.specs.declared.tables.Tables.{Tables}
use Rattle.records.specs.Tables.{job_at, process_at, thread_at, put_job, put_process, put_thread}
use Rattle.model.specs.Job.{job_empty, lists_thread, may_terminate, stop_threads, is_live_job}
use Rattle.model.specs.Job.{is_live_process, kill_child, exit_member, kill_listed, kill_step}
use Rattle.model.specs.Job.{kill_bound, unlist_process, end_step, exit_listed, exit_step}
use Rattle.model.specs.Job.{kill_within, exit_within, remaining, kill_job, exit_process}
use Rattle.model.specs.Job.{end_process, finish_thread}
use Rattle.claims.specs.Reachable.{Tree}
use Rattle.model.proofs.TaskTables.{on_thread, keep_job, keep_process, put_job_made}
use Rattle.model.proofs.TaskTables.{put_job_else, put_process_made, put_process_else}
use Rattle.claims.proofs.Cross.{job_at_put_process, job_at_put_thread, process_at_put_job}
use Rattle.claims.proofs.Cross.{process_at_put_thread, thread_at_put_job, thread_at_put_process}
use Rattle.claims.proofs.ThreadMaps.{job_at_stop_threads, process_at_stop_threads}
use Rattle.claims.proofs.ThreadMaps.{lists_thread_stop_threads}
use Rattle.model.proofs.Live.{live_job_made, live_process_made}
use Rattle.model.proofs.Lists.{may_terminate_lem, may_empty, lists_thread_same}
use Rattle.model.proofs.Keeps.{up_to_keeps}
use Rattle.claims.proofs.Tree.Cascade.{marks_tree, exits_tree, stops_tree, finishes_tree}
use Rattle.claims.proofs.Sound.Settle.{SettledBut, settled_all, may_by}
use Rattle.claims.proofs.Sound.Fitting.{Low, BusyAt, Fit, FitBut, low_over, busy_over}
use Rattle.claims.proofs.Sound.Fitting.{terminate_fit, unlist_fit}

module _ (r : ℕ → ℕ) where
  -- ---- The steps of the cascade --------------------------------------------------------------

  module _ (K : Tables → ℕ → Tables) (k : (t : Tables) (j : ℕ) → Fit r t → Fit r (K t j)) where
    kill_bound_fit : (b : Option Critical) (code : ℤ) (t : Tables) → Fit r t → Fit r (kill_bound K b code t)
    unfolding kill_bound
    kill_bound_fit None code t F = F
    kill_bound_fit (Some b) code t F = ite_on (Fit r) _ _ _ (λ e. k t b.job F) (λ e. F)

    end_step_fit : (t : Tables) (p : ℕ) → FitBut r p t → (process_at t p).made ≡ true
        → lists_thread t p ≡ false → Fit r (end_step K t p)
    unfolding end_step
    end_step_fit t p F m e = kill_bound_fit _ _ (unlist_process t p) (unlist_fit r t p F m e)

    -- a process just marked Exited
    exit_marked : (t : Tables) (p : ℕ) (code : ℤ) → is_live_process (process_at t p) ≡ true → Fit r t
        → FitBut r p (put_process t p (with_status (process_at t p) (Exited code)))
    unfolding member_of
    exit_marked t p code e F =
        let v : Process = with_status (process_at t p) (Exited code) in
        let u : Tables = put_process t p v in
        let at : (i : ℕ) → job_at u i ≡ job_at t i = job_at_put_process t p v in
        record {
          tree = exits_tree t F.tree p code (live_process_made (process_at t p) e);
          low = low_over (λ i. ap (λ (w : Job). w.parent) (at i))
              (λ i. ap (λ (w : Job). w.made) (at i)) F.low;
          settled = λ i c. ap (λ (w : Job). w.terminated) (at i)
              ∙ F.settled i (sym (may_by t u i (ap (λ (w : Job). w.killed) (at i))
              (λ x. ap (λ (w : Job). child_of w i) (at x))
              (keep_process (λ q. member_of q i) t p v refl)) ∙ c);
          busy = λ q d. busy_over t u q (put_process_else t p q v d)
              (lists_thread_same u t q
              (λ i. ap (λ (w : Thread). thread_of w q) (thread_at_put_process t p v i))) (F.busy q);
        }

    stopped_fit : (t : Tables) (p : ℕ) → FitBut r p t → lists_thread t p ≡ true
        → Fit r (stop_threads t p)
    stopped_fit t p F e =
        let u : Tables = stop_threads t p in
        let at : (i : ℕ) → job_at u i ≡ job_at t i = job_at_stop_threads t p in
        record {
          tree = stops_tree t F.tree p;
          low = low_over (λ i. ap (λ (w : Job). w.parent) (at i))
              (λ i. ap (λ (w : Job). w.made) (at i)) F.low;
          settled = λ i c. ap (λ (w : Job). w.terminated) (at i)
              ∙ F.settled i (sym (may_by t u i (ap (λ (w : Job). w.killed) (at i))
              (λ x. ap (λ (w : Job). child_of w i) (at x))
              (λ x. ap (λ (q : Process). member_of q i) (process_at_stop_threads t p x))) ∙ c);
          busy = λ q. by (q =? p)
              (λ c x y. lists_thread_stop_threads t p q ∙ ap (lists_thread t) (eqb-true q p c) ∙ e)
              (λ c. busy_over t u q (process_at_stop_threads t p q) (lists_thread_stop_threads t p q)
              (F.busy q (eqb-false q p c)));
        }

    exit_step_fit : (t : Tables) (p : ℕ) (code : ℤ) → Fit r t → Fit r (exit_step K t p code)
    unfolding exit_step exit_listed
    exit_step_fit t p code F =
        ite_on (Fit r) _ _ _
        (λ e. let v : Process = with_status (process_at t p) (Exited code) in
        let u : Tables = put_process t p v in
        let G : FitBut r p u = exit_marked t p code e F in
        let m : (process_at t p).made ≡ true = live_process_made (process_at t p) e in
        ite_on (Fit r) (lists_thread u p) _ _ (stopped_fit u p G)
        (end_step_fit u p G (ap (λ (q : Process). q.made) (put_process_made t p v m) ∙ m)))
        (λ e. F)

    module _ (X : Tables → ℕ → ℤ → Tables)
        (x : (t : Tables) (p : ℕ) (code : ℤ) → Fit r t → Fit r (X t p code)) where
      kill_marked : (t : Tables) (j : ℕ) → is_live_job (job_at t j) ≡ true → Fit r t
          → Fit r (kill_listed K X (put_job t j (killed (job_at t j))) j)
      unfolding kill_listed kill_child exit_member child_of
      kill_marked t j e F =
          let v : Job = killed (job_at t j) in
          let u : Tables = put_job t j v in
          let m : (job_at t j).made ≡ true = live_job_made (job_at t j) e in
          let n : job_at u j ≡ v = put_job_made t j v m in
          let T : Tree u = marks_tree t F.tree j m in
          let l : Low r u = low_over (keep_job (λ w. w.parent) t j v refl)
          (keep_job (λ w. w.made) t j v refl) F.low in
          let s : SettledBut j u = λ i d c.
          let same : job_at u i ≡ job_at t i = put_job_else t j i v d in
          ap (λ (w : Job). w.terminated) same
          ∙ F.settled i (sym (may_by t u i (ap (λ (w : Job). w.killed) same)
          (keep_job (λ w. child_of w i) t j v refl)
          (λ y. ap (λ (q : Process). member_of q i) (process_at_put_job t j v y))) ∙ c) in
          let b : (q : ℕ) → BusyAt u q = λ q. busy_over t u q (process_at_put_job t j v q)
          (lists_thread_same u t q
          (λ i. ap (λ (w : Thread). thread_of w q) (thread_at_put_job t j v i))) (F.busy q) in
          ite_on (Fit r) (job_empty u j) _ _
          (λ c. terminate_fit r u j T l (ap (λ (w : Job). w.made) n ∙ m)
          (may_terminate_lem u j (ap (λ (w : Job). w.killed) n) c) s b)
          λ c. up_to_keeps (Fit r) (exit_member X j)
          (λ p w G. ite_on (Fit r) _ _ _ (λ h. x w p KILL_CODE G) (λ h. G)) 64 _
          (up_to_keeps (Fit r) (kill_child K j)
          (λ i w G. ite_on (Fit r) _ _ _ (λ h. k w i G) (λ h. G)) 32 u
          (record {
            tree = T;
            low = l;
            settled = settled_all u j
                (by (may_terminate u j) (λ h. no_both (may_empty u j h) c) (λ h. h)) s;
            busy = b;
          }))

      kill_step_fit : (t : Tables) (j : ℕ) → Fit r t → Fit r (kill_step K X t j)
      unfolding kill_step
      kill_step_fit t j F = ite_on (Fit r) _ _ _ (λ e. kill_marked t j e F) (λ e. F)

  -- ---- At any depth --------------------------------------------------------------------------

  within_fit : (n : ℕ) → ((t : Tables) (j : ℕ) → Fit r t → Fit r (kill_within n t j))
      × ((t : Tables) (p : ℕ) (code : ℤ) → Fit r t → Fit r (exit_within n t p code))
  unfolding kill_within
  within_fit zero = (λ t j F. F, λ t p code F. F)
  within_fit (suc n) =
      let h = within_fit n in (
        kill_step_fit (kill_within n) h.0 (exit_within n) h.1,
        exit_step_fit (kill_within n)
            h.0,
      )

  pub kill_fit : (t : Tables) (j : ℕ) → Fit r t → Fit r (kill_job t j)
  unfolding kill_job
  kill_fit t j = (within_fit (suc (remaining t))).0 t j

  pub exit_fit : (t : Tables) (p : ℕ) (code : ℤ) → Fit r t → Fit r (exit_process t p code)
  unfolding exit_process
  exit_fit t p code = (within_fit (suc (remaining t))).1 t p code

  -- ---- A thread finishes ---------------------------------------------------------------------

  finished_fit : (t : Tables) (n : ℕ) → Fit r t → (thread_at t n).made ≡ true
      → (thread_at t n).started ≡ true → (thread_at t n).waiting ≡ NotWaiting
      → FitBut r (thread_at t n).process (put_thread t n (finish (thread_at t n)))
  unfolding thread_of ◌and◌
  finished_fit t n F m s w =
      let v : Thread = finish (thread_at t n) in
      let u : Tables = put_thread t n v in
      let at : (i : ℕ) → job_at u i ≡ job_at t i = job_at_put_thread t n v in
      record {
        tree = finishes_tree F.tree n m s w;
        low = low_over (λ i. ap (λ (w : Job). w.parent) (at i))
            (λ i. ap (λ (w : Job). w.made) (at i)) F.low;
        settled = λ i c. ap (λ (w : Job). w.terminated) (at i)
            ∙ F.settled i (sym (may_by t u i (ap (λ (w : Job). w.killed) (at i))
            (λ x. ap (λ (w : Job). child_of w i) (at x))
            (λ x. ap (λ (q : Process). member_of q i) (process_at_put_thread t n v x))) ∙ c);
        busy = λ q d. busy_over t u q (process_at_put_thread t n v q)
            (lists_thread_same u t q
            (λ i. on_thread (λ x. thread_of x q ≡ thread_of (thread_at t i) q) t n i v
            (λ c. sym (and_false (thread_at t i).listed (ne_eqb (thread_at t i).process q
            (λ h. d (sym h ∙ ap (λ (x : ℕ). (thread_at t x).process) c))))) refl)) (F.busy q);
      }

  pub finish_fit : (t : Tables) (n : ℕ) → Fit r t → (thread_at t n).made ≡ true
      → (thread_at t n).started ≡ true → (thread_at t n).waiting ≡ NotWaiting
      → Fit r (finish_thread t n)
  unfolding finish_thread end_process
  finish_fit t n F m s w =
      let v : Thread = finish (thread_at t n) in
      let u : Tables = put_thread t n v in
      let p : ℕ = (thread_at t n).process in
      let G : FitBut r p u = finished_fit t n F m s w in
      if_on (Fit r) (lists_thread u p) _ _
      (λ e. record {
        tree = G.tree;
        low = G.low;
        settled = G.settled;
        busy = λ q. by (q =? p) (λ c x y. ap (lists_thread u) (eqb-true q p c) ∙ e)
            (λ c. G.busy q (eqb-false q p c));
      })
      (end_step_fit kill_job kill_fit u p G
      (ap (λ (q : Process). q.made) (process_at_put_thread t n v p) ∙ F.tree.process_made n m))
