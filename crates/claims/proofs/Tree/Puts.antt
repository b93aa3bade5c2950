-- A store to each table keeps `Tree`, if the record that it writes has its part of it and keeps
-- what other records need: a law a table. Assumes nothing.
use Rattle.std.proofs.Common.{Option, Some, None}
use Prim.Native.Nat.{ℕ}
use native.Mathlib.Omega.{arith}
use mathlib.Core.Path.{◌≡◌, refl, sym, ap, ◌∙◌, subst}
use mathlib.Core.Bool.{true, false}
use mathlib.Core.List.{map}
use Rattle.laws.proofs.Cases.{by, no_both}
use Rattle.job_policy.specs.declared.JobPolicy.{JobPolicy}
use Rattle.record_job.specs.declared.Job.{Job}
use Rattle.record_process.specs.declared.Process.{Process}
use Rattle.record_thread.specs.declared.Thread.{Thread}
use Rattle.record_thread.specs.Thread.{no_thread}
use Rattle.record_token.specs.declared.SuspendToken.{SuspendToken}
use Rattle.records.specs.declared.tables.Tables.{Tables}
use Rattle.records.specs.Tables.{job_at, own_at, inherited_at, process_at, fixed_at, thread_at, token_at}
use Rattle.records.specs.Tables.{put_job, put_own, put_inherited, put_process, put_fixed, put_thread}
use Rattle.records.specs.Tables.{put_token, with_threads}
use Rattle.records.specs.Tables.{Sized}
use Rattle.claims.specs.Reachable.{Tree}
use Rattle.model.proofs.TaskTables.{on_job, on_process, on_thread}
use Rattle.claims.proofs.SideTables.{on_own, on_inherited, on_fixed, on_token}
use Rattle.claims.proofs.ThreadMaps.{thread_at_map}
use Rattle.claims.proofs.Lengths.{lengths, put_job_lengths, put_own_lengths}
use Rattle.claims.proofs.Lengths.{put_inherited_lengths, put_process_lengths, put_fixed_lengths}
use Rattle.claims.proofs.Lengths.{put_thread_lengths, put_token_lengths, map_threads_lengths}
use Rattle.claims.proofs.Lengths.{jobs_long, own_long, inherited_long, processes_long}
use Rattle.claims.proofs.Lengths.{fixed_long, threads_long, tokens_long}
use Rattle.claims.proofs.Tree.Parts.{GoodJob, GoodProcess, GoodThread, GoodToken, good_job}
use Rattle.claims.proofs.Tree.Parts.{good_process, good_thread, good_token, tree_of}
use Rattle.claims.proofs.Tree.Over.{Kept, job_over, process_over, thread_over, token_over}

sized_over : (t u : Tables) → lengths u ≡ lengths t → Sized t → Sized u
sized_over t u e s =
    record {
      jobs = jobs_long u t e ∙ s.jobs;
      own = own_long u t e ∙ s.own;
      inherited = inherited_long u t e ∙ s.inherited;
      processes = processes_long u t e ∙ s.processes;
      fixed = fixed_long u t e ∙ s.fixed;
      threads = threads_long u t e ∙ s.threads;
      tokens = tokens_long u t e ∙ s.tokens;
    }

tree_over : {t u : Tables} → Tree t → Kept t u → lengths u ≡ lengths t
    → ((j : ℕ) → GoodJob u j (job_at u j) (own_at u j) (inherited_at u j))
    → ((p : ℕ) → GoodProcess u (process_at u p) (fixed_at u p))
    → ((n : ℕ) → GoodThread u (thread_at u n)) → ((i : ℕ) → GoodToken u (token_at u i)) → Tree u
tree_over {t} {u} T k e =
    tree_of u (sized_over t u e T.sized) (k.job 0 T.root_made) (k.root T.root_orphan)

pub orphan≢child {ℓ} : {P : Type ℓ} {q : Option ℕ} {p : ℕ} → q ≡ None → q ≡ Some p → P
orphan≢child {q = q} {p = p} a b = absurd (let z : ◌≡◌ {A = ℕ} 0 1 = cc in omega arith)

-- a job with a parent is made
pub child_made : {t : Tables} → Tree t → (j p : ℕ) → (job_at t j).parent ≡ Some p
    → (job_at t j).made ≡ true
child_made {t} T j p e =
    by (job_at t j).made (λ m. m)
    (λ m. orphan≢child (ap (λ (v : Job). v.parent) (T.job_unmade j m).0) e)

-- a store that leaves jobs and processes, and what is a made thread
pub kept_of : (t u : Tables) → ((j : ℕ) → job_at u j ≡ job_at t j)
    → ((p : ℕ) → process_at u p ≡ process_at t p)
    → ((n : ℕ) → (thread_at t n).made ≡ true → (thread_at u n).made ≡ true) → Kept t u
kept_of t u a b c =
    record {
      job = λ j m. ap (λ (v : Job). v.made) (a j) ∙ m;
      parent = λ j p e. ap (λ (v : Job). v.parent) (a j) ∙ e;
      root = λ e. ap (λ (v : Job). v.parent) (a 0) ∙ e;
      process = λ p m. ap (λ (q : Process). q.made) (b p) ∙ m;
      home = λ p m. ap (λ (q : Process). q.job) (b p);
      thread = c;
    }

-- ---- Jobs and their policies -----------------------------------------------------------------

module _ (t : Tables) (T : Tree t) (j : ℕ) where
  kept_job : (v : Job)
      → ((job_at t j).made ≡ true → (v.made ≡ true) × (v.parent ≡ (job_at t j).parent))
      → Kept t (put_job t j v)
  unfolding process_at thread_at put_job
  kept_job v keep =
      let at : (i : ℕ) → i ≡ j → (job_at t i).made ≡ true → (job_at t j).made ≡ true =
      λ i e. subst (λ (n : ℕ). (job_at t n).made ≡ true) e in
      let up : (i : ℕ) → i ≡ j → (job_at t i).made ≡ true → v.parent ≡ (job_at t i).parent =
      λ i e m. (keep (at i e m)).1 ∙ ap (λ (n : ℕ). (job_at t n).parent) (sym e) in
      record {
        job = λ i. on_job (λ w. (job_at t i).made ≡ true → w.made ≡ true) t j i v
            (λ e m. (keep (at i e m)).0) (λ m. m);
        parent = λ i p. on_job (λ w. (job_at t i).parent ≡ Some p → w.parent ≡ Some p) t j i v
            (λ e h. up i e (child_made T i p h) ∙ h) (λ h. h);
        root = λ h. on_job (λ w. w.parent ≡ None) t j 0 v (λ e. up 0 e T.root_made ∙ h) h;
        process = λ p m. m;
        home = λ p m. refl;
        thread = λ n m. m;
      }

  -- nothing on its list while it is terminated
  pub put_job_tree : (v : Job) → GoodJob t j v (own_at t j) (inherited_at t j)
      → ((job_at t j).made ≡ true → (v.made ≡ true) × (v.parent ≡ (job_at t j).parent))
      → ((i : ℕ) → (job_at t i).listed ≡ true → (job_at t i).parent ≡ Some j
      → v.terminated ≡ false)
      → ((p : ℕ) → (process_at t p).listed ≡ true → (process_at t p).job ≡ j → v.terminated ≡ false)
      → Tree (put_job t j v)
  unfolding own_at inherited_at process_at fixed_at thread_at token_at put_job
  put_job_tree v g keep kids members =
      let u : Tables = put_job t j v in
      let k : Kept t u = kept_job v keep in
      let still : (p : ℕ) → (p ≡ j → v.terminated ≡ false) → (job_at t p).terminated ≡ false
      → (job_at u p).terminated ≡ false = λ p h. on_job (λ w. w.terminated ≡ false) t j p v h in
      tree_over T k (put_job_lengths t j v)
      (λ i. on_job (λ w. GoodJob u i w (own_at t i) (inherited_at t i)) t j i v
      (λ e. subst (λ (n : ℕ). GoodJob u n v (own_at t n) (inherited_at t n)) (sym e)
      (job_over k (λ p l h. still p (λ c. g.unlisted l)) g))
      (job_over k (λ p l h. still p (λ c. kids i l (h ∙ ap (λ (n : ℕ). Some n) c)))
      (good_job T i)))
      (λ p. process_over k (λ l. still (process_at t p).job (members p l)) (good_process T p))
      (λ n. thread_over k (λ l h. h) (good_thread T n))
      (λ i. token_over k (good_token T i))

  -- a made job may have any policies
  policies_free : {u : Tables} {i : ℕ} {v : Job} {a b c d : JobPolicy} → v.made ≡ true
      → GoodJob u i v a b → GoodJob u i v c d
  policies_free m g =
      record {
        unmade = λ h. no_both m h;
        orphan_root = g.orphan_root;
        parent_made = g.parent_made;
        terminated_killed = g.terminated_killed;
        on_list = g.on_list;
        unlisted = g.unlisted;
        parent_alive = g.parent_alive;
        level4_shut = g.level4_shut;
        level5_shut = g.level5_shut;
      }

  pub put_own_tree : (v : JobPolicy) → (job_at t j).made ≡ true → Tree (put_own t j v)
  unfolding job_at inherited_at process_at fixed_at thread_at token_at put_own
  put_own_tree v m =
      let u : Tables = put_own t j v in
      let k : Kept t u = kept_of t u (λ i. refl) (λ i. refl) (λ i m. m) in
      let g : (i : ℕ) → GoodJob u i (job_at t i) (own_at t i) (inherited_at t i) =
      λ i. job_over k (λ p l e h. h) (good_job T i) in
      tree_over T k (put_own_lengths t j v)
      (λ i. on_own (λ w. GoodJob u i (job_at t i) w (inherited_at t i)) t j i v
      (λ e. policies_free (subst (λ (n : ℕ). (job_at t n).made ≡ true) (sym e) m) (g i)) (g i))
      (λ p. process_over k (λ l h. h) (good_process T p))
      (λ n. thread_over k (λ l h. h) (good_thread T n))
      (λ i. token_over k (good_token T i))

  pub put_inherited_tree : (v : JobPolicy) → (job_at t j).made ≡ true → Tree (put_inherited t j v)
  unfolding job_at own_at process_at fixed_at thread_at token_at put_inherited
  put_inherited_tree v m =
      let u : Tables = put_inherited t j v in
      let k : Kept t u = kept_of t u (λ i. refl) (λ i. refl) (λ i m. m) in
      let g : (i : ℕ) → GoodJob u i (job_at t i) (own_at t i) (inherited_at t i) =
      λ i. job_over k (λ p l e h. h) (good_job T i) in
      tree_over T k (put_inherited_lengths t j v)
      (λ i. on_inherited (λ w. GoodJob u i (job_at t i) (own_at t i) w) t j i v
      (λ e. policies_free (subst (λ (n : ℕ). (job_at t n).made ≡ true) (sym e) m) (g i)) (g i))
      (λ p. process_over k (λ l h. h) (good_process T p))
      (λ n. thread_over k (λ l h. h) (good_thread T n))
      (λ i. token_over k (good_token T i))

-- ---- Processes and their policies ------------------------------------------------------------

module _ (t : Tables) (T : Tree t) (p : ℕ) where
  kept_process : (v : Process)
      → ((process_at t p).made ≡ true → (v.made ≡ true) × (v.job ≡ (process_at t p).job))
      → Kept t (put_process t p v)
  unfolding job_at thread_at put_process
  kept_process v keep =
      let at : (i : ℕ) → i ≡ p → (process_at t i).made ≡ true → (process_at t p).made ≡ true =
      λ i e. subst (λ (n : ℕ). (process_at t n).made ≡ true) e in
      record {
        job = λ j m. m;
        parent = λ j i e. e;
        root = λ h. h;
        process = λ i. on_process (λ q. (process_at t i).made ≡ true → q.made ≡ true) t p i v
            (λ e m. (keep (at i e m)).0) (λ m. m);
        home = λ i. on_process
            (λ q. (process_at t i).made ≡ true → q.job ≡ (process_at t i).job) t p i v
            (λ e m. (keep (at i e m)).1 ∙ ap (λ (n : ℕ). (process_at t n).job) (sym e)) (λ m. refl);
        thread = λ n m. m;
      }

  -- listed while it lists a thread
  pub put_process_tree : (v : Process) → GoodProcess t v (fixed_at t p)
      → ((process_at t p).made ≡ true → (v.made ≡ true) × (v.job ≡ (process_at t p).job))
      → ((n : ℕ) → (thread_at t n).listed ≡ true → (thread_at t n).process ≡ p → v.listed ≡ true)
      → Tree (put_process t p v)
  unfolding job_at own_at inherited_at fixed_at thread_at token_at put_process
  put_process_tree v g keep threads =
      let u : Tables = put_process t p v in
      let k : Kept t u = kept_process v keep in
      tree_over T k (put_process_lengths t p v)
      (λ i. job_over k (λ q l e h. h) (good_job T i))
      (λ i. on_process (λ q. GoodProcess u q (fixed_at t i)) t p i v
      (λ e. subst (λ (n : ℕ). GoodProcess u v (fixed_at t n)) (sym e) (process_over k (λ l h. h) g))
      (process_over k (λ l h. h) (good_process T i)))
      (λ n. thread_over k
      (λ l. on_process (λ q. q.listed ≡ true) t p (thread_at t n).process v (threads n l))
      (good_thread T n))
      (λ i. token_over k (good_token T i))

  pub put_fixed_tree : (v : JobPolicy) → (process_at t p).made ≡ true → Tree (put_fixed t p v)
  unfolding job_at own_at inherited_at process_at thread_at token_at put_fixed
  put_fixed_tree v m =
      let u : Tables = put_fixed t p v in
      let k : Kept t u = kept_of t u (λ i. refl) (λ i. refl) (λ i m. m) in
      let g : (i : ℕ) → GoodProcess u (process_at t i) (fixed_at t i) =
      λ i. process_over k (λ l h. h) (good_process T i) in
      tree_over T k (put_fixed_lengths t p v)
      (λ i. job_over k (λ q l e h. h) (good_job T i))
      (λ i. on_fixed (λ w. GoodProcess u (process_at t i) w) t p i v
      (λ e. record {
        unmade = λ h. no_both (subst (λ (n : ℕ). (process_at t n).made ≡ true) (sym e) m) h;
        job_made = (g i).job_made;
        job_alive = (g i).job_alive;
        on_list = (g i).on_list;
        unlisted = (g i).unlisted;
        terminated_exited = (g i).terminated_exited;
        bound_above = (g i).bound_above;
        level1_shut = (g i).level1_shut;
        level3_shut = (g i).level3_shut;
      }) (g i))
      (λ n. thread_over k (λ l h. h) (good_thread T n))
      (λ i. token_over k (good_token T i))

-- ---- Threads and tokens ----------------------------------------------------------------------

module _ (t : Tables) (T : Tree t) where
  pub put_thread_tree : (n : ℕ) (v : Thread) → GoodThread t v
      → ((thread_at t n).made ≡ true → v.made ≡ true) → Tree (put_thread t n v)
  unfolding job_at own_at inherited_at process_at fixed_at token_at put_thread
  put_thread_tree n v g keep =
      let u : Tables = put_thread t n v in
      let k : Kept t u = kept_of t u (λ i. refl) (λ i. refl)
      (λ i. on_thread (λ w. (thread_at t i).made ≡ true → w.made ≡ true) t n i v
      (λ e m. keep (subst (λ (n : ℕ). (thread_at t n).made ≡ true) e m)) (λ m. m)) in
      tree_over T k (put_thread_lengths t n v)
      (λ i. job_over k (λ q l e h. h) (good_job T i))
      (λ i. process_over k (λ l h. h) (good_process T i))
      (λ i. on_thread (GoodThread u) t n i v (λ e. thread_over k (λ l h. h) g)
      (thread_over k (λ l h. h) (good_thread T i)))
      (λ i. token_over k (good_token T i))

  pub map_threads_tree : (f : Thread → Thread) → f no_thread ≡ no_thread
      → ((v : Thread) → GoodThread t v → GoodThread t (f v))
      → ((v : Thread) → v.made ≡ true → (f v).made ≡ true)
      → Tree (with_threads t (map f t.threads))
  unfolding job_at own_at inherited_at process_at fixed_at token_at
  map_threads_tree f z g keep =
      let u : Tables = with_threads t (map f t.threads) in
      let at : (n : ℕ) → thread_at u n ≡ f (thread_at t n) = thread_at_map f z t in
      let k : Kept t u = kept_of t u (λ i. refl) (λ i. refl)
      (λ i m. ap (λ (w : Thread). w.made) (at i) ∙ keep (thread_at t i) m) in
      tree_over T k (map_threads_lengths t f)
      (λ i. job_over k (λ q l e h. h) (good_job T i))
      (λ i. process_over k (λ l h. h) (good_process T i))
      (λ i. subst (GoodThread u) (sym (at i))
      (thread_over k (λ l h. h) (g (thread_at t i) (good_thread T i))))
      (λ i. token_over k (good_token T i))

  pub put_token_tree : (i : ℕ) (v : SuspendToken) → GoodToken t v → Tree (put_token t i v)
  unfolding job_at own_at inherited_at process_at fixed_at thread_at put_token
  put_token_tree i v g =
      let u : Tables = put_token t i v in
      let k : Kept t u = kept_of t u (λ i. refl) (λ i. refl) (λ i m. m) in
      tree_over T k (put_token_lengths t i v)
      (λ j. job_over k (λ q l e h. h) (good_job T j))
      (λ j. process_over k (λ l h. h) (good_process T j))
      (λ j. thread_over k (λ l h. h) (good_thread T j))
      (λ j. on_token (GoodToken u) t i j v (λ e. token_over k g) (token_over k (good_token T j)))
