-- `Tree` name by name: what it says of one job, one process, one thread and one token, so that a
-- store answers for one record (`tree_of`). Assumes nothing.
use Rattle.std.proofs.Common.{Some, None}
use Prim.Native.Nat.{ℕ}
use mathlib.Core.Path.{◌≡◌}
use mathlib.Core.Bool.{Bool, true, false}
use Rattle.laws.specs.Choice.{◌=?◌}
use Rattle.job_policy.specs.declared.JobPolicy.{JobPolicy}
use Rattle.job_policy.specs.Policy.{no_policy}
use Rattle.record_exception.specs.declared.Place.TheVariants.{OfJob, OfJobDebugger}
use Rattle.record_exception.specs.declared.Exception.{Exception}
use Rattle.record_exception.specs.Channel.{is_shut}
use Rattle.record_job.specs.declared.Job.{Job}
use Rattle.record_job.specs.Job.{no_job}
use Rattle.record_process.specs.declared.Process.{Process}
use Rattle.record_process.specs.Process.{critical_to, no_process, is_exited}
use Rattle.record_thread.specs.declared.Waiting.TheVariants.{NotWaiting, InException}
use Rattle.record_thread.specs.declared.Thread.{Thread}
use Rattle.record_thread.specs.Thread.{DEAD, no_thread}
use Rattle.record_token.specs.declared.Kind.TheVariants.{Job as JobKind}
use Rattle.record_token.specs.declared.SuspendToken.{SuspendToken}
use Rattle.record_token.specs.declared.Task.{Task}
use Rattle.record_token.specs.SuspendToken.{no_token, number}
use Rattle.records.specs.declared.tables.Tables.{Tables}
use Rattle.records.specs.Tables.{job_at, own_at, inherited_at, process_at, fixed_at, thread_at, token_at}
use Rattle.records.specs.Owners.{found_task}
use Rattle.records.specs.Tables.{Sized}
use Rattle.claims.specs.Reachable.{AtOrAbove, Tree}

-- ---- One name --------------------------------------------------------------------------------

pub record GoodJob (t : Tables) (j : ℕ) (v : Job) (own inherited : JobPolicy) : Type 0 where
  pub unmade : v.made ≡ false → (v ≡ no_job) × (own ≡ no_policy) × (inherited ≡ no_policy)
  pub orphan_root : v.made ≡ true → v.parent ≡ None → j ≡ 0
  pub parent_made : (p : ℕ) → v.parent ≡ Some p → (job_at t p).made ≡ true
  pub terminated_killed : v.terminated ≡ true → v.killed ≡ true
  pub on_list : (p : ℕ) → v.parent ≡ Some p → v.terminated ≡ false → v.listed ≡ true
  pub unlisted : v.listed ≡ true → v.terminated ≡ false
  pub parent_alive : (p : ℕ) → v.listed ≡ true → v.parent ≡ Some p
      → (job_at t p).terminated ≡ false
  pub level4_shut : is_shut v.level4 ≡ v.terminated
  pub level5_shut : is_shut v.level5 ≡ v.terminated

pub record GoodProcess (t : Tables) (q : Process) (fixed : JobPolicy) : Type 0 where
  pub unmade : q.made ≡ false → (q ≡ no_process) × (fixed ≡ no_policy)
  pub job_made : q.made ≡ true → (job_at t q.job).made ≡ true
  pub job_alive : q.listed ≡ true → (job_at t q.job).terminated ≡ false
  pub on_list : q.made ≡ true → q.terminated ≡ false → q.listed ≡ true
  pub unlisted : q.listed ≡ true → q.terminated ≡ false
  pub terminated_exited : q.terminated ≡ true → is_exited q.status ≡ true
  pub bound_above : (j : ℕ) (b : Bool) → q.critical ≡ critical_to j b → AtOrAbove t j q.job
  pub level1_shut : is_shut q.level1 ≡ q.terminated
  pub level3_shut : is_shut q.level3 ≡ q.terminated

pub record GoodThread (t : Tables) (v : Thread) : Type 0 where
  pub unmade : v.made ≡ false → v ≡ no_thread
  pub process_made : v.made ≡ true → (process_at t v.process).made ≡ true
  pub process_alive : v.listed ≡ true → (process_at t v.process).listed ≡ true
  pub on_list : v.made ≡ true → (v.state =? DEAD) ≡ false → v.listed ≡ true
  pub unlisted : v.listed ≡ true → (v.state =? DEAD) ≡ false
  pub dead_idle : v.state ≡ DEAD → v.waiting ≡ NotWaiting
  pub dead_started : v.state ≡ DEAD → v.started ≡ true
  pub handler_above : (j : ℕ) (e : Exception) → v.waiting ≡ InException e → e.place ≡ OfJob j
      → AtOrAbove t j (process_at t v.process).job
  pub debugger_above : (j : ℕ) (e : Exception) → v.waiting ≡ InException e
      → e.place ≡ OfJobDebugger j → AtOrAbove t j (process_at t v.process).job
  pub level2_shut : is_shut v.level2 ≡ (v.state =? DEAD)

pub record GoodToken (t : Tables) (k : SuspendToken) : Type 0 where
  pub unmade : k.made ≡ false → k ≡ no_token
  pub held_made : (a : Task) → k.task ≡ Some a → k.made ≡ true
  pub held_kind : (a : Task) → k.task ≡ Some a → a.kind ≡ JobKind → ⊥
  pub task_made : (a : Task) → k.task ≡ Some a → found_task t (number a.kind) a.name ≡ Some tt

module _ {t : Tables} (T : Tree t) where
  pub good_job : (j : ℕ) → GoodJob t j (job_at t j) (own_at t j) (inherited_at t j)
  good_job j =
      record {
        unmade = T.job_unmade j;
        orphan_root = T.orphan_root j;
        parent_made = T.parent_made j;
        terminated_killed = T.terminated_killed j;
        on_list = T.job_listed j;
        unlisted = T.job_unlisted j;
        parent_alive = T.parent_alive j;
        level4_shut = T.level4_shut j;
        level5_shut = T.level5_shut j;
      }

  pub good_process : (p : ℕ) → GoodProcess t (process_at t p) (fixed_at t p)
  good_process p =
      record {
        unmade = T.process_unmade p;
        job_made = T.job_made p;
        job_alive = T.job_alive p;
        on_list = T.process_listed p;
        unlisted = T.process_unlisted p;
        terminated_exited = T.terminated_exited p;
        bound_above = T.bound_above p;
        level1_shut = T.level1_shut p;
        level3_shut = T.level3_shut p;
      }

  pub good_thread : (n : ℕ) → GoodThread t (thread_at t n)
  good_thread n =
      record {
        unmade = T.thread_unmade n;
        process_made = T.process_made n;
        process_alive = T.process_alive n;
        on_list = T.thread_listed n;
        unlisted = T.thread_unlisted n;
        dead_idle = T.dead_idle n;
        dead_started = T.dead_started n;
        handler_above = T.handler_above n;
        debugger_above = T.debugger_above n;
        level2_shut = T.level2_shut n;
      }

  pub good_token : (k : ℕ) → GoodToken t (token_at t k)
  good_token k =
      record {
        unmade = T.token_unmade k;
        held_made = T.held_made k;
        held_kind = T.held_kind k;
        task_made = T.task_made k;
      }

pub tree_of : (t : Tables) → Sized t → (job_at t 0).made ≡ true → (job_at t 0).parent ≡ None
    → ((j : ℕ) → GoodJob t j (job_at t j) (own_at t j) (inherited_at t j))
    → ((p : ℕ) → GoodProcess t (process_at t p) (fixed_at t p))
    → ((n : ℕ) → GoodThread t (thread_at t n)) → ((k : ℕ) → GoodToken t (token_at t k)) → Tree t
tree_of t s m o j p n k =
    record {
      sized = s;
      job_unmade = λ i. (j i).unmade;
      process_unmade = λ i. (p i).unmade;
      thread_unmade = λ i. (n i).unmade;
      token_unmade = λ i. (k i).unmade;
      root_made = m;
      root_orphan = o;
      orphan_root = λ i. (j i).orphan_root;
      parent_made = λ i. (j i).parent_made;
      job_made = λ i. (p i).job_made;
      process_made = λ i. (n i).process_made;
      held_made = λ i. (k i).held_made;
      held_kind = λ i. (k i).held_kind;
      task_made = λ i. (k i).task_made;
      terminated_killed = λ i. (j i).terminated_killed;
      job_listed = λ i. (j i).on_list;
      job_unlisted = λ i. (j i).unlisted;
      parent_alive = λ i. (j i).parent_alive;
      job_alive = λ i. (p i).job_alive;
      process_alive = λ i. (n i).process_alive;
      process_listed = λ i. (p i).on_list;
      process_unlisted = λ i. (p i).unlisted;
      terminated_exited = λ i. (p i).terminated_exited;
      bound_above = λ i. (p i).bound_above;
      thread_listed = λ i. (n i).on_list;
      thread_unlisted = λ i. (n i).unlisted;
      dead_idle = λ i. (n i).dead_idle;
      dead_started = λ i. (n i).dead_started;
      handler_above = λ i. (n i).handler_above;
      debugger_above = λ i. (n i).debugger_above;
      level1_shut = λ i. (p i).level1_shut;
      level2_shut = λ i. (n i).level2_shut;
      level3_shut = λ i. (p i).level3_shut;
      level4_shut = λ i. (j i).level4_shut;
      level5_shut = λ i. (j i).level5_shut;
    }
