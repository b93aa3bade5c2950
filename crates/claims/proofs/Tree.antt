-- `Tree` holds at the start (`fresh_tree`), and after every call (`tree_step`). Assumes nothing.
use Rattle.std.proofs.Common.{Some, None}
use Rattle.std.proofs.lemmas.Option.{none-some}
use Prim.Native.Nat.{ℕ, zero, suc}
use native.Mathlib.Omega.{arith}
use mathlib.Core.Path.{◌≡◌, refl, sym, subst}
use lib.ListN.{get_or, replicate}
use Rattle.laws.proofs.Cases.{no_both}
use Rattle.job_policy.specs.Policy.{no_policy}
use Rattle.record_job.specs.declared.Job.{Job}
use Rattle.record_job.specs.Job.{no_job, root_job}
use Rattle.record_process.specs.Process.{no_process}
use Rattle.record_thread.specs.Thread.{no_thread}
use Rattle.record_token.specs.SuspendToken.{no_token}
use Rattle.records.specs.declared.tables.Tables.{Tables}
use Rattle.records.specs.Tables.{fresh_tables, job_at, own_at, inherited_at, process_at, fixed_at}
use Rattle.records.specs.Tables.{thread_at, token_at}
use Rattle.model.specs.Step.{Call, cmd01, cmd02, cmd03, cmd04, cmd05, cmd06, cmd07, cmd08}
use Rattle.model.specs.Step.{cmd09, cmd0a, cmd0b, cmd0c, cmd0d, cmd0e, cmd0f, cmd10, cmd11}
use Rattle.model.specs.Step.{cmd12, cmd13, cmd14, cmd15, cmd16, cmd17, cmd18, cmd19, cmd1a}
use Rattle.model.specs.Step.{cmd1b, cmd1c, cmd1d, cmd1e, cmd1f, step}
use Rattle.records.specs.Tables.{Sized}
use Rattle.claims.specs.Reachable.{Tree}
use Rattle.claims.proofs.Found.{After}
use Rattle.claims.proofs.Tree.Parts.{GoodJob, GoodProcess, GoodThread, GoodToken, tree_of}
use Rattle.claims.proofs.Tree.JobCalls.{create_child_tree, kill_job_call_tree}
use Rattle.claims.proofs.Tree.JobCalls.{set_policy_basic_tree, set_policy_timer_slack_tree}
use Rattle.claims.proofs.Tree.JobCalls.{job_information_tree, create_process_tree}
use Rattle.claims.proofs.Tree.JobCalls.{start_process_tree, exit_process_call_tree}
use Rattle.claims.proofs.Tree.JobCalls.{kill_process_tree, check_policy_tree}
use Rattle.claims.proofs.Tree.JobCalls.{process_information_tree, set_critical_at_job_tree}
use Rattle.claims.proofs.Tree.ThreadCalls.{create_thread_tree, start_thread_tree}
use Rattle.claims.proofs.Tree.ThreadCalls.{kill_thread_tree, exit_thread_tree}
use Rattle.claims.proofs.Tree.ThreadCalls.{finish_thread_call_tree, thread_information_tree}
use Rattle.claims.proofs.Tree.ThreadCalls.{begin_wait_tree, poll_wait_tree}
use Rattle.claims.proofs.Tree.ThreadCalls.{create_token_call_tree, drop_token_call_tree}
use Rattle.claims.proofs.Tree.ThreadCalls.{suspend_call_tree, resume_call_tree}
use Rattle.claims.proofs.Tree.ExceptionCalls.{bind_level_tree, hang_up_level_tree}
use Rattle.claims.proofs.Tree.ExceptionCalls.{raise_exception_tree, close_exception_tree}
use Rattle.claims.proofs.Tree.ExceptionCalls.{set_state_tree, set_strategy_tree}
use Rattle.claims.proofs.Tree.ExceptionCalls.{get_process_handle_tree}
pub mod Parts
pub mod Over
pub mod Puts
pub mod Records
pub mod Threads
pub mod Cascade
pub mod Search
pub mod Raise
pub mod JobCalls
pub mod ThreadCalls
pub mod ExceptionCalls

-- ---- At the start ----------------------------------------------------------------------------

-- a table of unmade records
pub same_at : {A : Type 0} (d : A) (n i : ℕ) → get_or (replicate n d) i d ≡ d
same_at d zero i = refl
same_at d (suc n) zero = refl
same_at d (suc n) (suc i) = same_at d n i

pub fresh_job : (Q : ℕ → Job → Type 0) → Q 0 root_job → ((i : ℕ) → Q i no_job)
    → (i : ℕ) → Q i (job_at fresh_tables i)
unfolding job_at fresh_tables
fresh_job Q r n zero = r
fresh_job Q r n (suc i) = subst (Q (suc i)) (sym (same_at no_job 31 i)) (n (suc i))

module _ (i : ℕ) where
  pub fresh_own : own_at fresh_tables i ≡ no_policy
  unfolding own_at fresh_tables
  fresh_own = same_at no_policy 32 i

  pub fresh_inherited : inherited_at fresh_tables i ≡ no_policy
  unfolding inherited_at fresh_tables
  fresh_inherited = same_at no_policy 32 i

  pub fresh_process : process_at fresh_tables i ≡ no_process
  unfolding process_at fresh_tables
  fresh_process = same_at no_process 64 i

  pub fresh_fixed : fixed_at fresh_tables i ≡ no_policy
  unfolding fixed_at fresh_tables
  fresh_fixed = same_at no_policy 64 i

  pub fresh_thread : thread_at fresh_tables i ≡ no_thread
  unfolding thread_at fresh_tables
  fresh_thread = same_at no_thread 128 i

  pub fresh_token : token_at fresh_tables i ≡ no_token
  unfolding token_at fresh_tables
  fresh_token = same_at no_token 64 i

child≢none {ℓ} : {P : Type ℓ} {p : ℕ} → None ≡ Some p → P
child≢none {p = p} e = absurd (let z : ◌≡◌ {A = ℕ} 0 1 = cc in omega arith)

fresh_good : (i : ℕ) → GoodJob fresh_tables i (job_at fresh_tables i) no_policy no_policy
fresh_good =
    fresh_job (λ i v. GoodJob fresh_tables i v no_policy no_policy)
    (record {
      unmade = λ h. no_both refl h;
      orphan_root = λ h e. refl;
      parent_made = λ p e. child≢none e;
      terminated_killed = λ h. h;
      on_list = λ p e. child≢none e;
      unlisted = λ h. refl;
      parent_alive = λ p h e. child≢none e;
      level4_shut = refl;
      level5_shut = refl;
    })
    (λ i. record {
      unmade = λ h. (refl, refl, refl);
      orphan_root = λ h e. no_both h refl;
      parent_made = λ p e. child≢none e;
      terminated_killed = λ h. h;
      on_list = λ p e. child≢none e;
      unlisted = λ h. refl;
      parent_alive = λ p h e. child≢none e;
      level4_shut = refl;
      level5_shut = refl;
    })

no_process_good : (t : Tables) → GoodProcess t no_process no_policy
no_process_good t =
    record {
      unmade = λ h. (refl, refl);
      job_made = λ h. no_both h refl;
      job_alive = λ h. no_both h refl;
      on_list = λ h e. h;
      unlisted = λ h. refl;
      terminated_exited = λ h. h;
      bound_above = λ j b e. absurd (let z : ◌≡◌ {A = ℕ} 0 1 = cc in omega arith);
      level1_shut = refl;
      level3_shut = refl;
    }

no_thread_good : (t : Tables) → GoodThread t no_thread
no_thread_good t =
    record {
      unmade = λ h. refl;
      process_made = λ h. no_both h refl;
      process_alive = λ h. no_both h refl;
      on_list = λ h e. h;
      unlisted = λ h. refl;
      dead_idle = λ h. refl;
      dead_started = λ h. absurd (omega arith);
      handler_above = λ j e w. absurd (let z : ◌≡◌ {A = ℕ} 0 1 = cc in omega arith);
      debugger_above = λ j e w. absurd (let z : ◌≡◌ {A = ℕ} 0 1 = cc in omega arith);
      level2_shut = refl;
    }

no_token_good : (t : Tables) → GoodToken t no_token
no_token_good t =
    record {
      unmade = λ h. refl;
      held_made = λ a h. absurd (none-some _ h);
      held_kind = λ a h. absurd (none-some _ h);
      task_made = λ a h. absurd (none-some _ h);
    }

fresh_sized : Sized fresh_tables
unfolding fresh_tables
fresh_sized =
    record {
      jobs = refl;
      own = refl;
      inherited = refl;
      processes = refl;
      fixed = refl;
      threads = refl;
      tokens = refl;
    }

pub fresh_tree : Tree fresh_tables
unfolding job_at fresh_tables
fresh_tree =
    tree_of fresh_tables fresh_sized refl refl
    (λ i. rw (fresh_own i, fresh_inherited i) (fresh_good i))
    (λ i. rw (fresh_process i, fresh_fixed i) (no_process_good fresh_tables))
    (λ i. rw (fresh_thread i) (no_thread_good fresh_tables))
    (λ i. rw (fresh_token i) (no_token_good fresh_tables))

-- ---- After a call ----------------------------------------------------------------------------

step_after : {t : Tables} → Tree t → (c : Call) → After Tree (step t c)
unfolding step
step_after T (cmd01 j new) = create_child_tree T j new
step_after T (cmd02 j) = kill_job_call_tree T j
step_after T (cmd03 j new) = create_process_tree T j new
step_after T (cmd04 p n) = start_process_tree T p n
step_after T (cmd05 p code) = exit_process_call_tree T p code
step_after T (cmd06 p) = kill_process_tree T p
step_after T (cmd07 p j flag) = set_critical_at_job_tree T p j flag
step_after T (cmd08 p new) = create_thread_tree T p new
step_after T (cmd09 n) = start_thread_tree T n
step_after T (cmd0a n) = kill_thread_tree T n
step_after T (cmd0b n) = exit_thread_tree T n
step_after T (cmd0c n) = finish_thread_call_tree T n
step_after T (cmd0d new kind n) = create_token_call_tree T new kind n
step_after T (cmd0e k) = drop_token_call_tree T k
step_after T (cmd0f j option l) = set_policy_basic_tree T j option l
step_after T (cmd10 j amount mode) = set_policy_timer_slack_tree T j _
step_after T (cmd11 p condition) = check_policy_tree T p condition
step_after T (cmd12 level n) = bind_level_tree T level n
step_after T (cmd13 level n) = hang_up_level_tree T level n
step_after T (cmd14 n kind) = raise_exception_tree T n kind
step_after T (cmd15 n) = close_exception_tree T n
step_after T (cmd16 n state) = set_state_tree T n state
step_after T (cmd17 n strategy) = set_strategy_tree T n strategy
step_after T (cmd18 n) = get_process_handle_tree T n
step_after T (cmd19 n state) = begin_wait_tree T n state
step_after T (cmd1a n ready) = poll_wait_tree T n ready
step_after T (cmd1b j) = job_information_tree T j
step_after T (cmd1c p) = process_information_tree T p
step_after T (cmd1d n) = thread_information_tree T n
step_after T (cmd1e kind n) = suspend_call_tree T kind n
step_after T (cmd1f kind n) = resume_call_tree T kind n

pub tree_step : (t : Tables) (c : Call) → Tree t → Tree (step t c).tables
tree_step t c T = (step_after T c).tables
