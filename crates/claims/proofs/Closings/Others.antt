-- A call other than its closing leaves an exception where it is, or ends it: `WaitsAt` stays over every other call
-- (`others`). Assumes nothing.
use Rattle.std.proofs.Common.{Option, Some, None}
use Prim.Native.Nat.{ℕ}
use mathlib.Core.Path.{◌≡◌, sym, ap, ◌∙◌}
use mathlib.Core.Bool.{Bool, false}
use mathlib.Core.List.{List}
use lib.IntN.{ℤ}
use mathlib.Core.Logic.{◌≢◌}
use borrow.Author.Tests.{not-false}
use Rattle.laws.specs.Choice.{◌=?◌}
use Rattle.laws.specs.Guarded.{found}
use Rattle.laws.proofs.Cases.{if_on, ok_on, guard_on, find_on}
use Rattle.job_policy.specs.declared.BasicPolicy.{BasicPolicy}
use Rattle.job_policy.specs.declared.TimerSlackPolicy.{TimerSlackPolicy}
use Rattle.record_exception.specs.declared.Place.{Place}
use Rattle.record_exception.specs.declared.Place.TheVariants.{Exiting}
use Rattle.record_exception.specs.declared.Exception.{Exception}
use Rattle.record_thread.specs.declared.Waiting.TheVariants.{NotWaiting, InException}
use Rattle.record_thread.specs.declared.Thread.{Thread}
use Rattle.record_thread.specs.Thread.{kill, exit}
use Rattle.record_thread.specs.Thread.{is_free, end_wait}
use Rattle.records.specs.declared.tables.Tables.{Tables}
use Rattle.records.specs.Tables.{thread_at}
use Rattle.records.specs.Tables.{put_thread}
use Rattle.model.specs.declared.Search.{Search}
use Rattle.model.specs.Replies.{thread, exception}
use Rattle.model.specs.Job.{finish_thread}
use Rattle.model.specs.JobPolicy.{set_policy, policy_set}
use Rattle.model.specs.JobCalls.{create_child, with_child, kill_job_call, set_policy_basic}
use Rattle.model.specs.JobCalls.{set_policy_timer_slack, job_info, job_information, create_process}
use Rattle.model.specs.JobCalls.{with_new_process, with_started, start_process, exit_process_call}
use Rattle.model.specs.JobCalls.{kill_process, set_critical_at_job, check_policy, process_info}
use Rattle.model.specs.JobCalls.{process_information}
use Rattle.model.specs.SuspendToken.{create_token, drop_token}
use Rattle.model.specs.ThreadCalls.{create_thread, start_thread, kill_thread, exit_thread}
use Rattle.model.specs.ThreadCalls.{finish_thread_call, thread_info, thread_information}
use Rattle.model.specs.ThreadCalls.{wait_begun, begin_wait, wait_polled, poll_wait}
use Rattle.model.specs.ThreadCalls.{create_token_call, drop_token_call, suspend_call, resume_call}
use Rattle.model.specs.Exception.{unhandled, deliver, delivered, raise_exiting, raise, close}
use Rattle.model.specs.Exception.{route_of, first_handler, next_handler}
use Rattle.model.specs.ExceptionCalls.{bind_level, hang_up_level, raise_exception}
use Rattle.model.specs.ExceptionCalls.{close_exception, set_state, set_strategy}
use Rattle.model.specs.ExceptionCalls.{get_process_handle}
use Rattle.model.specs.Step.{Call, cmd01, cmd02, cmd03, cmd04, cmd05, cmd06, cmd07, cmd08}
use Rattle.model.specs.Step.{cmd09, cmd0a, cmd0b, cmd0c, cmd0d, cmd0e, cmd0f, cmd10, cmd11}
use Rattle.model.specs.Step.{cmd12, cmd13, cmd14, cmd15, cmd16, cmd17, cmd18, cmd19, cmd1a}
use Rattle.model.specs.Step.{cmd1b, cmd1c, cmd1d, cmd1e, cmd1f, step}
use Rattle.claims.proofs.Fixed.{cascade_kill, cascade_exit, cascade_end}
use Rattle.claims.proofs.Found.{After, answered_on, call_on, accept_on, thread_is}
use Rattle.claims.proofs.Found.{exception_is}
use Rattle.claims.proofs.Searches.{Found, Passing, first_found, next_found}
use Rattle.claims.proofs.Tree.Search.{Passed, passed_none, passed_both, pass_over_passed}
use Rattle.claims.proofs.Tree.Raise.{reply_on, free_idle}
use Rattle.claims.proofs.Closings.Places.{idle≢held, at_idle, at_wait, at_held, at_kill}
use Rattle.claims.proofs.Closings.Places.{at_exit, at_end_wait, WaitsAt, put, runs, put_job_lem}
use Rattle.claims.proofs.Closings.Places.{put_process_lem, put_own_lem, put_inherited_lem, put_fixed_lem}
use Rattle.claims.proofs.Closings.Places.{put_token_lem, own, here, suspend_at, resume_at}
use Rattle.claims.proofs.Closings.Places.{level_at_lem, searched}

-- ---- An exception of another thread ------------------------------------------------------------

Anywhere : Place → Type 0
Anywhere p = Unit {0}

passing : (t : Tables) (i : ℕ) → Passing i (Passed t) Anywhere
unfolding Anywhere
passing t i =
    record {
      pass = λ u p q s. passed_both s (pass_over_passed u i p);
      debugger = tt;
      thread = tt;
      process = tt;
      second = tt;
      job = λ u s. tt;
      job_debugger = λ u s. tt;
      job_up = λ u j k s e a. tt;
      job_debugger_up = λ u j k s e a. tt;
    }

module _ (Q : Place → Type 0) (n i : ℕ) (d : n ≡ i → ⊥) where
  else_put : (t : Tables) (v : Thread) → WaitsAt Q n t → WaitsAt Q n (put_thread t i v)
  else_put t v K = put Q n t K i v (λ e. absurd (d e))

  unhandled_else : (t : Tables) (kind : ℕ) → WaitsAt Q n t → WaitsAt Q n (unhandled t i kind)
  unfolding unhandled
  unhandled_else t kind K =
      if_on (WaitsAt Q n) _ _ _ (λ e. else_put t _ K)
      (λ e. runs Q n _ (else_put t _ K) _ (cascade_exit _ _ _))

  deliver_else : (h : Option Place) (t : Tables) (kind : ℕ) (second : Bool) → WaitsAt Q n t
      → After (WaitsAt Q n) (deliver h t i kind second)
  unfolding deliver
  deliver_else None t kind second K = reply_on _ _ _ (unhandled_else t kind K)
  deliver_else (Some p) t kind second K = reply_on _ _ _ (else_put t _ K)

  module _ (t : Tables) (K : WaitsAt Q n t) where
    found_else : (s : Search) (kind : ℕ) (second : Bool) → Found (Passed t) Anywhere s
        → After (WaitsAt Q n) (delivered s i kind second)
    found_else s kind second f =
        deliver_else s.at s.tables kind second (searched Q n t K s.tables f.left)

    raise_else : (kind : ℕ) → After (WaitsAt Q n) (raise t i kind)
    unfolding raise raise_exiting
    raise_else kind =
        if_on (After (WaitsAt Q n)) (kind =? 0x8108) _ _
        (λ e. if_on (After (WaitsAt Q n)) _ _ _
        (λ h. reply_on _ _ _ (searched Q n t K _ (pass_over_passed t i Exiting)))
        (λ h. if_on (After (WaitsAt Q n)) _ _ _ (λ k. reply_on _ _ _ K)
        (λ k. reply_on _ _ _ (else_put t _ K))))
        (λ e. if_on (After (WaitsAt Q n)) _ _ _ (λ h. reply_on _ _ _ K)
        (λ h. found_else (first_handler (route_of kind) t i) kind false
        (first_found i (Passed t) Anywhere (passing t i) (route_of kind) t (passed_none t))))

    close_else : (e : Exception) → After (WaitsAt Q n) (close t i e)
    unfolding close Anywhere
    close_else e =
        if_on (After (WaitsAt Q n)) _ _ _ (λ h. reply_on _ _ _ (else_put t _ K))
        (λ h. found_else (next_handler e.place t i e) e.kind e.second
        (next_found i (Passed t) Anywhere (passing t i) e.place t e (passed_none t) tt))

-- ---- The calls ---------------------------------------------------------------------------------

module _ (Q : Place → Type 0) (n : ℕ) (t : Tables) (K : WaitsAt Q n t) where
  create_child_at : (j new : ℕ) → After (WaitsAt Q n) (create_child t j new)
  unfolding create_child with_child
  create_child_at j new =
      call_on t _ K
      (guard_on λ a. guard_on λ b. find_on λ v e. guard_on λ f. guard_on λ d.
      accept_on _ (put_inherited_lem Q n _ (put_job_lem Q n t K new _) new _))

  kill_job_call_at : (j : ℕ) → After (WaitsAt Q n) (kill_job_call t j)
  unfolding kill_job_call
  kill_job_call_at j =
      call_on t _ K (guard_on λ a. find_on λ v e. accept_on _ (runs Q n t K _ (cascade_kill t j)))

  set_policy_basic_at : (j option : ℕ) (l : List BasicPolicy)
      → After (WaitsAt Q n) (set_policy_basic t j option l)
  unfolding set_policy_basic set_policy policy_set
  set_policy_basic_at j option l =
      call_on t _ K
      (guard_on λ a. guard_on λ b. guard_on λ d. find_on λ v e. guard_on λ f.
      ok_on (answered_on _ _ (put_own_lem Q n t K j _)))

  set_policy_timer_slack_at : (j : ℕ) (p : TimerSlackPolicy)
      → After (WaitsAt Q n) (set_policy_timer_slack t j p)
  unfolding set_policy_timer_slack
  set_policy_timer_slack_at j p =
      call_on t _ K
      (guard_on λ a. guard_on λ b. find_on λ v e. guard_on λ d. guard_on λ f.
      accept_on _ (put_job_lem Q n t K j _))

  job_information_at : (j : ℕ) → After (WaitsAt Q n) (job_information t j)
  unfolding job_information job_info
  job_information_at j =
      call_on t _ K (guard_on λ a. find_on λ v e. ok_on (record { tables = K }))

  create_process_at : (j new : ℕ) → After (WaitsAt Q n) (create_process t j new)
  unfolding create_process with_new_process
  create_process_at j new =
      call_on t _ K
      (guard_on λ a. guard_on λ b. find_on λ v e. guard_on λ f. guard_on λ d.
      accept_on _ (put_fixed_lem Q n _ (put_process_lem Q n t K new _) new _))

  start_process_at : (p i : ℕ) → After (WaitsAt Q n) (start_process t p i)
  unfolding start_process with_started
  start_process_at p i =
      call_on t _ K
      (guard_on λ a. guard_on λ b. find_on λ q e. find_on λ v g. guard_on λ d.
      guard_on λ f. guard_on λ h.
      accept_on _ (put Q n _ (put_process_lem Q n t K p _) i _ (own Q n t K i v g)))

  exit_process_call_at : (p : ℕ) (code : ℤ) → After (WaitsAt Q n) (exit_process_call t p code)
  unfolding exit_process_call
  exit_process_call_at p code =
      call_on t _ K (guard_on λ a. find_on λ q e.
      accept_on _ (runs Q n t K _ (cascade_exit t p code)))

  kill_process_at : (p : ℕ) → After (WaitsAt Q n) (kill_process t p)
  unfolding kill_process
  kill_process_at p =
      call_on t _ K (guard_on λ a. find_on λ q e.
      accept_on _ (runs Q n t K _ (cascade_exit t p _)))

  set_critical_at_job_at : (p j flag : ℕ) → After (WaitsAt Q n) (set_critical_at_job t p j flag)
  unfolding set_critical_at_job
  set_critical_at_job_at p j flag =
      call_on t _ K
      (guard_on λ a. guard_on λ b. guard_on λ d. find_on λ q e. find_on λ v g.
      guard_on λ f. guard_on λ h. accept_on _ (put_process_lem Q n t K p _))

  check_policy_at : (p condition : ℕ) → After (WaitsAt Q n) (check_policy t p condition)
  unfolding check_policy
  check_policy_at p condition =
      call_on t _ K
      (guard_on λ a. guard_on λ b. find_on λ q e. guard_on λ d. guard_on λ f. accept_on _ K)

  process_information_at : (p : ℕ) → After (WaitsAt Q n) (process_information t p)
  unfolding process_information process_info
  process_information_at p =
      call_on t _ K (guard_on λ a. find_on λ q e. ok_on (reply_on _ _ _ K))

  create_thread_at : (p new : ℕ) → After (WaitsAt Q n) (create_thread t p new)
  unfolding create_thread
  create_thread_at p new =
      call_on t _ K
      (guard_on λ a. guard_on λ b. find_on λ q e. guard_on λ f. guard_on λ d.
      accept_on _ (put Q n t K new _ (λ h. at_idle)))

  start_thread_at : (i : ℕ) → After (WaitsAt Q n) (start_thread t i)
  unfolding start_thread
  start_thread_at i =
      call_on t _ K (guard_on λ a. find_on λ v e. guard_on λ d.
      accept_on _ (put Q n t K i _ (own Q n t K i v e)))

  kill_thread_at : (i : ℕ) → After (WaitsAt Q n) (kill_thread t i)
  unfolding kill_thread
  kill_thread_at i =
      call_on t _ K (guard_on λ a. find_on λ v e.
      accept_on _ (put Q n t K i (kill v) (λ h. at_kill v (own Q n t K i v e h))))

  exit_thread_at : (i : ℕ) → After (WaitsAt Q n) (exit_thread t i)
  unfolding exit_thread
  exit_thread_at i =
      call_on t _ K (guard_on λ a. find_on λ v e. guard_on λ d.
      accept_on _ (put Q n t K i (exit v) (λ h. at_exit v (own Q n t K i v e h))))

  finish_thread_call_at : (i : ℕ) → After (WaitsAt Q n) (finish_thread_call t i)
  unfolding finish_thread_call finish_thread
  finish_thread_call_at i =
      call_on t _ K (guard_on λ a. find_on λ v e. guard_on λ d.
      accept_on _ (if_on (WaitsAt Q n) _ _ _ (λ h. put Q n t K i _ (here Q n t K i))
      (λ h. runs Q n _ (put Q n t K i _ (here Q n t K i)) _ (cascade_end _ _))))

  thread_information_at : (i : ℕ) → After (WaitsAt Q n) (thread_information t i)
  unfolding thread_information thread_info
  thread_information_at i =
      call_on t _ K (guard_on λ a. find_on λ v e. ok_on (reply_on _ _ _ K))

  begin_wait_at : (i state : ℕ) → After (WaitsAt Q n) (begin_wait t i state)
  unfolding begin_wait wait_begun
  begin_wait_at i state =
      call_on t _ K (guard_on λ s. guard_on λ a. find_on λ v e. guard_on λ d.
      ok_on (if_on (After (WaitsAt Q n)) _ _ _ (λ h. answered_on _ _ K)
      (λ h. answered_on _ _ (put Q n t K i _ (λ o. at_wait)))))

  poll_wait_at : (i ready : ℕ) → After (WaitsAt Q n) (poll_wait t i ready)
  unfolding poll_wait wait_polled
  poll_wait_at i ready =
      call_on t _ K (guard_on λ s. guard_on λ a. find_on λ v e. guard_on λ d.
      ok_on (if_on (After (WaitsAt Q n)) _ _ _ (λ h. answered_on _ _ K)
      (λ h. answered_on _ _ (put Q n t K i (end_wait v) (λ o. at_end_wait v)))))

  create_token_call_at : (new kind i : ℕ) → After (WaitsAt Q n) (create_token_call t new kind i)
  unfolding create_token_call create_token
  create_token_call_at new kind i =
      call_on t _ K
      (guard_on λ a. guard_on λ b. guard_on λ d. find_on λ v e. guard_on λ f.
      guard_on λ h. guard_on λ o.
      accept_on _ (put_token_lem Q n _ (suspend_at Q n t K kind i) new _))

  drop_token_call_at : (k : ℕ) → After (WaitsAt Q n) (drop_token_call t k)
  unfolding drop_token_call drop_token
  drop_token_call_at k =
      call_on t _ K (guard_on λ a. find_on λ v e. guard_on λ b.
      accept_on _ (put_token_lem Q n _ (resume_at Q n t K _ _) k _))

  suspend_call_at : (kind i : ℕ) → After (WaitsAt Q n) (suspend_call t kind i)
  unfolding suspend_call
  suspend_call_at kind i =
      call_on t _ K
      (guard_on λ a. guard_on λ b. find_on λ v e. guard_on λ d. guard_on λ f.
      accept_on _ (suspend_at Q n t K kind i))

  resume_call_at : (kind i : ℕ) → After (WaitsAt Q n) (resume_call t kind i)
  unfolding resume_call
  resume_call_at kind i =
      call_on t _ K
      (guard_on λ a. guard_on λ b. find_on λ v e. guard_on λ d. guard_on λ f.
      accept_on _ (resume_at Q n t K kind i))

  bind_level_at : (level i : ℕ) → After (WaitsAt Q n) (bind_level t level i)
  unfolding bind_level
  bind_level_at level i =
      call_on t _ K
      (guard_on λ a. guard_on λ b. find_on λ l e. guard_on λ d. guard_on λ f.
      accept_on _ (level_at_lem Q n t K level i _))

  hang_up_level_at : (level i : ℕ) → After (WaitsAt Q n) (hang_up_level t level i)
  unfolding hang_up_level
  hang_up_level_at level i =
      call_on t _ K (guard_on λ a. guard_on λ b. find_on λ l e. guard_on λ d.
      accept_on _ (level_at_lem Q n t K level i _))

  -- a thread whose exception a handler has raises none
  raise_exception_at : (x : Exception) → (thread_at t n).waiting ≡ InException x
      → (i kind : ℕ) → After (WaitsAt Q n) (raise_exception t i kind)
  unfolding raise_exception
  raise_exception_at x w i kind =
      call_on t _ K (guard_on λ a. guard_on λ b. find_on λ v e. guard_on λ d.
      let f = thread_is t i v e in
      let g : (thread_at t i).waiting ≡ NotWaiting =
      free_idle (thread_at t i) (ap is_free f.1 ∙ not-false _ d) in
      ok_on (raise_else Q n i
      (λ h. idle≢held (sym g ∙ ap (λ (k : ℕ). (thread_at t k).waiting) (sym h) ∙ w)) t K kind))

  close_exception_at : (i : ℕ) → (n ≡ i → ⊥) → After (WaitsAt Q n) (close_exception t i)
  unfolding close_exception
  close_exception_at i d =
      call_on t _ K (guard_on λ a. find_on λ v e. find_on λ x h.
      ok_on (close_else Q n i d t K x))

  held : (i : ℕ) (v : Thread) (x : Exception) → thread t i ≡ found v → exception v ≡ found x
      → n ≡ i → Q x.place
  held i v x e h o = (own Q n t K i v e o).place x (exception_is v x h)

  set_state_at : (i state : ℕ) → After (WaitsAt Q n) (set_state t i state)
  unfolding set_state
  set_state_at i state =
      call_on t _ K (guard_on λ a. find_on λ v e. find_on λ x h. guard_on λ b.
      accept_on _ (put Q n t K i _ (λ o. at_held _ (held i v x e h o))))

  set_strategy_at : (i strategy : ℕ) → After (WaitsAt Q n) (set_strategy t i strategy)
  unfolding set_strategy
  set_strategy_at i strategy =
      call_on t _ K
      (guard_on λ a. find_on λ v e. find_on λ x h. guard_on λ b. guard_on λ d.
      accept_on _ (put Q n t K i _ (λ o. at_held _ (held i v x e h o))))

  get_process_handle_at : (i : ℕ) → After (WaitsAt Q n) (get_process_handle t i)
  unfolding get_process_handle
  get_process_handle_at i =
      call_on t _ K
      (guard_on λ a. find_on λ v e. find_on λ x h. guard_on λ b. accept_on _ K)

  module _ (x : Exception) (w : (thread_at t n).waiting ≡ InException x) where
    step_at : (c : Call) → c ≢ cmd15 n → After (WaitsAt Q n) (step t c)
    unfolding step
    step_at (cmd01 j new) d = create_child_at j new
    step_at (cmd02 j) d = kill_job_call_at j
    step_at (cmd03 j new) d = create_process_at j new
    step_at (cmd04 p i) d = start_process_at p i
    step_at (cmd05 p code) d = exit_process_call_at p code
    step_at (cmd06 p) d = kill_process_at p
    step_at (cmd07 p j flag) d = set_critical_at_job_at p j flag
    step_at (cmd08 p new) d = create_thread_at p new
    step_at (cmd09 i) d = start_thread_at i
    step_at (cmd0a i) d = kill_thread_at i
    step_at (cmd0b i) d = exit_thread_at i
    step_at (cmd0c i) d = finish_thread_call_at i
    step_at (cmd0d new kind i) d = create_token_call_at new kind i
    step_at (cmd0e k) d = drop_token_call_at k
    step_at (cmd0f j option l) d = set_policy_basic_at j option l
    step_at (cmd10 j amount mode) d = set_policy_timer_slack_at j _
    step_at (cmd11 p condition) d = check_policy_at p condition
    step_at (cmd12 level i) d = bind_level_at level i
    step_at (cmd13 level i) d = hang_up_level_at level i
    step_at (cmd14 i kind) d = raise_exception_at x w i kind
    step_at (cmd15 i) d = close_exception_at i (λ e. d (ap (λ (k : ℕ). cmd15 k) (sym e)))
    step_at (cmd16 i state) d = set_state_at i state
    step_at (cmd17 i strategy) d = set_strategy_at i strategy
    step_at (cmd18 i) d = get_process_handle_at i
    step_at (cmd19 i state) d = begin_wait_at i state
    step_at (cmd1a i ready) d = poll_wait_at i ready
    step_at (cmd1b j) d = job_information_at j
    step_at (cmd1c p) d = process_information_at p
    step_at (cmd1d i) d = thread_information_at i
    step_at (cmd1e kind i) d = suspend_call_at kind i
    step_at (cmd1f kind i) d = resume_call_at kind i

    pub others : (c : Call) → c ≢ cmd15 n → WaitsAt Q n (step t c).tables
    others c d = (step_at c d).tables
