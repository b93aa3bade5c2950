-- What a call does, in one of seven ways: nothing starts or stops, a name is made, or a cascade
-- runs
-- from a job, a process or a thread that finishes. Claims on all calls go by these ways, not by
-- the
-- 31 calls. Assumes nothing.
use Rattle.record_exception.specs.declared.Place.{Place}
use Rattle.std.proofs.Common.{Option, Some, None}
use Prim.Native.Nat.{ℕ, ◌<◌}
use mathlib.Core.Path.{◌≡◌, refl, sym, ap, ◌∙◌}
use mathlib.Core.Bool.{Bool, true, false}
use lib.IntN.{ℤ}
use Rattle.laws.specs.Choice.{◌=?◌, ◌and◌, if◌then◌otherwise◌}
use Rattle.laws.proofs.Cases.{if_on}
use Rattle.record_exception.specs.declared.Level.{Level}
use Rattle.record_exception.specs.declared.Exception.{Exception}
use Rattle.record_exception.specs.declared.Place.TheVariants.{Exiting}
use Rattle.record_process.specs.Process.{is_exited}
use Rattle.record_thread.specs.declared.Waiting.TheVariants.{NotWaiting, InException}
use Rattle.record_thread.specs.declared.Thread.{Thread}
use Rattle.record_thread.specs.Thread.{DEAD, DYING, new_thread, exit, thread_of, suspend, resume}
use Rattle.record_thread.specs.Thread.{end_wait}
use Rattle.records.specs.declared.tables.Tables.{Tables}
use Rattle.records.specs.Tables.{job_at, process_at, thread_at, put_thread}
use Rattle.records.specs.Owners.{put_level}
use Rattle.model.specs.declared.Search.{Search}
use Rattle.model.specs.Job.{kill_job, exit_process, finish_thread}
use Rattle.model.specs.SuspendToken.{PROCESS, change_in, change_task}
use Rattle.model.specs.Exception.{over_tables, unhandled, deliver, delivered, process_of}
use Rattle.model.specs.Exception.{raise_exiting, raise, close, route_of, first_handler}
use Rattle.model.specs.Exception.{next_handler}
use Rattle.model.specs.JobCalls.{with_child, with_new_process}
use Rattle.model.specs.Step.{Call, cmd0c}
use Rattle.claims.specs.Reachable.{Tree}
use Rattle.claims.specs.StopsWhole.{EndsWith, by_kill}
use Rattle.claims.proofs.Found.{After, thread_is}
use Rattle.laws.specs.Guarded.{found}
use Rattle.model.specs.Replies.{thread}
use Rattle.claims.proofs.Searches.{Found, first_found, next_found}
use Rattle.claims.proofs.Tree.Search.{AboveOwn, Searched, Passed, passed_none, searching}
use Rattle.claims.proofs.Tree.Search.{pass_over_passed}
use Rattle.claims.proofs.Tree.Raise.{reply_on, tree_over}
use Rattle.claims.proofs.Quiet.{thread_key, Quiet, quiet_none, quiet_both, quiet_passed}
use Rattle.claims.proofs.Quiet.{quiet_job, quiet_process, quiet_thread, quiet_map}

pub data Does (t : Tables) (c : Call) : Tables → Type 0 where
  rests : {u : Tables} → Quiet t u → Does t c u
  new_job_lem : (j new : ℕ) → (job_at t j).made ≡ true → (job_at t j).killed ≡ false → new < 32
      → (job_at t new).made ≡ false → Does t c (with_child t j new)
  new_process_lem : (j new : ℕ) → (job_at t j).made ≡ true → (job_at t j).killed ≡ false → new < 64
      → (process_at t new).made ≡ false → Does t c (with_new_process t j new)
  new_thread_lem : (p new : ℕ) → (process_at t p).made ≡ true
      → is_exited (process_at t p).status ≡ false → new < 128 → (thread_at t new).made ≡ false
      → Does t c (put_thread t new (new_thread p))
  kills : (j : ℕ) → (job_at t j).made ≡ true → Does t c (kill_job t j)
  exits : {w : Tables} (p : ℕ) (code : ℤ) → EndsWith t p c code → Quiet t w → Tree w
      → Does t c (exit_process w p code)
  finishes : (n : ℕ) → c ≡ cmd0c n → (thread_at t n).made ≡ true → (thread_at t n).started ≡ true
      → (thread_at t n).waiting ≡ NotWaiting → Does t c (finish_thread t n)

-- ---- Threads ---------------------------------------------------------------------------------

pub exit_key : (v : Thread) → thread_key (exit v) ≡ thread_key v
unfolding exit
exit_key v =
    if_on (λ (w : Thread). thread_key w ≡ thread_key v) (v.state =? DEAD) _ _ (λ e. refl)
    (λ e. if_on (λ (w : Thread). thread_key w ≡ thread_key v) (v.state =? DYING) _ _ (λ h. refl)
    (λ h. refl))

pub end_wait_key : (v : Thread) → thread_key (end_wait v) ≡ thread_key v
unfolding end_wait
end_wait_key v =
    if_on (λ (w : Thread). thread_key w ≡ thread_key v) _ _ _ (λ e. refl) (λ e. refl)

pub suspend_key : (v : Thread) → thread_key (suspend v) ≡ thread_key v
unfolding suspend
suspend_key v = if_on (λ (w : Thread). thread_key w ≡ thread_key v) _ _ _ (λ e. refl) (λ e. refl)

pub resume_key : (v : Thread) → thread_key (resume v) ≡ thread_key v
unfolding resume
resume_key v = if_on (λ (w : Thread). thread_key w ≡ thread_key v) _ _ _ (λ e. refl) (λ e. refl)

-- at each thread of a task
pub quiet_task : (t : Tables) (f : Thread → Thread)
    → ((v : Thread) → thread_key (f v) ≡ thread_key v)
    → (kind n : ℕ) → Quiet t (change_task f t kind n)
unfolding change_task change_in thread_of ◌and◌ if◌then◌otherwise◌
quiet_task t f e kind n =
    if_on (Quiet t) (kind =? PROCESS) _ _
    (λ h. quiet_map t (change_in f n) refl
    (λ v. if_on (λ (w : Thread). thread_key w ≡ thread_key v) (thread_of v n) _ _ (λ o. e v)
    (λ o. refl)))
    (λ h. quiet_thread t n _ (e (thread_at t n)))

-- ---- A search, and what becomes of the thread ------------------------------------------------

module _ (t : Tables) (c : Call) where
  unhandled_does : (w : Tables) (n kind : ℕ) → Tree w → Quiet t w → (thread_at w n).made ≡ true
      → ((thread_at w n).state =? DEAD) ≡ false → Does t c (unhandled w n kind)
  unfolding unhandled
  unhandled_does w n kind T q m d =
      let r : Quiet t (over_tables w n) =
      quiet_both q (quiet_thread w n _ (end_wait_key (thread_at w n))) in
      if_on (Does t c) _ _ _ (λ e. rests r)
      (λ e. exits (process_of w n) _ by_kill r (tree_over T n m d))

  deliver_does : (h : Option Place) (w : Tables) (n kind : ℕ) (second : Bool) → Tree w → Quiet t w
      → (thread_at w n).made ≡ true → ((thread_at w n).state =? DEAD) ≡ false
      → After (Does t c) (deliver h w n kind second)
  unfolding deliver
  deliver_does None w n kind second T q m d =
      reply_on _ _ _ (unhandled_does w n kind T q m d)
  deliver_does (Some p) w n kind second T q m d =
      reply_on _ _ _ (rests (quiet_both q (quiet_thread w n _ refl)))

  module _ (T : Tree t) (n : ℕ) (m : (thread_at t n).made ≡ true)
      (d : ((thread_at t n).state =? DEAD) ≡ false) where
    found_does : (s : Search) (kind : ℕ) (second : Bool) → Found (Searched t) (AboveOwn t n) s
        → After (Does t c) (delivered s n kind second)
    found_does s kind second f =
        let g : Passed t s.tables = f.left.passed in
        deliver_does s.at s.tables n kind second f.left.tree (quiet_passed g)
        (ap (λ (v : Thread). v.made) (g.threads n) ∙ m)
        (ap (λ (v : Thread). v.state =? DEAD) (g.threads n) ∙ d)

    pub raise_does : (kind : ℕ) → After (Does t c) (raise t n kind)
    unfolding raise raise_exiting
    raise_does kind =
        if_on (After (Does t c)) (kind =? 0x8108) _ _
        (λ e. if_on (After (Does t c)) _ _ _
        (λ h. reply_on _ _ _ (rests (quiet_passed (pass_over_passed t n Exiting))))
        (λ h. if_on (After (Does t c)) _ _ _ (λ k. reply_on _ _ _ (rests (quiet_none t)))
        (λ k. reply_on _ _ _ (rests (quiet_thread t n _ refl)))))
        (λ e. if_on (After (Does t c)) _ _ _ (λ h. reply_on _ _ _ (rests (quiet_none t)))
        (λ h. found_does (first_handler (route_of kind) t n) kind false
        (first_found n (Searched t) (AboveOwn t n) (searching t n) (route_of kind) t
        (record { tree = T; passed = passed_none t }))))

    pub close_does : (e : Exception) → (thread_at t n).waiting ≡ InException e
        → After (Does t c) (close t n e)
    unfolding close
    close_does e w =
        if_on (After (Does t c)) _ _ _
        (λ h. reply_on _ _ _ (rests (quiet_thread t n _ (end_wait_key (thread_at t n)))))
        (λ h. found_does (next_handler e.place t n e) e.kind e.second
        (next_found n (Searched t) (AboveOwn t n) (searching t n) e.place t e
        (record { tree = T; passed = passed_none t })
        (record {
          handler = λ j. T.handler_above n j e w;
          debugger = λ j. T.debugger_above n j e w;
        })))

  pub quiet_level : (level n : ℕ) (l : Level) → Quiet t (put_level t level n l)
  unfolding put_level
  quiet_level level n l =
      if_on (Quiet t) (level =? 1) _ _ (λ e. quiet_process t n _ refl)
      (λ a. if_on (Quiet t) (level =? 2) _ _ (λ e. quiet_thread t n _ refl)
      (λ b. if_on (Quiet t) (level =? 3) _ _ (λ e. quiet_process t n _ refl)
      (λ d. if_on (Quiet t) (level =? 4) _ _ (λ e. quiet_job t n _ refl)
      (λ e. quiet_job t n _ refl))))

module _ (t : Tables) (c : Call) where
  pub none : Does t c t
  none = rests (quiet_none t)

  -- a thread changed in its state, its wait or its count
  pub changes : (n : ℕ) (v w : Thread) → thread t n ≡ found v → thread_key w ≡ thread_key v
      → Does t c (put_thread t n w)
  changes n v w e h =
      rests (quiet_thread t n w
      (h ∙ ap (λ (x : Thread). thread_key x) (sym (thread_is t n v e).1)))
