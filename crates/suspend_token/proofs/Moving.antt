-- How a `return` of a function over the records of a task meets a call's definition: the check alone where `changing`
-- or `dropping` is named on the function, or `search changing depth 20`.
--     refused, token_refused           refused: nothing is changed
--     is_found, not_found              the task that a call is on, looked up
--     told_bars, told_full             whether one of its threads bars a change
--     unbarred, within                 no thread of a process does; a name that is no process's is a thread's
--     changes, creates                 an accepted call
--     suspends, resumes                1e and 1f at once are each of them
--     none_is, none_unbarred, named    the suspensions of a task, by its records
--     is_token, told_none, drops       a token looked up, the suspensions of its task, and its drop
--     in_range, told_job               a kind's number is one, and a job's is 0
-- Assumes nothing.
use Prim.Native.Nat.{ℕ, ◌%◌, ◌<◌, ◌≤◌}
use native.Mathlib.Nat.{mod-eq_of_lt}
use native.Mathlib.Omega.{arith}
use mathlib.Core.Path.{◌≡◌, refl, ap, sym, ◌∙◌}
use mathlib.Core.Bool.{Bool, true, false}
use borrow.Author.Tests.{eqb-true, leb-true, leb-false, le-leb, lt-leb, lt-ltb, le-ltb, eq-eqb, ne_eqb}
use denote.Enum.Bare.{sameb}
use lib.IntN.{pos}
use lib.ListN.{length, get_or-eq_default}
use Rattle.std.proofs.Common.{Option, Some, None, Ok, Err}
use Rattle.laws.specs.Choice.{◌≤?◌, ◌<?◌, ◌=?◌, if◌then◌otherwise◌}
use Rattle.laws.specs.Guarded.{Guarded, ◌>>◌, ◌>>=◌, refuse◌when◌}
use Rattle.laws.proofs.Cases.{by, no_both}
use Rattle.laws.proofs.Flow.{passes, first, second}
use Rattle.error.specs.declared.Refusal.{Refusal}
use Rattle.error.specs.Numbers.{number_of}
use Rattle.record_job.specs.declared.Job.{Job}
use Rattle.record_process.specs.declared.Process.{Process}
use Rattle.record_thread.specs.declared.Thread.{Thread}
use Rattle.record_thread.specs.Thread.{FULL, no_thread}
use Rattle.record_token.specs.contracts.Kind.{the_type}
use Rattle.record_token.specs.declared.Kind.{Kind}
use Rattle.record_token.specs.declared.Kind.TheVariants.{Job as OF_JOB, Process as OF_PROCESS, Thread as OF_THREAD}
use Rattle.record_token.specs.declared.SuspendToken.{SuspendToken}
use Rattle.record_token.specs.declared.Task.{Task}
use Rattle.record_token.proofs.Numbers.{kind_numbered}
use Rattle.record_token.specs.SuspendToken.{new_token, drop, number}
use Rattle.thread_lists.specs.declared.Each.{Each}
use Rattle.thread_lists.specs.Each.{SUSPEND, RESUME, one_of, bars, any_bars, changed_in}
use Rattle.records.specs.declared.tables.Tables.{Tables}
use Rattle.records.specs.Tables.{job_at, process_at, thread_at, token_at, put_thread, put_token}
use Rattle.records.specs.Owners.{tasks_of, found_task, as_task}
use Rattle.records.proofs.Kept.{job_looked_up_at, process_looked_up_at, thread_looked_up_at, token_looked_up_at}
use Rattle.records.proofs.Kept.{thread_kept, token_kept, thread_at_lem, token_at_lem, new_token_lem}
use Rattle.reply.specs.declared.Reply.{Reply}
use Rattle.reply.specs.Reply.{answered}
use Rattle.model.specs.SuspendToken.{PROCESS, some_at, change_in, change_task, suspend_task, resume_task}
use Rattle.model.specs.SuspendToken.{create_token, drop_token}
use Rattle.model.specs.ThreadCalls.{suspend_call, resume_call}
use Rattle.model.specs.Replies.{call, task, token}
use Rattle.model.proofs.Answering.{refuses, accepts, the_record, the_task, no_record, within_told, past_told}
use Rattle.suspend_token.specs.SuspendToken.{found_task_in, bars_in, none_in, some_bars, change_call, settled}
use Rattle.suspend_token.specs.SuspendToken.{held_task}

-- ---- Nothing is changed --------------------------------------------------------------------------

pub refused : (k : Each) (t : Tables) (n : ℕ) {v : Thread} (e : Refusal) →
    thread_at t (n % 128) ≡ v → settled k (put_thread t (n % 128) v) n (Err e) ≡ answered t (number_of e)
unfolding settled
refused k t n e h = rw (thread_kept t (n % 128) h)

pub token_refused : (k : Each) (t : Tables) (o n : ℕ) {l : SuspendToken} {v : Thread} (e : Refusal) →
    token_at t (o % 64) ≡ l → thread_at t (n % 128) ≡ v →
    settled k (put_token (put_thread t (n % 128) v) (o % 64) l) n (Err e) ≡ answered t (number_of e)
unfolding settled
token_refused k t o n e h i = rw (thread_kept t (n % 128) i, token_kept t (o % 64) h)

-- ---- A task and its threads: m is how many names its kind has ------------------------------------------

module _ (t : Tables) (kind n : ℕ) {m : ℕ} {v : Thread} (o : m ≡ tasks_of kind) (l : n < m)
    (h : thread_at t (n % 128) ≡ v) where
  module _ {q : Process} {j : Job} {g : Option (Unit {0})}
      (a : process_at t (n % 64) ≡ q) (b : job_at t (n % 32) ≡ j) (f : g ≡ found_task_in kind v q j) where
    found : g ≡ found_task t kind n
    unfolding found_task_in found_task tasks_of if◌then◌otherwise◌
    found =
        f ∙ by (kind =? 0)
        (λ c. rw c (ap as_task (job_looked_up_at t n refl (rw (o, c) at l) b)))
        (λ c. by (kind =? 1)
        (λ d. rw (c, d) (ap as_task (process_looked_up_at t n refl (rw (o, c, d) at l) a)))
        (λ d. rw (c, d) (ap as_task (thread_looked_up_at t n refl (rw (o, c, d) at l) h))))

    pub is_found : {x : Reply} (k : Unit {0} → Guarded Reply) → g ≡ Some tt → x ≡ call t (k tt) →
        x ≡ call t (refuse 101 when tasks_of kind ≤? n >> (task t kind n >>= k))
    is_found k p r = passes (answered t) (pos 101) _ (within_told o l) (the_task t _ k found p r)

    pub not_found : {x : Reply} (k : Unit {0} → Guarded Reply) → g ≡ None → x ≡ answered t (pos 103) →
        x ≡ call t (refuse 101 when tasks_of kind ≤? n >> (task t kind n >>= k))
    not_found k p r = passes (answered t) (pos 101) _ (within_told o l) (no_record t _ k found p r)

  -- no thread of a process stands in the way
  pub unbarred : (k : Each) {barred b : Bool} → (kind ≡ PROCESS → any_bars (bars k) n t.threads ≡ barred) →
      b ≡ bars_in k kind v barred → b ≡ false → kind =? PROCESS ≡ true → any_bars (bars k) n t.threads ≡ false
  unfolding bars_in if◌then◌otherwise◌
  unbarred k u e g a = u (eqb-true kind PROCESS a) ∙ rw a at (sym e ∙ g)

  module _ (z : kind =? 0 ≡ false) where
    pub told_bars : (k : Each) {barred b r : Bool} → (kind ≡ PROCESS → any_bars (bars k) n t.threads ≡ barred) →
        r ≡ bars_in k kind v barred → r ≡ b → some_bars k t kind n ≡ b
    unfolding bars_in some_bars tasks_of if◌then◌otherwise◌
    told_bars k u e p =
        sym (e ∙ by (kind =? PROCESS)
        (λ a. rw a (sym (u (eqb-true kind PROCESS a))))
        (λ a. rw a (ap (bars k) (sym (thread_at_lem t n (rw (o, z, a) at l) h))))) ∙ p

    pub told_full : {barred b r : Bool} → (kind ≡ PROCESS → any_bars (bars SUSPEND) n t.threads ≡ barred) →
        r ≡ bars_in SUSPEND kind v barred → r ≡ b → some_at t kind n FULL ≡ b
    unfolding bars some_bars some_at
    told_full u e p = told_bars SUSPEND u e p

    -- a name that is not a process's is a thread's, and within the table
    pub within : kind =? PROCESS ≡ false → n < 128
    unfolding tasks_of if◌then◌otherwise◌
    within a = rw (o, z, a) at l

-- ---- An accepted call: each thread of the process, or the one thread ---------------------------------

module _ (k : Each) (t : Tables) (kind n : ℕ) {v w : Thread} {each : Bool} (h : thread_at t (n % 128) ≡ v)
    (l : kind =? PROCESS ≡ false → n < 128) (e : each ≡ (kind =? PROCESS))
    (f : w ≡ (if kind =? PROCESS then v otherwise one_of k v)) where
  stored : put_thread t (n % 128) w ≡
      (if kind =? PROCESS then t otherwise put_thread t n (one_of k (thread_at t n)))
  unfolding if◌then◌otherwise◌
  stored =
      by (kind =? PROCESS) (λ a. rw (f, a, thread_kept t (n % 128) h))
      (λ a. rw (f, a, mod-eq_of_lt (l a), thread_at_lem t n (l a) h))

  accepted : settled k (put_thread t (n % 128) w) n (Ok each) ≡ answered (change_task (one_of k) t kind n) (pos 0)
  unfolding settled change_task change_in changed_in if◌then◌otherwise◌
  accepted =
      ap (λ (u : Tables). settled k u n (Ok each)) stored
      ∙ by (kind =? PROCESS) (λ a. rw (e, a, a)) (λ a. rw (e, a, a))

  token_accepted : (o : ℕ) {m : SuspendToken} (x : SuspendToken) → m ≡ x → o < 64 →
      settled k (put_token (put_thread t (n % 128) w) (o % 64) m) n (Ok each) ≡
      answered (put_token (change_task (one_of k) t kind n) o x) (pos 0)
  unfolding settled change_task change_in changed_in put_token if◌then◌otherwise◌
  token_accepted o {m} x g i =
      ap (λ (u : Tables). settled k (put_token u (o % 64) m) n (Ok each)) stored
      ∙ by (kind =? PROCESS) (λ a. rw (e, a, a, g, mod-eq_of_lt i)) (λ a. rw (e, a, a, g, mod-eq_of_lt i))

module _ (t : Tables) (a : Kind) (n : ℕ) {v w : Thread} {each : Bool} {m : ℕ} (o : m ≡ tasks_of (number a)) (l : n < m)
    (h : thread_at t (n % 128) ≡ v) (z : number a =? 0 ≡ false) (e : each ≡ (number a =? PROCESS)) where
  pub changes : (k : Each) → w ≡ (if number a =? PROCESS then v otherwise one_of k v) →
      settled k (put_thread t (n % 128) w) n (Ok each) ≡ answered (change_task (one_of k) t (number a) n) (pos 0)
  changes k f = accepted k t (number a) n h (within t (number a) n o l h z) e f

  pub creates : (new : ℕ) {k : SuspendToken} → w ≡ (if number a =? PROCESS then v otherwise one_of SUSPEND v) →
      k ≡ new_token a n → new < 64 →
      settled SUSPEND (put_token (put_thread t (n % 128) w) (new % 64) k) n (Ok each) ≡
      answered (create_token t new (number a) n) (pos 0)
  unfolding create_token suspend_task one_of change_task change_in
  creates new f g i =
      token_accepted SUSPEND t (number a) n h (within t (number a) n o l h z) e f new _
      (g ∙ ap (λ (b : Kind). new_token b n) (sym (kind_numbered a))) i

-- ---- What differs between suspending and resuming ------------------------------------------------------

module _ {x : Reply} (t : Tables) (kind n : ℕ) where
  pub suspends : x ≡ change_call SUSPEND (pos 107) t kind n → x ≡ suspend_call t kind n
  unfolding change_call suspend_call suspend_task some_bars some_at bars one_of change_task change_in
  suspends e = e

  pub resumes : x ≡ change_call RESUME (pos 106) t kind n → x ≡ resume_call t kind n
  unfolding change_call resume_call resume_task some_bars some_at bars one_of change_task change_in
  resumes e = e

-- ---- The suspensions of a token's task -----------------------------------------------------------------

module _ (t : Tables) (kind n : ℕ) {v : Thread} {barred : Bool} (h : thread_at t (n % 128) ≡ v)
    (g : kind ≡ PROCESS → any_bars (bars RESUME) n t.threads ≡ barred) where
  pub none_is : length t.threads ≡ 128 → {b : Bool} → b ≡ none_in kind n v barred → b ≡ some_at t kind n 0
  unfolding none_in some_at thread_at bars if◌then◌otherwise◌
  none_is long e =
      e ∙ by (kind =? PROCESS)
      (λ a. rw a (sym (g (eqb-true kind PROCESS a))))
      (λ a. by (128 ≤? n)
      (λ c.
      let past : length t.threads ≤ n = omega (arith, leb-true 128 n c) in
      rw (a, c, get_or-eq_default t.threads no_thread past))
      (λ c.
      let at = thread_at_lem t n (leb-false 128 n c) h in
      rw (a, c) (ap (λ (w : Thread). w.suspends =? 0) (sym at))))

  pub none_unbarred : {b : Bool} → b ≡ none_in kind n v barred → b ≡ false → kind =? PROCESS ≡ true →
      any_bars (bars RESUME) n t.threads ≡ false
  unfolding none_in if◌then◌otherwise◌
  none_unbarred i e a = g (eqb-true kind PROCESS a) ∙ rw a at (sym i ∙ e)

  pub named : {b : Bool} → b ≡ none_in kind n v barred → b ≡ false → kind =? PROCESS ≡ false → n < 128
  unfolding none_in if◌then◌otherwise◌
  named i e a = by (128 ≤? n) (λ c. no_both refl (rw (a, c) at (sym i ∙ e))) (λ c. leb-false 128 n c)

-- k is the record of the name, and w the task that it holds
module _ (t : Tables) (o : ℕ) {k : SuspendToken} {w : Task} {g : Option Task} (i : o < 64)
    (a : token_at t (o % 64) ≡ k) (f : g ≡ k.task) (s : g ≡ Some w) where
  pub is_token : {x : Reply} (l : Task → Guarded Reply) → x ≡ call t (l w) →
      x ≡ call t (refuse 101 when 64 ≤? o >> (token t o >>= l))
  is_token l r = passes (answered t) (pos 101) _ (lt-leb 64 o i) (the_record t _ l (token_looked_up_at t o f i a) s r)

  module _ {b : Task} {v : Thread} {barred : Bool} (y : b ≡ held_task k) (h : thread_at t (b.name % 128) ≡ v)
      (p : number b.kind ≡ PROCESS → any_bars (bars RESUME) b.name t.threads ≡ barred) {r : Bool}
      (n : r ≡ none_in (number w.kind) w.name v barred) where
    same : b ≡ w
    same = y ∙ rw (sym f ∙ s)

    pub told_none : length t.threads ≡ 128 → {b : Bool} → r ≡ b → some_at t (number w.kind) w.name 0 ≡ b
    told_none z e = sym (none_is t _ w.name (rw same at h) (rw same at p) z n) ∙ e

    pub drops : {u : Thread} {l : SuspendToken} {each : Bool} → r ≡ false → l ≡ drop k →
        each ≡ (number w.kind =? PROCESS) → u ≡ (if number w.kind =? PROCESS then v otherwise one_of RESUME v) →
        settled RESUME (put_token (put_thread t (b.name % 128) u) (o % 64) l) b.name (Ok each) ≡
        answered (drop_token t o (number w.kind) w.name) (pos 0)
    unfolding drop_token resume_task one_of change_task change_in
    drops e d m x =
        rw same
        (token_accepted RESUME t _ w.name (rw same at h) (named t _ w.name (rw same at h) (rw same at p) n e) m x o _
        (d ∙ ap drop (sym (token_at_lem t o i a))) i)

-- ---- Kinds ---------------------------------------------------------------------------------------------

pub in_range : (k : Kind) → 2 <? number k ≡ false
in_range OF_JOB = refl
in_range OF_PROCESS = refl
in_range OF_THREAD = refl

pub told_job : (k : Kind) {r b : Bool} → r ≡ sameb the_type k OF_JOB → r ≡ b → number k =? 0 ≡ b
told_job OF_JOB p q = sym p ∙ q
told_job OF_PROCESS p q = sym p ∙ q
told_job OF_THREAD p q = sym p ∙ q

pub ruleset changing = (
  refused,
  token_refused,
  changes,
  creates,
  is_found,
  not_found,
  told_bars,
  told_full,
  refuses,
  accepts,
  passes,
  first,
  second,
  le-leb,
  lt-leb,
  lt-ltb,
  le-ltb,
  eq-eqb,
  ne_eqb,
  past_told,
  new_token_lem,
  in_range,
  told_job,
)

pub ruleset dropping = (changing, is_token, told_none, drops, token_looked_up_at, no_record)
