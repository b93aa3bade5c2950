-- How a `return` of a function over one thread's record meets a call's definition: `search settling depth 20`, or the
-- check alone where `settling` is named on the function. `moving` does the same over a whole call, for other crates.
--     settles_refused, .., ends_finished   an outcome, refused or stored; 0c's own
--     informs_refused, informs             what an information call comes to
--     is_found, not_found                  the thread that a call is on, looked up
--     is_turn, no_turn, free_there         the thread that a call of its own is on, or what refuses the call
--     told_in_wait, ..                     a test that a callee answered; `told` would fit any test, and search too far
-- Assumes nothing.
use Rattle.std.proofs.Common.{Result, Ok, Err, Option, Some, None}
use Rattle.error.specs.declared.Refusal.{Refusal}
use Rattle.error.specs.Numbers.{number_of, answer_of}
use Prim.Native.Nat.{ℕ, ◌<◌}
use native.Mathlib.Omega.{arith}
use native.Mathlib.Nat.{mod-eq_of_lt}
use mathlib.Core.Path.{◌≡◌, refl, ap, sym, ◌∙◌}
use lib.IntN.{ℤ, pos}
use Rattle.record_thread.specs.declared.Thread.{Thread}
use Rattle.record_thread.specs.Thread.{finish, found_thread_in, is_free, is_in_wait}
use Rattle.model.specs.ThreadCalls.{is_wait_state}
use mathlib.Core.Bool.{Bool, not}
use Rattle.records.specs.declared.tables.Tables.{Tables}
use Rattle.records.specs.Tables.{thread_at, put_thread}
use Rattle.records.proofs.Kept.{thread_kept, thread_looked_up_at, thread_is}
use Rattle.reply.specs.declared.Reply.{Reply}
use Rattle.reply.specs.declared.Fields.{Fields}
use Rattle.reply.specs.declared.Information.{Information}
use Rattle.reply.specs.Reply.{answered, reply, information, informed, showing}
use Rattle.model.specs.Job.{finish_thread}
use Rattle.model.proofs.Answering.{answering, refuses, accepts, the_record, no_record}
use Rattle.model.specs.Replies.{call, thread}
use Rattle.laws.specs.Guarded.{Guarded, ◌>>◌, ◌>>=◌, refuse◌when◌}
use Rattle.laws.specs.Choice.{◌≤?◌, if◌then◌otherwise◌}
use Rattle.laws.proofs.Flow.{first, second, passes, told, not_yes, not_no}
use Rattle.laws.proofs.Cases.{by}
use borrow.Author.Tests.{leb-false, le-leb, lt-leb, lt-ltb, le-ltb, eq-eqb, ne_eqb}
use Rattle.thread.specs.Move.{slot, free_in, free_found, settled, ended}

abbrev turned : Tables → (Thread → Guarded Reply) → Result Thread Refusal → Reply
turned t k (Ok w) = call t (k w)
turned t k (Err r) = answered t (number_of r)

pub informs_refused : (t : Tables) (e : Refusal) → informed t (Err e) ≡ answered t (number_of e)
unfolding informed showing answered
informs_refused t e = refl

pub informs : (t : Tables) (told : Information) {fields : Fields} → told ≡ information fields →
    informed t (Ok told) ≡ reply t (pos 0) fields
unfolding informed showing reply
informs t told e = rw e

pub settles_refused : (t : Tables) (n : ℕ) {v : Thread} (e : Refusal) →
    thread_at t (slot n) ≡ v → settled t n v (Err e) ≡ answered t (number_of e)
unfolding settled
settles_refused t n e h = rw (thread_kept t (slot n) h)

pub settles_stored : {u : Thread} (t : Tables) (n : ℕ) (w : Thread) →
    u ≡ w → n < 128 → settled t n u (Ok tt) ≡ answered (put_thread t n w) (pos 0)
unfolding settled
settles_stored t n w e h = rw (e, mod-eq_of_lt h)

pub ends_refused : (t : Tables) (n : ℕ) {v : Thread} (e : Refusal) →
    thread_at t (slot n) ≡ v → ended t n v (Err e) ≡ answered t (number_of e)
unfolding ended
ends_refused t n e h = rw (thread_kept t (slot n) h)

pub ends_finished : {u v w : Thread} (t : Tables) (n : ℕ) →
    n < 128 → thread_at t (slot n) ≡ v → w ≡ v → u ≡ finish w →
    ended t n u (Ok tt) ≡ answered (finish_thread t n) (pos 0)
unfolding ended finish_thread
ends_finished t n h e f g = rw (g, f, ← e, mod-eq_of_lt h)

-- a wait that is over, whatever its outcome
pub settles_outcome : {u : Thread} (t : Tables) (n : ℕ) (w : Thread) (r : Result Unit Refusal) {c : ℤ} →
    u ≡ w → n < 128 → answer_of r ≡ c → settled t n u r ≡ answered (put_thread t n w) c
unfolding settled
settles_outcome t n w r e h f = rw (e, f, mod-eq_of_lt h)

-- ---- The thread that a call is on ----------------------------------------------------------------------

module _ {x : Reply} (t : Tables) (n : ℕ) {v : Thread} {g : Option Thread} (k : Thread → Guarded Reply)
    (h : n < 128) (e : thread_at t (slot n) ≡ v) (f : g ≡ found_thread_in v) where
  pub is_found : {w : Thread} → g ≡ Some w → x ≡ call t (k w) →
      x ≡ call t (refuse 101 when 128 ≤? n >> (thread t n >>= k))
  is_found p q =
      passes (answered t) (pos 101) _ (lt-leb 128 n h) (the_record t _ k (thread_looked_up_at t n f h e) p q)

  pub not_found : g ≡ None → x ≡ answered t (pos 103) →
      x ≡ call t (refuse 101 when 128 ≤? n >> (thread t n >>= k))
  not_found p q =
      passes (answered t) (pos 101) _ (lt-leb 128 n h) (no_record t _ k (thread_looked_up_at t n f h e) p q)

-- ---- The thread that a call of its own is on -----------------------------------------------------------

may : {A B : Type 0} (g : Option A) → (g ≡ None → B) → ((v : A) → g ≡ Some v → B) → B
may None a b = a refl
may (Some v) a b = b v refl

refused : {A : Type 0} {r : Refusal} {w : Thread} → ◌≡◌ {A = Result Thread Refusal} (Err r) (Ok w) → A
refused e = absurd (let z : ◌≡◌ {A = ℕ} 0 1 = cc in omega arith)

ok_is : {u w : Thread} → ◌≡◌ {A = Result Thread Refusal} (Ok u) (Ok w) → u ≡ w
ok_is e = cc

free_lem : (t : Tables) (n : ℕ) {v : Thread} (k : Thread → Guarded Reply) → thread_at t (slot n) ≡ v →
    turned t k (free_in n v) ≡
    call t (refuse 101 when 128 ≤? n >> (thread t n >>= λ w. refuse 105 when not (is_free w) >> k w))
unfolding free_in free_found if◌then◌otherwise◌
free_lem t n {v} k h =
    by (128 ≤? n) (λ a. refuses t _ _ (rw a) a)
    (λ a. may (found_thread_in v) (λ b. not_found t n _ (leb-false 128 n a) h refl b (rw (a, b)))
    (λ w b. is_found t n _ (leb-false 128 n a) h refl b
    (by (is_free w) (λ d. passes (answered t) (pos 105) _ (not_no d) (rw (a, b, d)))
    (λ d. refuses t _ _ (rw (a, b, d)) (not_yes d)))))

module _ {x : Reply} (t : Tables) (n : ℕ) {v : Thread} {g : Result Thread Refusal} (k : Thread → Guarded Reply)
    (e : thread_at t (slot n) ≡ v) (f : g ≡ free_in n v) where
  pub is_turn : {w : Thread} → g ≡ Ok w → x ≡ call t (k w) →
      x ≡ call t (refuse 101 when 128 ≤? n >> (thread t n >>= λ u. refuse 105 when not (is_free u) >> k u))
  is_turn p q = q ∙ ap (turned t k) (sym p ∙ f) ∙ free_lem t n k e

  pub no_turn : {r : Refusal} → g ≡ Err r → x ≡ answered t (number_of r) →
      x ≡ call t (refuse 101 when 128 ≤? n >> (thread t n >>= λ u. refuse 105 when not (is_free u) >> k u))
  no_turn p q = q ∙ ap (turned t k) (sym p ∙ f) ∙ free_lem t n k e

pub free_there : {n : ℕ} {v w : Thread} {g : Result Thread Refusal} →
    g ≡ free_in n v → g ≡ Ok w → (n < 128) × (w ≡ v)
unfolding free_in free_found if◌then◌otherwise◌
free_there {n} {v} {w} f p =
    by (128 ≤? n) (λ a. refused (rw a at (sym f ∙ p)))
    (λ a. may (found_thread_in v) (λ b. refused (rw (a, b) at (sym f ∙ p)))
    (λ u b. by (is_free u)
    (λ d. (leb-false 128 n a, ok_is (rw (a, b, d) at (sym p ∙ f)) ∙ sym (thread_is refl b)))
    (λ d. refused (rw (a, b, d) at (sym f ∙ p)))))

-- ---- What a callee said of the thread ------------------------------------------------------------------

pub told_in_wait : {r b : Bool} (w : Thread) → r ≡ is_in_wait w → r ≡ b → is_in_wait w ≡ b
told_in_wait w p q = told p q

pub told_wait_state : {r b : Bool} (state : ℕ) → r ≡ is_wait_state state → r ≡ b → is_wait_state state ≡ b
told_wait_state state p q = told p q

pub ruleset moving = (settles_refused, settles_stored, answering, thread_looked_up_at)

pub ruleset settling = (
  settles_refused,
  settles_stored,
  settles_outcome,
  informs_refused,
  is_found,
  not_found,
  first,
  second,
  refuses,
  accepts,
  passes,
  le-leb,
  lt-leb,
  lt-ltb,
  le-ltb,
  eq-eqb,
  ne_eqb,
  not_yes,
  not_no,
  told_in_wait,
  told_wait_state,
)
