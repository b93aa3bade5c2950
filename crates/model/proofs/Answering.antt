-- How a `return` of a call's code meets its definition, guard by guard: `search answering` closes it.
--     refuses, accepts             a guard that holds, and the foot
--     the_record, no_record, ..        a lookup: g is what the code found, h what the definition asks
--     job_made, .., past_told      what a callee said of a new name, and of a table's size
-- Assumes nothing.
use Rattle.std.proofs.Common.{Option, Some, None}
use Prim.Native.Nat.{ℕ, ◌≤◌, ◌<◌}
use mathlib.Core.Path.{◌≡◌, ap, sym, ◌∙◌}
use mathlib.Core.Bool.{Bool, true, false}
use native.Mathlib.Omega.{arith}
use borrow.Author.Tests.{le-leb, lt-leb}
use lib.Dec.{leb}
use lib.IntN.{ℤ, pos}
use Rattle.laws.specs.Guarded.{Guarded, Result, found, missing, guard, ok, ◌>>◌, ◌>>=◌}
use Rattle.laws.proofs.Flow.{stops, finds, fails, flow}
use Rattle.laws.proofs.Flow as laws
use Rattle.record_exception.specs.declared.Exception.{Exception}
use Rattle.record_job.specs.declared.Job.{Job}
use Rattle.record_process.specs.declared.Process.{Process}
use Rattle.record_thread.specs.declared.Thread.{Thread}
use Rattle.record_token.specs.declared.SuspendToken.{SuspendToken}
use Rattle.records.specs.declared.tables.Tables.{Tables}
use Rattle.reply.specs.declared.Reply.{Reply}
use Rattle.reply.specs.Reply.{answered}
use Rattle.model.specs.Replies.{call, present, held_exception}

-- ---- Guards and the foot -----------------------------------------------------------------------

pub refuses : {x : Reply} (t : Tables) (c : ℤ) {b : Bool} (l : Guarded Reply) →
    x ≡ answered t c → b ≡ true → x ≡ call t (guard c b >> l)
refuses t c l p e = p ∙ stops (answered t) c l e

pub accepts : {x y : Reply} (t : Tables) → x ≡ y → x ≡ call t (ok y)
accepts t p = laws.accepts (answered t) p

-- ---- Lookups -------------------------------------------------------------------------------

-- a lookup that gives a record, and one that gives a number
gives : {B : Type 0} {x : Reply} (t : Tables) {m : Result B} (k : B → Guarded Reply) {v : B} →
    m ≡ found v → x ≡ call t (k v) → x ≡ call t (m >>= k)
gives t k {v} e r = finds (answered t) k v e r

lacks : {B : Type 0} {x : Reply} (t : Tables) {m : Result B} (k : B → Guarded Reply) {c : ℤ} →
    m ≡ missing c → x ≡ answered t c → x ≡ call t (m >>= k)
lacks t k {c} e p = p ∙ fails (answered t) k c e

module _ {A : Type 0} {x : Reply} (t : Tables) {g : Option A} (h : Option A) where
  pub the_record : {v : A} (k : A → Guarded Reply) →
      g ≡ h → g ≡ Some v → x ≡ call t (k v) → x ≡ call t (present h >>= k)
  unfolding present
  the_record {v} k p q r = let e : present h ≡ found v = rw (← p, q) in gives t k e r

  pub no_record : (k : A → Guarded Reply) →
      g ≡ h → g ≡ None → x ≡ answered t (pos 103) → x ≡ call t (present h >>= k)
  unfolding present
  no_record k p q r = let e : present h ≡ missing (pos 103) = rw (← p, q) in lacks t k e r

-- a task has no record of its own
pub the_task : {x : Reply} (t : Tables) {g : Option (Unit {0})} (h : Option (Unit {0})) (k : Unit {0} → Guarded Reply) →
    g ≡ h → g ≡ Some tt → x ≡ call t (k tt) → x ≡ call t (present h >>= k)
the_task t h k p q r = the_record t h k p q r

module _ {x : Reply} (t : Tables) {g : Option Exception} (h : Option Exception) where
  pub the_exception : {v : Exception} (k : Exception → Guarded Reply) →
      g ≡ h → g ≡ Some v → x ≡ call t (k v) → x ≡ call t (held_exception h >>= k)
  unfolding held_exception
  the_exception {v} k p q r = let e : held_exception h ≡ found v = rw (← p, q) in gives t k e r

  pub no_exception : (k : Exception → Guarded Reply) →
      g ≡ h → g ≡ None → x ≡ answered t (pos 105) → x ≡ call t (held_exception h >>= k)
  unfolding held_exception
  no_exception k p q r = let e : held_exception h ≡ missing (pos 105) = rw (← p, q) in lacks t k e r

-- ---- A new name ----------------------------------------------------------------------------

pub job_made : {v w : Job} {b : Bool} → v ≡ w → v.made ≡ b → w.made ≡ b
job_made p q = ap (λ (u : Job). u.made) (sym p) ∙ q

pub process_made : {v w : Process} {b : Bool} → v ≡ w → v.made ≡ b → w.made ≡ b
process_made p q = ap (λ (u : Process). u.made) (sym p) ∙ q

pub thread_made : {v w : Thread} {b : Bool} → v ≡ w → v.made ≡ b → w.made ≡ b
thread_made p q = ap (λ (u : Thread). u.made) (sym p) ∙ q

pub token_made : {v w : SuspendToken} {b : Bool} → v ≡ w → v.made ≡ b → w.made ≡ b
token_made p q = ap (λ (u : SuspendToken). u.made) (sym p) ∙ q

-- ---- A bound that a callee answered --------------------------------------------------------------

pub past_told : {a b n : ℕ} → a ≡ b → a ≤ n → leb b n ≡ true
past_told {a} {b} {n} p h = let k : b ≤ n = omega arith in le-leb b n k

pub within_told : {a b n : ℕ} → a ≡ b → n < a → leb b n ≡ false
within_told {a} {b} {n} p h = let k : n < b = omega arith in lt-leb b n k

pub ruleset answering = (
  flow,
  refuses,
  accepts,
  the_record,
  the_task,
  no_record,
  the_exception,
  no_exception,
  job_made,
  process_made,
  thread_made,
  token_made,
  past_told,
  within_told,
)
