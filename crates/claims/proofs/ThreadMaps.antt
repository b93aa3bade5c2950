-- Changes of the whole thread table, above all `stop_threads`: each thread by itself, and no other
-- table. Assumes nothing.
use Prim.Native.Nat.{ℕ}
use mathlib.Core.Path.{◌≡◌, refl, ◌∙◌, ap}
use mathlib.Core.Bool.{true}
use mathlib.Core.List.{List, map}
use Rattle.laws.specs.Choice.{◌and◌, if◌then◌otherwise◌}
use Rattle.laws.proofs.Cases.{if_on}
use Rattle.laws.proofs.Counts.{map_at}
use Rattle.record_thread.specs.declared.Thread.{Thread}
use Rattle.record_thread.specs.Thread.{no_thread, thread_of, dying, kill}
use Rattle.records.specs.declared.tables.Tables.{Tables}
use Rattle.records.specs.Tables.{job_at, own_at, inherited_at, process_at, fixed_at, thread_at, token_at}
use Rattle.records.specs.Tables.{with_threads}
use Rattle.model.specs.Job.{lists_thread, stop_in, stop_threads}
use Rattle.model.proofs.Lists.{lists_thread_same}

-- ---- Any change of the threads -------------------------------------------------------------

pub thread_at_map : (f : Thread → Thread) → f no_thread ≡ no_thread → (t : Tables) (n : ℕ)
    → thread_at (with_threads t (map f t.threads)) n ≡ f (thread_at t n)
unfolding thread_at
thread_at_map f z t n = map_at f no_thread z t.threads n

module _ (t : Tables) (l : List Thread) (k : ℕ) where
  pub job_at_with_threads : job_at (with_threads t l) k ≡ job_at t k
  unfolding job_at
  job_at_with_threads = refl

  pub own_at_with_threads : own_at (with_threads t l) k ≡ own_at t k
  unfolding own_at
  own_at_with_threads = refl

  pub inherited_at_with_threads : inherited_at (with_threads t l) k ≡ inherited_at t k
  unfolding inherited_at
  inherited_at_with_threads = refl

  pub process_at_with_threads : process_at (with_threads t l) k ≡ process_at t k
  unfolding process_at
  process_at_with_threads = refl

  pub fixed_at_with_threads : fixed_at (with_threads t l) k ≡ fixed_at t k
  unfolding fixed_at
  fixed_at_with_threads = refl

  pub token_at_with_threads : token_at (with_threads t l) k ≡ token_at t k
  unfolding token_at
  token_at_with_threads = refl

-- ---- Killing the threads of a process ------------------------------------------------------

stop_in_none : (p : ℕ) → stop_in p no_thread ≡ no_thread
unfolding stop_in thread_of ◌and◌ if◌then◌otherwise◌
stop_in_none p = refl

pub thread_at_stop_threads : (t : Tables) (p n : ℕ)
    → thread_at (stop_threads t p) n ≡ stop_in p (thread_at t n)
unfolding stop_threads
thread_at_stop_threads t p n = thread_at_map (stop_in p) (stop_in_none p) t n

module _ (t : Tables) (p k : ℕ) where
  pub job_at_stop_threads : job_at (stop_threads t p) k ≡ job_at t k
  unfolding job_at stop_threads
  job_at_stop_threads = refl

  pub own_at_stop_threads : own_at (stop_threads t p) k ≡ own_at t k
  unfolding own_at stop_threads
  own_at_stop_threads = refl

  pub inherited_at_stop_threads : inherited_at (stop_threads t p) k ≡ inherited_at t k
  unfolding inherited_at stop_threads
  inherited_at_stop_threads = refl

  pub process_at_stop_threads : process_at (stop_threads t p) k ≡ process_at t k
  unfolding process_at stop_threads
  process_at_stop_threads = refl

  pub fixed_at_stop_threads : fixed_at (stop_threads t p) k ≡ fixed_at t k
  unfolding fixed_at stop_threads
  fixed_at_stop_threads = refl

  pub token_at_stop_threads : token_at (stop_threads t p) k ≡ token_at t k
  unfolding token_at stop_threads
  token_at_stop_threads = refl

pub ruleset past_stop_threads = (
  job_at_stop_threads,
  own_at_stop_threads,
  inherited_at_stop_threads,
  process_at_stop_threads,
  fixed_at_stop_threads,
  token_at_stop_threads,
)

-- a part of a thread that a kill keeps
module _ {B : Type 0} (f : Thread → B) (same : (v : Thread) → f (dying v true) ≡ f v) where
  pub kill_keeps : (v : Thread) → f (kill v) ≡ f v
  unfolding kill
  kill_keeps v = if_on (λ (w : Thread). f w ≡ f v) _ _ _ (λ e. refl) (λ e. same v)

  pub stop_in_keeps : (p : ℕ) (v : Thread) → f (stop_in p v) ≡ f v
  unfolding stop_in
  stop_in_keeps p v = if_on (λ (w : Thread). f w ≡ f v) _ _ _ (λ e. kill_keeps v) (λ e. refl)

  pub stop_threads_keeps_part : (t : Tables) (p n : ℕ)
      → f (thread_at (stop_threads t p) n) ≡ f (thread_at t n)
  stop_threads_keeps_part t p n = ap f (thread_at_stop_threads t p n) ∙ stop_in_keeps p (thread_at t n)

-- a killed thread stays on its process's list until it finishes
pub thread_of_stop_threads : (t : Tables) (p n q : ℕ)
    → thread_of (thread_at (stop_threads t p) n) q ≡ thread_of (thread_at t n) q
unfolding thread_of
thread_of_stop_threads t p n q =
    stop_threads_keeps_part (λ (v : Thread). thread_of v q) (λ v. refl) t p n

pub lists_thread_stop_threads : (t : Tables) (p q : ℕ)
    → lists_thread (stop_threads t p) q ≡ lists_thread t q
lists_thread_stop_threads t p q =
    lists_thread_same (stop_threads t p) t q (λ n. thread_of_stop_threads t p n q)
