-- The tables with the records of a thread and of its process stored: what is read of them, and what a further store
-- comes to. A name past the table stands for a process never made. Assumes nothing.
use Prim.Native.Nat.{ℕ, ◌≤◌, ◌<◌}
use native.Mathlib.Decide.{dec_lt}
use native.Mathlib.Omega.{arith}
use mathlib.Core.Path.{◌≡◌, refl, sym, ap, ◌∙◌}
use mathlib.Core.List.{List}
use lib.Seq.{get_or-set_same, set-set}
use Rattle.laws.proofs.Tables.{read_past, write_past}
use Rattle.record_exception.specs.declared.Level.{Level}
use Rattle.record_exception.specs.declared.Place.TheVariants.{Debugger, OwnThread, OwnProcess}
use Rattle.record_exception.specs.Channel.{tried}
use Rattle.record_process.specs.declared.Process.{Process}
use Rattle.record_process.specs.Process.{no_process, with_level1, with_level3}
use Rattle.record_thread.specs.declared.Thread.{Thread}
use Rattle.record_thread.specs.Thread.{no_thread, with_level2}
use Rattle.records.specs.declared.tables.Tables.{Tables}
use Rattle.records.specs.Tables.{Sized, process_at, thread_at, put_process, put_thread}
use Rattle.records.specs.Tables.{with_processes, with_threads}
use Rattle.records.proofs.Kept.{process_kept, thread_kept}
use Rattle.model.specs.Exception.{process_of, level_at, put_level_at, pass_over}

-- the process of a name past the table was never made
abbrev pub Fits : ℕ → Process → Type 0
Fits p q = 64 ≤ p → q ≡ no_process

pub fits_level1 : {p : ℕ} {q : Process} → Fits p q → Fits p (with_level1 q (tried q.level1))
fits_level1 f h = rw (f h)

pub fits_level3 : {p : ℕ} {q : Process} → Fits p q → Fits p (with_level3 q (tried q.level3))
fits_level3 f h = rw (f h)

abbrev pub stored : Tables → ℕ → Thread → Process → Tables
stored t n v q = put_process (put_thread t n v) v.process q

-- records stored that stand there already
pub stored_back : (t : Tables) (n : ℕ) {v : Thread} {q : Process} →
    thread_at t n ≡ v → process_at t v.process ≡ q → stored t n v q ≡ t
stored_back t n {v} {q} e f = rw (thread_kept t n e) (process_kept t v.process f)

module _ (t : Tables) (z : Sized t) (n : ℕ) (h : n < 128) where
  pub thread_there : (v : Thread) (q : Process) → thread_at (stored t n v q) n ≡ v
  unfolding thread_at put_thread put_process
  thread_there v q = get_or-set_same t.threads n v no_thread (omega (arith, z.threads))

  pub process_put : (w : Tables) (p : ℕ) (q : Process) → w.processes ≡ t.processes → Fits p q →
      process_at (put_process w p q) p ≡ q
  unfolding process_at put_process
  process_put w p q e f = rw e (go (dec_lt p 64))
    where
      go : Dec (p < 64) → process_at (put_process t p q) p ≡ q
      go (yes l) = get_or-set_same t.processes p q no_process (omega (arith, z.processes))
      go (no g) =
          let k : 64 ≤ p = omega arith in
          rw (← write_past t.processes p q z.processes k)
          (sym (read_past t.processes p no_process z.processes k) ∙ sym (f k))

  module _ (v : Thread) (q : Process) (f : Fits v.process q) where
    pub process_there : process_at (stored t n v q) v.process ≡ q
    unfolding put_thread
    process_there = process_put (put_thread t n v) v.process q refl f

    pub own_there : process_at (stored t n v q) (process_of (stored t n v q) n) ≡ q
    own_there = ap (λ (x : Thread). process_at (stored t n v q) x.process) (thread_there v q) ∙ process_there

    pub level1_there : level_at (stored t n v q) n Debugger ≡ q.level1
    unfolding level_at
    level1_there = ap (λ (x : Process). x.level1) own_there

    pub level3_there : level_at (stored t n v q) n OwnProcess ≡ q.level3
    unfolding level_at
    level3_there = ap (λ (x : Process). x.level3) own_there

    pub level2_there : level_at (stored t n v q) n OwnThread ≡ v.level2
    unfolding level_at
    level2_there = ap (λ (x : Thread). x.level2) (thread_there v q)

    put_process_lem : (r : Process) → put_process (stored t n v q) v.process r ≡ stored t n v r
    unfolding put_process put_thread
    put_process_lem r = ap (with_processes (put_thread t n v)) (set-set t.processes v.process q r)

    put_level2 : (l : Level) → put_thread (stored t n v q) n (with_level2 v l) ≡ stored t n (with_level2 v l) q
    unfolding put_process put_thread
    put_level2 l =
        ap (λ (x : List Thread). with_threads (put_process t v.process q) x)
        (set-set t.threads n v (with_level2 v l))

    -- the process's record changed
    put_own_lem : (g : Process → Process) →
        put_process (stored t n v q) (process_of (stored t n v q) n)
        (g (process_at (stored t n v q) (process_of (stored t n v q) n)))
        ≡ stored t n v (g q)
    put_own_lem g =
        ap (λ (x : Process). put_process (stored t n v q) (process_of (stored t n v q) n) (g x)) own_there
        ∙ ap (λ (x : Thread). put_process (stored t n v q) x.process (g q)) (thread_there v q)
        ∙ put_process_lem (g q)

    pub pass_level1 : pass_over (stored t n v q) n Debugger ≡ stored t n v (with_level1 q (tried q.level1))
    unfolding pass_over put_level_at level_at
    pass_level1 = put_own_lem (λ x. with_level1 x (tried x.level1))

    pub pass_level3 : pass_over (stored t n v q) n OwnProcess ≡ stored t n v (with_level3 q (tried q.level3))
    unfolding pass_over put_level_at level_at
    pass_level3 = put_own_lem (λ x. with_level3 x (tried x.level3))

    pub pass_level2 : pass_over (stored t n v q) n OwnThread ≡ stored t n (with_level2 v (tried v.level2)) q
    unfolding pass_over put_level_at level_at
    pass_level2 =
        ap (λ (x : Thread). put_thread (stored t n v q) n (with_level2 x (tried x.level2))) (thread_there v q)
        ∙ put_level2 (tried v.level2)
