-- One step at a time, along the ways of the code: terminations upward, the search upward, a process
-- that leaves its job's list, a thread that finishes, and the turns of a loop. v is the record that
-- was read, r the one that was made of it, u the tables after the store; a count of steps is given
-- as m, and what is left of it as n. Assumes nothing.
use Rattle.std.proofs.Common.{Option, Some, None}
use Prim.Native.Nat.{ℕ, suc, ◌+◌}
use native.Mathlib.Numerals.{add-one}
use mathlib.Core.Path.{◌≡◌, refl, sym, ap, ap₂, ◌∙◌}
use mathlib.Core.Bool.{true, false}
use Rattle.laws.specs.Choice.{◌=?◌}
use Rattle.laws.proofs.Flow.{yes, no, first, second}
use Rattle.record_job.specs.declared.Job.{Job}
use Rattle.record_job.specs.Job.{terminated}
use Rattle.record_process.specs.declared.Process.{Process}
use Rattle.record_process.specs.Process.{ended}
use Rattle.record_thread.specs.declared.Thread.{Thread}
use Rattle.record_thread.specs.Thread.{finish}
use Rattle.records.specs.declared.tables.Tables.{Tables}
use Rattle.records.specs.Tables.{job_at, process_at, thread_at, put_job, put_process, put_thread}
use Rattle.model.specs.Job.{lists_thread, on_parent, is_above, may_terminate, terminate_up}
use Rattle.model.specs.Job.{terminate_job, up_to, unlist_process, end_process, finish_thread}

-- ---- A parent --------------------------------------------------------------------------------

module _ {A : Type 0} where
  pub no_parent : {q : Option ℕ} {z : A} (a : A) (k : ℕ → A) → q ≡ None → z ≡ a → z ≡ on_parent q a k
  unfolding on_parent
  no_parent a k e h = rw e h

  pub with_parent : {q : Option ℕ} {p : ℕ} {z : A} (a : A) (k : ℕ → A) → q ≡ Some p → z ≡ k p
      → z ≡ on_parent q a k
  unfolding on_parent
  with_parent a k e h = rw e h

-- ---- Terminations upward ---------------------------------------------------------------------

pub up_out : (m : ℕ) (t : Tables) (j : ℕ) → 0 ≡ m → t ≡ terminate_up m t j
unfolding terminate_up
up_out m t j e = ap (λ (k : ℕ). terminate_up k t j) e

module _ (n m : ℕ) (s : suc n ≡ m) (t : Tables) (j : ℕ) (v r : Job) (u : Tables)
    (e : v ≡ job_at t j) (f : r ≡ terminated v) (g : u ≡ put_job t j r) where
  stored : u ≡ put_job t j (terminated (job_at t j))
  stored = g ∙ ap (put_job t j) (f ∙ ap (λ (w : Job). terminated w) e)

  steps : terminate_up (suc n) t j ≡ terminate_up m t j
  steps = ap (λ (k : ℕ). terminate_up k t j) s

  pub up_orphan : v.parent ≡ None → u ≡ terminate_up m t j
  unfolding terminate_up
  up_orphan a = no_parent _ _ (ap (λ (w : Job). w.parent) (sym e) ∙ a) stored ∙ steps

  module _ (p : ℕ) (a : v.parent ≡ Some p) where
    may : may_terminate (put_job t j (terminated (job_at t j))) p ≡ may_terminate u p
    may = ap (λ (w : Tables). may_terminate w p) (sym stored)

    pub up_stops : may_terminate u p ≡ false → u ≡ terminate_up m t j
    unfolding terminate_up
    up_stops h =
        with_parent _ _ (ap (λ (w : Job). w.parent) (sym e) ∙ a) (no _ _ (may ∙ h) stored) ∙ steps

    pub up_goes : may_terminate u p ≡ true → terminate_up n u p ≡ terminate_up m t j
    unfolding terminate_up
    up_goes h =
        with_parent _ _ (ap (λ (w : Job). w.parent) (sym e) ∙ a)
        (yes _ _ (may ∙ h) (ap (λ (w : Tables). terminate_up n w p) stored)) ∙ steps

-- ---- The search upward -----------------------------------------------------------------------

pub above_out : (m : ℕ) (t : Tables) (j i : ℕ) → 0 ≡ m → false ≡ is_above m t j i
unfolding is_above
above_out m t j i e = ap (λ (k : ℕ). is_above k t j i) e

module _ (n m : ℕ) (s : suc n ≡ m) (t : Tables) (j i : ℕ) where
  above_steps : is_above (suc n) t j i ≡ is_above m t j i
  above_steps = ap (λ (k : ℕ). is_above k t j i) s

  pub above_here : i =? j ≡ true → true ≡ is_above m t j i
  unfolding is_above
  above_here h = yes _ _ h refl ∙ above_steps

  module _ (d : i =? j ≡ false) (v : Job) (e : v ≡ job_at t i) where
    pub above_orphan : v.parent ≡ None → false ≡ is_above m t j i
    unfolding is_above
    above_orphan a =
        no _ _ d (no_parent _ _ (ap (λ (w : Job). w.parent) (sym e) ∙ a) refl) ∙ above_steps

    pub above_goes : (p : ℕ) → v.parent ≡ Some p → is_above n t j p ≡ is_above m t j i
    unfolding is_above
    above_goes p a =
        no _ _ d (with_parent _ _ (ap (λ (w : Job). w.parent) (sym e) ∙ a) refl) ∙ above_steps

-- ---- A process leaves its job's list ---------------------------------------------------------

module _ (t : Tables) (p : ℕ) (v r : Process) (u : Tables)
    (e : v ≡ process_at t p) (f : r ≡ ended v) (g : u ≡ put_process t p r) where
  off_list : u ≡ put_process t p (ended (process_at t p))
  off_list = g ∙ ap (put_process t p) (f ∙ ap ended e)

  home : v.job ≡ (process_at t p).job
  home = ap (λ (w : Process). w.job) e

  pub unlist_goes : may_terminate u v.job ≡ true → terminate_job u v.job ≡ unlist_process t p
  unfolding unlist_process
  unlist_goes h =
      first _ _ (ap₂ may_terminate (sym off_list) (sym home) ∙ h) (ap₂ terminate_job off_list home)

  pub unlist_stays : may_terminate u v.job ≡ false → u ≡ unlist_process t p
  unfolding unlist_process
  unlist_stays h = second _ _ (ap₂ may_terminate (sym off_list) (sym home) ∙ h) off_list

-- ---- A thread finishes -----------------------------------------------------------------------

module _ (t : Tables) (n : ℕ) (v r : Thread) (u : Tables)
    (e : v ≡ thread_at t n) (f : r ≡ finish v) (g : u ≡ put_thread t n r) where
  finished : u ≡ put_thread t n (finish (thread_at t n))
  finished = g ∙ ap (put_thread t n) (f ∙ ap (λ (w : Thread). finish w) e)

  process : v.process ≡ (thread_at t n).process
  process = ap (λ (w : Thread). w.process) e

  pub finish_rests : lists_thread u v.process ≡ true → u ≡ finish_thread t n
  unfolding finish_thread
  finish_rests h = first _ _ (ap₂ lists_thread (sym finished) (sym process) ∙ h) finished

  pub finish_ends : lists_thread u v.process ≡ false
      → end_process u v.process ≡ finish_thread t n
  unfolding finish_thread
  finish_ends h =
      second _ _ (ap₂ lists_thread (sym finished) (sym process) ∙ h)
      (ap₂ end_process finished process)

-- ---- The turns of a loop ---------------------------------------------------------------------

pub up_to_none : (f : ℕ → Tables → Tables) (t : Tables) → t ≡ up_to 0 f t
unfolding up_to
up_to_none f t = refl

up_to_more : (n : ℕ) (f : ℕ → Tables → Tables) (t : Tables) → up_to (n + 1) f t ≡ f n (up_to n f t)
unfolding up_to
up_to_more n f t = rw add-one

pub turn : (n : ℕ) (f : ℕ → Tables → Tables) (t u w : Tables) → u ≡ up_to n f t → w ≡ f n u
    → w ≡ up_to (n + 1) f t
turn n f t u w e g = g ∙ ap (f n) e ∙ sym (up_to_more n f t)
