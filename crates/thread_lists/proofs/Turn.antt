-- A step of the loop over the threads that a process lists: m are the threads after the turn. Assumes nothing.
use Prim.Native.Nat.{ℕ, ◌+◌}
use mathlib.Core.Path.{◌≡◌, refl, ◌∙◌}
use mathlib.Core.Bool.{Bool, true, false}
use mathlib.Core.List.{List}
use lib.ListN.{get_or, set}
use Rattle.laws.specs.Choice.{if◌then◌otherwise◌}
use Rattle.laws.proofs.Loops.{map_to, map_to_next}
use Rattle.record_thread.specs.declared.Thread.{Thread}
use Rattle.record_thread.specs.Thread.{no_thread, thread_of}
use Rattle.thread_lists.specs.Each.{changed_in}

module _ (f : Thread → Thread) (p : ℕ) (l₀ l : List Thread) (i : ℕ)
    (inv : l ≡ map_to (changed_in f p) i l₀) where
  one : {w : Thread} → w ≡ changed_in f p (get_or l i no_thread) → set l i w ≡ map_to (changed_in f p) (i + 1) l₀
  one e = rw (e, inv) (map_to_next (changed_in f p) l₀ i no_thread)

  pub one_changed : {m : List Thread} {x : Bool} {w : Thread} → x ≡ thread_of (get_or l i no_thread) p → x ≡ true →
      w ≡ f (get_or l i no_thread) → m ≡ set l i w → m ≡ map_to (changed_in f p) (i + 1) l₀
  unfolding changed_in if◌then◌otherwise◌
  one_changed e h g q = q ∙ one (g ∙ rw (← e, h) refl)

  pub one_kept : {m : List Thread} {x : Bool} → x ≡ thread_of (get_or l i no_thread) p → x ≡ false →
      m ≡ set l i (get_or l i no_thread) → m ≡ map_to (changed_in f p) (i + 1) l₀
  unfolding changed_in if◌then◌otherwise◌
  one_kept e h q = q ∙ one (rw (← e, h) refl)
