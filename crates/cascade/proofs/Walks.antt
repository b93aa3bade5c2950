-- The two walks of a job's kill, from one that it lists to the next: what the model does at every name is done.
--     skips                                          what passes no test is done with nothing
--     Children, child_here, child_turn, child_end    before place n, the children are killed
--     Members, member_here, member_turn, member_end  before place n, the processes have exited
-- Assumes nothing.
use Prim.Native.Nat.{ℕ, suc, ◌+◌, ◌≤◌, ◌<◌}
use native.Mathlib.Numerals.{add-one}
use native.Mathlib.Omega.{arith}
use mathlib.Core.Path.{◌≡◌, refl, ap, sym, ◌∙◌}
use mathlib.Core.Bool.{Bool, false}
use mathlib.Core.List.{List, [], ◌∷◌}
use lib.ListN.{length, get_or, drop, length-drop}
use lib.Seq.{drop-cons}
use Rattle.std.specs.Prelude.{Option, Some, None}
use Rattle.laws.specs.Choice.{if◌then◌otherwise◌}
use Rattle.laws.proofs.Cases.{by}
use Rattle.record_job.specs.Job.{no_job, child_of}
use Rattle.record_process.specs.Process.{KILL_CODE, no_process, member_of}
use Rattle.listed.specs.Next.{skipped, next, next_in}
use Rattle.listed.proofs.Next.{Found, next_is, next_none}
use Rattle.records.specs.declared.tables.Tables.{Tables}
use Rattle.records.specs.Tables.{job_at, process_at}
use Rattle.model.specs.Job.{up_to, kill_child, exit_member, kill_job, exit_process}
use Rattle.model.proofs.Upward.{turn}
use Rattle.model.proofs.Steps.{child_killed, child_kept, member_exits, member_kept}

-- ---- What is done at each place of a table is done at the ones that pass --------------------------

-- g does nothing to u where the test fails
module _ {A : Type 0} (f : A → Bool) (g : ℕ → Tables → Tables) (l : List A) (d : A) (u t : Tables)
    (kept : (k : ℕ) → f (get_or l k d) ≡ false → u ≡ g k u) where
  skips_in : (m : List A) (i : ℕ) → drop i l ≡ m → u ≡ up_to i g t → u ≡ up_to (i + skipped f m) g t
  unfolding skipped if◌then◌otherwise◌
  skips_in [] i e h = h ∙ ap (λ (k : ℕ). up_to k g t) (omega arith)
  skips_in (x ∷ m) i e h =
      let k : i < length l = omega (arith, length-drop i l, ap length e) in
      let c : get_or l i d ∷ drop (suc i) l ≡ x ∷ m = sym (drop-cons l i d k) ∙ e in
      by (f x) (λ a. rw a (h ∙ ap (λ (k : ℕ). up_to k g t) (omega arith)))
      (λ a.
      let s = turn i g t u u h (kept i (ap f (ap (λ (y : List A). get_or y 0 d) c) ∙ a)) in
      let r = skips_in m (suc i) (ap (drop 1) c) (rw (← add-one) s) in
      rw a (r ∙ ap (λ (k : ℕ). up_to k g t) (omega arith)))

  pub skips : (i : ℕ) → u ≡ up_to i g t → u ≡ up_to (next f l i) g t
  unfolding next
  skips i h = skips_in (drop i l) i refl h

-- ---- The children ---------------------------------------------------------------------------------

pub record Children (t : Tables) (j : ℕ) (u : Tables) (n : ℕ) : Type 0 where
  pub done : u ≡ up_to n (kill_child kill_job j) t
  pub within : n ≤ 32
  pub long : length u.jobs ≡ 32
  pub wide : length u.processes ≡ 64

module _ (t : Tables) (j : ℕ) (u : Tables) (n : ℕ) (i : Children t j u n) {r : Option ℕ}
    (e : r ≡ next_in (λ v. child_of v j) u.jobs n) where
  child_skips : u ≡ up_to (next (λ v. child_of v j) u.jobs n) (kill_child kill_job j) t
  unfolding job_at
  child_skips =
      skips (λ v. child_of v j) (kill_child kill_job j) u.jobs no_job u t (λ k g. child_kept j k u _ refl g) n i.done

  -- at the next, those before it are killed
  module _ {c : ℕ} (h : r ≡ Some c) where
    it : Found (λ v. child_of v j) u.jobs n c
    it = next_is _ _ _ e h

    pub child_here : u ≡ up_to c (kill_child kill_job j) t
    child_here = child_skips ∙ ap (λ (k : ℕ). up_to k (kill_child kill_job j) t) (sym it.is)

    pub child_in : (n ≤ c) × (c < 32)
    child_in = (it.from, omega (arith, it.below, i.long))

    pub child_turn : (w : Tables) → w ≡ kill_job u c → length w.jobs ≡ 32 → length w.processes ≡ 64 →
        Children t j w (c + 1)
    unfolding job_at
    child_turn w g a b = record {
      done = turn c (kill_child kill_job j) t u w child_here (g ∙ child_killed j c u _ refl (it.at no_job));
      within = omega (arith, child_in.1);
      long = a;
      wide = b;
    }

  pub child_end : r ≡ None → u ≡ up_to 32 (kill_child kill_job j) t
  child_end h =
      child_skips ∙ ap (λ (k : ℕ). up_to k (kill_child kill_job j) t)
      (next_none _ _ _ e h (omega (arith, i.within, i.long)) ∙ i.long)

-- ---- The processes --------------------------------------------------------------------------------

pub record Members (t : Tables) (j : ℕ) (u : Tables) (n : ℕ) : Type 0 where
  pub done : u ≡ up_to n (exit_member exit_process j) t
  pub within : n ≤ 64
  pub long : length u.processes ≡ 64

module _ (t : Tables) (j : ℕ) (u : Tables) (n : ℕ) (i : Members t j u n) {r : Option ℕ}
    (e : r ≡ next_in (λ q. member_of q j) u.processes n) where
  member_skips : u ≡ up_to (next (λ q. member_of q j) u.processes n) (exit_member exit_process j) t
  unfolding process_at
  member_skips =
      skips (λ q. member_of q j) (exit_member exit_process j) u.processes no_process u t
      (λ k g. member_kept j k u _ refl g) n i.done

  module _ {p : ℕ} (h : r ≡ Some p) where
    one : Found (λ q. member_of q j) u.processes n p
    one = next_is _ _ _ e h

    pub member_here : u ≡ up_to p (exit_member exit_process j) t
    member_here = member_skips ∙ ap (λ (k : ℕ). up_to k (exit_member exit_process j) t) (sym one.is)

    pub member_in : (n ≤ p) × (p < 64)
    member_in = (one.from, omega (arith, one.below, i.long))

    pub member_turn : (w : Tables) → w ≡ exit_process u p KILL_CODE → length w.processes ≡ 64 → Members t j w (p + 1)
    unfolding process_at
    member_turn w g a = record {
      done = turn p (exit_member exit_process j) t u w member_here
          (g ∙ member_exits j p u _ refl (one.at no_process));
      within = omega (arith, member_in.1);
      long = a;
    }

  pub member_end : r ≡ None → u ≡ up_to 64 (exit_member exit_process j) t
  member_end h =
      member_skips ∙ ap (λ (k : ℕ). up_to k (exit_member exit_process j) t)
      (next_none _ _ _ e h (omega (arith, i.within, i.long)) ∙ i.long)
