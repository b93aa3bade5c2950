-- The search upward over the table of jobs, along the ways of the code. m counts the jobs left, k those after this one.
-- Assumes nothing.
use Rattle.std.proofs.Common.{Some, None}
use Prim.Native.Nat.{ℕ, suc, ◌<◌, ◌≤◌}
use native.Mathlib.Omega.{arith}
use mathlib.Core.Path.{◌≡◌, refl, sym, ap, ◌∙◌}
use mathlib.Core.Bool.{Bool, true, false}
use mathlib.Core.List.{List}
use lib.ListN.{length, get_or, set}
use lib.Seq.{get_or-set_same}
use Rattle.laws.proofs.Flow.{yes, no}
use Rattle.laws.proofs.Tables.{read_past, write_past}
use Rattle.record_exception.specs.declared.Place.{Place}
use Rattle.record_exception.specs.Channel.{is_bound}
use Rattle.record_job.specs.declared.Job.{Job}
use Rattle.record_job.specs.Job.{no_job}
use Rattle.model.specs.Job.{on_parent}
use Rattle.model.proofs.Upward.{no_parent, with_parent}
use Rattle.exception.specs.Seek.{Climbed, level_in, passed_in, job_place, climbed, climbing}

pub up_out : (m : ℕ) (d : Bool) (jobs : List Job) (j : ℕ) → 0 ≡ m → climbed None jobs ≡ climbing m d jobs j
unfolding climbing
up_out m d jobs j e = ap (λ (k : ℕ). climbing k d jobs j) e

none_bound : (d : Bool) → is_bound (level_in d no_job) ≡ false
none_bound true = refl
none_bound false = refl

module _ (k m : ℕ) (s : suc k ≡ m) (d : Bool) (jobs : List Job) (j : ℕ) where
  steps : climbing (suc k) d jobs j ≡ climbing m d jobs j
  steps = ap (λ (x : ℕ). climbing x d jobs j) s

  -- a job past the table was never made
  pub up_past : length jobs ≡ 32 → 32 ≤ j → climbed None jobs ≡ climbing m d jobs j
  unfolding climbing
  up_past len h =
      let r = read_past jobs j no_job len h in
      no _ _ (ap (λ (v : Job). is_bound (level_in d v)) (sym r) ∙ none_bound d)
      (rw (← write_past jobs j (passed_in d (get_or jobs j no_job)) len h, ← r)
      (no_parent _ _ refl refl))
      ∙ steps

  module _ {b : Bool} (e : b ≡ is_bound (level_in d (get_or jobs j no_job))) where
    pub up_bound : {p : Place} → b ≡ true → p ≡ job_place d j → climbed (Some p) jobs ≡ climbing m d jobs j
    unfolding climbing
    up_bound g q = yes _ _ (sym e ∙ g) (rw q) ∙ steps

    module _ (g : b ≡ false) {w : Job} (x : w ≡ passed_in d (get_or jobs j no_job)) (len : length jobs ≡ 32)
        (h : j < 32) where
      there : {y : Climbed} →
          y ≡ on_parent w.parent (climbed None (set jobs j w)) (λ i. climbing k d (set jobs j w) i) →
          y ≡ climbing m d jobs j
      unfolding climbing
      there z =
          no _ _ (sym e ∙ g)
          (rw (← x, get_or-set_same jobs j w no_job (omega arith)) z)
          ∙ steps

      pub up_orphan : w.parent ≡ None → climbed None (set jobs j w) ≡ climbing m d jobs j
      up_orphan o = there (no_parent _ _ o refl)

      pub up_goes : {i : ℕ} → w.parent ≡ Some i → climbing k d (set jobs j w) i ≡ climbing m d jobs j
      up_goes o = there (with_parent _ _ o refl)
