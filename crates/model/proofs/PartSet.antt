-- The policy list of `0f` is refused under Absolute alone, at the first entry that the parent has
-- set, and leaves just the entries before that one set. Assumes nothing.
use Prim.Native.Nat.{ℕ}
use mathlib.Core.Path.{◌≡◌, refl, ap}
use mathlib.Core.Bool.{true, false}
use mathlib.Core.List.{List, [], ◌∷◌, ◌++◌}
use Rattle.laws.specs.Choice.{◌=?◌, ◌or◌}
use Rattle.laws.specs.Lists.{any}
use Rattle.laws.proofs.Cases.{no_both, ite_on}
use Rattle.job_policy.specs.declared.JobPolicy.{JobPolicy}
use Rattle.job_policy.specs.declared.BasicPolicy.{BasicPolicy}
use Rattle.job_policy.specs.Policy.{apply}
use Rattle.records.specs.declared.tables.Tables.{Tables}
use Rattle.records.specs.Tables.{own_at, inherited_at, put_own}
use Rattle.model.specs.JobPolicy.{Setting, set_each}
use Rattle.model.specs.Refusals.{apply_all, inherits, PartSet}

module _ (t : Tables) (j option : ℕ) where
  -- where a list was refused, and what it left of the own policy that it met
  record Split (own : JobPolicy) (l : List BasicPolicy) (left : JobPolicy) : Type 0 where
    absolute : option =? 0 ≡ true
    before : List BasicPolicy
    met : BasicPolicy
    after : List BasicPolicy
    list : l ≡ before ++ met ∷ after
    free : any (inherits t j) before ≡ false
    taken : inherits t j met ≡ true
    applied : left ≡ apply_all own before

  splits_here : (own : JobPolicy) (b : BasicPolicy) (l : List BasicPolicy) → option =? 0 ≡ true
      → inherits t j b ≡ true → Split own (b ∷ l) own
  unfolding any apply_all
  splits_here own b l z y =
      record {
        absolute = z;
        before = [];
        met = b;
        after = l;
        list = refl;
        free = refl;
        taken = y;
        applied = refl;
      }

  splits_later : (own left : JobPolicy) (b : BasicPolicy) (l : List BasicPolicy)
      → inherits t j b ≡ false → Split (apply own b) l left → Split own (b ∷ l) left
  unfolding any ◌or◌ apply_all
  splits_later own left b l e s =
      record {
        absolute = s.absolute;
        before = b ∷ s.before;
        met = s.met;
        after = s.after;
        list = ap (λ m. b ∷ m) s.list;
        free = rw e s.free;
        taken = s.taken;
        applied = s.applied;
      }

  refused_splits : (own : JobPolicy) (l : List BasicPolicy)
      → (set_each option (inherited_at t j) own l).refused ≡ true
      → Split own l (set_each option (inherited_at t j) own l).own
  unfolding set_each
  refused_splits own [] = λ r. no_both r refl
  refused_splits own (b ∷ l) =
      let P : Setting → Type 0 = λ s. s.refused ≡ true → Split own (b ∷ l) s.own in
      ite_on P (inherits t j b) _ _
      (λ y. ite_on P (option =? 0) _ _ (λ z _. splits_here own b l z y)
      λ n r. no_both (refused_splits own l r).absolute n)
      λ e r. splits_later own _ b l e (refused_splits (apply own b) l r)

  pub refused_sets_part : (l : List BasicPolicy)
      → (set_each option (inherited_at t j) (own_at t j) l).refused ≡ true
      → PartSet t j l (put_own t j (set_each option (inherited_at t j) (own_at t j) l).own)
  refused_sets_part l r =
      let s = refused_splits (own_at t j) l r in
      record {
        before = s.before;
        met = s.met;
        after = s.after;
        list = s.list;
        free = s.free;
        taken = s.taken;
        own = ap (put_own t j) s.applied;
      }
