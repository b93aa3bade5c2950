use Rattle.std.proofs.Common.{rules, ℕ, ◌≡◌, ◌+◌, ◌<◌, ◌≤◌, ◌∙◌, ap, sym, length}
use Rattle.std.specs.Prelude.{get_or, set}
use Rattle.laws.proofs.Loops.{zip_to, zip_to_next, zip_to_all}
use Rattle.job_policy.specs.declared.JobPolicy.{JobPolicy}
use Rattle.job_policy.specs.Policy.{merged_action, merge}
use Rattle.job_policy.proofs.Laws.{policy}
use Rattle.job_policy.proofs.JobPolicy.merge.Goals as goal

module _ (own parent now : JobPolicy) (i : ℕ)
    (is : now ≡ policy (zip_to merged_action i own.action parent.action)) where
  next : (a : ℕ) → i < length parent.action → a ≡ merged_action (get_or now.action i 0) (get_or parent.action i 0) →
      policy (set now.action i a) ≡ policy (zip_to merged_action (i + 1) own.action parent.action)
  next a h e = rw (e, is) (ap policy (zip_to_next merged_action own.action parent.action i 0 0 h))

  all : length own.action ≤ i → now ≡ merge own parent
  unfolding merge
  all h = is ∙ ap policy (sym (zip_to_all merged_action own.action parent.action i h))

pub loop-i-preserved : goal.loop-i-preserved
loop-i-preserved c =
    (next _ _ _ _ c.loop-i.invariant.0 _ (search rules) c.merged_action.ensures, search rules)

pub returns : goal.returns
returns c = all c.args.self c.args.parent _ c.loop-i.i c.loop-i.invariant.0 (search rules)
