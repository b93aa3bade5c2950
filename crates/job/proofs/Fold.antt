-- One pass over a list comes to what `set_policy_basic` says of it: the check of every entry first,
-- then the entries in order.
--     one_pass, one_pass_at    what is answered then is the definition's answer
--     set_there, unset_there   whether the parent set a condition
--     pass_next, pass_end      a turn of a loop over the list, and its end
-- Assumes nothing.
use Rattle.std.proofs.Common.{Option, Some, None}
use Prim.Native.Nat.{ℕ, ◌+◌, ◌%◌, ◌<◌, ◌≤◌}
use native.Mathlib.Nat.{mod-eq_of_lt}
use native.Mathlib.Numerals.{add-one}
use mathlib.Core.Path.{◌≡◌, refl, sym, ◌∙◌, ap, ap₂}
use mathlib.Core.Bool.{Bool, true, false}
use mathlib.Core.List.{List, [], ◌∷◌}
use lib.IntN.{pos}
use lib.ListN.{length, get_or, drop, drop_of_length-le}
use lib.Seq.{drop-cons}
use borrow.Author.Tests.{le-leb, leb-true, leb-false}
use Rattle.laws.specs.Choice.{◌<?◌, ◌≤?◌, ◌or◌}
use Rattle.laws.specs.Lists.{any}
use Rattle.laws.proofs.Cases.{by, if_on, no_both}
use Rattle.laws.proofs.Flow.{stops, passes, yes, no}
use Rattle.job_policy.specs.declared.BasicPolicy.{BasicPolicy}
use Rattle.job_policy.specs.declared.JobPolicy.{JobPolicy}
use Rattle.records.specs.declared.tables.Tables.{Tables}
use Rattle.reply.specs.Reply.{answered}
use Rattle.records.specs.Tables.{own_at, inherited_at}
use Rattle.model.specs.JobCalls.{set_policy_basic}
use Rattle.model.specs.JobPolicy.{is_set, bad_entry, Setting, setting, set_each, set_policy}
use Rattle.job_policy.specs.Policy.{apply}
use Rattle.job.specs.declared.policy.Work.{Work}
use Rattle.job.specs.Work.{start_work, enter_work, step_work, finish_work}
use Rattle.job.specs.Work.{after_each, setting_of, answer_with}

-- ---- Whether the parent set a condition: g is what the code found, h what the definition asks -----------------

pub set_there : {g h : Option ℕ} {a : ℕ} → g ≡ h → g ≡ Some a → is_set h ≡ true
set_there p q = rw (← p, q)

pub unset_there : {g h : Option ℕ} → g ≡ h → g ≡ None → is_set h ≡ false
unset_there p q = rw (← p, q)

-- ---- Whether some entry was bad ----------------------------------------------------------------

or_true : (a : Bool) → true ≡ a or true
unfolding ◌or◌
or_true true = refl
or_true false = refl

or_false : (a : Bool) → a ≡ a or false
unfolding ◌or◌
or_false true = refl
or_false false = refl

or_assoc : (a b c : Bool) → (a or b) or c ≡ a or (b or c)
unfolding ◌or◌
or_assoc true b c = refl
or_assoc false b c = refl

left_false : (a b : Bool) → a or b ≡ false → a ≡ false
unfolding ◌or◌
left_false true b e = e
left_false false b e = refl

right_false : (a b : Bool) → a or b ≡ false → b ≡ false
unfolding ◌or◌
right_false true b e = no_both refl e
right_false false b e = e

bad_step : (w : Work) (b : BasicPolicy) → (step_work w b).bad ≡ w.bad or bad_entry b
unfolding step_work enter_work
bad_step w b =
    let P : Work → Type 0 = λ u. u.bad ≡ w.bad or bad_entry b in
    if_on P (bad_entry b) _ _ (λ e. rw e (or_true w.bad))
    (λ e.
    let same : w.bad ≡ w.bad or bad_entry b = rw e (or_false w.bad) in
    if_on P _ _ _ (λ _. same) (λ _.
    if_on P _ _ _ (λ _. if_on P _ _ _ (λ _. same) (λ _. same)) (λ _. same)))

bad_is : (w : Work) (l : List BasicPolicy) → (after_each w l).bad ≡ w.bad or any bad_entry l
unfolding after_each any
bad_is w [] = or_false w.bad
bad_is w (b ∷ l) =
    bad_is (step_work w b) l ∙ ap (λ (a : Bool). a or any bad_entry l) (bad_step w b)
    ∙ or_assoc w.bad (bad_entry b) (any bad_entry l)

-- ---- What the entries set ----------------------------------------------------------------------

-- after a refused entry nothing is set
halt_step : (w : Work) (b : BasicPolicy) → w.refused ≡ true
    → setting_of (step_work w b) ≡ setting_of w
unfolding step_work
halt_step w b r =
    let P : Work → Type 0 = λ u. setting_of u ≡ setting_of w in
    if_on P (bad_entry b) _ _ (λ _. refl) (λ _. if_on P _ _ _ (λ _. refl) (λ e. no_both r e))

halts : (w : Work) (l : List BasicPolicy) → w.refused ≡ true
    → setting_of (after_each w l) ≡ setting_of w
unfolding after_each
halts w [] r = refl
halts w (b ∷ l) r =
    let e = halt_step w b r in
    halts (step_work w b) l (ap (λ (s : Setting). s.refused) e ∙ r) ∙ e

-- where no entry is bad and none was refused before
pass_is : (w : Work) (l : List BasicPolicy) → w.refused ≡ false → any bad_entry l ≡ false
    → setting_of (after_each w l) ≡ set_each w.option w.inherited w.own l
unfolding after_each set_each any step_work enter_work
pass_is w [] r g = ap (setting w.own) r
pass_is w (b ∷ l) r g =
    let P : Work → Type 0 =
    λ u. setting_of (after_each u l) ≡ set_each w.option w.inherited w.own (b ∷ l) in
    let good = right_false (bad_entry b) (any bad_entry l) g in
    if_on P (bad_entry b) _ _ (λ e. no_both e (left_false (bad_entry b) (any bad_entry l) g)) (λ _.
    if_on P _ _ _ (λ e. no_both e r) (λ _.
    if_on P _ _ _
    (λ s.
    if_on P _ _ _ (λ o. yes _ _ s (yes _ _ o (halts _ l refl)))
    (λ o. yes _ _ s (no _ _ o (pass_is w l r good))))
    (λ s. no _ _ s (pass_is (record w { own = apply w.own b }) l r good))))

-- ---- The answer --------------------------------------------------------------------------------

-- some entry is bad: what the list sets does not matter
spoils : (t : Tables) (j option : ℕ) (bad : Bool) (s : Setting) → bad ≡ true
    → answered t (pos 104) ≡ answer_with t j option bad s
unfolding answer_with
spoils t j option bad s e =
    by (1 <? option) (λ h. stops _ _ _ h) (λ h. passes _ _ _ h (stops _ _ _ e))

-- what is known before the first entry
abbrev pub begin : Tables → ℕ → ℕ → Work
begin t j option = start_work (own_at t j) (inherited_at t j) option

pub one_pass : (t : Tables) (j option : ℕ) (l : List BasicPolicy) →
    finish_work t j option (after_each (begin t j option) l) ≡ set_policy_basic t j option l
unfolding finish_work set_policy_basic set_policy answer_with ◌or◌
one_pass t j option l =
    let w = after_each (begin t j option) l in
    let bad : w.bad ≡ any bad_entry l = bad_is (begin t j option) l in
    by (any bad_entry l)
    (λ y. sym (spoils t j option w.bad _ (bad ∙ y)) ∙ spoils t j option _ _ y)
    (λ n. ap₂ (answer_with t j option) bad (pass_is (begin t j option) l refl n))

-- past the table what the list sets does not matter either
past : (t : Tables) (j option : ℕ) (bad : Bool) (s u : Setting) → 32 ≤ j →
    answer_with t j option bad s ≡ answer_with t j option bad u
unfolding answer_with
past t j option bad s u h =
    let at : Setting → Type 0 = λ x. answered t (pos 101) ≡ answer_with t j option bad x in
    by (1 <? option) (λ a. sym (stops _ _ _ a) ∙ stops _ _ _ a)
    (λ a. by bad (λ b. sym (passes _ _ _ a (stops _ _ _ b)) ∙ passes _ _ _ a (stops _ _ _ b))
    (λ b.
    let out : (x : Setting) → at x = λ x. passes _ _ _ a (passes _ _ _ b (stops _ _ _ (le-leb 32 j h))) in
    sym (out s) ∙ out u))

-- the policies were read at the place of the name
pub one_pass_at : (t : Tables) (j option : ℕ) (l : List BasicPolicy) {own inherited : JobPolicy} (w : Work) →
    w ≡ after_each (start_work own inherited option) l →
    own_at t (j % 32) ≡ own → inherited_at t (j % 32) ≡ inherited →
    finish_work t j option w ≡ set_policy_basic t j option l
unfolding finish_work set_policy_basic set_policy
one_pass_at t j option l {own} {inherited} w e o i =
    let u = after_each (begin t j option) l in
    by (32 ≤? j)
    (λ h.
    let bad : w.bad ≡ u.bad =
    ap (λ (x : Work). x.bad) e ∙ bad_is (start_work own inherited option) l ∙ sym (bad_is (begin t j option) l) in
    rw bad (past t j option _ (setting_of w) (setting_of u) (leb-true 32 j h)) ∙ one_pass t j option l)
    (λ h.
    let here : j % 32 ≡ j = mod-eq_of_lt (leb-false 32 j h) in
    let same : w ≡ u = e ∙ rw (← o, ← i, here) in
    rw same (one_pass t j option l))

-- ---- A loop: the entries from i on. d is what stands past the list's end -----------------------

module _ (w : Work) (l : List BasicPolicy) (i : ℕ) where
  pub pass_next : (d : BasicPolicy) → i < length l
      → after_each w (drop i l) ≡ after_each (step_work w (get_or l i d)) (drop (i + 1) l)
  unfolding after_each
  pass_next d h = rw (drop-cons l i d h, add-one)

  pub pass_end : length l ≤ i → after_each w (drop i l) ≡ w
  unfolding after_each
  pass_end h = rw (drop_of_length-le l h)
