-- Laws of policies: the cases M1 and M2 of document 01. Assumes nothing.
use Rattle.std.proofs.Common.{Some, None}
use Prim.Native.Nat.{ℕ, ◌+◌, ◌-◌, ◌<◌, ◌≤◌}
use mathlib.Core.Path.{◌≡◌, refl, sym, ◌∙◌, ap}
use mathlib.Core.Logic.{◌≢◌}
use mathlib.Core.List.{List}
use native.Mathlib.Omega.{arith}
use native.Mathlib.Decide.{dec_lt, ℕ_discrete}
use borrow.Author.Tests.{le-leb, lt-leb, eq-eqb, ne_eqb}
use lib.ListN.{length, get_or, set, get_or-eq_default}
use lib.Seq.{set-set}
use Rattle.laws.proofs.Flow.{first, second}
use Rattle.laws.proofs.Loops.{zip_at}
use Rattle.job_policy.specs.declared.JobPolicy.{JobPolicy}
use Rattle.job_policy.specs.declared.BasicPolicy.{BasicPolicy}
use Rattle.job_policy.specs.Policy.{get_action, apply, merged_action, merge, ALLOW, DENY, M1}
use Rattle.job_policy.specs.Policy.{M2, Cases}

abbrev pub policy : List ℕ → JobPolicy
policy l = record { action = l }

-- ---- M2 ------------------------------------------------------------------------------------

abbrev entry : ℕ → ℕ → BasicPolicy
entry c a = record { condition = c; action = a }

-- within the lists an entry is stored, and past them nothing is
apply_in : (p : JobPolicy) (c a : ℕ) → c < 15 → a < 5 → policy (set p.action c (a + 1)) ≡ apply p (entry c a)
unfolding apply
apply_in p c a h k = second _ _ (lt-leb _ _ h) (second _ _ (lt-leb _ _ k) refl)

apply_out : (p : JobPolicy) (c a : ℕ) → 15 ≤ c → p ≡ apply p (entry c a)
unfolding apply
apply_out p c a h = first _ _ (le-leb _ _ h) refl

apply_no_action : (p : JobPolicy) (c a : ℕ) → c < 15 → 5 ≤ a → p ≡ apply p (entry c a)
unfolding apply
apply_no_action p c a h k = second _ _ (lt-leb _ _ h) (first _ _ (le-leb _ _ k) refl)

-- of two entries for one condition the later is kept
later_kept : (p : JobPolicy) (c a b : ℕ) → b < 5 → apply (apply p (entry c a)) (entry c b) ≡ apply p (entry c b)
later_kept p c a b h = go (dec_lt c 15) (dec_lt a 5)
  where
    go : Dec (c < 15) → Dec (a < 5) → apply (apply p (entry c a)) (entry c b) ≡ apply p (entry c b)
    go (yes i) (yes k) =
        rw (← apply_in p c a i k, ← apply_in (policy (set p.action c (a + 1))) c b i h, ← apply_in p c b i h)
        (ap policy (set-set p.action c (a + 1) (b + 1)))
    go (yes i) (no k) = rw (← apply_no_action p c a i (omega arith))
    go (no i) _ = rw (← apply_out p c a (omega arith))

-- ---- M1 ------------------------------------------------------------------------------------

-- an action that is found is the entry's, less 1
found_entry : (p : JobPolicy) (c a : ℕ) → get_action p c ≡ Some a → (c < 15) × (get_or p.action c 0 ≡ a + 1)
unfolding get_action
found_entry p c a e = go (dec_lt c 15) (ℕ_discrete (get_or p.action c 0) 0)
  where
    go : Dec (c < 15) → Dec (get_or p.action c 0 ≡ 0) → (c < 15) × (get_or p.action c 0 ≡ a + 1)
    go (yes h) (yes k) =
        let u : None ≡ get_action p c = second _ _ (lt-leb _ _ h) (first _ _ (eq-eqb _ _ k) refl) in
        let z : ◌≡◌ {A = ℕ} 0 1 = cc in
        absurd (omega arith)
    go (yes h) (no k) =
        let u : Some (get_or p.action c 0 - 1) ≡ get_action p c =
        second _ _ (lt-leb _ _ h) (second _ _ (ne_eqb _ _ k) refl) in
        let z : get_or p.action c 0 - 1 ≡ a = cc in
        (h, omega arith)
    go (no h) _ =
        let o : 15 ≤ c = omega arith in
        let u : None ≡ get_action p c = first _ _ (le-leb _ _ o) refl in
        let z : ◌≡◌ {A = ℕ} 0 1 = cc in
        absurd (omega arith)

-- an entry that is set is found
entry_found : (p : JobPolicy) (c a : ℕ) → c < 15 → get_or p.action c 0 ≡ a + 1 → get_action p c ≡ Some a
unfolding get_action
entry_found p c a h e =
    let n : get_or p.action c 0 - 1 ≡ a = omega arith in
    let k : get_or p.action c 0 ≢ 0 = λ z. omega arith in
    sym (second _ _ (lt-leb _ _ h) (second _ _ (ne_eqb _ _ k) (ap Some (sym n))))

-- an entry that is not 0 stands in the list
in_list : (l : List ℕ) (c a : ℕ) → get_or l c 0 ≡ a + 1 → c < length l
in_list l c a e = go (dec_lt c (length l))
  where
    go : Dec (c < length l) → c < length l
    go (yes h) = h
    go (no h) =
        let z : get_or l c 0 ≡ 0 = get_or-eq_default l 0 (omega arith) in
        absurd (omega arith)

parent_wins : (own parent : JobPolicy) (c : ℕ) →
    get_action own c ≡ Some ALLOW → get_action parent c ≡ Some DENY → get_action (merge own parent) c ≡ Some DENY
unfolding merge merged_action
parent_wins own parent c e f =
    let o = found_entry own c ALLOW e in
    let p = found_entry parent c DENY f in
    let k : get_or parent.action c 0 ≢ 0 = λ z. omega (arith, p.1) in
    entry_found (merge own parent) c DENY p.0
    (zip_at merged_action own.action parent.action c 0 0 (in_list own.action c ALLOW o.1)
    (in_list parent.action c DENY p.1)
    ∙ sym (second _ _ (ne_eqb _ _ k) (sym p.1)))

pub cases : Cases
unfolding M1 M2
cases = record { m1 = parent_wins; m2 = later_kept }
