-- Reading policies and tokens after a write to their own table: as TaskTables, for the tables
-- beside. Assumes nothing.
use Prim.Native.Nat.{ℕ, ◌<◌}
use mathlib.Core.Path.{◌≡◌, refl}
use mathlib.Core.Bool.{true}
use lib.ListN.{length}
use lib.Seq.{get_or-set_same, get_or-set_other}
use Rattle.laws.proofs.Tables.{tab_set, tab_keep, tab_set₂}
use Rattle.laws.proofs.Counts.{held_in_lem}
use Rattle.job_policy.specs.declared.JobPolicy.{JobPolicy}
use Rattle.job_policy.specs.Policy.{no_policy}
use Rattle.record_token.specs.declared.SuspendToken.{SuspendToken}
use Rattle.record_token.specs.SuspendToken.{no_token}
use Rattle.records.specs.declared.tables.Tables.{Tables}
use Rattle.records.specs.Tables.{own_at, inherited_at, fixed_at, token_at, put_own, put_inherited}
use Rattle.records.specs.Tables.{put_fixed, put_token}

-- ---- own ------------------------------------------------------------------------------------

pub on_own : (Q : JobPolicy → Type 0) (t : Tables) (i k : ℕ) (v : JobPolicy) → (k ≡ i → Q v)
    → Q (own_at t k) → Q (own_at (put_own t i v) k)
unfolding own_at put_own
on_own Q t = tab_set no_policy Q t.own

pub keep_own : {B : Type 0} (f : JobPolicy → B) (t : Tables) (i : ℕ) (v : JobPolicy)
    → f v ≡ f (own_at t i)
    → (k : ℕ) → f (own_at (put_own t i v) k) ≡ f (own_at t k)
unfolding own_at put_own
keep_own f t = tab_keep no_policy f t.own

pub on_own₂ : (Q : JobPolicy → JobPolicy → Type 0) (t u : Tables) (i k : ℕ) (v w : JobPolicy)
    → length t.own ≡ length u.own → (k ≡ i → Q v w) → Q (own_at t k) (own_at u k)
    → Q (own_at (put_own t i v) k) (own_at (put_own u i w) k)
unfolding own_at put_own
on_own₂ Q t u = tab_set₂ no_policy Q t.own u.own

pub put_own_here : (t : Tables) (i : ℕ) (v : JobPolicy) → i < length t.own
    → own_at (put_own t i v) i ≡ v
unfolding own_at put_own
put_own_here t i v = get_or-set_same t.own i v no_policy

pub put_own_else : (t : Tables) (i k : ℕ) (v : JobPolicy) → (k ≡ i → ⊥)
    → own_at (put_own t i v) k ≡ own_at t k
unfolding own_at put_own
put_own_else t i k v = get_or-set_other t.own i k v no_policy

-- ---- inherited ------------------------------------------------------------------------------

pub on_inherited : (Q : JobPolicy → Type 0) (t : Tables) (i k : ℕ) (v : JobPolicy) → (k ≡ i → Q v)
    → Q (inherited_at t k) → Q (inherited_at (put_inherited t i v) k)
unfolding inherited_at put_inherited
on_inherited Q t = tab_set no_policy Q t.inherited

pub keep_inherited : {B : Type 0} (f : JobPolicy → B) (t : Tables) (i : ℕ) (v : JobPolicy)
    → f v ≡ f (inherited_at t i)
    → (k : ℕ) → f (inherited_at (put_inherited t i v) k) ≡ f (inherited_at t k)
unfolding inherited_at put_inherited
keep_inherited f t = tab_keep no_policy f t.inherited

pub on_inherited₂ : (Q : JobPolicy → JobPolicy → Type 0) (t u : Tables) (i k : ℕ) (v w : JobPolicy)
    → length t.inherited ≡ length u.inherited → (k ≡ i → Q v w)
    → Q (inherited_at t k) (inherited_at u k)
    → Q (inherited_at (put_inherited t i v) k) (inherited_at (put_inherited u i w) k)
unfolding inherited_at put_inherited
on_inherited₂ Q t u = tab_set₂ no_policy Q t.inherited u.inherited

pub put_inherited_here : (t : Tables) (i : ℕ) (v : JobPolicy) → i < length t.inherited
    → inherited_at (put_inherited t i v) i ≡ v
unfolding inherited_at put_inherited
put_inherited_here t i v = get_or-set_same t.inherited i v no_policy

pub put_inherited_else : (t : Tables) (i k : ℕ) (v : JobPolicy) → (k ≡ i → ⊥)
    → inherited_at (put_inherited t i v) k ≡ inherited_at t k
unfolding inherited_at put_inherited
put_inherited_else t i k v = get_or-set_other t.inherited i k v no_policy

-- ---- fixed ----------------------------------------------------------------------------------

pub on_fixed : (Q : JobPolicy → Type 0) (t : Tables) (i k : ℕ) (v : JobPolicy) → (k ≡ i → Q v)
    → Q (fixed_at t k) → Q (fixed_at (put_fixed t i v) k)
unfolding fixed_at put_fixed
on_fixed Q t = tab_set no_policy Q t.fixed

pub keep_fixed : {B : Type 0} (f : JobPolicy → B) (t : Tables) (i : ℕ) (v : JobPolicy)
    → f v ≡ f (fixed_at t i)
    → (k : ℕ) → f (fixed_at (put_fixed t i v) k) ≡ f (fixed_at t k)
unfolding fixed_at put_fixed
keep_fixed f t = tab_keep no_policy f t.fixed

pub on_fixed₂ : (Q : JobPolicy → JobPolicy → Type 0) (t u : Tables) (i k : ℕ) (v w : JobPolicy)
    → length t.fixed ≡ length u.fixed → (k ≡ i → Q v w) → Q (fixed_at t k) (fixed_at u k)
    → Q (fixed_at (put_fixed t i v) k) (fixed_at (put_fixed u i w) k)
unfolding fixed_at put_fixed
on_fixed₂ Q t u = tab_set₂ no_policy Q t.fixed u.fixed

pub put_fixed_here : (t : Tables) (i : ℕ) (v : JobPolicy) → i < length t.fixed
    → fixed_at (put_fixed t i v) i ≡ v
unfolding fixed_at put_fixed
put_fixed_here t i v = get_or-set_same t.fixed i v no_policy

pub put_fixed_else : (t : Tables) (i k : ℕ) (v : JobPolicy) → (k ≡ i → ⊥)
    → fixed_at (put_fixed t i v) k ≡ fixed_at t k
unfolding fixed_at put_fixed
put_fixed_else t i k v = get_or-set_other t.fixed i k v no_policy

-- ---- tokens ---------------------------------------------------------------------------------

pub on_token : (Q : SuspendToken → Type 0) (t : Tables) (i k : ℕ) (v : SuspendToken) → (k ≡ i → Q v)
    → Q (token_at t k) → Q (token_at (put_token t i v) k)
unfolding token_at put_token
on_token Q t = tab_set no_token Q t.tokens

pub keep_token : {B : Type 0} (f : SuspendToken → B) (t : Tables) (i : ℕ) (v : SuspendToken)
    → f v ≡ f (token_at t i)
    → (k : ℕ) → f (token_at (put_token t i v) k) ≡ f (token_at t k)
unfolding token_at put_token
keep_token f t = tab_keep no_token f t.tokens

pub on_token₂ : (Q : SuspendToken → SuspendToken → Type 0) (t u : Tables) (i k : ℕ)
    (v w : SuspendToken)
    → length t.tokens ≡ length u.tokens → (k ≡ i → Q v w) → Q (token_at t k) (token_at u k)
    → Q (token_at (put_token t i v) k) (token_at (put_token u i w) k)
unfolding token_at put_token
on_token₂ Q t u = tab_set₂ no_token Q t.tokens u.tokens

pub put_token_here : (t : Tables) (i : ℕ) (v : SuspendToken) → i < length t.tokens
    → token_at (put_token t i v) i ≡ v
unfolding token_at put_token
put_token_here t i v = get_or-set_same t.tokens i v no_token

pub put_token_else : (t : Tables) (i k : ℕ) (v : SuspendToken) → (k ≡ i → ⊥)
    → token_at (put_token t i v) k ≡ token_at t k
unfolding token_at put_token
put_token_else t i k v = get_or-set_other t.tokens i k v no_token

pub made_token_in : (t : Tables) (i : ℕ) → (token_at t i).made ≡ true → i < length t.tokens
unfolding token_at
made_token_in t = held_in_lem (λ (v : SuspendToken). v.made) no_token refl t.tokens

pub put_token_made : (t : Tables) (i : ℕ) (v : SuspendToken) → (token_at t i).made ≡ true
    → token_at (put_token t i v) i ≡ v
put_token_made t i v m = put_token_here t i v (made_token_in t i m)
