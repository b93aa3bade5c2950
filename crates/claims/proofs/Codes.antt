-- The codes of a call: a code that was there stays, and a new one is of those that the call may
-- give
-- (`Codes E t u`: E p z, process p may end with z). A cascade gives -1028 only. Assumes nothing.
use Rattle.std.proofs.Common.{Some}
use Rattle.std.proofs.Common.{Option, None}
use Prim.Native.Nat.{ℕ}
use mathlib.Core.Path.{◌≡◌, refl, sym, ap, ◌∙◌, subst}
use mathlib.Core.Bool.{true, false}
use lib.IntN.{ℤ}
use Rattle.laws.proofs.Cases.{by, no_both, ite_on}
use Rattle.record_process.specs.declared.Critical.{Critical}
use Rattle.record_process.specs.declared.Status.{Status}
use Rattle.record_process.specs.declared.Status.TheVariants.{Init, Running, Exited}
use Rattle.record_process.specs.declared.Process.{Process}
use Rattle.record_process.specs.Process.{KILL_CODE, is_exited, code_of, with_status, ended}
use Rattle.records.specs.declared.tables.Tables.{Tables}
use Rattle.records.specs.Tables.{process_at, put_process}
use Rattle.model.specs.Job.{is_live_process, kill_bound, unlist_process, end_step, exit_step}
use Rattle.model.specs.Job.{kill_job, exit_process, end_process}
use Rattle.model.proofs.TaskTables.{put_process_made, on_process}
use Rattle.claims.proofs.Cross.{process_at_put_job}
use Rattle.claims.proofs.ThreadMaps.{process_at_stop_threads}
use Rattle.model.proofs.Live.{live_process_made, live_process_unexited}
use Rattle.model.proofs.Stores.{Reach, Stores}
use Rattle.model.proofs.Keeps.{kill_job_keeps, exit_listed_keeps}
use Rattle.model.proofs.Depth.{exit_is}
use Rattle.claims.proofs.Sound.Downward.{unlisted_else}

pub record Codes (E : ℕ → ℤ → Type 0) (t u : Tables) : Type 0 where
  pub kept : (p : ℕ) → is_exited (process_at t p).status ≡ true
      → (process_at u p).status ≡ (process_at t p).status
  pub given : (p : ℕ) → is_exited (process_at t p).status ≡ false
      → is_exited (process_at u p).status ≡ true → E p (code_of (process_at u p).status)

-- the code of a kill alone
abbrev pub Killed : ℕ → ℤ → Type 0
Killed p z = z ≡ KILL_CODE

pub codes_same : {E : ℕ → ℤ → Type 0} (t u : Tables)
    → ((p : ℕ) → (process_at u p).status ≡ (process_at t p).status) → Codes E t u
codes_same t u e =
    record {
      kept = λ p x. e p;
      given = λ p x y. no_both y (ap is_exited (e p) ∙ x);
    }

-- one change after another
pub codes_both : {E F : ℕ → ℤ → Type 0} {t x u : Tables} → ((p : ℕ) (z : ℤ) → F p z → E p z)
    → Codes E t x → Codes F x u → Codes E t u
codes_both {E} {F} {t} {x} {u} k A B =
    record {
      kept = λ p e. let a : (process_at x p).status ≡ (process_at t p).status = A.kept p e in
          B.kept p (ap is_exited a ∙ e) ∙ a;
      given = λ p e f. by (is_exited (process_at x p).status)
          (λ h. subst (E p) (ap code_of (sym (B.kept p h))) (A.given p e h))
          (λ h. k p (code_of (process_at u p).status) (B.given p h f));
    }

-- first what the call gives by itself, then a cascade
pub codes_then : {E : ℕ → ℤ → Type 0} {t x u : Tables} → ((p : ℕ) → E p KILL_CODE)
    → Codes E t x → Codes Killed x u → Codes E t u
codes_then {E} k = codes_both (λ p z e. subst (E p) (sym e) (k p))

-- ---- One store -------------------------------------------------------------------------------

-- of a process
pub codes_put : {E : ℕ → ℤ → Type 0} (t : Tables) (p : ℕ) (v : Process)
    → (is_exited (process_at t p).status ≡ true → v.status ≡ (process_at t p).status)
    → (is_exited (process_at t p).status ≡ false → is_exited v.status ≡ true
    → E p (code_of v.status))
    → Codes E t (put_process t p v)
codes_put {E} t p v a b =
    record {
      kept = λ q. on_process (λ w. is_exited (process_at t q).status ≡ true
          → w.status ≡ (process_at t q).status) t p q v
          (λ c e. subst (λ (i : ℕ). v.status ≡ (process_at t i).status) (sym c)
          (a (subst (λ (i : ℕ). is_exited (process_at t i).status ≡ true) c e))) (λ e. refl);
      given = λ q. on_process (λ w. is_exited (process_at t q).status ≡ false
          → is_exited w.status ≡ true → E q (code_of w.status)) t p q v
          (λ c e f. subst (λ (i : ℕ). E i (code_of v.status)) (sym c)
          (b (subst (λ (i : ℕ). is_exited (process_at t i).status ≡ false) c e) f))
          (λ e f. no_both f e);
    }

pub codes_exit : {E : ℕ → ℤ → Type 0} (t : Tables) (p : ℕ) (code : ℤ)
    → is_live_process (process_at t p) ≡ true → E p code
    → Codes E t (put_process t p (with_status (process_at t p) (Exited code)))
codes_exit t p code l e =
    codes_put t p _ (λ h. no_both h (live_process_unexited (process_at t p) l)) (λ h x. e)

pub exited_again : (s : Status) → is_exited s ≡ true → Exited (code_of s) ≡ s
exited_again Init e = no_both e refl
exited_again Running e = no_both e refl
exited_again (Exited z) e = refl

codes_end : {E : ℕ → ℤ → Type 0} (t : Tables) (p : ℕ)
    → (is_exited (process_at t p).status ≡ false → E p (code_of (process_at t p).status))
    → Codes E t (put_process t p (ended (process_at t p)))
unfolding ended
codes_end t p e = codes_put t p _ (exited_again (process_at t p).status) (λ h x. e h)

-- ---- A cascade -------------------------------------------------------------------------------

-- a process that ends is Exited
abbrev killing : Reach
killing =
    record {
      job = λ j. Unit {0};
      process = λ p. Unit {0};
      code = λ z. z ≡ KILL_CODE;
      ending = λ t p. is_exited (process_at t p).status ≡ true;
    }

code_stores : (t : Tables) → Stores (Codes Killed t) killing
code_stores t =
    record {
      marks = λ u j a e K. codes_then (λ p. refl) K
          (codes_same u _ (λ p. ap (λ (q : Process). q.status) (process_at_put_job u j _ p)));
      terminates = λ u j a e K. codes_then (λ p. refl) K
          (codes_same u _ (λ p. ap (λ (q : Process). q.status) (process_at_put_job u j _ p)));
      exits = λ u p code a b e K. codes_then (λ p. refl) K (codes_exit u p code e b);
      ends = λ u p a e K. codes_then (λ p. refl) K (codes_end u p (λ h. no_both e h));
      stops = λ u p a e l K. codes_then (λ p. refl) K
          (codes_same u _ (λ q. ap (λ (x : Process). x.status) (process_at_stop_threads u p q)));
      empties = λ u p a e l K. e;
      kill_code = refl;
      child = λ u j c a K h. tt;
      member = λ u j p a K h. tt;
      above = λ u j p a K g h. tt;
      home = λ u p a K h. tt;
      bound_to = λ u p j nonzero a K g h. tt;
    }

pub codes_kill : (t : Tables) (j : ℕ) → Codes Killed t (kill_job t j)
codes_kill t j =
    kill_job_keeps (Codes Killed t) killing (code_stores t) t j tt (codes_same t t (λ p. refl))

module _ {E : ℕ → ℤ → Type 0} (k : (p : ℕ) → E p KILL_CODE) (t : Tables) (p : ℕ) where
  -- its own code, and what the cascade gives
  pub codes_exit_process : (code : ℤ) → E p code → Codes E t (exit_process t p code)
  unfolding exit_step
  codes_exit_process code e =
      subst (Codes E t) (sym (exit_is t p code))
      (ite_on (Codes E t) _ _ _
      (λ l.
      let v : Process = with_status (process_at t p) (Exited code) in
      let u : Tables = put_process t p v in
      codes_then k (codes_exit t p code l e)
      (exit_listed_keeps (Codes Killed u) killing (code_stores u) kill_job
      (kill_job_keeps (Codes Killed u) killing (code_stores u)) u p tt
      (ap (λ (q : Process). is_exited q.status) (put_process_made t p v (live_process_made _ l)))
      (codes_same u u (λ q. refl))))
      (λ l. codes_same t t (λ q. refl)))

  codes_bound : (b : Option Critical) (code : ℤ) (u : Tables) → Codes E t u
      → Codes E t (kill_bound kill_job b code u)
  unfolding kill_bound
  codes_bound None code u K = K
  codes_bound (Some b) code u K =
      ite_on (Codes E t) _ _ _ (λ e. codes_then k K (codes_kill u b.job)) (λ e. K)

  codes_unlist : (process_at t p).made ≡ true
      → (is_exited (process_at t p).status ≡ false → E p (code_of (process_at t p).status))
      → Codes E t (unlist_process t p)
  codes_unlist m e =
      codes_then k (codes_end t p e)
      (codes_same _ _ (λ q. ap (λ (x : Process). x.status) (unlisted_else t p q)))

  pub codes_end_process : (process_at t p).made ≡ true
      → (is_exited (process_at t p).status ≡ false → E p (code_of (process_at t p).status))
      → Codes E t (end_process t p)
  unfolding end_process end_step
  codes_end_process m e = codes_bound _ _ (unlist_process t p) (codes_unlist m e)
