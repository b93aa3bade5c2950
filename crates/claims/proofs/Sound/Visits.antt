-- The loops of a kill visit every child and every process of the job: after them each child is
-- killed and each process Exited, if the cascade below a count leaves what it reached closed.
-- Assumes nothing.
use Rattle.std.proofs.Common.{Option, Some}
use Prim.Native.Nat.{ℕ, zero, suc, ◌<◌}
use native.Mathlib.Nat.{lt_of_le_of_lt}
use native.Mathlib.Omega.{arith}
use mathlib.Core.Path.{◌≡◌, refl, sym, ap, ◌∙◌, subst}
use mathlib.Core.Bool.{true, false}
use lib.IntN.{ℤ}
use borrow.Author.Tests.{eqb-true, eqb-false, eq-eqb}
use Rattle.laws.specs.Choice.{◌=?◌}
use Rattle.laws.proofs.Cases.{by, no_both, ite_on, and_true}
use Rattle.record_job.specs.Job.{is_parent, child_of}
use Rattle.record_process.specs.Process.{KILL_CODE, is_exited, member_of}
use Rattle.records.specs.declared.tables.Tables.{Tables}
use Rattle.records.specs.Tables.{job_at, process_at}
use Rattle.model.specs.Job.{up_to, kill_child, exit_member, remaining, kill_job, exit_process}
use Rattle.claims.specs.Reachable.{Tree}
use Rattle.model.proofs.TaskTables.{made_job_in, made_process_in}
use Rattle.model.proofs.Live.{live_process}
use Rattle.model.proofs.Keeps.{up_to_keeps}
use Rattle.model.proofs.Remaining.{kill_job_le, exit_process_le}
use Rattle.claims.proofs.Fixed.{cascade_kill, cascade_exit}
use Rattle.claims.proofs.Stays.{parent_stays, killed_stays, process_made_stays, home_stays}
use Rattle.claims.proofs.Stays.{exited_stays, kill_kills, exit_exits}
use Rattle.claims.proofs.Tree.Puts.{child_made}
use Rattle.claims.proofs.Tree.Cascade.{tree_kill, tree_exit}
use Rattle.claims.proofs.Sound.Closure.{Closed}

-- ---- A loop visits each name -----------------------------------------------------------------

pub up_to_all : (P : Tables → Type 0) (Q : ℕ → Tables → Type 0) (f : ℕ → Tables → Tables)
    → ((i : ℕ) (x : Tables) → P x → P (f i x)) → ((i : ℕ) (x : Tables) → P x → Q i (f i x))
    → ((i h : ℕ) (x : Tables) → P x → Q i x → Q i (f h x)) → (n : ℕ) (t : Tables) → P t
    → (i : ℕ) → i < n → Q i (up_to n f t)
unfolding up_to
up_to_all P Q f keep new old zero t x i h = absurd (omega arith)
up_to_all P Q f keep new old (suc n) t x i h =
    let y : P (up_to n f t) = up_to_keeps P f keep n t x in
    by (i =? n)
    (λ e. subst (λ (k : ℕ). Q k (f n (up_to n f t))) (sym (eqb-true i n e)) (new n (up_to n f t) y))
    (λ e. let d : i ≡ n → ⊥ = eqb-false i n e in
    old i n (up_to n f t) y (up_to_all P Q f keep new old n t x i (omega arith)))

-- ---- What one visit does ---------------------------------------------------------------------

-- children of job j
abbrev pub KidKilled : ℕ → ℕ → Tables → Type 0
KidKilled j c t = (job_at t c).parent ≡ Some j → (job_at t c).killed ≡ true

-- processes of job j
abbrev pub ManExited : ℕ → ℕ → Tables → Type 0
ManExited j p t =
    (process_at t p).made ≡ true → (process_at t p).job ≡ j → is_exited (process_at t p).status ≡ true

module _ (t : Tables) (T : Tree t) (j : ℕ) where
  -- what is off the list has ended already
  pub unlisted_kid : (c : ℕ) → child_of (job_at t c) j ≡ false → KidKilled j c t
  unfolding child_of
  unlisted_kid c h e =
      by (job_at t c).terminated (T.terminated_killed c)
      (λ k. no_both (and_true (T.job_listed c j e k)
      (ap (λ (q : Option ℕ). is_parent q j) e ∙ eq-eqb j j refl)) h)

  pub unlisted_man : (p : ℕ) → member_of (process_at t p) j ≡ false → ManExited j p t
  unfolding member_of
  unlisted_man p h m e =
      by (process_at t p).terminated (T.terminated_exited p)
      (λ k. no_both (and_true (T.process_listed p m k) (eq-eqb (process_at t p).job j e)) h)

  pub kid_visited : (c : ℕ) → KidKilled j c (kill_child kill_job j c t)
  unfolding kill_child
  kid_visited c =
      ite_on (KidKilled j c) (child_of (job_at t c) j) _ _
      (λ h e. kill_kills t c (child_made T c j (sym (parent_stays t _ (cascade_kill t c) c) ∙ e)))
      (unlisted_kid c)

  pub exit_done : (p : ℕ) (code : ℤ) → (process_at t p).made ≡ true
      → is_exited (process_at (exit_process t p code) p).status ≡ true
  exit_done p code m =
      by (is_exited (process_at t p).status) (exited_stays t _ (cascade_exit t p code) p)
      (λ x. ap (λ s. is_exited s) (exit_exits t p code (live_process (process_at t p) m x)))

  pub man_visited : (p : ℕ) → ManExited j p (exit_member exit_process j p t)
  unfolding exit_member
  man_visited p =
      ite_on (ManExited j p) (member_of (process_at t p) j) _ _
      (λ h m e. exit_done p KILL_CODE
      (sym (process_made_stays t _ (cascade_exit t p KILL_CODE) p) ∙ m))
      (unlisted_man p)

  -- and what a later visit leaves
  kid_stays : (c h : ℕ) → KidKilled j c t → KidKilled j c (kill_child kill_job j h t)
  unfolding kill_child
  kid_stays c h x =
      ite_on (KidKilled j c) _ _ _
      (λ a e. killed_stays t _ (cascade_kill t h) c
      (x (sym (parent_stays t _ (cascade_kill t h) c) ∙ e))) (λ a. x)

  kid_stays' : (c h : ℕ) → KidKilled j c t → KidKilled j c (exit_member exit_process j h t)
  unfolding exit_member
  kid_stays' c h x =
      ite_on (KidKilled j c) _ _ _
      (λ a e. killed_stays t _ (cascade_exit t h KILL_CODE) c
      (x (sym (parent_stays t _ (cascade_exit t h KILL_CODE) c) ∙ e))) (λ a. x)

  man_stays : (p h : ℕ) → ManExited j p t → ManExited j p (exit_member exit_process j h t)
  unfolding exit_member
  man_stays p h x =
      ite_on (ManExited j p) _ _ _
      (λ a m e. exited_stays t _ (cascade_exit t h KILL_CODE) p
      (x (sym (process_made_stays t _ (cascade_exit t h KILL_CODE) p) ∙ m)
      (sym (home_stays t _ (cascade_exit t h KILL_CODE) p) ∙ e))) (λ a. x)

-- ---- The loops of a kill ---------------------------------------------------------------------

-- the cascade below a count
abbrev pub KillCloses : ℕ → Type 1
KillCloses m =
    (N M : ℕ → Type 0) (s t : Tables) (j : ℕ) → Tree t → remaining t < m → Closed N M s t
    → Closed N M s (kill_job t j)

abbrev pub ExitCloses : ℕ → Type 1
ExitCloses m =
    (N M : ℕ → Type 0) (s t : Tables) (p : ℕ) (code : ℤ) → Tree t → remaining t < m
    → Closed N M s t → Closed N M s (exit_process t p code)

pub record Part (m : ℕ) (N M : ℕ → Type 0) (s t : Tables) : Type 0 where
  pub tree : Tree t
  pub small : remaining t < m
  pub closed : Closed N M s t

module _ (m : ℕ) (kill : KillCloses m) (exit : ExitCloses m) (N M : ℕ → Type 0) (s : Tables)
    (j : ℕ) where
  kids_part : (c : ℕ) (t : Tables) → Part m N M s t → Part m N M s (kill_child kill_job j c t)
  unfolding kill_child
  kids_part c t x =
      ite_on (Part m N M s) _ _ _
      (λ e. record {
        tree = tree_kill x.tree c;
        small = lt_of_le_of_lt (kill_job_le t c) x.small;
        closed = kill N M s t c x.tree x.small x.closed;
      }) (λ e. x)

  men_part : (p : ℕ) (t : Tables) → Part m N M s t
      → Part m N M s (exit_member exit_process j p t)
  unfolding exit_member
  men_part p t x =
      ite_on (Part m N M s) _ _ _
      (λ e. record {
        tree = tree_exit x.tree p KILL_CODE;
        small = lt_of_le_of_lt (exit_process_le t p KILL_CODE) x.small;
        closed = exit N M s t p KILL_CODE x.tree x.small x.closed;
      }) (λ e. x)

  -- with every child killed
  pub record Childless (t : Tables) : Type 0 where
    pub part : Part m N M s t
    pub kids : (c : ℕ) → KidKilled j c t

  pub men_childless : (p : ℕ) (t : Tables) → Childless t → Childless (exit_member exit_process j p t)
  men_childless p t x =
      record {
        part = men_part p t x.part;
        kids = λ c. kid_stays' t x.part.tree j c p (x.kids c);
      }

  pub all_kids : (t : Tables) → Part m N M s t → Childless (up_to 32 (kill_child kill_job j) t)
  all_kids t x =
      let u : Tables = up_to 32 (kill_child kill_job j) t in
      let y : Part m N M s u = up_to_keeps (Part m N M s) (kill_child kill_job j) kids_part 32 t x in
      record {
        part = y;
        kids = λ c e. up_to_all (Part m N M s) (KidKilled j) (kill_child kill_job j) kids_part
            (λ i w z. kid_visited w z.tree j i)
            (λ i h w z. kid_stays w z.tree j i h) 32 t x c
            (omega (arith, made_job_in u c (child_made y.tree c j e), y.tree.sized.jobs)) e;
      }

  pub all_men : (t : Tables) → Childless t → (p : ℕ)
      → ManExited j p (up_to 64 (exit_member exit_process j) t)
  all_men t x p m e =
      let u : Tables = up_to 64 (exit_member exit_process j) t in
      let y : Childless u = up_to_keeps Childless (exit_member exit_process j) men_childless 64 t x in
      up_to_all Childless (ManExited j) (exit_member exit_process j) men_childless
      (λ i w z. man_visited w z.part.tree j i) (λ i h w z. man_stays w z.part.tree j i h)
      64 t x p (omega (arith, made_process_in u p m, y.part.tree.sized.processes)) m e
