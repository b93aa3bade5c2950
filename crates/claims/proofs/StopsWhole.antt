-- After any call on a reachable state, what is to stop has stopped whole: `stops_whole`. Assumes
-- nothing.
use Rattle.record_job.specs.declared.Job.{Job}
use Rattle.std.proofs.Common.{Option}
use Prim.Native.Nat.{ℕ}
use native.Mathlib.Omega.{arith}
use mathlib.Core.Path.{◌≡◌, refl, sym, ap, ◌∙◌, subst}
use mathlib.Core.Bool.{true, false}
use lib.IntN.{ℤ, pos}
use Rattle.laws.specs.Choice.{◌≤?◌}
use Rattle.laws.specs.Guarded.{found, missing}
use Rattle.laws.proofs.Cases.{by, no_both, if_on}
use Rattle.laws.proofs.Flow.{stops, passes, finds, fails, accepts}
use Rattle.record_job.specs.Job.{new_job}
use Rattle.record_process.specs.declared.Status.{Status}
use Rattle.record_process.specs.declared.Status.TheVariants.{Init, Running, Exited}
use Rattle.record_process.specs.declared.Process.{Process}
use Rattle.record_process.specs.Process.{KILL_CODE, new_process, is_exited, code_of}
use Rattle.record_thread.specs.declared.Thread.{Thread}
use Rattle.record_thread.specs.Thread.{new_thread, finish}
use Rattle.records.specs.declared.tables.Tables.{Tables}
use Rattle.reply.specs.declared.Reply.{Reply}
use Rattle.reply.specs.Reply.{answered}
use Rattle.records.specs.Tables.{fresh_tables, job_at, process_at, thread_at, put_process, put_thread}
use Rattle.records.specs.Tables.{found_job}
use Rattle.model.specs.Replies.{present, job}
use Rattle.model.specs.Job.{kill_job, lists_thread, finish_thread}
use Rattle.model.specs.JobCalls.{kill_job_call, with_child, with_new_process}
use Rattle.model.specs.Step.{Call, cmd02, cmd0c, step, final}
use Rattle.claims.specs.Reachable.{AtOrAbove, here, below, Tree, Sound}
use Rattle.claims.specs.StopsWhole.{EndsWith, by_finish, by_kill, Stopped, StopsWhole}
use Rattle.claims.proofs.Cross.{process_at_put_job, process_at_put_inherited, process_at_put_fixed}
use Rattle.claims.proofs.Cross.{process_at_put_thread}
use Rattle.claims.proofs.Stays.{kill_kills}
use Rattle.claims.proofs.Quiet.{Quiet, exited_same, code_same}
use Rattle.claims.proofs.Does.{does_step}
use Rattle.claims.proofs.Does.Ways.{Does, rests, new_job_lem, new_process_lem, new_thread_lem, kills}
use Rattle.claims.proofs.Does.Ways.{exits, finishes}
use Rattle.claims.proofs.Codes.{Codes, codes_same, codes_both, codes_then, codes_put}
use Rattle.claims.proofs.Codes.{exited_again, codes_kill, codes_exit_process}
use Rattle.claims.proofs.Codes.{codes_end_process}
use Rattle.claims.proofs.Sound.{fresh_sound, sound_final, sound_step, closed_step}

-- ---- Codes -----------------------------------------------------------------------------------

Ends : Tables → Call → ℕ → ℤ → Type 0
Ends t c p z = EndsWith t p c z

kill_ends : (t : Tables) (c : Call) (p : ℕ) → Ends t c p KILL_CODE
unfolding Ends
kill_ends t c p = by_kill

codes_quiet : {E : ℕ → ℤ → Type 0} (t u : Tables) → Quiet t u → Codes E t u
codes_quiet t u q =
    record {
      kept = λ p x. sym (exited_again _ (exited_same q p ∙ x))
          ∙ ap (λ (z : ℤ). Exited z) (code_same q p) ∙ exited_again _ x;
      given = λ p x y. no_both y (exited_same q p ∙ x);
    }

no_code : (s : Status) → is_exited s ≡ false → code_of s ≡ pos 0
no_code Init e = refl
no_code Running e = refl
no_code (Exited z) e = no_both refl e

codes_finish : {t : Tables} {c : Call} → Tree t → (n : ℕ) → c ≡ cmd0c n
    → (thread_at t n).made ≡ true → Codes (Ends t c) t (finish_thread t n)
unfolding finish_thread Ends
codes_finish {t} {c} T n e m =
    let v : Thread = finish (thread_at t n) in
    let u : Tables = put_thread t n v in
    let p : ℕ = (thread_at t n).process in
    let at : process_at u p ≡ process_at t p = process_at_put_thread t n v p in
    let K : Codes (Ends t c) t u =
    codes_same t u (λ q. ap (λ (x : Process). x.status) (process_at_put_thread t n v q)) in
    let E : (s : Status) → is_exited s ≡ false → Ends t c p (code_of s) =
    λ s x. subst (λ (z : ℤ). EndsWith t p c z) (sym (no_code s x))
    (subst (λ d. EndsWith t p d (pos 0)) (sym e) (by_finish refl)) in
    if_on (Codes (Ends t c) t) (lists_thread u p) _ _ (λ l. K)
    (λ l. codes_both (λ q z x. x) K (codes_end_process (kill_ends t c) u p
    (ap (λ (q : Process). q.made) at ∙ T.process_made n m) (E (process_at u p).status)))

codes_does : {t u : Tables} {c : Call} → Does t c u → Tree t → Codes (Ends t c) t u
unfolding Ends
codes_does {t} {u} (rests q) T = codes_quiet t u q
codes_does {t} (new_job_lem j new m k h f) T =
    codes_same t (with_child t j new) (λ p. unfold with_child in
    (ap (λ (q : Process). q.status)
    (process_at_put_inherited _ new _ p ∙ process_at_put_job t new (new_job j) p)))
codes_does {t} {c = c} (new_process_lem j new m k h f) T =
    let x : Tables = put_process t new (new_process j) in
    let A : Codes (Ends t c) t x = codes_put t new (new_process j)
    (λ y. no_both y (ap (λ (q : Process). is_exited q.status) (T.process_unmade new f).0))
    (λ y z. no_both z refl) in
    codes_both (λ p z y. y) A (codes_same x (with_new_process t j new) (λ p. unfold with_new_process in
    (ap (λ (q : Process). q.status) (process_at_put_fixed x new _ p))))
codes_does {t} (new_thread_lem p new m x h f) T =
    codes_same t _ (λ i. ap (λ (q : Process). q.status)
    (process_at_put_thread t new (new_thread p) i))
codes_does {t} {c = c} (kills j m) T =
    codes_then (kill_ends t c) (codes_same t t (λ p. refl)) (codes_kill t j)
codes_does {t} {c = c} (exits {w = w} p code e q W) T =
    codes_both (λ i z y. y) (codes_quiet t w q) (codes_exit_process (kill_ends t c) w p code e)
codes_does (finishes n e m s w) T = codes_finish T n e m

-- ---- Kills -----------------------------------------------------------------------------------

module _ (t : Tables) (j : ℕ) where
  made_found : (job_at t j).made ≡ true → job t j ≡ found (job_at t j)
  unfolding present found_job
  made_found m =
      if_on (λ x. present x ≡ found (job_at t j)) _ _ _ (λ e. refl) (λ e. no_both m e)

  unmade_missing : (job_at t j).made ≡ false → job t j ≡ missing (pos 103)
  unfolding present found_job
  unmade_missing m =
      if_on (λ (x : Option Job). present x ≡ missing (pos 103)) _ _ _ (λ e. no_both e m) (λ e. refl)

  refused : (n : ℕ) → answered t (pos n) ≡ kill_job_call t j → (n ≡ 0 → ⊥)
      → (kill_job_call t j).answer ≡ pos 0 → (job_at (kill_job_call t j).tables j).killed ≡ true
  unfolding answered
  refused n e d a =
      absurd (d (pos_inj (ap (λ (r : Reply). r.answer) e ∙ a)))
    where
      pos_inj : pos n ≡ pos 0 → n ≡ 0
      pos_inj h = cc

  kill_accepted : (kill_job_call t j).answer ≡ pos 0
      → (job_at (kill_job_call t j).tables j).killed ≡ true
  unfolding kill_job_call answered
  kill_accepted a =
      by (32 ≤? j)
      (λ b. refused 101 (stops (answered t) (pos 101) _ b) (λ z. omega arith) a)
      (λ b. by (job_at t j).made
      (λ m. subst (λ (r : Reply). (job_at r.tables j).killed ≡ true)
      (passes (answered t) (pos 101) _ b (finds (answered t) _ (job_at t j) (made_found m)
      (accepts {x = answered (kill_job t j) (pos 0)} (answered t) refl))) (kill_kills t j m))
      (λ m. refused 103 (passes (answered t) (pos 101) _ b
      (fails (answered t) _ (pos 103) (unmade_missing m))) (λ z. omega arith) a))

-- ---- The claim -------------------------------------------------------------------------------

killed_at : {t : Tables} {j i : ℕ} → Sound t → AtOrAbove t j i → (job_at t j).killed ≡ true
    → (job_at t i).killed ≡ true
killed_at S here k = k
killed_at S (below {i = i} {p = p} e r) k = S.killed_below i p e (killed_at S r k)

kill_02 : (t : Tables) (j : ℕ) → (step t (cmd02 j)).answer ≡ pos 0
    → (job_at (step t (cmd02 j)).tables j).killed ≡ true
unfolding step
kill_02 t j = kill_accepted t j

stopped : (t : Tables) (c : Call) → Sound t → Stopped t c (step t c).tables
unfolding Ends
stopped t c S =
    let U : Sound (step t c).tables = sound_step t c S in
    let K : Codes (Ends t c) t (step t c).tables =
    codes_does (does_step t c S.tree) S.tree in
    record {
      kill = λ j e. subst (λ (d : Call). (step t d).answer ≡ pos 0
          → (job_at (step t d).tables j).killed ≡ true) (sym e) (kill_02 t j);
      bound = λ p j nonzero. (closed_step t c S).tied p j nonzero tt;
      jobs = λ j i k a. killed_at U a k;
      processes = λ j p k m a. U.killed_exited p m (killed_at U a k);
      kept = K.kept;
      codes = K.given;
    }

pub stops_whole : StopsWhole
unfolding StopsWhole
stops_whole before c = stopped (final fresh_tables before) c
    (sound_final fresh_tables before fresh_sound)
