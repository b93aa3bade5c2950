-- The relation after a store of a policy or a token: as Writes, for the tables beside. Assumes
-- nothing.
use Prim.Native.Nat.{ℕ}
use mathlib.Core.Path.{◌≡◌, sym, ◌∙◌, subst}
use mathlib.Core.Bool.{false}
use Rattle.job_policy.specs.declared.JobPolicy.{JobPolicy}
use Rattle.record_token.specs.declared.SuspendToken.{SuspendToken}
use Rattle.records.specs.declared.tables.Tables.{Tables}
use Rattle.records.specs.Tables.{job_at, own_at, inherited_at, process_at, fixed_at, thread_at, token_at}
use Rattle.records.specs.Tables.{put_own, put_inherited, put_fixed, put_token}
use Rattle.claims.specs.Separation.{Trip}
use Rattle.claims.proofs.SideTables.{on_own, on_own₂, on_inherited, on_inherited₂, on_fixed}
use Rattle.claims.proofs.SideTables.{on_fixed₂, on_token, on_token₂}
use Rattle.claims.proofs.Lengths.{own_long, inherited_long, fixed_long, tokens_long}
use Rattle.claims.proofs.Lengths.{put_own_lengths, put_inherited_lengths, put_fixed_lengths}
use Rattle.claims.proofs.Lengths.{put_token_lengths}
use Rattle.claims.proofs.Separation.Agree.{TokenFits, Alike, Agree}

module _ {x y : Trip} {s t : Tables} (r : Agree x y s t) where
  -- ---- own ----------------------------------------------------------------------------------

  pub put_own_one : (i : ℕ) (v : JobPolicy) → (x.jobs i ≡ false → v ≡ (own_at t i)) →
      Agree x y (put_own s i v) t
  unfolding job_at inherited_at process_at fixed_at thread_at token_at put_own
  put_own_one i v h =
      record {
        apart = r.apart;
        long = put_own_lengths s i v ∙ r.long;
        jobs = r.jobs;
        own = λ k. on_own (λ u. (x.jobs k ≡ false → u ≡ (own_at t k))) s i k v
            (λ e. subst (λ (m : ℕ). (x.jobs m ≡ false → v ≡ (own_at t m))) (sym e) h) (r.own k);
        inherited = r.inherited;
        processes = r.processes;
        fixed = r.fixed;
        threads = r.threads;
        tokens = r.tokens;
      }

  pub put_own_two : (i : ℕ) (v w : JobPolicy) → (x.jobs i ≡ false → v ≡ w) →
      Agree x y (put_own s i v) (put_own t i w)
  unfolding job_at inherited_at process_at fixed_at thread_at token_at put_own
  put_own_two i v w h =
      record {
        apart = r.apart;
        long = put_own_lengths s i v ∙ r.long ∙ sym (put_own_lengths t i w);
        jobs = r.jobs;
        own = λ k. on_own₂ (λ u z. (x.jobs k ≡ false → u ≡ z)) s t i k v w
            (own_long s t r.long)
            (λ e. subst (λ (m : ℕ). (x.jobs m ≡ false → v ≡ w)) (sym e) h) (r.own k);
        inherited = r.inherited;
        processes = r.processes;
        fixed = r.fixed;
        threads = r.threads;
        tokens = r.tokens;
      }

  -- ---- inherited ----------------------------------------------------------------------------

  pub put_inherited_one : (i : ℕ) (v : JobPolicy) → (x.jobs i ≡ false → v ≡ (inherited_at t i)) →
      Agree x y (put_inherited s i v) t
  unfolding job_at own_at process_at fixed_at thread_at token_at put_inherited
  put_inherited_one i v h =
      record {
        apart = r.apart;
        long = put_inherited_lengths s i v ∙ r.long;
        jobs = r.jobs;
        own = r.own;
        inherited = λ k. on_inherited (λ u. (x.jobs k ≡ false → u ≡ (inherited_at t k))) s i k v
            (λ e. subst (λ (m : ℕ). (x.jobs m ≡ false → v ≡ (inherited_at t m))) (sym e) h)
            (r.inherited k);
        processes = r.processes;
        fixed = r.fixed;
        threads = r.threads;
        tokens = r.tokens;
      }

  pub put_inherited_two : (i : ℕ) (v w : JobPolicy) → (x.jobs i ≡ false → v ≡ w) →
      Agree x y (put_inherited s i v) (put_inherited t i w)
  unfolding job_at own_at process_at fixed_at thread_at token_at put_inherited
  put_inherited_two i v w h =
      record {
        apart = r.apart;
        long = put_inherited_lengths s i v ∙ r.long ∙ sym (put_inherited_lengths t i w);
        jobs = r.jobs;
        own = r.own;
        inherited = λ k. on_inherited₂ (λ u z. (x.jobs k ≡ false → u ≡ z)) s t i k v w
            (inherited_long s t r.long)
            (λ e. subst (λ (m : ℕ). (x.jobs m ≡ false → v ≡ w)) (sym e) h) (r.inherited k);
        processes = r.processes;
        fixed = r.fixed;
        threads = r.threads;
        tokens = r.tokens;
      }

  -- ---- fixed --------------------------------------------------------------------------------

  pub put_fixed_one : (i : ℕ) (v : JobPolicy) → (x.processes i ≡ false → v ≡ (fixed_at t i)) →
      Agree x y (put_fixed s i v) t
  unfolding job_at own_at inherited_at process_at thread_at token_at put_fixed
  put_fixed_one i v h =
      record {
        apart = r.apart;
        long = put_fixed_lengths s i v ∙ r.long;
        jobs = r.jobs;
        own = r.own;
        inherited = r.inherited;
        processes = r.processes;
        fixed = λ k. on_fixed (λ u. (x.processes k ≡ false → u ≡ (fixed_at t k))) s i k v
            (λ e. subst (λ (m : ℕ). (x.processes m ≡ false → v ≡ (fixed_at t m))) (sym e) h)
            (r.fixed k);
        threads = r.threads;
        tokens = r.tokens;
      }

  pub put_fixed_two : (i : ℕ) (v w : JobPolicy) → (x.processes i ≡ false → v ≡ w) →
      Agree x y (put_fixed s i v) (put_fixed t i w)
  unfolding job_at own_at inherited_at process_at thread_at token_at put_fixed
  put_fixed_two i v w h =
      record {
        apart = r.apart;
        long = put_fixed_lengths s i v ∙ r.long ∙ sym (put_fixed_lengths t i w);
        jobs = r.jobs;
        own = r.own;
        inherited = r.inherited;
        processes = r.processes;
        fixed = λ k. on_fixed₂ (λ u z. (x.processes k ≡ false → u ≡ z)) s t i k v w
            (fixed_long s t r.long)
            (λ e. subst (λ (m : ℕ). (x.processes m ≡ false → v ≡ w)) (sym e) h) (r.fixed k);
        threads = r.threads;
        tokens = r.tokens;
      }

  -- ---- tokens -------------------------------------------------------------------------------

  pub put_token_one : (i : ℕ) (v : SuspendToken) → Alike (TokenFits x y i) (x.tokens i) v
      (token_at t i) →
      Agree x y (put_token s i v) t
  unfolding job_at own_at inherited_at process_at fixed_at thread_at put_token
  put_token_one i v h =
      record {
        apart = r.apart;
        long = put_token_lengths s i v ∙ r.long;
        jobs = r.jobs;
        own = r.own;
        inherited = r.inherited;
        processes = r.processes;
        fixed = r.fixed;
        threads = r.threads;
        tokens = λ k. on_token (λ u. Alike (TokenFits x y k) (x.tokens k) u (token_at t k)) s i k v
            (λ e. subst (λ (m : ℕ). Alike (TokenFits x y m) (x.tokens m) v (token_at t m))
            (sym e) h) (r.tokens k);
      }

  pub put_token_two : (i : ℕ) (v w : SuspendToken) → Alike (TokenFits x y i) (x.tokens i) v w →
      Agree x y (put_token s i v) (put_token t i w)
  unfolding job_at own_at inherited_at process_at fixed_at thread_at put_token
  put_token_two i v w h =
      record {
        apart = r.apart;
        long = put_token_lengths s i v ∙ r.long ∙ sym (put_token_lengths t i w);
        jobs = r.jobs;
        own = r.own;
        inherited = r.inherited;
        processes = r.processes;
        fixed = r.fixed;
        threads = r.threads;
        tokens = λ k. on_token₂ (λ u z. Alike (TokenFits x y k) (x.tokens k) u z) s t i k v w
            (tokens_long s t r.long)
            (λ e. subst (λ (m : ℕ). Alike (TokenFits x y m) (x.tokens m) v w) (sym e) h)
            (r.tokens k);
      }
