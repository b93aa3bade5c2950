-- The transcript does not depend on the steps that it is given, so it is its own step:
--     transcript_is    a line and the transcript of the rest
-- Assumes nothing.
use Prim.Native.Nat.{ℕ, zero, suc, ◌<◌}
use native.Mathlib.Omega.{arith}
use mathlib.Core.Path.{◌≡◌, ap}
use mathlib.Core.List.{List, ◌++◌}
use lib.ListN.{length, drop}
use Rattle.commands.specs.declared.Next.TheVariants.{Whole}
use Rattle.commands.specs.Commands.{next_of}
use Rattle.commands.proofs.Stays.{left_less}
use Rattle.stream_state.specs.declared.State.{State}
use Rattle.stream_state.specs.State.{stop_at, closing}
use Rattle.stream_state.specs.Recorder.{after, line}
use Rattle.stream_state.proofs.Parts.{on_same}
use Rattle.stream.specs.Stream.{transcript_step, transcript_within, transcript}

transcript_step_same : (K L : State → List ℕ → List ℕ) (s : State) (bs : List ℕ) →
    ((n : ℕ) (u : State) → next_of bs ≡ Whole n → K u (drop n bs) ≡ L u (drop n bs)) →
    transcript_step K s bs ≡ transcript_step L s bs
transcript_step_same K L s bs h =
    on_same (next_of bs) (closing s bs) (stop_at s) (λ n. line s n bs ++ K (after s n bs) (drop n bs))
    (λ n. line s n bs ++ L (after s n bs) (drop n bs))
    (λ n e. ap (λ (l : List ℕ). line s n bs ++ l) (h n (after s n bs) e))

transcript_same : (f g : ℕ) (s : State) (bs : List ℕ) → length bs < f → length bs < g →
    transcript_within f s bs ≡ transcript_within g s bs
unfolding transcript_within
transcript_same zero g s bs l m = absurd (omega arith)
transcript_same (suc f) zero s bs l m = absurd (omega arith)
transcript_same (suc f) (suc g) s bs l m =
    transcript_step_same (λ u cs. transcript_within f u cs) (λ u cs. transcript_within g u cs) s bs
    (λ n u e. transcript_same f g u (drop n bs) (omega (arith, left_less bs n e)) (omega (
      arith,
      left_less bs n e,
    )))

pub transcript_is : (s : State) (bs : List ℕ) → transcript s bs ≡ transcript_step transcript s bs
unfolding transcript transcript_within
transcript_is s bs =
    transcript_step_same (λ u cs. transcript_within (length bs) u cs) transcript s bs
    (λ n u e. transcript_same (length bs) (suc (length (drop n bs))) u (drop n bs) (left_less bs n e)
    (omega arith))
