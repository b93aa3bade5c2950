-- A part of the stream does not depend on the steps that it is given, so it is its own step.
--     fed_is           a part of the stream is a command and the part after it
-- Assumes nothing.
use Prim.Native.Nat.{ℕ, zero, suc, ◌-◌, ◌<◌}
use native.Mathlib.Omega.{arith}
use mathlib.Core.Path.{◌≡◌, refl, ap}
use mathlib.Core.Bool.{true, false}
use mathlib.Core.List.{List, []}
use lib.Dec.{ltb}
use lib.ListN.{length, drop}
use Rattle.laws.specs.Choice.{if◌then◌otherwise◌}
use Rattle.commands.specs.declared.Next.{Next}
use Rattle.commands.specs.declared.Next.TheVariants.{Wait, Stop, Whole}
use Rattle.commands.specs.Commands.{next_of}
use Rattle.commands.proofs.Stays.{left_less}
use Rattle.stream_state.specs.declared.State.{State}
use Rattle.stream_state.specs.State.{stop_at}
use Rattle.stream_state.specs.Recorder.{on_next, after, line, Part, part, ahead}
use Rattle.stream_state.specs.Recorder.{fed_step, fed_within, fed}

pub on_same : {A : Type 0} (x : Next) (a b : A) (K L : ℕ → A) → ((n : ℕ) → x ≡ Whole n → K n ≡ L n) →
    on_next x a b K ≡ on_next x a b L
on_same Wait a b K L h = refl
on_same Stop a b K L h = refl
on_same (Whole n) a b K L h = h n refl

-- ---- parts
fed_step_same : (K L : ℕ → State → List ℕ → Part) (room : ℕ) (s : State) (bs : List ℕ) →
    ((n r : ℕ) (u : State) → next_of bs ≡ Whole n → K r u (drop n bs) ≡ L r u (drop n bs)) →
    fed_step K room s bs ≡ fed_step L room s bs
fed_step_same K L room s bs h =
    ap (λ (p : Part). if ltb room 128 then part s 0 [] false otherwise p)
    (on_same (next_of bs) (part s 0 [] false) (part s 0 (stop_at s) true)
    (λ n. ahead n (line s n bs) (K (room - length (line s n bs)) (after s n bs) (drop n bs)))
    (λ n. ahead n (line s n bs) (L (room - length (line s n bs)) (after s n bs) (drop n bs)))
    (λ n e. ap (ahead n (line s n bs)) (h n (room - length (line s n bs)) (after s n bs) e)))

fed_same : (f g room : ℕ) (s : State) (bs : List ℕ) → length bs < f → length bs < g →
    fed_within f room s bs ≡ fed_within g room s bs
unfolding fed_within
fed_same zero g room s bs l m = absurd (omega arith)
fed_same (suc f) zero room s bs l m = absurd (omega arith)
fed_same (suc f) (suc g) room s bs l m =
    fed_step_same (λ r u cs. fed_within f r u cs) (λ r u cs. fed_within g r u cs) room s bs
    (λ n r u e. fed_same f g r u (drop n bs) (omega (arith, left_less bs n e)) (omega (
      arith,
      left_less bs n e,
    )))

pub fed_is : (room : ℕ) (s : State) (bs : List ℕ) → fed room s bs ≡ fed_step fed room s bs
unfolding fed fed_within
fed_is room s bs =
    fed_step_same (λ r u cs. fed_within (length bs) r u cs) fed room s bs
    (λ n r u e. fed_same (length bs) (suc (length (drop n bs))) r u (drop n bs) (left_less bs n e)
    (omega arith))
