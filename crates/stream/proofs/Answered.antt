-- The transcript is a line for each answer of the model. Assumes nothing.
use Prim.Native.Nat.{ℕ, zero, suc, ◌<◌}
use native.Mathlib.Omega.{arith}
use mathlib.Core.Path.{◌≡◌, refl, ap}
use mathlib.Core.List.{List, [], ◌∷◌, ◌++◌}
use borrow.Author.Tests.{ne_eqb}
use lib.ListN.{length, take, drop}
use Rattle.laws.specs.Choice.{◌=?◌, if◌then◌otherwise◌}
use Rattle.model.specs.Step.{Call, answers}
use Rattle.commands.specs.declared.Next.{Next}
use Rattle.commands.specs.declared.Next.TheVariants.{Wait, Stop, Whole}
use Rattle.commands.specs.Commands.{next_of}
use Rattle.commands.proofs.Stays.{left_less}
use Rattle.calls.specs.Calls.{Called, called, call_in, perform}
use Rattle.calls.proofs.Whole.{IsCall, is_call, whole_called}
use Rattle.stream_state.specs.declared.State.{State}
use Rattle.stream_state.specs.State.{next_number, stop_at, closing}
use Rattle.stream_state.specs.Recorder.{on_next, after, line_for, line}
use Rattle.stream.specs.Stream.{transcript_within, transcript, calls_of, calls_within, calls_in}
use Rattle.stream.specs.Stream.{left_within, left_in, lines_from}

-- where there is no command, something is left
stop_left : (bs l : List ℕ) → next_of bs ≡ Stop → l ≡ (if length bs =? 0 then [] otherwise l)
unfolding next_of if◌then◌otherwise◌
stop_left [] l e = let z : ◌≡◌ {A = ℕ} 0 1 = cc in absurd (omega arith)
stop_left (b ∷ bs) l e = rw (ne_eqb (length (b ∷ bs)) 0 (λ z. omega (arith, z)))

-- a call, and those after it
by_call : (s : State) {x : Called} → IsCall x → (lines : List ℕ) (cs : List Call) (left : List ℕ) →
    lines ≡ lines_from (next_number s.number) (answers (perform s.tables x).tables cs) left →
    line_for s (perform s.tables x) ++ lines
    ≡ lines_from s.number (answers s.tables (calls_of x ++ cs)) left
unfolding lines_from answers calls_of perform
by_call s (is_call c) lines cs left h = ap (λ (l : List ℕ). line_for s (perform s.tables (called c)) ++ l) h

-- by what stands at the front
by_front : (f : ℕ) (s : State) (bs : List ℕ) (x : Next) → next_of bs ≡ x → length bs < suc f →
    ((n : ℕ) → next_of bs ≡ Whole n → transcript_within f (after s n bs) (drop n bs)
    ≡ lines_from (after s n bs).number (answers (after s n bs).tables (calls_within f (drop n bs)))
    (left_within f (drop n bs))) →
    on_next x (closing s bs) (stop_at s)
    (λ n. line s n bs ++ transcript_within f (after s n bs) (drop n bs))
    ≡ lines_from s.number
    (answers s.tables (on_next x [] [] (λ n. calls_of (call_in (take n bs)) ++ calls_within f (drop n bs))))
    (on_next x bs bs (λ n. left_within f (drop n bs)))
unfolding lines_from answers closing
by_front f s bs Wait e l h = refl
by_front f s bs Stop e l h = stop_left bs (stop_at s) e
by_front f s bs (Whole n) e l h = by_call s (whole_called bs n e) _ _ _ (h n e)

within : (f : ℕ) (s : State) (bs : List ℕ) → length bs < f →
    transcript_within f s bs
    ≡ lines_from s.number (answers s.tables (calls_within f bs)) (left_within f bs)
unfolding transcript_within calls_within left_within
within zero s bs l = absurd (omega arith)
within (suc f) s bs l =
    by_front f s bs (next_of bs) refl l
    (λ n e. within f (after s n bs) (drop n bs) (omega (arith, left_less bs n e)))

pub as_answered_lem : (s : State) (bs : List ℕ) →
    transcript s bs ≡ lines_from s.number (answers s.tables (calls_in bs)) (left_in bs)
unfolding transcript calls_in left_in
as_answered_lem s bs = within (suc (length bs)) s bs (omega arith)
