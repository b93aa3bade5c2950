-- A whole stream of commands and what is written for it: `transcript fresh_state bs` is all that the program writes
-- for the input bs, however it is cut into parts (document 01, Commands of the recorder).
use Rattle.std.specs.Prelude.{ℕ, zero, suc, ◌≡◌, false, List, [], ◌∷◌, ◌++◌, length, take, drop}
use Rattle.laws.specs.Choice.{◌=?◌, if◌then◌otherwise◌}
use Rattle.records.specs.Tables.{fresh_tables}
use Rattle.model.specs.Step.{Call, Shown, answers}
use Rattle.commands.specs.declared.Next.TheVariants.{Wait}
use Rattle.commands.specs.Commands.{next_of}
use Rattle.calls.specs.Calls.{Called, no_call, called, call_in}
use Rattle.lines.specs.Line.{line_of, stop_line}
use Rattle.stream_state.specs.declared.State.{State}
use Rattle.stream_state.specs.State.{next_number, fresh_state, stop_at, closing}
use Rattle.stream_state.specs.Recorder.{after, line, on_next, fed}

-- ---- The whole stream ----------------------------------------------------------------------

-- what stands at the front, and then the rest; the steps are never used up, since a command has a byte
abbrev pub transcript_step : (State → List ℕ → List ℕ) → State → List ℕ → List ℕ
transcript_step K s bs =
    on_next (next_of bs) (closing s bs) (stop_at s)
    (λ n. line s n bs ++ K (after s n bs) (drop n bs))

unfoldable pub transcript_within : ℕ → State → List ℕ → List ℕ
transcript_within zero s bs = []
transcript_within (suc f) s bs = transcript_step (λ u cs. transcript_within f u cs) s bs

unfoldable pub transcript : State → List ℕ → List ℕ
transcript s bs = transcript_within (suc (length bs)) s bs

-- ---- Any cut into parts --------------------------------------------------------------------

pub data Event : Type 0 where
  read : List ℕ → Event  -- these bytes come
  call : ℕ → Event  -- `feed` is called on what is there, with room for so many bytes

-- the bytes that come
abbrev pub bytes_of : List Event → List ℕ
bytes_of [] = []
bytes_of (read bs ∷ es) = bs ++ bytes_of es
bytes_of (call room ∷ es) = bytes_of es

-- what is written in all: bs are there and not yet used, and after the events the input ends
abbrev pub progress : State → List ℕ → List Event → List ℕ
progress s bs [] = closing s bs
progress s bs (read cs ∷ es) = progress s (bs ++ cs) es
progress s bs (call room ∷ es) =
    let p = fed room s bs in
    p.lines ++ (if p.finished then [] otherwise progress p.state (drop p.consumed bs) es)

-- reading ends only where a call has finished the stream, or no whole command is left
abbrev pub Drained : State → List ℕ → List Event → Type 0
Drained s bs [] = next_of bs ≡ Wait
Drained s bs (read cs ∷ es) = Drained s (bs ++ cs) es
Drained s bs (call room ∷ es) =
    let p = fed room s bs in
    p.finished ≡ false → Drained p.state (drop p.consumed bs) es

-- ---- As the model answers ------------------------------------------------------------------

-- a call, if there is one
unfoldable pub calls_of : Called → List Call
calls_of no_call = []
calls_of (called c) = c ∷ []

-- the calls of a stream, up to its end or to what is no command
unfoldable pub calls_within : ℕ → List ℕ → List Call
calls_within zero bs = []
calls_within (suc f) bs =
    on_next (next_of bs) [] [] (λ n. calls_of (call_in (take n bs)) ++ calls_within f (drop n bs))

unfoldable pub calls_in : List ℕ → List Call
calls_in bs = calls_within (suc (length bs)) bs

-- what is left after them
unfoldable pub left_within : ℕ → List ℕ → List ℕ
left_within zero bs = []
left_within (suc f) bs = on_next (next_of bs) bs bs (λ n. left_within f (drop n bs))

unfoldable pub left_in : List ℕ → List ℕ
left_in bs = left_within (suc (length bs)) bs

-- a line for each answer, numbered from the one after n; then `stop`, if anything is left
unfoldable pub lines_from : ℕ → List Shown → List ℕ → List ℕ
lines_from n [] left = if length left =? 0 then [] otherwise stop_line (next_number n)
lines_from n (x ∷ l) left =
    line_of (next_number n) x.answer x.fields x.policy ++ lines_from (next_number n) l left

-- ---- The claim -----------------------------------------------------------------------------

pub record Stream : Type 0 where
  -- any reads and calls, with any room, write the transcript of all that was read
  pub any_parts : (es : List Event) → Drained fresh_state [] es →
      progress fresh_state [] es ≡ transcript fresh_state (bytes_of es)
  -- and that is a line for each answer of the model to the calls that were read
  pub as_answered : (bs : List ℕ) →
      transcript fresh_state bs ≡ lines_from 0 (answers fresh_tables (calls_in bs)) (left_in bs)
