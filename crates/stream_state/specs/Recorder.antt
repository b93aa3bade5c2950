-- A part of a stream of commands and what is written for it (`fed`). The whole is in `stream`.
-- Lines are numbered from 1. What is no command, and a command that the end of the input cuts, writes
-- the number and `stop`, and nothing follows (document 01, Commands of the recorder).
use Rattle.std.specs.Prelude.{ℕ, zero, suc, ◌+◌, ◌-◌, ◌≡◌, Bool, true, false, List, [], ◌++◌, length, take, drop}
use Rattle.laws.specs.Choice.{◌<?◌, if◌then◌otherwise◌}
use Rattle.records.specs.declared.tables.Tables.{Tables}
use Rattle.reply.specs.declared.Reply.{Reply}
use Rattle.commands.specs.declared.Next.{Next}
use Rattle.commands.specs.declared.Next.TheVariants.{Wait, Stop, Whole}
use Rattle.commands.specs.Commands.{next_of}
use Rattle.calls.specs.Calls.{call_in, perform}
use Rattle.lines.specs.Line.{line_of}
use Rattle.stream_state.specs.declared.State.{State}
use Rattle.stream_state.specs.State.{next_number, state_of, stop_at}
use Rattle.stream_state.specs.declared.fed.Fed.{Fed}

-- ---- A command and its line -------------------------------------------------------------------

-- the command at the front has n bytes: its reply, the state after it, its line
abbrev pub reply_to : State → ℕ → List ℕ → Reply
reply_to s n bs = perform s.tables (call_in (take n bs))

abbrev pub after : State → ℕ → List ℕ → State
after s n bs = state_of (reply_to s n bs).tables (next_number s.number)

abbrev pub line_for : State → Reply → List ℕ
line_for s r = line_of (next_number s.number) r.answer r.fields r.policy

abbrev pub line : State → ℕ → List ℕ → List ℕ
line s n bs = line_for s (reply_to s n bs)

abbrev pub on_next : {A : Type 0} → Next → A → A → (ℕ → A) → A
on_next Wait w s f = w
on_next Stop w s f = s
on_next (Whole n) w s f = f n

-- ---- A part of it, with room for so many bytes of lines -------------------------------------

pub record Part : Type 0 where
  pub state : State
  pub consumed : ℕ
  pub lines : List ℕ
  pub finished : Bool

abbrev pub part : State → ℕ → List ℕ → Bool → Part
part s c l b = record { state = s; consumed = c; lines = l; finished = b }

-- c bytes and the lines l before a part
abbrev pub ahead : ℕ → List ℕ → Part → Part
ahead c l p = part p.state (c + p.consumed) (l ++ p.lines) p.finished

-- no line is begun without room for the longest
abbrev pub fed_step : (ℕ → State → List ℕ → Part) → ℕ → State → List ℕ → Part
fed_step K room s bs =
    if room <? 128 then part s 0 [] false otherwise
    on_next (next_of bs) (part s 0 [] false) (part s 0 (stop_at s) true)
    (λ n. ahead n (line s n bs) (K (room - length (line s n bs)) (after s n bs) (drop n bs)))

unfoldable pub fed_within : ℕ → ℕ → State → List ℕ → Part
fed_within zero room s bs = part s 0 [] false
fed_within (suc f) room s bs = fed_step (λ r u cs. fed_within f r u cs) room s bs

unfoldable pub fed : ℕ → State → List ℕ → Part
fed room s bs = fed_within (suc (length bs)) room s bs

abbrev pub fed_at : Tables → ℕ → ℕ → ℕ → Bool → Fed
fed_at t number consumed written finished =
    record { state = state_of t number; consumed = consumed; written = written; finished = finished }

-- what a call of `feed` returns and leaves in the buffer
pub record Feeds (p : Part) (r : Fed) (out : List ℕ) : Type 0 where
  pub state : r.state ≡ p.state
  pub consumed : r.consumed ≡ p.consumed
  pub finished : r.finished ≡ p.finished
  pub written : r.written ≡ length p.lines
  pub lines : take r.written out ≡ p.lines
