-- Where a stream of commands stands, and what is written at its end. Lines are numbered from 1. A command that the
-- end of the input cuts writes the number and `stop` (document 01, Commands of the recorder).
use Rattle.std.specs.Prelude.{ℕ, ◌+◌, List, [], length}
use Rattle.laws.specs.Choice.{◌<?◌, ◌=?◌, if◌then◌otherwise◌}
use Rattle.records.specs.declared.tables.Tables.{Tables}
use Rattle.records.specs.Tables.{fresh_tables}
use Rattle.lines.specs.Line.{stop_line, within}
use Rattle.stream_state.specs.declared.State.{State}

-- 2 ^ 64 - 1 is the last number
unfoldable pub next_number : ℕ → ℕ
next_number n = if n <? 18446744073709551615 then n + 1 otherwise n

abbrev pub state_of : Tables → ℕ → State
state_of t n = record { tables = t; number = n }

abbrev pub fresh_state : State
fresh_state = state_of fresh_tables 0

abbrev pub stop_at : State → List ℕ
stop_at s = stop_line (next_number s.number)

-- what is written at the end of the input, where bs are left
unfoldable pub closing : State → List ℕ → List ℕ
closing s bs = if length bs =? 0 then [] otherwise stop_at s

-- what a call of `close` writes
abbrev pub closed_within : ℕ → State → List ℕ → List ℕ
closed_within room s bs = within room (closing s bs)
