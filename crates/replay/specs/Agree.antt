-- What it means that the recorded lines agree with what was written, and how a list stands after that.
use Rattle.std.specs.Prelude.{ℕ, suc, ◌+◌, ◌-◌, ◌^◌, ◌≡◌, Bool, true, false, List, [], ◌∷◌, length, min}
use Rattle.std.specs.Prelude.{◌≤◌, take, Option, None, Some, Result, Ok, Err}
use Rattle.std.specs.List.{ends_with}
use Rattle.std.specs.Int.{from_le_bytes, w32}
use Rattle.laws.specs.Choice.{◌<?◌, ◌=?◌, ◌and◌, if◌then◌otherwise◌, ite}
use Rattle.replay.specs.declared.recorded.Lines.{Lines}
use Rattle.replay.specs.declared.list.Progress.{Progress}
use Rattle.replay.specs.declared.recorded.Fault.{Fault}
use Rattle.replay.specs.declared.recorded.Fault.TheVariants.{Differs, Cut}

-- ---- Bytes ---------------------------------------------------------------------------------

-- how long the longest front is that both have
unfoldable pub common : List ℕ → List ℕ → ℕ
common [] b = 0
common (x ∷ a) [] = 0
common (x ∷ a) (y ∷ b) = ite (x =? y) (λ _. suc (common a b)) λ _. 0

-- b begins with all of a
unfoldable pub begins : List ℕ → List ℕ → Bool
begins [] b = true
begins (x ∷ a) [] = false
begins (x ∷ a) (y ∷ b) = (x =? y) and begins a b

-- the last line of the text is a stop
abbrev pub is_stop : List ℕ → Bool
is_stop l = ends_with ◌=?◌ l (115 ∷ 116 ∷ 111 ∷ 112 ∷ 10 ∷ [])

-- ---- Numbers -------------------------------------------------------------------------------

-- the sum, or the largest number
abbrev pub capped : ℕ → ℕ → ℕ
capped a b = min (a + b) (2 ^ 64 - 1)

-- four bytes, the lowest first
abbrev pub number : List ℕ → ℕ
number b = from_le_bytes w32 b

-- what a length is where so many of its four bytes came: none at the end of the file
unfoldable pub length_of : ℕ → List ℕ → Result (Option ℕ) Fault
length_of got b =
    if got =? 0 then Ok None otherwise if got <? 4 then Err (Cut 0) otherwise Ok (Some (number b))

-- ---- How a list stands ---------------------------------------------------------------------

abbrev pub lines_from : ℕ → Lines
lines_from end = record { end = end; at = 0; stop = false }

-- the lines of an entry, by what their length is
unfoldable pub lines_behind : Option ℕ → Result Lines Fault
lines_behind None = Err (Cut 0)
lines_behind (Some n) = Ok (lines_from n)

-- how many bytes agreed once w was written, and r came of the recorded lines
abbrev pub agreed : Lines → (w r : List ℕ) → ℕ
agreed l w r = capped l.at (common w r)

-- after w was written, and r came of the recorded lines: w has to stand there whole. The file is cut where less came
-- than was written and was still to come
unfoldable pub judged : Lines → (w r : List ℕ) → Result Lines Fault
judged l [] r = Ok l
judged l (x ∷ w) r =
    if begins (x ∷ w) r
    then Ok (record { end = l.end; at = agreed l (x ∷ w) r; stop = is_stop (x ∷ w) })
    otherwise
    (if length r <? min (length (x ∷ w)) (l.end - l.at)
    then Err (Cut (agreed l (x ∷ w) r))
    otherwise Err (Differs (agreed l (x ∷ w) r)))

-- `got` bytes came, none from behind the list's lines, and the list stands as they say
pub record Compares (l : Lines) (w want : List ℕ) (r : Result Lines Fault) : Type 0 where
  pub got : ℕ
  pub within : got ≤ l.end - l.at
  pub judges : r ≡ judged l w (take got want)

-- the end of the list: what else has to hold does, and no line is left
abbrev pub over : Lines → Bool → Result ℕ Fault
over l holds = if holds and (l.at =? l.end) then Ok l.at otherwise Err (Differs l.at)

-- what stands behind the calls that were read was passed over, or the file of calls ends there
unfoldable pub passed : ℕ → Bool → Result ℕ Fault
passed n there = if there then Ok n otherwise Err (Cut n)

-- ---- A whole list --------------------------------------------------------------------------

-- the first fault ends it
unfoldable pub and_then : {A B : Type 0} → Result A Fault → (A → Result B Fault) → Result B Fault
and_then (Ok x) f = f x
and_then (Err e) f = Err e

-- what happens to a list's lines: they are compared with what was written, or the file of calls ends too early
pub data Event : Type 0 where
  compared : (written came : List ℕ) → Event
  calls_end : Event

unfoldable pub after : Lines → List Event → Result Lines Fault
after l [] = Ok l
after l (compared w r ∷ es) = and_then (judged l w r) λ m. after m es
after l (calls_end ∷ es) = Err (Cut l.at)

-- the lines of a list that stands so
unfoldable pub lines_of : Result Progress Fault → Result Lines Fault
lines_of (Ok p) = Ok p.lines
lines_of (Err e) = Err e

-- r is what comes of l after some events
pub record Follows (l : Lines) (r : Result Lines Fault) : Type 0 where
  pub events : List Event
  pub are : r ≡ after l events

-- the same, and then at the end of the list
pub record Finishes (l : Lines) (r : Result ℕ Fault) : Type 0 where
  pub events : List Event
  pub holds : Bool
  pub are : r ≡ and_then (after l events) λ m. over m holds

-- the same, and then what stands behind the calls is passed over
pub record Replays (l : Lines) (r : Result ℕ Fault) : Type 0 where
  pub events : List Event
  pub holds : Bool
  pub there : Bool
  pub are : r ≡ and_then (and_then (after l events) λ m. over m holds) λ n. passed n there
