-- The record of a suspend token. Follows suspend_token.rs.
use Rattle.std.specs.Prelude.{Some, None, Result, MatchResult}
use Rattle.std.specs.Prelude.{ℕ, ◌≡◌, ◌<◌, true, false}
use Rattle.laws.specs.Choice.{◌=?◌, if◌then◌otherwise◌}
use Rattle.record_token.specs.declared.Kind.{Kind}
use Rattle.record_token.specs.declared.Kind.TheVariants.{Job, Process, Thread}
use Rattle.record_token.specs.declared.SuspendToken.{SuspendToken}

-- ---- Kinds -----------------------------------------------------------------------------------

-- the number that a call names a kind by
abbrev pub number : Kind → ℕ
number Job = 0
number Process = 1
number Thread = 2

-- the kind of a number up to 2
unfoldable pub kind_of : ℕ → Kind
kind_of n = if n =? 0 then Job otherwise if n =? 1 then Process otherwise Thread

-- the kind of this number, or none has it
abbrev pub Numbered : ℕ → Result Kind Unit → Type 0
Numbered n r = MatchResult r (λ kind. number kind ≡ n) (λ e. 2 < n)

-- ---- Tokens ----------------------------------------------------------------------------------

-- never made
abbrev pub no_token : SuspendToken
no_token = record { made = false; task = None }

-- just made over a task
abbrev pub new_token : Kind → ℕ → SuspendToken
new_token kind name = record { made = true; task = Some (record { kind = kind; name = name }) }

-- dropped: the name stays used, and no task is kept
abbrev pub drop : SuspendToken → SuspendToken
drop k = record { made = k.made; task = None }
