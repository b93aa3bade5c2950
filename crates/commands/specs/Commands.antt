-- The commands 01 to 1f as bytes: one command byte, then operands, little-endian (document 01,
-- Commands of the recorder). A byte past the end is 0.
use Rattle.std.specs.Prelude.{ℕ, ◌+◌, ◌-◌, ◌*◌, List, [], ◌∷◌, ℤ, pos, negsuc, length, get_or}
use Rattle.laws.specs.Choice.{◌<?◌, ◌=?◌, ◌and◌, if◌then◌otherwise◌}
use Rattle.job_policy.specs.declared.BasicPolicy.{BasicPolicy}
use Rattle.commands.specs.declared.Next.{Next}
use Rattle.commands.specs.declared.Next.TheVariants.{Wait, Stop, Whole}

abbrev pub byte : List ℕ → ℕ → ℕ
byte bs i = get_or bs i 0

-- two, four and eight bytes from byte i, the lowest first
abbrev pub half : List ℕ → ℕ → ℕ
half bs i = byte bs i + 0x100 * byte bs (i + 1)

abbrev pub word : List ℕ → ℕ → ℕ
word bs i = half bs i + 0x10000 * half bs (i + 2)

abbrev pub long : List ℕ → ℕ → ℕ
long bs i = word bs i + 0x100000000 * word bs (i + 4)

-- the signed number of 64 bits
unfoldable pub signed64 : ℕ → ℤ
signed64 n = if n <? 0x8000000000000000 then pos n otherwise negsuc (0xffffffffffffffff - n)

-- a condition and an action
abbrev pub pair_at : List ℕ → ℕ → BasicPolicy
pair_at bs i = record { condition = byte bs i; action = byte bs (i + 1) }

-- the four pairs of 0f
abbrev pub pairs_at : List ℕ → List BasicPolicy
pairs_at bs = pair_at bs 4 ∷ pair_at bs 6 ∷ pair_at bs 8 ∷ pair_at bs 10 ∷ []

-- an entry that no command has
abbrev pub no_pair : BasicPolicy
no_pair = record { condition = 0; action = 0 }

-- the four, and eleven more, so that they are as many as there are conditions
abbrev pub fifteen_at : List ℕ → List BasicPolicy
fifteen_at bs =
    pair_at bs 4 ∷ pair_at bs 6 ∷ pair_at bs 8 ∷ pair_at bs 10 ∷
    no_pair ∷ no_pair ∷ no_pair ∷ no_pair ∷ no_pair ∷ no_pair ∷
    no_pair ∷ no_pair ∷ no_pair ∷ no_pair ∷ no_pair ∷ []

-- the bytes of each command, 00 to 1f; 0 for no command
abbrev pub sizes : List ℕ
sizes =
    0 ∷ 3 ∷ 2 ∷ 3 ∷ 3 ∷ 10 ∷ 2 ∷ 4 ∷ 3 ∷ 2 ∷ 2 ∷ 2 ∷ 2 ∷ 4 ∷ 2 ∷ 12 ∷
    11 ∷ 3 ∷ 3 ∷ 3 ∷ 4 ∷ 2 ∷ 6 ∷ 6 ∷ 2 ∷ 4 ∷ 3 ∷ 2 ∷ 2 ∷ 2 ∷ 3 ∷ 3 ∷ []

unfoldable pub size_of : ℕ → ℕ
size_of code = get_or sizes code 0

-- what stands at the front of some bytes; 0f with a count above 4 is no command
unfoldable pub next_of : List ℕ → Next
next_of bs =
    if length bs =? 0 then Wait otherwise
    if size_of (byte bs 0) =? 0 then Stop otherwise
    if length bs <? size_of (byte bs 0) then Wait otherwise
    if (byte bs 0 =? 0x0f) and (4 <? byte bs 3) then Stop otherwise
    Whole (size_of (byte bs 0))
