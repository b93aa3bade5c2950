-- A reply as a line of text, in ASCII: the call's number, its answer, then its fields, each after
-- one space. Read it beside document 01, "Commands of the recorder".
use Rattle.std.specs.Prelude.{Option, Some, None}
use Rattle.std.specs.Prelude.{ℕ, zero, suc, ◌+◌, ◌/◌, ◌%◌, ◌≡◌, Bool, true, false}
use Rattle.std.specs.Prelude.{List, [], ◌∷◌, ◌++◌, ℤ, pos, negsuc, length, take}
use Rattle.laws.specs.Choice.{◌<?◌, if◌then◌otherwise◌}
use Rattle.job_policy.specs.Policy.{get_action}
use Rattle.job_policy.specs.declared.JobPolicy.{JobPolicy}
use Rattle.reply.specs.declared.Fields.{Fields}
use Rattle.reply.specs.declared.Fields.TheVariants.{NoFields, OwnerField, JobFields}
use Rattle.reply.specs.declared.Fields.TheVariants.{ProcessFields, ThreadFields}

-- ---- Characters ----------------------------------------------------------------------------

abbrev pub SPACE : ℕ
SPACE = 32

abbrev pub NEWLINE : ℕ
NEWLINE = 10

abbrev pub MINUS : ℕ
MINUS = 45

abbrev pub digit : ℕ → ℕ
digit d = 48 + d

-- ---- Numbers -------------------------------------------------------------------------------

-- a number of at most f + 1 digits: one digit, or the text of n / 10 and then the last digit
unfoldable pub text_within : ℕ → ℕ → List ℕ
text_within zero n = digit (n % 10) ∷ []
text_within (suc f) n =
    if n <? 10 then digit n ∷ [] otherwise
    text_within f (n / 10) ++ digit (n % 10) ∷ []

-- a number of 64 bits has at most 20 digits
unfoldable pub decimal_text : ℕ → List ℕ
decimal_text n = text_within 19 n

-- the last k digits of n, zeros in front too
unfoldable pub last_digits : ℕ → ℕ → List ℕ
last_digits zero n = []
last_digits (suc k) n = last_digits k (n / 10) ++ digit (n % 10) ∷ []

unfoldable pub signed_text : ℤ → List ℕ
signed_text (pos n) = decimal_text n
signed_text (negsuc n) = MINUS ∷ decimal_text (suc n)

unfoldable pub flag_text : Bool → List ℕ
flag_text true = digit 1 ∷ []
flag_text false = digit 0 ∷ []

-- ---- A policy ------------------------------------------------------------------------------

-- an action is one digit
unfoldable pub action_char : Option ℕ → ℕ
action_char None = MINUS
action_char (Some a) = digit (a % 10)

-- the characters of conditions 0 to n - 1
unfoldable pub policy_chars : JobPolicy → ℕ → List ℕ
policy_chars p zero = []
policy_chars p (suc n) = policy_chars p n ++ action_char (get_action p n) ∷ []

unfoldable pub policy_text : JobPolicy → List ℕ
policy_text p = policy_chars p 15

-- ---- A line --------------------------------------------------------------------------------

-- a field stands after a space
abbrev pub field : List ℕ → List ℕ
field text = SPACE ∷ text

unfoldable pub job_text : (killed terminated : Bool) (amount : ℤ) (mode : ℕ) → JobPolicy → List ℕ
job_text killed terminated amount mode policy =
    field (flag_text killed) ++ field (flag_text terminated) ++ field (signed_text amount)
    ++ field (decimal_text mode) ++ field (policy_text policy)

unfoldable pub process_text : (code : ℤ) (started exited debugger terminated : Bool) → List ℕ
process_text code started exited debugger terminated =
    field (signed_text code) ++ field (flag_text started) ++ field (flag_text exited)
    ++ field (flag_text debugger) ++ field (flag_text terminated)

unfoldable pub thread_text : (state level suspends : ℕ) → List ℕ
thread_text state level suspends =
    field (decimal_text state) ++ field (decimal_text level) ++ field (decimal_text suspends)

unfoldable pub fields_text : Fields → JobPolicy → List ℕ
fields_text NoFields p = []
fields_text (OwnerField n) p = field (decimal_text n)
fields_text (JobFields k t a m) p = job_text k t a m p
fields_text (ProcessFields c s e d t) p = process_text c s e d t
fields_text (ThreadFields s l n) p = thread_text s l n

abbrev pub line_with : (number : ℕ) (answer : ℤ) (fields : List ℕ) → List ℕ
line_with number answer fields =
    decimal_text number ++ field (signed_text answer) ++ fields ++ NEWLINE ∷ []

unfoldable pub line_of : (number : ℕ) (answer : ℤ) → Fields → JobPolicy → List ℕ
line_of number answer fields p = line_with number answer (fields_text fields p)

-- s, t, o, p
unfoldable pub stop_line : (number : ℕ) → List ℕ
stop_line number = decimal_text number ++ field (115 ∷ 116 ∷ 111 ∷ 112 ∷ NEWLINE ∷ [])

-- nothing, where there is no room for every line
unfoldable pub within : (room : ℕ) (line : List ℕ) → List ℕ
within room line = if room <? 128 then [] otherwise line

-- ---- What the contracts say ----------------------------------------------------------------

-- text stands in a buffer from `at` to r, and what was before `at` is as it was
pub record Put (before now : List ℕ) (at r : ℕ) (text : List ℕ) : Type 0 where
  pub end : r ≡ at + length text
  pub holds : take r now ≡ take at before ++ text
