-- What a call answers: a number, the fields that follow it on the line, and the tables.
use Rattle.std.specs.Prelude.{◌≡◌, ℤ, pos, Result, Ok, Err}
use Rattle.error.specs.declared.Refusal.{Refusal}
use Rattle.error.specs.Numbers.{number_of}
use Rattle.job_policy.specs.Policy.{no_policy}
use Rattle.job_policy.specs.declared.JobPolicy.{JobPolicy}
use Rattle.records.specs.declared.tables.Tables.{Tables}
use Rattle.reply.specs.declared.Fields.{Fields}
use Rattle.reply.specs.declared.Fields.TheVariants.{NoFields}
use Rattle.reply.specs.declared.Information.{Information}
use Rattle.reply.specs.declared.Reply.{Reply}
use Rattle.reply.specs.declared.Shown.{Shown}

abbrev pub reply_with : Tables → Fields → ℤ → JobPolicy → Reply
reply_with t fields answer policy =
    record { answer = answer; fields = fields; policy = policy; tables = t }

unfoldable pub reply : Tables → ℤ → Fields → Reply
reply t answer fields = reply_with t fields answer no_policy

-- an answer alone
unfoldable pub answered : Tables → ℤ → Reply
answered t answer = reply_with t NoFields answer no_policy

-- ---- What is shown of a call ------------------------------------------------------------------

-- the tables as a call leaves them, and what is shown of it
unfoldable pub showing : Tables → Shown → Reply
showing t s = reply_with t s.fields s.answer s.policy

-- whatever tables a call leaves, s is what is shown of it
abbrev pub Shows : (Tables → Reply) → Shown → Type 0
Shows f s = (t : Tables) → showing t s ≡ f t

abbrev pub shown : Fields → ℤ → JobPolicy → Shown
shown fields answer policy = record { answer = answer; fields = fields; policy = policy }

-- an answer with no field, and one with its fields
abbrev pub shown_answer : ℤ → Shown
shown_answer answer = shown NoFields answer no_policy

abbrev pub shown_with : ℤ → Fields → Shown
shown_with answer fields = shown fields answer no_policy

-- ---- Information: the tables stay --------------------------------------------------------------

-- told with no policy
abbrev pub information : Fields → Information
information fields = record { fields = fields; policy = no_policy }

-- by the outcome of an information call
abbrev pub shown_by : Result Information Refusal → Shown
shown_by (Ok told) = shown told.fields (pos 0) told.policy
shown_by (Err refusal) = shown_answer (number_of refusal)

unfoldable pub informed : Tables → Result Information Refusal → Reply
informed t r = showing t (shown_by r)
