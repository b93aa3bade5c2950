-- Every answer is one that document 01 gives for its command, with the fields that it gives.
use Rattle.std.specs.Prelude.{◌≡◌, List, [], ◌∷◌, ℤ, pos}
use Rattle.laws.specs.Choice.{minus}
use Rattle.job_policy.specs.declared.JobPolicy.{JobPolicy}
use Rattle.job_policy.specs.Policy.{no_policy}
use Rattle.records.specs.declared.tables.Tables.{Tables}
use Rattle.reply.specs.declared.Fields.{Fields}
use Rattle.reply.specs.declared.Fields.TheVariants.{NoFields, OwnerField, JobFields}
use Rattle.reply.specs.declared.Fields.TheVariants.{ProcessFields, ThreadFields}
use Rattle.model.specs.Step.{Call, cmd01, cmd02, cmd03, cmd04, cmd05, cmd06, cmd07, cmd08}
use Rattle.model.specs.Step.{cmd09, cmd0a, cmd0b, cmd0c, cmd0d, cmd0e, cmd0f, cmd10, cmd11}
use Rattle.model.specs.Step.{cmd12, cmd13, cmd14, cmd15, cmd16, cmd17, cmd18, cmd19, cmd1a}
use Rattle.model.specs.Step.{cmd1b, cmd1c, cmd1d, cmd1e, cmd1f, step}

-- the shapes of the fields after an answer
pub data Shape : Type 0 where
  bare owner of_job of_process of_thread : Shape

abbrev pub shape_of : Fields → Shape
shape_of NoFields = bare
shape_of (OwnerField n) = owner
shape_of (JobFields k e a m) = of_job
shape_of (ProcessFields c s e d x) = of_process
shape_of (ThreadFields s l n) = of_thread

-- a command's refusals, the answers of an accepted call, and its fields
pub record Row : Type 0 where
  pub refusals : List ℤ
  pub answers : List ℤ
  pub fields : Shape

abbrev pub row : List ℤ → List ℤ → Shape → Row
row refusals answers fields = record { refusals = refusals; answers = answers; fields = fields }

-- accepted with 0 and no field
abbrev pub plain : List ℤ → Row
plain refusals = row refusals (pos 0 ∷ []) bare

-- a raise is over in its own call only by -60 or -61, and a closing by 0 or -61
unfoldable pub row_of : Call → Row
row_of (cmd01 j n) = plain (pos 101 ∷ pos 103 ∷ pos 102 ∷ minus 20 ∷ [])
row_of (cmd02 j) = plain (pos 101 ∷ pos 103 ∷ [])
row_of (cmd03 j n) = plain (pos 101 ∷ pos 103 ∷ pos 102 ∷ minus 20 ∷ [])
row_of (cmd04 p n) = plain (pos 101 ∷ pos 103 ∷ pos 105 ∷ minus 30 ∷ minus 20 ∷ [])
row_of (cmd05 p k) = plain (pos 101 ∷ pos 103 ∷ [])
row_of (cmd06 p) = plain (pos 101 ∷ pos 103 ∷ [])
row_of (cmd07 p j f) = plain (pos 104 ∷ pos 101 ∷ pos 103 ∷ minus 27 ∷ minus 10 ∷ [])
row_of (cmd08 p n) = plain (pos 101 ∷ pos 103 ∷ pos 102 ∷ minus 20 ∷ [])
row_of (cmd09 n) = plain (pos 101 ∷ pos 103 ∷ pos 105 ∷ [])
row_of (cmd0a n) = plain (pos 101 ∷ pos 103 ∷ [])
row_of (cmd0b n) = plain (pos 101 ∷ pos 103 ∷ pos 105 ∷ [])
row_of (cmd0c n) = plain (pos 101 ∷ pos 103 ∷ pos 105 ∷ [])
row_of (cmd0d k i n) = plain (pos 104 ∷ pos 101 ∷ pos 103 ∷ pos 102 ∷ pos 106 ∷ pos 107 ∷ [])
row_of (cmd0e k) = plain (pos 101 ∷ pos 103 ∷ pos 106 ∷ [])
row_of (cmd0f j o l) = plain (pos 104 ∷ pos 101 ∷ pos 103 ∷ minus 20 ∷ minus 26 ∷ [])
row_of (cmd10 j a m) = plain (pos 104 ∷ pos 101 ∷ pos 103 ∷ minus 20 ∷ minus 10 ∷ [])
row_of (cmd11 p c) = plain (pos 104 ∷ pos 101 ∷ pos 103 ∷ pos 106 ∷ minus 30 ∷ [])
row_of (cmd12 l n) = plain (pos 104 ∷ pos 101 ∷ pos 103 ∷ minus 20 ∷ minus 27 ∷ [])
row_of (cmd13 l n) = plain (pos 104 ∷ pos 101 ∷ pos 103 ∷ pos 105 ∷ [])
row_of (cmd14 n k) =
    row (pos 104 ∷ pos 101 ∷ pos 103 ∷ pos 105 ∷ []) (pos 1 ∷ pos 2 ∷ pos 3 ∷ pos 4 ∷ pos 5 ∷
    minus 60 ∷ minus 61 ∷ []) owner
row_of (cmd15 n) =
    row (pos 101 ∷ pos 103 ∷ pos 105 ∷ [])
    (pos 0 ∷ pos 1 ∷ pos 2 ∷ pos 3 ∷ pos 4 ∷ minus 61 ∷ []) owner
row_of (cmd16 n s) = plain (pos 101 ∷ pos 103 ∷ pos 105 ∷ minus 10 ∷ [])
row_of (cmd17 n s) = plain (pos 101 ∷ pos 103 ∷ pos 105 ∷ minus 10 ∷ minus 20 ∷ [])
row_of (cmd18 n) = plain (pos 101 ∷ pos 103 ∷ pos 105 ∷ minus 30 ∷ [])
row_of (cmd19 n s) = row (pos 104 ∷ pos 101 ∷ pos 103 ∷ pos 105 ∷ []) (pos 0 ∷ minus 60 ∷ []) bare
row_of (cmd1a n r) =
    row (pos 104 ∷ pos 101 ∷ pos 103 ∷ pos 105 ∷ [])
    (pos 0 ∷ minus 60 ∷ minus 21 ∷ minus 23 ∷ minus 22 ∷ []) bare
row_of (cmd1b j) = row (pos 101 ∷ pos 103 ∷ []) (pos 0 ∷ []) of_job
row_of (cmd1c p) = row (pos 101 ∷ pos 103 ∷ []) (pos 0 ∷ []) of_process
row_of (cmd1d n) = row (pos 101 ∷ pos 103 ∷ []) (pos 0 ∷ []) of_thread
row_of (cmd1e i n) = plain (pos 104 ∷ pos 101 ∷ pos 103 ∷ pos 106 ∷ pos 107 ∷ [])
row_of (cmd1f i n) = plain (pos 104 ∷ pos 101 ∷ pos 103 ∷ pos 106 ∷ [])

pub data OneOf (z : ℤ) : List ℤ → Type 0 where
  first : {l : List ℤ} → OneOf z (z ∷ l)
  later : {y : ℤ} {l : List ℤ} → OneOf z l → OneOf z (y ∷ l)

-- only a job's information shows a policy
abbrev pub PolicyShown : Shape → JobPolicy → Type 0
PolicyShown bare p = p ≡ no_policy
PolicyShown owner p = p ≡ no_policy
PolicyShown of_job p = Unit {0}
PolicyShown of_process p = p ≡ no_policy
PolicyShown of_thread p = p ≡ no_policy

-- refused with no field, or accepted with the command's fields
pub data Answered (c : Call) (answer : ℤ) (fields : Fields) (policy : JobPolicy) : Type 0 where
  refused : OneOf answer (row_of c).refusals → fields ≡ NoFields → policy ≡ no_policy →
      Answered c answer fields policy
  accepted : OneOf answer (row_of c).answers → shape_of fields ≡ (row_of c).fields →
      PolicyShown (row_of c).fields policy → Answered c answer fields policy

unfoldable pub Answers : Type 0
Answers =
    (t : Tables) (c : Call) → Answered c (step t c).answer (step t c).fields (step t c).policy
