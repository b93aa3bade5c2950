-- Document 01's cases M1 to M12, its listing, the blunders that it shuts out and a few more, as rows of one
-- claim. A row is a list of calls from a fresh root, each with what it shows.
use Rattle.std.specs.Prelude.{ℕ, ◌≡◌, Bool, true, false, List, [], ◌∷◌, map, ℤ, pos, replicate, set}
use Rattle.laws.specs.Choice.{minus}
use Rattle.job_policy.specs.Policy.{M1, M2, no_policy}
use Rattle.job_policy.specs.declared.BasicPolicy.{BasicPolicy}
use Rattle.reply.specs.declared.Fields.TheVariants.{NoFields, OwnerField, JobFields}
use Rattle.reply.specs.declared.Fields.TheVariants.{ProcessFields, ThreadFields}
use Rattle.records.specs.Tables.{fresh_tables}
use Rattle.model.specs.Step.{Call, cmd01, cmd02, cmd03, cmd04, cmd05, cmd06, cmd07, cmd08}
use Rattle.model.specs.Step.{cmd09, cmd0a, cmd0c, cmd0d, cmd0e, cmd0f, cmd12}
use Rattle.model.specs.Step.{cmd13, cmd14, cmd15, cmd17, cmd19, cmd1a, cmd1b}
use Rattle.model.specs.Step.{cmd1c, cmd1d, cmd1e, Shown, answers}

-- ---- Lines ---------------------------------------------------------------------------------

abbrev pub says : ℤ → Shown
says answer = record { answer = answer; fields = NoFields; policy = no_policy }

-- accepted
abbrev pub yes0 : Shown
yes0 = says (pos 0)

-- 14 and 15: the level, or an outcome, and the owner
abbrev pub at : ℤ → ℕ → Shown
at answer owner = record { answer = answer; fields = OwnerField owner; policy = no_policy }

-- 1b: killed and terminated, with slack 0 and mode 0, and the actions set
abbrev pub job : Bool → Bool → List ℕ → Shown
job killed terminated actions =
    record {
      answer = pos 0;
      fields = JobFields killed terminated (pos 0) 0;
      policy = record { action = actions };
    }

-- 1c: code, started, exited, debugger open, terminated
abbrev pub process : ℤ → Bool → Bool → Bool → Bool → Shown
process code started exited debugger terminated =
    record {
      answer = pos 0;
      fields = ProcessFields code started exited debugger terminated;
      policy = no_policy;
    }

-- 1d: shown state, waiting level, suspend count
abbrev pub thread : ℕ → ℕ → ℕ → Shown
thread state level suspends =
    record { answer = pos 0; fields = ThreadFields state level suspends; policy = no_policy }

infix 90 ◌⇒◌
pub data Line : Type 0 where
  ◌⇒◌ : Call → Shown → Line

abbrev pub call_of : Line → Call
call_of (c ⇒ s) = c

abbrev pub shown_of : Line → Shown
shown_of (c ⇒ s) = s

-- from a fresh root the calls show just this
unfoldable pub Run : List Line → Type 0
Run l = answers fresh_tables (map call_of l) ≡ map shown_of l

abbrev pub none : List ℕ
none = replicate 15 0

abbrev pub entry : ℕ → ℕ → BasicPolicy
entry condition action = record { condition = condition; action = action }

-- ---- Rows ----------------------------------------------------------------------------------

pub record Cases : Type 0 where
  -- own Allow under a parent's Deny is Deny
  pub m1 : M1
  -- of two entries for one condition the later is kept
  pub m2 : M2
  -- killed before its start a thread is Dying; its start makes it Running
  pub m3 : Run (
      cmd03 0 0 ⇒ yes0 ∷ cmd08 0 0 ⇒ yes0 ∷ cmd0a 0 ⇒ yes0 ∷ cmd1d 0 ⇒ thread 4 0 0 ∷
      cmd09 0 ⇒ yes0 ∷ cmd1d 0 ⇒ thread 1 0 0 ∷ [])
  -- done and killed together give 0; killed with deadline and cancelled gives -60
  pub m4 : Run (
      cmd03 0 0 ⇒ yes0 ∷ cmd08 0 0 ⇒ yes0 ∷ cmd08 0 1 ⇒ yes0 ∷ cmd09 0 ⇒ yes0 ∷ cmd09 1 ⇒ yes0 ∷
      cmd19 0 0x203 ⇒ yes0 ∷ cmd19 1 3 ⇒ yes0 ∷ cmd0a 0 ⇒ yes0 ∷ cmd0a 1 ⇒ yes0 ∷
      cmd1a 0 1 ⇒ yes0 ∷ cmd1a 1 6 ⇒ says (minus 60) ∷ cmd1d 0 ⇒ thread 4 0 0 ∷ [])
  -- token on a process, a new thread in it, the drop: refused, and all counts and the token stay
  pub m5 : Run (
      cmd03 0 0 ⇒ yes0 ∷ cmd08 0 0 ⇒ yes0 ∷ cmd0d 5 1 0 ⇒ yes0 ∷ cmd08 0 1 ⇒ yes0 ∷
      cmd0e 5 ⇒ says (pos 106) ∷
      cmd1d 0 ⇒ thread 2 0 1 ∷ cmd1d 1 ⇒ thread 0 0 0 ∷ cmd1e 2 1 ⇒ yes0 ∷ cmd0e 5 ⇒ yes0 ∷
      cmd1d 0 ⇒ thread 0 0 0 ∷ [])
  -- exit on an Exited process keeps the first code
  pub m6 : Run (
      cmd03 0 0 ⇒ yes0 ∷ cmd05 0 (pos 7) ⇒ yes0 ∷ cmd05 0 (pos 9) ⇒ yes0 ∷ cmd06 0 ⇒ yes0 ∷
      cmd1c 0 ⇒ process (pos 7) true true false true ∷ [])
  -- the last listed thread finishes in a process never exited: code 0
  pub m7 : Run (
      cmd03 0 0 ⇒ yes0 ∷ cmd08 0 0 ⇒ yes0 ∷ cmd08 0 1 ⇒ yes0 ∷ cmd04 0 0 ⇒ yes0 ∷
      cmd09 1 ⇒ yes0 ∷ cmd0c 0 ⇒ yes0 ∷
      cmd1c 0 ⇒ process (pos 0) true false false false ∷ cmd0c 1 ⇒ yes0 ∷
      cmd1c 0 ⇒ process (pos 0) true true false true ∷ [])
  -- binding twice is -27 even with a wrong job; a job neither its own nor an ancestor is -10
  pub m8 : Run (
      cmd01 0 1 ⇒ yes0 ∷ cmd01 0 2 ⇒ yes0 ∷ cmd03 1 0 ⇒ yes0 ∷ cmd07 0 2 0 ⇒ says (minus 10) ∷
      cmd07 0 1 1 ⇒ yes0 ∷ cmd07 0 2 0 ⇒ says (minus 27) ∷ [])
  -- kill of an empty job terminates it at once
  pub m9 : Run (cmd01 0 1 ⇒ yes0 ∷ cmd02 1 ⇒ yes0 ∷ cmd1b 1 ⇒ job true true none ∷ [])
  -- an Absolute list (4 Deny, 5 Deny) with 5 set by the parent: -26, and 4 stays set; Relative
  -- skips 5
  pub m10 : Run (
      cmd0f 0 0 (entry 5 1 ∷ []) ⇒ yes0 ∷ cmd01 0 1 ⇒ yes0 ∷
      cmd0f 1 0 (entry 4 1 ∷ entry 5 1 ∷ []) ⇒ says (minus 26) ∷
      cmd1b 1 ⇒ job false false (set (set none 4 2) 5 2) ∷ cmd01 0 2 ⇒ yes0 ∷
      cmd0f 2 1 (entry 4 1 ∷ entry 5 0 ∷ []) ⇒ yes0 ∷
      cmd1b 2 ⇒ job false false (set (set none 4 2) 5 2) ∷ [])
  -- ThreadExiting: level 1 is not the current level; a killed thread sends it and answers -60;
  -- unsent it is -61
  pub m11 : Run (
      cmd03 0 3 ⇒ yes0 ∷ cmd08 3 4 ⇒ yes0 ∷ cmd08 3 5 ⇒ yes0 ∷ cmd09 4 ⇒ yes0 ∷ cmd09 5 ⇒ yes0 ∷
      cmd12 1 3 ⇒ yes0 ∷
      cmd14 4 0x8108 ⇒ at (pos 1) 3 ∷ cmd1d 4 ⇒ thread 1 0 0 ∷ cmd17 4 1 ⇒ says (minus 20) ∷
      cmd15 4 ⇒ at (pos 0) 0 ∷
      cmd0a 5 ⇒ yes0 ∷ cmd14 5 0x8108 ⇒ at (minus 60) 0 ∷ cmd13 1 3 ⇒ yes0 ∷
      cmd14 4 0x8108 ⇒ at (minus 61) 0 ∷ [])
  -- set_strategy 2 is -10 before the level is looked at; levels 2, 3 and 4 give -20
  pub m12 : Run (
      cmd03 0 2 ⇒ yes0 ∷ cmd08 2 3 ⇒ yes0 ∷ cmd09 3 ⇒ yes0 ∷ cmd12 2 3 ⇒ yes0 ∷
      cmd12 3 2 ⇒ yes0 ∷ cmd12 4 0 ⇒ yes0 ∷
      cmd14 3 8 ⇒ at (pos 2) 3 ∷ cmd17 3 2 ⇒ says (minus 10) ∷ cmd17 3 1 ⇒ says (minus 20) ∷
      cmd15 3 ⇒ at (pos 3) 2 ∷ cmd17 3 1 ⇒ says (minus 20) ∷ cmd15 3 ⇒ at (pos 4) 0 ∷
      cmd17 3 1 ⇒ says (minus 20) ∷ [])
  -- document 01's listing
  pub listing : Run (
      cmd01 0 1 ⇒ yes0 ∷ cmd03 1 2 ⇒ yes0 ∷ cmd07 2 0 0 ⇒ yes0 ∷ cmd03 0 3 ⇒ yes0 ∷
      cmd05 2 (pos 7) ⇒ yes0 ∷
      cmd1c 3 ⇒ process (minus 1028) true true false true ∷ cmd1b 1 ⇒ job true true none ∷ [])
  -- a Dying thread is not shown as Suspended
  pub dying_shown : Run (
      cmd03 0 0 ⇒ yes0 ∷ cmd08 0 0 ⇒ yes0 ∷ cmd1e 2 0 ⇒ yes0 ∷ cmd1d 0 ⇒ thread 2 0 1 ∷
      cmd0a 0 ⇒ yes0 ∷
      cmd1d 0 ⇒ thread 4 0 1 ∷ [])
  -- killing the processes below follows their critical bindings upward
  pub binding_followed : Run (
      cmd01 0 1 ⇒ yes0 ∷ cmd01 1 2 ⇒ yes0 ∷ cmd01 1 3 ⇒ yes0 ∷ cmd03 2 0 ⇒ yes0 ∷
      cmd03 3 1 ⇒ yes0 ∷ cmd07 0 1 0 ⇒ yes0 ∷
      cmd02 2 ⇒ yes0 ∷ cmd1c 1 ⇒ process (minus 1028) true true false true ∷
      cmd1b 3 ⇒ job true true none ∷ [])
  -- an earlier code is not overwritten with -1028
  pub code_kept : Run (
      cmd01 0 1 ⇒ yes0 ∷ cmd03 1 0 ⇒ yes0 ∷ cmd08 0 0 ⇒ yes0 ∷ cmd05 0 (pos 7) ⇒ yes0 ∷
      cmd02 1 ⇒ yes0 ∷
      cmd1c 0 ⇒ process (pos 7) true true false false ∷ [])
  -- second chance is read after level 3, not at the raise
  pub second_late : Run (
      cmd03 0 1 ⇒ yes0 ∷ cmd08 1 2 ⇒ yes0 ∷ cmd09 2 ⇒ yes0 ∷ cmd12 1 1 ⇒ yes0 ∷ cmd12 3 1 ⇒ yes0 ∷
      cmd14 2 8 ⇒ at (pos 1) 1 ∷ cmd17 2 1 ⇒ yes0 ∷ cmd15 2 ⇒ at (pos 3) 1 ∷
      cmd15 2 ⇒ at (pos 1) 1 ∷ [])
  -- a process is not unlisted at exit while threads are left
  pub listed_late : Run (
      cmd01 0 1 ⇒ yes0 ∷ cmd03 1 0 ⇒ yes0 ∷ cmd08 0 0 ⇒ yes0 ∷ cmd09 0 ⇒ yes0 ∷ cmd05 0
      (pos 0) ⇒ yes0 ∷
      cmd0f 1 0 [] ⇒ says (minus 20) ∷ cmd02 1 ⇒ yes0 ∷ cmd1b 1 ⇒ job true false none ∷
      cmd0c 0 ⇒ yes0 ∷
      cmd1b 1 ⇒ job true true none ∷ [])
  -- an exit stops the process's own threads, and no other's
  pub own_threads : Run (
      cmd03 0 0 ⇒ yes0 ∷ cmd03 0 1 ⇒ yes0 ∷ cmd08 0 0 ⇒ yes0 ∷ cmd08 1 1 ⇒ yes0 ∷ cmd05 0
      (pos 7) ⇒ yes0 ∷
      cmd1d 0 ⇒ thread 4 0 0 ∷ cmd1d 1 ⇒ thread 0 0 0 ∷ [])
  -- a kill, and an exception that nobody handles, stop the process with -1028
  pub killed_code : Run (
      cmd03 0 0 ⇒ yes0 ∷ cmd06 0 ⇒ yes0 ∷ cmd1c 0 ⇒ process (minus 1028) true true false true ∷ [])
  pub unhandled_code : Run (
      cmd03 0 0 ⇒ yes0 ∷ cmd08 0 0 ⇒ yes0 ∷ cmd09 0 ⇒ yes0 ∷ cmd14 0 8 ⇒ at (minus 61) 0 ∷
      cmd1c 0 ⇒ process (minus 1028) true true false false ∷ [])
  -- a thread whose exception a handler has raises none
  pub raised_once : Run (
      cmd03 0 0 ⇒ yes0 ∷ cmd08 0 0 ⇒ yes0 ∷ cmd09 0 ⇒ yes0 ∷ cmd12 2 0 ⇒ yes0 ∷
      cmd14 0 8 ⇒ at (pos 2) 0 ∷ cmd14 0 8 ⇒ says (pos 105) ∷ [])
