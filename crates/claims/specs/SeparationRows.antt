-- Rows beside `Separation`: that its premise is needed, and what two trips below one killed job
-- see. A row is a list of calls from a fresh root, each with what it shows.
use Rattle.std.specs.Prelude.{◌≡◌, true, false, List, [], ◌∷◌}
use Rattle.laws.specs.Choice.{minus}
use Rattle.records.specs.Tables.{fresh_tables}
use Rattle.model.specs.Step.{Call, cmd01, cmd03, cmd06, cmd07, cmd08, cmd09, cmd0c, cmd1b}
use Rattle.model.specs.Step.{cmd1c, answers, final}
use Rattle.model.specs.Cases.{yes0, job, process, none, ◌⇒◌, Run}
use Rattle.claims.specs.Separation.{Trip, IsTrip, Apart, Calls, of_second, to_second}

-- the claim without its premise
unfoldable pub Unguarded : Type 0
Unguarded =
    (before : List Call) (x y : Trip) → Apart x y →
    IsTrip (final fresh_tables before) x → IsTrip (final fresh_tables before) y → (l : Calls x y) →
    to_second (final fresh_tables before) l ≡ answers (final fresh_tables before) (of_second l)

pub record SeparationRows : Type 0 where
  -- four calls that bind a process of job 1 to the root leave a state in which it fails: the
  -- process ends, the root is killed, and job 2 with it
  pub premise_needed : Unguarded → ⊥
  pub bound_outward : Run (
      cmd01 0 1 ⇒ yes0 ∷
      cmd01 0 2 ⇒ yes0 ∷
      cmd03 1 0 ⇒ yes0 ∷
      cmd07 0 0 0 ⇒ yes0 ∷
      cmd06 0 ⇒ yes0 ∷
      cmd1b 2 ⇒ job true true none ∷
      [])
  pub left_out : Run (
      cmd01 0 1 ⇒ yes0 ∷
      cmd01 0 2 ⇒ yes0 ∷
      cmd03 1 0 ⇒ yes0 ∷
      cmd07 0 0 0 ⇒ yes0 ∷
      cmd1b 2 ⇒ job false false none ∷
      [])
  -- trips of jobs 2 and 3 below job 1, to which process 1 of job 3 is bound: its end kills job 1.
  -- Whether thread 0 of job 2 finishes shows in job 1, which neither trip has, and not in job 3
  pub shared_ancestor : Run (
      cmd01 0 1 ⇒ yes0 ∷
      cmd01 1 2 ⇒ yes0 ∷
      cmd01 1 3 ⇒ yes0 ∷
      cmd03 2 0 ⇒ yes0 ∷
      cmd08 0 0 ⇒ yes0 ∷
      cmd09 0 ⇒ yes0 ∷
      cmd03 3 1 ⇒ yes0 ∷
      cmd07 1 1 0 ⇒ yes0 ∷
      cmd06 1 ⇒ yes0 ∷
      cmd0c 0 ⇒ yes0 ∷
      cmd1b 3 ⇒ job true true none ∷
      cmd1c 1 ⇒ process (minus 1028) true true false true ∷
      cmd1b 1 ⇒ job true true none ∷
      [])
  pub ancestor_differs : Run (
      cmd01 0 1 ⇒ yes0 ∷
      cmd01 1 2 ⇒ yes0 ∷
      cmd01 1 3 ⇒ yes0 ∷
      cmd03 2 0 ⇒ yes0 ∷
      cmd08 0 0 ⇒ yes0 ∷
      cmd09 0 ⇒ yes0 ∷
      cmd03 3 1 ⇒ yes0 ∷
      cmd07 1 1 0 ⇒ yes0 ∷
      cmd06 1 ⇒ yes0 ∷
      cmd1b 3 ⇒ job true true none ∷
      cmd1c 1 ⇒ process (minus 1028) true true false true ∷
      cmd1b 1 ⇒ job true false none ∷
      [])
