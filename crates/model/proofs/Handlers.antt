-- Which handlers are left after a closing: levels 2, 3, 1 and 4, never a job's debugger.
-- Assumes nothing.
use Rattle.std.proofs.Common.{Option, Some, None}
use Prim.Native.Nat.{ℕ, zero, suc}
use mathlib.Core.Bool.{Bool}
use Rattle.laws.specs.Choice.{◌=?◌}
use Rattle.laws.proofs.Cases.{ite_on, if_on}
use Rattle.record_exception.specs.declared.Place.{Place}
use Rattle.record_exception.specs.declared.Place.TheVariants.{Debugger, OwnThread, OwnProcess}
use Rattle.record_exception.specs.declared.Place.TheVariants.{SecondChance, OfJob, OfJobDebugger}
use Rattle.record_exception.specs.declared.Place.TheVariants.{Exiting}
use Rattle.record_exception.specs.declared.Exception.{Exception}
use Rattle.record_exception.specs.Channel.{is_bound}
use Rattle.records.specs.declared.tables.Tables.{Tables}
use Rattle.records.specs.Tables.{job_at}
use Rattle.model.specs.declared.Search.{Search}
use Rattle.model.specs.Job.{on_parent}
use Rattle.model.specs.Exception.{level_at, no_handler, try_at, search_up, from_jobs}
use Rattle.model.specs.Exception.{from_second_chance, from_process, from_thread, next_handler}
use Rattle.model.proofs.Keeps.{on_parent_on}

pub data Left : Option Place → Type 0 where
  at_none : Left None
  at_thread : Left (Some OwnThread)
  at_process : Left (Some OwnProcess)
  at_second : Left (Some SecondChance)
  at_job : {j : ℕ} → Left (Some (OfJob j))

abbrev Leaves : Search → Type 0
Leaves s = Left s.at

-- delivered at this place, or left to the rest
tries : (t : Tables) (n : ℕ) (place : Place) (k : Tables → Search)
    → Left (Some place) → ((u : Tables) → Leaves (k u)) → Leaves (try_at t n place k)
unfolding try_at
tries t n place k h g = ite_on Leaves (is_bound (level_at t n place)) _ _ (λ _. h) λ _. g _

parent_leaves : (q : Option ℕ) (t : Tables) (k : ℕ → Search) → ((i : ℕ) → Leaves (k i))
    → Leaves (on_parent q (no_handler t) k)
parent_leaves q t k g = on_parent_on Leaves q _ k (λ _. at_none) λ i _. g i

up_leaves : (k : ℕ) (t : Tables) (n j : ℕ) → Leaves (search_up k OfJob t n j)
unfolding search_up
up_leaves zero t n j = at_none
up_leaves (suc k) t n j =
    tries t n (OfJob j) _ at_job λ u. parent_leaves (job_at u j).parent u _ λ i. up_leaves k u n i

jobs_leave : (t : Tables) (n : ℕ) → Leaves (from_jobs t n)
unfolding from_jobs
jobs_leave t n = up_leaves 32 t n _

second_leaves : (t : Tables) (n : ℕ) (b : Bool) → Leaves (from_second_chance t n b)
unfolding from_second_chance
second_leaves t n b =
    if_on Leaves b _ _ (λ _. tries t n SecondChance _ at_second λ u. jobs_leave u n)
    λ _. jobs_leave t n

process_leaves : (t : Tables) (n : ℕ) (b : Bool) → Leaves (from_process t n b)
unfolding from_process
process_leaves t n b = tries t n OwnProcess _ at_process λ u. second_leaves u n b

thread_leaves : (t : Tables) (n : ℕ) (b : Bool) → Leaves (from_thread t n b)
unfolding from_thread
thread_leaves t n b = tries t n OwnThread _ at_thread λ u. process_leaves u n b

pub closing_leaves : (place : Place) (t : Tables) (n : ℕ) (e : Exception)
    → Left (next_handler place t n e).at
unfolding next_handler
closing_leaves Debugger t n e =
    if_on Leaves (e.kind =? 0x8008) _ _ (λ _. at_none) λ _. thread_leaves t n e.second
closing_leaves OwnThread t n e = process_leaves t n e.second
closing_leaves OwnProcess t n e = second_leaves t n e.second
closing_leaves SecondChance t n e = jobs_leave t n
closing_leaves (OfJob j) t n e = parent_leaves (job_at t j).parent t _ λ i. up_leaves 32 t n i
closing_leaves (OfJobDebugger j) t n e = at_none
closing_leaves Exiting t n e = at_none
