-- The search for a handler over the records alone: the thread, its process and the table of jobs. A level that is
-- passed and hung up becomes unbound.
use Rattle.std.specs.Prelude.{Option, Some, None}
use Rattle.std.specs.Prelude.{ℕ, zero, suc, Bool, true, false, not, List, get_or, set}
use Rattle.laws.specs.Choice.{◌=?◌, if◌then◌otherwise◌, ite}
use Rattle.record_exception.specs.declared.Level.{Level}
use Rattle.record_exception.specs.declared.Place.{Place}
use Rattle.record_exception.specs.declared.Place.TheVariants.{Debugger, OwnThread, OwnProcess}
use Rattle.record_exception.specs.declared.Place.TheVariants.{SecondChance, OfJob, OfJobDebugger}
use Rattle.record_exception.specs.declared.Place.TheVariants.{Exiting}
use Rattle.record_exception.specs.declared.Exception.{Exception}
use Rattle.record_exception.specs.Channel.{is_bound, tried}
use Rattle.record_job.specs.declared.Job.{Job}
use Rattle.record_job.specs.Job.{no_job, with_level4, with_level5}
use Rattle.record_process.specs.declared.Process.{Process}
use Rattle.record_process.specs.Process.{with_level1, with_level3}
use Rattle.record_thread.specs.declared.Thread.{Thread}
use Rattle.record_thread.specs.Thread.{with_level2}
use Rattle.model.specs.declared.Route.{Route}
use Rattle.model.specs.declared.Route.TheVariants.{Ordinary, JobDebuggers, DebuggerOnly}
use Rattle.model.specs.declared.Route.TheVariants.{ToExiting, NoType}
use Rattle.model.specs.Job.{on_parent}

-- ---- The jobs ----------------------------------------------------------------------------------

-- level 5 of a job, or its level 4
abbrev pub level_in : Bool → Job → Level
level_in true v = v.level5
level_in false v = v.level4

abbrev pub passed_in : Bool → Job → Job
passed_in true v = with_level5 v (tried v.level5)
passed_in false v = with_level4 v (tried v.level4)

abbrev pub job_place : Bool → ℕ → Place
job_place true = λ j. OfJobDebugger j
job_place false = λ j. OfJob j

-- who takes an exception above, and the jobs as they are left
pub record Climbed : Type 0 where
  pub at : Option Place
  pub jobs : List Job

abbrev pub climbed : Option Place → List Job → Climbed
climbed at jobs = record { at = at; jobs = jobs }

-- the table with job j's level passed
abbrev pub passed_jobs : Bool → List Job → ℕ → List Job
passed_jobs debugger jobs j = set jobs j (passed_in debugger (get_or jobs j no_job))

-- from job j up: k jobs at most
unfoldable pub climbing : ℕ → Bool → List Job → ℕ → Climbed
climbing zero debugger jobs j = climbed None jobs
climbing (suc k) debugger jobs j =
    ite (is_bound (level_in debugger (get_or jobs j no_job)))
    (λ _. climbed (Some (job_place debugger j)) jobs) λ _.
    on_parent (get_or (passed_jobs debugger jobs j) j no_job).parent (climbed None (passed_jobs debugger jobs j)) λ i.
    climbing k debugger (passed_jobs debugger jobs j) i

-- the jobs above job j
unfoldable pub above_job : List Job → ℕ → Climbed
above_job jobs j = on_parent (get_or jobs j no_job).parent (climbed None jobs) λ i. climbing 32 false jobs i

-- ---- The search --------------------------------------------------------------------------------

-- who takes an exception, and the records as the levels passed leave them
pub record Found : Type 0 where
  pub at : Option Place
  pub thread : Thread
  pub process : Process
  pub jobs : List Job

abbrev pub found : Option Place → Thread → Process → List Job → Found
found at v q jobs = record { at = at; thread = v; process = q; jobs = jobs }

-- level 4, or 5, of job j and those above
abbrev pub climbed_to : Climbed → Thread → Process → Found
climbed_to c v q = found c.at v q c.jobs

abbrev pub from_job : Bool → ℕ → Thread → Process → List Job → Found
from_job debugger j v q jobs = climbed_to (climbing 32 debugger jobs j) v q

unfoldable pub from_second_chance : Thread → Process → List Job → Bool → Found
from_second_chance v q jobs second =
    if not second then from_job false q.job v q jobs otherwise
    if is_bound q.level1 then found (Some SecondChance) v q jobs otherwise
    from_job false q.job v (with_level1 q (tried q.level1)) jobs

unfoldable pub from_process : Thread → Process → List Job → Bool → Found
from_process v q jobs second =
    if is_bound q.level3 then found (Some OwnProcess) v q jobs otherwise
    from_second_chance v (with_level3 q (tried q.level3)) jobs second

unfoldable pub from_thread : Thread → Process → List Job → Bool → Found
from_thread v q jobs second =
    if is_bound v.level2 then found (Some OwnThread) v q jobs otherwise
    from_process (with_level2 v (tried v.level2)) q jobs second

unfoldable pub from_debugger : Thread → Process → List Job → Bool → Found
from_debugger v q jobs second =
    if is_bound q.level1 then found (Some Debugger) v q jobs otherwise
    from_thread v (with_level1 q (tried q.level1)) jobs second

-- level 1 and no other
unfoldable pub alone : Place → Thread → Process → List Job → Found
alone place v q jobs =
    if is_bound q.level1 then found (Some place) v q jobs otherwise
    found None v (with_level1 q (tried q.level1)) jobs

-- of an exception just raised
unfoldable pub first_found : Route → Thread → Process → List Job → Found
first_found Ordinary v q jobs = from_debugger v q jobs false
first_found JobDebuggers v q jobs = from_job true q.job v q jobs
first_found DebuggerOnly v q jobs = alone Debugger v q jobs
first_found ToExiting v q jobs = alone Exiting v q jobs
first_found NoType v q jobs = found None v q jobs

unfoldable pub after_debugger : Exception → Thread → Process → List Job → Found
after_debugger e v q jobs =
    if e.kind =? 0x8008 then found None v q jobs otherwise from_thread v q jobs e.second

-- of one that a handler closed without handling
unfoldable pub next_found : Place → Exception → Thread → Process → List Job → Found
next_found Debugger e v q jobs = after_debugger e v q jobs
next_found OwnThread e v q jobs = from_process v q jobs e.second
next_found OwnProcess e v q jobs = from_second_chance v q jobs e.second
next_found SecondChance e v q jobs = from_job false q.job v q jobs
next_found (OfJob j) e v q jobs = climbed_to (above_job jobs j) v q
next_found (OfJobDebugger j) e v q jobs = found None v q jobs
next_found Exiting e v q jobs = found None v q jobs
