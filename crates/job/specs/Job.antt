-- The calls on a job, over the records that they name: what a call leaves, stored where the records were, is what the
-- model says of the call, whatever else the tables hold.
use Rattle.std.specs.Prelude.{ℕ, ◌%◌, ◌≡◌, Bool, true, List, pos, Result, Ok, Err}
use Rattle.laws.specs.Choice.{if◌then◌otherwise◌}
use Rattle.error.specs.declared.Refusal.{Refusal}
use Rattle.error.specs.Numbers.{answer_of, number_of}
use Rattle.job_policy.specs.declared.BasicPolicy.{BasicPolicy}
use Rattle.job_policy.specs.declared.JobPolicy.{JobPolicy}
use Rattle.record_job.specs.declared.Job.{Job}
use Rattle.records.specs.declared.tables.Tables.{Tables}
use Rattle.records.specs.Tables.{job_at, own_at, inherited_at, put_job, put_own, put_inherited}
use Rattle.reply.specs.declared.Fields.{Fields}
use Rattle.reply.specs.declared.Fields.TheVariants.{JobFields}
use Rattle.reply.specs.declared.Information.{Information}
use Rattle.reply.specs.declared.Reply.{Reply}
use Rattle.reply.specs.Reply.{answered, informed}
use Rattle.lists.specs.Alone.{kills_alone}
use Rattle.model.specs.Job.{job_empty, kill_job}
use Rattle.model.specs.JobCalls.{set_policy_basic}

-- where a job is looked up: every name has a place in the table, and one past it is refused
abbrev pub slot : ℕ → ℕ
slot j = j % 32

-- ---- 01: a job, and the policy that it inherits ------------------------------------------------------

-- what is left under the new name, and the outcome
unfoldable pub made_in : Tables → ℕ → Job → JobPolicy → Result Unit Refusal → Reply
made_in t new v inherited r =
    answered (put_inherited (put_job t (slot new) v) (slot new) inherited) (answer_of r)

-- j, own and inherited are of the job that is named; under the new name stand w and held, and v and kept after the call
abbrev pub Makes : (Tables → Reply) → (job new : ℕ) → Job → JobPolicy → JobPolicy →
    (w v : Job) → (held kept : JobPolicy) →
    Result Unit Refusal → Type 0
Makes f job new j own inherited w v held kept r =
    (t : Tables) → job_at t (slot job) ≡ j → own_at t (slot job) ≡ own → inherited_at t (slot job) ≡ inherited →
    job_at t (slot new) ≡ w → inherited_at t (slot new) ≡ held → made_in t new v kept r ≡ f t

-- ---- 02: a kill that stays with the job's record, or the cascade ---------------------------------------

-- an accepted kill says whether it reaches further
unfoldable pub killed_in : Tables → ℕ → Job → Result Bool Refusal → Reply
killed_in t j v (Ok further) =
    let u : Tables = put_job t (slot j) v in
    answered (if further then kill_job u j otherwise u) (pos 0)
killed_in t j v (Err e) = answered (put_job t (slot j) v) (number_of e)

-- the call f on the job, whose record is j, leaves it as v and comes to r
abbrev pub Kills : (Tables → Reply) → ℕ → (j v : Job) → Bool → Result Bool Refusal → Type 0
Kills f job j v alone r =
    (t : Tables) → job_at t (slot job) ≡ j → (alone ≡ true → kills_alone t.jobs t.processes job ≡ true) →
    killed_in t job v r ≡ f t

-- ---- 0f: the job's own policy; empty says whether the job lists nothing ---------------------------------

unfoldable pub set_in : Tables → ℕ → JobPolicy → Result Unit Refusal → Reply
set_in t j own r = answered (put_own t (slot j) own) (answer_of r)

-- the call f leaves the policy own as set, and comes to r
abbrev pub Sets : (Tables → Reply) → ℕ → Job → (own set : JobPolicy) → Bool → Result Unit Refusal → Type 0
Sets f job j own set empty r =
    (t : Tables) → job_at t (slot job) ≡ j → own_at t (slot job) ≡ own → job_empty t job ≡ empty →
    set_in t job set r ≡ f t

-- 0f by the list l: the inherited policy is looked at too
abbrev pub SetsUnder : (job option : ℕ) → (l : List BasicPolicy) → Job → (own set inherited : JobPolicy) → Bool →
    Result Unit Refusal → Type 0
SetsUnder job option l j own set inherited empty r =
    (t : Tables) → job_at t (slot job) ≡ j → own_at t (slot job) ≡ own → inherited_at t (slot job) ≡ inherited →
    job_empty t job ≡ empty → set_in t job set r ≡ set_policy_basic t job option l

-- ---- 10: the job; empty as above -----------------------------------------------------------------------

-- the reply that the job v and this outcome stand for
unfoldable pub settled : Tables → ℕ → Job → Result Unit Refusal → Reply
settled t j v r = answered (put_job t (slot j) v) (answer_of r)

-- the call f on the job, whose record is j, leaves it as v and comes to r
abbrev pub Settles : (Tables → Reply) → ℕ → (j v : Job) → Bool → Result Unit Refusal → Type 0
Settles f job j v empty r =
    (t : Tables) → job_at t (slot job) ≡ j → job_empty t job ≡ empty → settled t job v r ≡ f t

-- ---- 1b: nothing is changed --------------------------------------------------------------------------

abbrev pub Shows : (Tables → Reply) → ℕ → Job → JobPolicy → JobPolicy → Result Information Refusal → Type 0
Shows f job j own inherited r =
    (t : Tables) → job_at t (slot job) ≡ j → own_at t (slot job) ≡ own → inherited_at t (slot job) ≡ inherited →
    informed t r ≡ f t

-- killed, terminated, slack amount, mode
unfoldable pub fields_of : Job → Fields
fields_of v = JobFields v.killed v.terminated v.slack.amount v.slack.mode
