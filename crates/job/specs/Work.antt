-- How the code goes through a list once: what is known at the start, after an entry, and what is
-- answered at the end. `one_pass` of proofs/Fold.antt takes this to `set_policy_basic` of model.
use Rattle.std.specs.Prelude.{ℕ, Bool, true, false, not, List, [], ◌∷◌}
use Rattle.laws.specs.Choice.{◌≤?◌, ◌<?◌, ◌=?◌, if◌then◌otherwise◌}
use Rattle.laws.specs.Guarded.{ok, ◌>>◌, ◌>>=◌, refuse◌when◌, deny◌when◌}
use Rattle.error.specs.Numbers.{BAD_STATE}
use Rattle.job_policy.specs.declared.JobPolicy.{JobPolicy}
use Rattle.job_policy.specs.declared.BasicPolicy.{BasicPolicy}
use Rattle.job_policy.specs.Policy.{get_action, apply}
use Rattle.records.specs.declared.tables.Tables.{Tables}
use Rattle.reply.specs.declared.Reply.{Reply}
use Rattle.model.specs.Replies.{call, job}
use Rattle.model.specs.Job.{job_empty}
use Rattle.model.specs.JobPolicy.{is_set, bad_entry, Setting, setting, policy_set}
use Rattle.job.specs.declared.policy.Work.{Work}

abbrev pub work : JobPolicy → JobPolicy → ℕ → Bool → Bool → Work
work own inherited option bad refused =
    record { own = own; inherited = inherited; option = option; bad = bad; refused = refused }

-- before the first entry: what the job has set, and what it inherited
abbrev pub start_work : JobPolicy → JobPolicy → ℕ → Work
start_work own inherited option = work own inherited option false false

-- where the parent set the condition, Absolute (0) refuses the entry and Relative skips it (M10)
unfoldable pub enter_work : Work → BasicPolicy → Work
enter_work w b =
    if is_set (get_action w.inherited b.condition) then
    (if w.option =? 0 then work w.own w.inherited w.option w.bad true otherwise w) otherwise
    work (apply w.own b) w.inherited w.option w.bad w.refused

-- a bad entry is noted and nothing else, and after a refused one nothing is set
unfoldable pub step_work : Work → BasicPolicy → Work
step_work w b =
    if bad_entry b then work w.own w.inherited w.option true w.refused otherwise
    if w.refused then w otherwise
    enter_work w b

-- what is known after these entries
unfoldable pub after_each : Work → List BasicPolicy → Work
after_each w [] = w
after_each w (b ∷ l) = after_each (step_work w b) l

abbrev pub setting_of : Work → Setting
setting_of w = setting w.own w.refused

-- the refusals in document 01's order: bad is whether some entry was, s what the list leaves
unfoldable pub answer_with : Tables → ℕ → ℕ → Bool → Setting → Reply
answer_with t j option bad s = call t do
  refuse 104 when 1 <? option
  refuse 104 when bad
  refuse 101 when 32 ≤? j
  v ← job t j
  deny BAD_STATE when not (job_empty t j)
  ok (policy_set t j s)

unfoldable pub finish_work : Tables → ℕ → ℕ → Work → Reply
finish_work t j option w = answer_with t j option w.bad (setting_of w)
