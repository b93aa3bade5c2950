-- What each call comes to: refused with a number of its row, or accepted with one of its answers.
-- One walk over the 31 definitions, for the claims `Refusals` and `Answers` both. Assumes nothing.
use Rattle.std.proofs.Common.{Option, Some, None}
use Prim.Native.Nat.{ℕ}
use mathlib.Core.Path.{◌≡◌, refl}
use mathlib.Core.Bool.{Bool, false}
use mathlib.Core.List.{List}
use lib.IntN.{ℤ, pos}
use Rattle.laws.specs.Choice.{◌or◌, if◌then◌otherwise◌}
use Rattle.laws.specs.Guarded.{Guarded}
use Rattle.laws.proofs.Cases.{if_on}
use Rattle.laws.proofs.Within.{Missing, found_in, missing_in, Within, within, settle_within}
use Rattle.job_policy.specs.declared.BasicPolicy.{BasicPolicy}
use Rattle.record_exception.specs.declared.Exception.{Exception}
use Rattle.record_exception.specs.declared.Place.{Place}
use Rattle.record_exception.specs.declared.Place.TheVariants.{Debugger, OwnThread, OwnProcess}
use Rattle.record_exception.specs.declared.Place.TheVariants.{SecondChance, OfJob, OfJobDebugger}
use Rattle.record_exception.specs.declared.Place.TheVariants.{Exiting}
use Rattle.records.specs.declared.tables.Tables.{Tables}
use Rattle.reply.specs.declared.Fields.TheVariants.{NoFields}
use Rattle.reply.specs.declared.Reply.{Reply}
use Rattle.reply.specs.Reply.{reply, answered}
use Rattle.records.specs.Tables.{own_at, inherited_at, put_own}
use Rattle.model.specs.Replies.{call, present, held_exception}
use Rattle.model.specs.JobPolicy.{set_each, policy_set, set_policy}
use Rattle.model.specs.Exception.{deliver, raise_exiting, raise, close}
use Rattle.model.specs.JobCalls.{create_child, kill_job_call, set_policy_basic}
use Rattle.model.specs.JobCalls.{set_policy_timer_slack, job_info, job_information, create_process}
use Rattle.model.specs.JobCalls.{start_process, exit_process_call, kill_process}
use Rattle.model.specs.JobCalls.{set_critical_at_job, check_policy, process_info}
use Rattle.model.specs.JobCalls.{process_information}
use Rattle.model.specs.ThreadCalls.{create_thread, start_thread, kill_thread, exit_thread}
use Rattle.model.specs.ThreadCalls.{finish_thread_call, thread_info, thread_information}
use Rattle.model.specs.ThreadCalls.{wait_begun, begin_wait, wait_answer, wait_polled, poll_wait}
use Rattle.model.specs.ThreadCalls.{create_token_call, drop_token_call, suspend_call, resume_call}
use Rattle.model.specs.ExceptionCalls.{bind_level, hang_up_level, raise_exception}
use Rattle.model.specs.ExceptionCalls.{close_exception, set_state, set_strategy}
use Rattle.model.specs.ExceptionCalls.{get_process_handle}
use Rattle.model.specs.Step.{Call, cmd01, cmd02, cmd03, cmd04, cmd05, cmd06, cmd07, cmd08}
use Rattle.model.specs.Step.{cmd09, cmd0a, cmd0b, cmd0c, cmd0d, cmd0e, cmd0f, cmd10, cmd11}
use Rattle.model.specs.Step.{cmd12, cmd13, cmd14, cmd15, cmd16, cmd17, cmd18, cmd19, cmd1a}
use Rattle.model.specs.Step.{cmd1b, cmd1c, cmd1d, cmd1e, cmd1f, step}
use Rattle.model.specs.Answers.{shape_of, row_of, OneOf, first, later}
use Rattle.model.specs.Answers.{PolicyShown}
use Rattle.job_policy.specs.Policy.{no_policy}
use Rattle.model.specs.Refusals.{is_refusal, Kept, same, part}
use Rattle.model.proofs.PartSet.{refused_sets_part}
use Rattle.model.proofs.Handlers.{Left, at_none, at_thread, at_process, at_second}
use Rattle.model.proofs.Handlers.{at_job, closing_leaves}

-- no answer of an accepted call is a refusal
pub data Outcome (t : Tables) (c : Call) (r : Reply) : Type 0 where
  refused : OneOf r.answer (row_of c).refusals → r.fields ≡ NoFields
      → r.policy ≡ no_policy → Kept t c r.answer r.tables → Outcome t c r
  accepted : OneOf r.answer (row_of c).answers → shape_of r.fields ≡ (row_of c).fields
      → PolicyShown (row_of c).fields r.policy → is_refusal r.answer ≡ false → Outcome t c r

-- a guard refuses with its number alone, and the tables stay
guarded : (t : Tables) (c : Call) (l : Guarded Reply)
    → Within (λ z. OneOf z (row_of c).refusals) (Outcome t c) l → Outcome t c (call t l)
unfolding answered
guarded t c l h = settle_within _ l (λ z n. refused n refl refl same) h

-- ---- Lookups: the number of each --------------------------------------------------------------

module _ {N : ℤ → Type 0} where
  no_record : {A : Type 0} (h : Option A) → N (pos 103) → Missing N (present h)
  unfolding present
  no_record None n = missing_in n
  no_record (Some v) n = found_in

  no_exception : (h : Option Exception) → N (pos 105) → Missing N (held_exception h)
  unfolding held_exception
  no_exception None n = missing_in n
  no_exception (Some e) n = found_in

ruleset lookups = (no_record, no_exception)

-- ---- Feet ----------------------------------------------------------------------------------

ruleset answer = (accepted, first, later)

-- a choice between two feet, or between two answers
module _ {t : Tables} {c : Call} where
  either : (b : Bool) (x y : Reply) → Outcome t c x → Outcome t c y
      → Outcome t c (if b then x otherwise y)
  either b x y p q = if_on (Outcome t c) b x y (λ _. p) λ _. q

  either_answer : (u : Tables) (b : Bool) (x y : ℤ) → Outcome t c (answered u x)
      → Outcome t c (answered u y) → Outcome t c (answered u (if b then x otherwise y))
  either_answer u b x y p q = if_on (λ z. Outcome t c (answered u z)) b x y (λ _. p) λ _. q

-- an exception delivered: the level, or -61
module _ {t : Tables} {n : ℕ} (u : Tables) (m kind : ℕ) (s : Bool) where
  raised : {k : ℕ} (h : Option Place) → Outcome t (cmd14 n k) (deliver h u m kind s)
  unfolding deliver row_of reply ◌or◌
  raised None = search answer depth 9
  raised (Some Debugger) = search answer depth 9
  raised (Some OwnThread) = search answer depth 9
  raised (Some OwnProcess) = search answer depth 9
  raised (Some SecondChance) = search answer depth 9
  raised (Some (OfJob j)) = search answer depth 9
  raised (Some (OfJobDebugger j)) = search answer depth 9
  raised (Some Exiting) = search answer depth 9

  closed : {h : Option Place} → Left h → Outcome t (cmd15 n) (deliver h u m kind s)
  unfolding deliver row_of reply ◌or◌
  closed at_none = search answer depth 9
  closed at_thread = search answer depth 9
  closed at_process = search answer depth 9
  closed at_second = search answer depth 9
  closed at_job = search answer depth 9

-- a policy list: the one refusal that leaves a change
listed : (t : Tables) (j option : ℕ) (l : List BasicPolicy)
    → Outcome t (cmd0f j option l) (set_policy t j option l)
unfolding set_policy policy_set row_of answered
listed t j option l =
    let s = set_each option (inherited_at t j) (own_at t j) l in
    if_on (λ z. Outcome t (cmd0f j option l) (answered (put_own t j s.own) z)) s.refused _ _
    (λ e. refused (search answer depth 9) refl refl (part (refused_sets_part t j option l e)))
    λ _. search answer

ruleset feet = (answer, either, either_answer, raised, closed, closing_leaves, listed)

-- ---- The calls -----------------------------------------------------------------------------

ruleset walk = (guarded, within, lookups, feet)

pub outcome : (t : Tables) (c : Call) → Outcome t c (step t c)
unfolding step row_of answered reply ◌or◌ wait_begun wait_answer wait_polled raise_exiting raise
    close create_child kill_job_call set_policy_basic set_policy_timer_slack job_info job_information
    create_process start_process exit_process_call kill_process set_critical_at_job check_policy
    process_info process_information create_thread start_thread kill_thread exit_thread
    finish_thread_call thread_info thread_information begin_wait poll_wait create_token_call
    drop_token_call suspend_call resume_call bind_level hang_up_level raise_exception close_exception
    set_state set_strategy get_process_handle
outcome t (cmd01 j n) = search walk depth 20
outcome t (cmd02 j) = search walk depth 20
outcome t (cmd03 j n) = search walk depth 20
outcome t (cmd04 p n) = search walk depth 20
outcome t (cmd05 p k) = search walk depth 20
outcome t (cmd06 p) = search walk depth 20
outcome t (cmd07 p j f) = search walk depth 20
outcome t (cmd08 p n) = search walk depth 20
outcome t (cmd09 n) = search walk depth 20
outcome t (cmd0a n) = search walk depth 20
outcome t (cmd0b n) = search walk depth 20
outcome t (cmd0c n) = search walk depth 20
outcome t (cmd0d k i n) = search walk depth 20
outcome t (cmd0e k) = search walk depth 20
outcome t (cmd0f j o l) = search walk depth 20
outcome t (cmd10 j a m) = search walk depth 20
outcome t (cmd11 p c) = search walk depth 20
outcome t (cmd12 l n) = search walk depth 20
outcome t (cmd13 l n) = search walk depth 20
outcome t (cmd14 n k) = search walk depth 20
outcome t (cmd15 n) = search walk depth 20
outcome t (cmd16 n s) = search walk depth 20
outcome t (cmd17 n s) = search walk depth 20
outcome t (cmd18 n) = search walk depth 20
outcome t (cmd19 n s) = search walk depth 20
outcome t (cmd1a n r) = search walk depth 20
outcome t (cmd1b j) = search walk depth 20
outcome t (cmd1c p) = search walk depth 20
outcome t (cmd1d n) = search walk depth 20
outcome t (cmd1e i n) = search walk depth 20
outcome t (cmd1f i n) = search walk depth 20
