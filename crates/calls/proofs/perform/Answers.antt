use mathlib.Core.Path.{ap, ◌∙◌}
use lib.IntN.{ℤ}
use mir.Syntax.{w64}
use mir.Val.{SFits}
use mir.Facts.{to_z-of_z}
use Rattle.laws.specs.Choice.{if◌then◌otherwise◌}
use Rattle.reply.specs.Reply.{showing, answered}
use Rattle.commands.specs.Commands.{byte}
use Rattle.model.specs.Step.{cmd05, cmd10, step}
use Rattle.calls.specs.Calls.{called, call_by, perform}
use Rattle.calls.proofs.Calling.{here, nowhere, no_other, settles, informs, raises}
use Rattle.calls.proofs.perform.Goals as goal

pub returns-in-1 : goal.returns-in-1
unfolding perform call_by step if◌then◌otherwise◌
returns-in-1 c =
    here c.args.t.now c.args.s.now 1 c.byte_at-a.ensures c.byte_at-b.ensures c.byte_at.ensures c.in-1.is
    (settles _ _ c.settled.ensures c.create_child.ensures)

pub returns-in-2 : goal.returns-in-2
unfolding perform call_by step if◌then◌otherwise◌
returns-in-2 c =
    here c.args.t.now c.args.s.now 2 c.byte_at-a.ensures c.byte_at-b.ensures c.byte_at.ensures c.in-2.is
    (settles _ _ c.settled-in-2.ensures c.kill.ensures)

pub returns-in-3 : goal.returns-in-3
unfolding perform call_by step if◌then◌otherwise◌
returns-in-3 c =
    here c.args.t.now c.args.s.now 3 c.byte_at-a.ensures c.byte_at-b.ensures c.byte_at.ensures c.in-3.is
    (settles _ _ c.settled-in-3.ensures c.create_with_ext.ensures)

pub returns-in-4 : goal.returns-in-4
unfolding perform call_by step if◌then◌otherwise◌
returns-in-4 c =
    here c.args.t.now c.args.s.now 4 c.byte_at-a.ensures c.byte_at-b.ensures c.byte_at.ensures c.in-4.is
    (settles _ _ c.settled-in-4.ensures c.start.ensures)

pub returns-in-5 : goal.returns-in-5
unfolding perform call_by step if◌then◌otherwise◌
returns-in-5 c =
    let z : SFits w64 c.value_at.result = record { sfits = c.value_at.type_inv } in
    here c.args.t.now c.args.s.now 5 c.byte_at-a.ensures c.byte_at-b.ensures c.byte_at.ensures c.in-5.is
    ((settles _ _ c.settled-in-5.ensures c.exit.ensures)
    ∙ ap (λ (x : ℤ). perform c.args.t.now (called (cmd05 c.byte_at-a.result x)))
    (to_z-of_z {w = w64} z ∙ c.value_at.ensures))

pub returns-in-6 : goal.returns-in-6
unfolding perform call_by step if◌then◌otherwise◌
returns-in-6 c =
    here c.args.t.now c.args.s.now 6 c.byte_at-a.ensures c.byte_at-b.ensures c.byte_at.ensures c.in-6.is
    (settles _ _ c.settled-in-6.ensures c.kill-in-6.ensures)

pub returns-in-7 : goal.returns-in-7
unfolding perform call_by step if◌then◌otherwise◌
returns-in-7 c =
    here c.args.t.now c.args.s.now 7 c.byte_at-a.ensures c.byte_at-b.ensures c.byte_at.ensures c.in-7.is
    (simp (c.byte_at-in-7.ensures) at (settles _ _ c.settled-in-7.ensures c.set_critical_at_job.ensures))

pub returns-in-8 : goal.returns-in-8
unfolding perform call_by step if◌then◌otherwise◌
returns-in-8 c =
    here c.args.t.now c.args.s.now 8 c.byte_at-a.ensures c.byte_at-b.ensures c.byte_at.ensures c.in-8.is
    (settles _ _ c.settled-in-8.ensures c.create_with_ext-in-8.ensures)

pub returns-in-9 : goal.returns-in-9
unfolding perform call_by step if◌then◌otherwise◌
returns-in-9 c =
    here c.args.t.now c.args.s.now 9 c.byte_at-a.ensures c.byte_at-b.ensures c.byte_at.ensures c.in-9.is
    (settles _ _ c.settled-in-9.ensures c.start-in-9.ensures)

pub returns-in-10 : goal.returns-in-10
unfolding perform call_by step if◌then◌otherwise◌
returns-in-10 c =
    here c.args.t.now c.args.s.now 10 c.byte_at-a.ensures c.byte_at-b.ensures c.byte_at.ensures c.in-10.is
    (settles _ _ c.settled-in-10.ensures c.kill-in-10.ensures)

pub returns-in-11 : goal.returns-in-11
unfolding perform call_by step if◌then◌otherwise◌
returns-in-11 c =
    here c.args.t.now c.args.s.now 11 c.byte_at-a.ensures c.byte_at-b.ensures c.byte_at.ensures c.in-11.is
    (settles _ _ c.settled-in-11.ensures c.exit-in-11.ensures)

pub returns-in-12 : goal.returns-in-12
unfolding perform call_by step if◌then◌otherwise◌
returns-in-12 c =
    here c.args.t.now c.args.s.now 12 c.byte_at-a.ensures c.byte_at-b.ensures c.byte_at.ensures c.in-12.is
    (settles _ _ c.settled-in-12.ensures c.finish.ensures)

pub returns-in-13 : goal.returns-in-13
unfolding perform call_by step if◌then◌otherwise◌
returns-in-13 c =
    here c.args.t.now c.args.s.now 13 c.byte_at-a.ensures c.byte_at-b.ensures c.byte_at.ensures c.in-13.is
    (simp (c.byte_at-in-13.ensures) at (settles _ _ c.settled-in-13.ensures c.create.ensures))

pub returns-in-14 : goal.returns-in-14
unfolding perform call_by step if◌then◌otherwise◌
returns-in-14 c =
    here c.args.t.now c.args.s.now 14 c.byte_at-a.ensures c.byte_at-b.ensures c.byte_at.ensures c.in-14.is
    (settles _ _ c.settled-in-14.ensures c.drop.ensures)

pub returns-in-15 : goal.returns-in-15
unfolding perform call_by step if◌then◌otherwise◌
returns-in-15 c =
    here c.args.t.now c.args.s.now 15 c.byte_at-a.ensures c.byte_at-b.ensures c.byte_at.ensures c.in-15.is
    (c.set_policy.ensures)

pub returns-in-16 : goal.returns-in-16
unfolding perform call_by step if◌then◌otherwise◌
returns-in-16 c =
    let z : SFits w64 c.value_at-in-16.result = record { sfits = c.value_at-in-16.type_inv } in
    here c.args.t.now c.args.s.now 16 c.byte_at-a.ensures c.byte_at-b.ensures c.byte_at.ensures c.in-16.is
    ((simp (c.byte_at-in-16.ensures) at (c.set_slack.ensures))
    ∙ ap (λ (x : ℤ). perform c.args.t.now (called (cmd10 c.byte_at-a.result x (byte c.args.s.now 10))))
    (to_z-of_z {w = w64} z ∙ c.value_at-in-16.ensures))

pub returns-in-17 : goal.returns-in-17
unfolding perform call_by step if◌then◌otherwise◌
returns-in-17 c =
    here c.args.t.now c.args.s.now 17 c.byte_at-a.ensures c.byte_at-b.ensures c.byte_at.ensures c.in-17.is
    (settles _ _ c.settled-in-17.ensures c.check_policy.ensures)

pub returns-in-18 : goal.returns-in-18
unfolding perform call_by step if◌then◌otherwise◌
returns-in-18 c =
    here c.args.t.now c.args.s.now 18 c.byte_at-a.ensures c.byte_at-b.ensures c.byte_at.ensures c.in-18.is
    (settles _ _ c.settled-in-18.ensures c.create_channel.ensures)

pub returns-in-19 : goal.returns-in-19
unfolding perform call_by step if◌then◌otherwise◌
returns-in-19 c =
    here c.args.t.now c.args.s.now 19 c.byte_at-a.ensures c.byte_at-b.ensures c.byte_at.ensures c.in-19.is
    (settles _ _ c.settled-in-19.ensures c.hang_up.ensures)

pub returns-in-20 : goal.returns-in-20
unfolding perform call_by step if◌then◌otherwise◌
returns-in-20 c =
    here c.args.t.now c.args.s.now 20 c.byte_at-a.ensures c.byte_at-b.ensures c.byte_at.ensures c.in-20.is
    (simp (c.half_at.ensures) at (raises _ _ _ c.raised.ensures c.handle_exception.ensures))

pub returns-in-21 : goal.returns-in-21
unfolding perform call_by step if◌then◌otherwise◌
returns-in-21 c =
    here c.args.t.now c.args.s.now 21 c.byte_at-a.ensures c.byte_at-b.ensures c.byte_at.ensures c.in-21.is
    (raises _ _ _ c.raised-in-21.ensures c.close.ensures)

pub returns-in-22 : goal.returns-in-22
unfolding perform call_by step if◌then◌otherwise◌
returns-in-22 c =
    here c.args.t.now c.args.s.now 22 c.byte_at-a.ensures c.byte_at-b.ensures c.byte_at.ensures c.in-22.is
    (simp (c.word_at.ensures) at (settles _ _ c.settled-in-22.ensures c.set_state.ensures))

pub returns-in-23 : goal.returns-in-23
unfolding perform call_by step if◌then◌otherwise◌
returns-in-23 c =
    here c.args.t.now c.args.s.now 23 c.byte_at-a.ensures c.byte_at-b.ensures c.byte_at.ensures c.in-23.is
    (simp (c.word_at-in-23.ensures) at (settles _ _ c.settled-in-23.ensures c.set_strategy.ensures))

pub returns-in-24 : goal.returns-in-24
unfolding perform call_by step if◌then◌otherwise◌
returns-in-24 c =
    here c.args.t.now c.args.s.now 24 c.byte_at-a.ensures c.byte_at-b.ensures c.byte_at.ensures c.in-24.is
    (settles _ _ c.settled-in-24.ensures c.get_process_handle.ensures)

pub returns-in-25 : goal.returns-in-25
unfolding perform call_by step if◌then◌otherwise◌
returns-in-25 c =
    here c.args.t.now c.args.s.now 25 c.byte_at-a.ensures c.byte_at-b.ensures c.byte_at.ensures c.in-25.is
    (simp (c.half_at-in-25.ensures) at (settles _ _ c.settled-in-25.ensures c.begin_wait.ensures))

pub returns-in-26 : goal.returns-in-26
unfolding perform call_by step if◌then◌otherwise◌
returns-in-26 c =
    here c.args.t.now c.args.s.now 26 c.byte_at-a.ensures c.byte_at-b.ensures c.byte_at.ensures c.in-26.is
    (settles _ _ c.settled-in-26.ensures c.poll_wait.ensures)

pub returns-in-27 : goal.returns-in-27
unfolding perform call_by step if◌then◌otherwise◌
returns-in-27 c =
    here c.args.t.now c.args.s.now 27 c.byte_at-a.ensures c.byte_at-b.ensures c.byte_at.ensures c.in-27.is
    (informs _ _ c.informed.ensures c.get_info.ensures)

pub returns-in-28 : goal.returns-in-28
unfolding perform call_by step if◌then◌otherwise◌
returns-in-28 c =
    here c.args.t.now c.args.s.now 28 c.byte_at-a.ensures c.byte_at-b.ensures c.byte_at.ensures c.in-28.is
    (informs _ _ c.informed-in-28.ensures c.get_info-in-28.ensures)

pub returns-in-29 : goal.returns-in-29
unfolding perform call_by step if◌then◌otherwise◌
returns-in-29 c =
    here c.args.t.now c.args.s.now 29 c.byte_at-a.ensures c.byte_at-b.ensures c.byte_at.ensures c.in-29.is
    (informs _ _ c.informed-in-29.ensures c.get_thread_info.ensures)

pub returns-in-30 : goal.returns-in-30
unfolding perform call_by step if◌then◌otherwise◌
returns-in-30 c =
    here c.args.t.now c.args.s.now 30 c.byte_at-a.ensures c.byte_at-b.ensures c.byte_at.ensures c.in-30.is
    (settles _ _ c.settled-in-30.ensures c.suspend.ensures)

pub returns-in-31 : goal.returns-in-31
unfolding perform call_by step if◌then◌otherwise◌
returns-in-31 c =
    here c.args.t.now c.args.s.now 31 c.byte_at-a.ensures c.byte_at-b.ensures c.byte_at.ensures c.in-31.is
    (settles _ _ c.settled-in-31.ensures c.resume.ensures)

pub returns-in_default : goal.returns-in_default
unfolding perform showing answered
returns-in_default c =
    let s = c.args.s.now in
    let r = c.in_default.in_default-own.rest in
    nowhere c.args.t.now s c.byte_at-a.ensures c.byte_at-b.ensures c.byte_at.ensures
    (no_other _ _ _ (byte s 3) s
    r.0.0.0.0.0.0.0.0.0.0.0.0.0.0.0.0.0.0.0.0.0.0.0.0.0.0.0.0.0.0.1
    r.0.0.0.0.0.0.0.0.0.0.0.0.0.0.0.0.0.0.0.0.0.0.0.0.0.0.0.0.0.1
    r.0.0.0.0.0.0.0.0.0.0.0.0.0.0.0.0.0.0.0.0.0.0.0.0.0.0.0.0.1
    r.0.0.0.0.0.0.0.0.0.0.0.0.0.0.0.0.0.0.0.0.0.0.0.0.0.0.0.1
    r.0.0.0.0.0.0.0.0.0.0.0.0.0.0.0.0.0.0.0.0.0.0.0.0.0.0.1
    r.0.0.0.0.0.0.0.0.0.0.0.0.0.0.0.0.0.0.0.0.0.0.0.0.0.1
    r.0.0.0.0.0.0.0.0.0.0.0.0.0.0.0.0.0.0.0.0.0.0.0.0.1
    r.0.0.0.0.0.0.0.0.0.0.0.0.0.0.0.0.0.0.0.0.0.0.0.1
    r.0.0.0.0.0.0.0.0.0.0.0.0.0.0.0.0.0.0.0.0.0.0.1
    r.0.0.0.0.0.0.0.0.0.0.0.0.0.0.0.0.0.0.0.0.0.1
    r.0.0.0.0.0.0.0.0.0.0.0.0.0.0.0.0.0.0.0.0.1
    r.0.0.0.0.0.0.0.0.0.0.0.0.0.0.0.0.0.0.0.1
    r.0.0.0.0.0.0.0.0.0.0.0.0.0.0.0.0.0.0.1
    r.0.0.0.0.0.0.0.0.0.0.0.0.0.0.0.0.0.1
    r.0.0.0.0.0.0.0.0.0.0.0.0.0.0.0.0.1
    r.0.0.0.0.0.0.0.0.0.0.0.0.0.0.0.1
    r.0.0.0.0.0.0.0.0.0.0.0.0.0.0.1
    r.0.0.0.0.0.0.0.0.0.0.0.0.0.1
    r.0.0.0.0.0.0.0.0.0.0.0.0.1
    r.0.0.0.0.0.0.0.0.0.0.0.1
    r.0.0.0.0.0.0.0.0.0.0.1
    r.0.0.0.0.0.0.0.0.0.1
    r.0.0.0.0.0.0.0.0.1
    r.0.0.0.0.0.0.0.1
    r.0.0.0.0.0.0.1
    r.0.0.0.0.0.1
    r.0.0.0.0.1
    r.0.0.0.1
    r.0.0.1
    r.0.1
    r.1)
    (rw c.answered.ensures.is)
