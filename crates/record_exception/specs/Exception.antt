-- An exception that a handler holds. Follows exception.rs; its iterators are a place here.
use Rattle.std.specs.Prelude.{ℕ, Bool, false}
use Rattle.record_exception.specs.declared.Place.{Place}
use Rattle.record_exception.specs.declared.Place.TheVariants.{Debugger, OwnThread}
use Rattle.record_exception.specs.declared.Place.TheVariants.{OwnProcess, SecondChance}
use Rattle.record_exception.specs.declared.Place.TheVariants.{OfJob, OfJobDebugger, Exiting}
use Rattle.record_exception.specs.declared.Exception.{Exception}

-- the channel level that has the exception
abbrev pub level_of : Place → ℕ
level_of Debugger = 1
level_of OwnThread = 2
level_of OwnProcess = 3
level_of SecondChance = 1
level_of (OfJob j) = 4
level_of (OfJobDebugger j) = 5
level_of Exiting = 1

-- `current_channel_type`: ThreadExiting goes to level 1 without becoming current (M11)
abbrev pub current_level : Place → ℕ
current_level Debugger = 1
current_level OwnThread = 2
current_level OwnProcess = 3
current_level SecondChance = 1
current_level (OfJob j) = 4
current_level (OfJobDebugger j) = 5
current_level Exiting = 0

-- delivered at a place, not handled
abbrev pub exception_at : ℕ → Place → Bool → Exception
exception_at kind place second =
    record { kind = kind; place = place; handled = false; second = second }

abbrev pub with_handled : Exception → Bool → Exception
with_handled e b = record { kind = e.kind; place = e.place; handled = b; second = e.second }

abbrev pub with_second : Exception → Bool → Exception
with_second e b = record { kind = e.kind; place = e.place; handled = e.handled; second = b }
