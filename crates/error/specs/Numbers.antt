-- The numbers of error.rs that document 01 names, and the port's own, as definitions write them.
use Rattle.error.specs.declared.Refusal.{Refusal}
use Rattle.error.specs.declared.Refusal.TheVariants.{PastTable, Used, NotMade, BadField, OutOfTurn, Panics, Full, Zx}
use Rattle.error.specs.declared.ZxError.{ZxError}
use Rattle.error.specs.declared.ZxError.TheVariants.{InvalidArgs, BadState, TimedOut, ShouldWait, Canceled}
use Rattle.error.specs.declared.ZxError.TheVariants.{AlreadyExists, AlreadyBound, AccessDenied, Stop, Next}
use Rattle.std.specs.Prelude.{ℤ, pos, Result, Ok, Err}
use Rattle.laws.specs.Choice.{minus}

abbrev pub INVALID_ARGS : ℤ
INVALID_ARGS = minus 10

abbrev pub BAD_STATE : ℤ
BAD_STATE = minus 20

abbrev pub TIMED_OUT : ℤ
TIMED_OUT = minus 21

abbrev pub SHOULD_WAIT : ℤ
SHOULD_WAIT = minus 22

abbrev pub CANCELED : ℤ
CANCELED = minus 23

abbrev pub ALREADY_EXISTS : ℤ
ALREADY_EXISTS = minus 26

abbrev pub ALREADY_BOUND : ℤ
ALREADY_BOUND = minus 27

abbrev pub ACCESS_DENIED : ℤ
ACCESS_DENIED = minus 30

abbrev pub STOP : ℤ
STOP = minus 60

abbrev pub NEXT : ℤ
NEXT = minus 61

abbrev pub zx_number : ZxError → ℤ
zx_number InvalidArgs = INVALID_ARGS
zx_number BadState = BAD_STATE
zx_number TimedOut = TIMED_OUT
zx_number ShouldWait = SHOULD_WAIT
zx_number Canceled = CANCELED
zx_number AlreadyExists = ALREADY_EXISTS
zx_number AlreadyBound = ALREADY_BOUND
zx_number AccessDenied = ACCESS_DENIED
zx_number Stop = STOP
zx_number Next = NEXT

-- the number with which a refused call is answered
abbrev pub number_of : Refusal → ℤ
number_of PastTable = pos 101
number_of Used = pos 102
number_of NotMade = pos 103
number_of BadField = pos 104
number_of OutOfTurn = pos 105
number_of Panics = pos 106
number_of Full = pos 107
number_of (Zx error) = zx_number error

-- the number with which a call is answered: 0 if it is accepted
abbrev pub answer_of : Result Unit Refusal → ℤ
answer_of (Ok done) = pos 0
answer_of (Err refusal) = number_of refusal
