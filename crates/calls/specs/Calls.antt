-- The call that the bytes of a command stand for: operands in the order of document 01's table, bytes
-- 1, 2 and 3 as a, b and c. Bytes that are no whole command stand for none.
use Rattle.std.specs.Prelude.{ℕ, List, pos, take}
use Rattle.laws.specs.Choice.{◌=?◌, ◌<?◌, if◌then◌otherwise◌}
use Rattle.records.specs.declared.tables.Tables.{Tables}
use Rattle.reply.specs.declared.Reply.{Reply}
use Rattle.reply.specs.Reply.{answered}
use Rattle.model.specs.Step.{Call, cmd01, cmd02, cmd03, cmd04, cmd05, cmd06, cmd07, cmd08, cmd09}
use Rattle.model.specs.Step.{cmd0a, cmd0b, cmd0c, cmd0d, cmd0e, cmd0f, cmd10, cmd11, cmd12, cmd13}
use Rattle.model.specs.Step.{cmd14, cmd15, cmd16, cmd17, cmd18, cmd19, cmd1a, cmd1b, cmd1c, cmd1d}
use Rattle.model.specs.Step.{cmd1e, cmd1f, step}
use Rattle.commands.specs.declared.Next.{Next}
use Rattle.commands.specs.declared.Next.TheVariants.{Wait, Stop, Whole}
use Rattle.commands.specs.Commands.{byte, half, word, long, signed64, pairs_at, next_of}

-- what some bytes stand for
pub data Called : Type 0 where
  no_call : Called
  called : Call → Called

-- 0f: a count above 4 is no command
abbrev pub policy_call : (job option count : ℕ) → List ℕ → Called
policy_call job option count bs =
    if 4 <? count then no_call otherwise called (cmd0f job option (take count (pairs_at bs)))

unfoldable pub call_by : (code a b c : ℕ) → List ℕ → Called
call_by code a b c bs =
    if code =? 0x01 then called (cmd01 a b) otherwise
    if code =? 0x02 then called (cmd02 a) otherwise
    if code =? 0x03 then called (cmd03 a b) otherwise
    if code =? 0x04 then called (cmd04 a b) otherwise
    if code =? 0x05 then called (cmd05 a (signed64 (long bs 2))) otherwise
    if code =? 0x06 then called (cmd06 a) otherwise
    if code =? 0x07 then called (cmd07 a b c) otherwise
    if code =? 0x08 then called (cmd08 a b) otherwise
    if code =? 0x09 then called (cmd09 a) otherwise
    if code =? 0x0a then called (cmd0a a) otherwise
    if code =? 0x0b then called (cmd0b a) otherwise
    if code =? 0x0c then called (cmd0c a) otherwise
    if code =? 0x0d then called (cmd0d a b c) otherwise
    if code =? 0x0e then called (cmd0e a) otherwise
    if code =? 0x0f then policy_call a b c bs otherwise
    if code =? 0x10 then called (cmd10 a (signed64 (long bs 2)) (byte bs 10)) otherwise
    if code =? 0x11 then called (cmd11 a b) otherwise
    if code =? 0x12 then called (cmd12 a b) otherwise
    if code =? 0x13 then called (cmd13 a b) otherwise
    if code =? 0x14 then called (cmd14 a (half bs 2)) otherwise
    if code =? 0x15 then called (cmd15 a) otherwise
    if code =? 0x16 then called (cmd16 a (word bs 2)) otherwise
    if code =? 0x17 then called (cmd17 a (word bs 2)) otherwise
    if code =? 0x18 then called (cmd18 a) otherwise
    if code =? 0x19 then called (cmd19 a (half bs 2)) otherwise
    if code =? 0x1a then called (cmd1a a b) otherwise
    if code =? 0x1b then called (cmd1b a) otherwise
    if code =? 0x1c then called (cmd1c a) otherwise
    if code =? 0x1d then called (cmd1d a) otherwise
    if code =? 0x1e then called (cmd1e a b) otherwise
    if code =? 0x1f then called (cmd1f a b) otherwise
    no_call

-- the call of a command, its bytes at hand
abbrev pub call_at : List ℕ → Called
call_at bs = call_by (byte bs 0) (byte bs 1) (byte bs 2) (byte bs 3) bs

abbrev pub on_whole : Next → Called → Called
on_whole Wait c = no_call
on_whole Stop c = no_call
on_whole (Whole n) c = c

-- the call at the front of some bytes: none where they are cut or no command
unfoldable pub call_in : List ℕ → Called
call_in bs = on_whole (next_of bs) (call_at bs)

-- no call changes nothing
unfoldable pub perform : Tables → Called → Reply
perform t no_call = answered t (pos 0)
perform t (called c) = step t c
