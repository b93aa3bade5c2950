-- 12 and 13 by the level's number: a level outside 1 to 5 is refused first. Assumes nothing.
use Prim.Native.Nat.{ℕ, ◌<◌}
use native.Mathlib.Omega.{arith}
use mathlib.Core.Path.{◌≡◌}
use mathlib.Core.Bool.{true}
use lib.IntN.{pos}
use borrow.Author.Tests.{eqb-false, lt-ltb}
use Rattle.laws.specs.Choice.{◌=?◌, ◌or◌}
use Rattle.laws.proofs.Cases.{by}
use Rattle.records.specs.declared.tables.Tables.{Tables}
use Rattle.reply.specs.declared.Reply.{Reply}
use Rattle.reply.specs.Reply.{answered}
use Rattle.model.specs.ExceptionCalls.{bad_level, bind_level, hang_up_level}
use Rattle.model.proofs.Answering.{refuses}
use Rattle.exceptionate.specs.declared.ChannelCall.{ChannelCall}
use Rattle.exceptionate.specs.declared.ChannelCall.TheVariants.{CreateChannel, HangUp}
use Rattle.exceptionate.specs.Exceptionate.{on_level}

-- none of 1 to 5
bad : (n : ℕ) → (n ≡ 1 → ⊥) → (n ≡ 2 → ⊥) → (n ≡ 3 → ⊥) → (n ≡ 4 → ⊥) → (n ≡ 5 → ⊥) → bad_level n ≡ true
unfolding ◌or◌
bad n h1 h2 h3 h4 h5 =
    by (n =? 0) (λ z. rw z)
    (λ z.
    let a = eqb-false n 0 z in
    let k : 5 < n = omega arith in
    rw z (lt-ltb 5 n k))

refused : (call : ChannelCall) (t : Tables) (level n : ℕ) {x : Reply} → bad_level level ≡ true →
    x ≡ answered t (pos 104) → x ≡ on_level call t level n
unfolding on_level bind_level hang_up_level
refused CreateChannel t level n e h = refuses t (pos 104) _ h e
refused HangUp t level n e h = refuses t (pos 104) _ h e

pub no_level : (call : ChannelCall) (t : Tables) (level n : ℕ) {x : Reply} →
    (level ≡ 1 → ⊥) → (level ≡ 2 → ⊥) → (level ≡ 3 → ⊥) → (level ≡ 4 → ⊥) → (level ≡ 5 → ⊥) →
    x ≡ answered t (pos 104) → x ≡ on_level call t level n
no_level call t level n h1 h2 h3 h4 h5 e = refused call t level n (bad level h1 h2 h3 h4 h5) e
