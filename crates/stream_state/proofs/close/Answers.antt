use Prim.Native.Nat.{ℕ, ◌-◌}
use native.Mathlib.Omega.{arith}
use mathlib.Core.Path.{◌≡◌, refl, sym, ◌∙◌}
use mathlib.Core.List.{List, []}
use lib.Dec.{ltb}
use lib.ListN.{length}
use Rattle.laws.specs.Choice.{if◌then◌otherwise◌}
use Rattle.laws.proofs.Cases.{by}
use Rattle.lines.specs.Line.{within, Put}
use Rattle.stream_state.specs.State.{closing}
use Rattle.stream_state.proofs.close.Goals as goal

no_line : (l : List ℕ) → Put l l 0 0 (within (length l) [])
unfolding within if◌then◌otherwise◌
no_line l =
    by (ltb (length l) 128)
    (λ t. rw t (record { end = refl; holds = refl }))
    (λ e. rw e (record { end = refl; holds = refl }))

pub returns-then-is_empty-clause-put : goal.returns-then-is_empty-clause-put
unfolding closing if◌then◌otherwise◌
returns-then-is_empty-clause-put c = rw (sym c.is_empty.ensures ∙ c.if-is_empty.true) (no_line _)

pub returns-clause-put : goal.returns-clause-put
unfolding closing if◌then◌otherwise◌
returns-clause-put c =
    let room : length c.args.out.now - 0 ≡ length c.args.out.now = omega arith in
    let line = rw (room, c.next_number.ensures) at c.put_stop.ensures.put in
    rw (sym c.is_empty.ensures ∙ c.if-is_empty.false) line
