use Rattle.std.proofs.Common.{◌≡◌, take}
use Rattle.listed.specs.Next.{next}
use Rattle.listed.proofs.next_on.Given as goal

abbrev pub invariant-loop-i : goal.invariant-loop-i
invariant-loop-i g l =
    next (λ v. g.T.Listed.is_on v l.owner) (take 256 l.table) l.i
    ≡ next (λ v. g.T.Listed.is_on v l.owner) (take 256 l.table) l.from
