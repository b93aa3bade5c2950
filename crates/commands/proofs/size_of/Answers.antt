use Rattle.std.proofs.Common.{rules}
use Rattle.commands.proofs.Sizes.{NoneOf, no_size}
use Rattle.commands.proofs.size_of.Goals as goal

pub returns-in_default : goal.returns-in_default
unfolding NoneOf
returns-in_default c = no_size _ (search rules)
