use Rattle.model.specs.ExceptionCalls.{close_exception}
use Rattle.exception.proofs.Raising.{raising}
use Rattle.exception.proofs.close.Goals as goal

pub returns-in_default-exception : goal.returns-in_default-exception
unfolding close_exception
returns-in_default-exception c t z a b d = search raising depth 20

pub returns-then-v-ge64 : goal.returns-then-v-ge64
unfolding close_exception
returns-then-v-ge64 c t z a b d = search raising depth 20

pub returns : goal.returns
unfolding close_exception
returns c t z a b d = search raising depth 20
