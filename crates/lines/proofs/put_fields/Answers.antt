use Rattle.std.proofs.Common.{rules}
use Rattle.lines.proofs.Puts.{left_in}
use Rattle.lines.proofs.put_fields.Goals as goal

pub returns-clause-put : goal.returns-clause-put
returns-clause-put c = left_in c.fields.ensures.put (search rules)
