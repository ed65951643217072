use Rattle.std.proofs.Common.{rules}
use Rattle.questions_c.proofs.questions_order.Goals as goal

pub returns-in-Ok-clause-after : goal.returns-in-Ok-clause-after
returns-in-Ok-clause-after c = search rules
