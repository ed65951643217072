use Rattle.std.proofs.Common.{rules}
use Rattle.questions_c.proofs.questions_total.Goals as goal

pub returns-clause-after : goal.returns-clause-after
returns-clause-after c = search rules
