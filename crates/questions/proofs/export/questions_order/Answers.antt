use Rattle.std.proofs.Common.{rules}
use Rattle.questions.proofs.export.questions_order.Goals as goal

pub returns-clause-after : goal.returns-clause-after
returns-clause-after c = search rules
