use Rattle.std.proofs.Common.{rules}
use Rattle.questions.proofs.page.PageGraphView.weight.Goals as goal

pub returns-then-shows-2 : goal.returns-then-shows-2
returns-then-shows-2 c = search rules
