use Rattle.std.proofs.Common.{rules}
use Rattle.questions.proofs.best_first.pick.Goals as goal

pub loop-k-preserved : goal.loop-k-preserved
loop-k-preserved g c = search rules
