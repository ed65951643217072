use Rattle.std.proofs.Common.{rules}
use Rattle.questions.proofs.best_first.relax.Goals as goal

pub loop-j-preserved : goal.loop-j-preserved
loop-j-preserved g c = search rules
