use Rattle.runs.proofs.Theorems.{runs_marked}
use Rattle.runs.proofs.runs_marked.Goals as goal

pub returns : goal.returns
returns c = runs_marked
