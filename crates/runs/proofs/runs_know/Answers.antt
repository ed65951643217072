use Rattle.runs.proofs.Theorems.{runs_know}
use Rattle.runs.proofs.runs_know.Goals as goal

pub returns : goal.returns
returns c = runs_know
