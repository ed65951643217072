use Rattle.runs.proofs.Theorems.{runs_last}
use Rattle.runs.proofs.runs_last.Goals as goal

pub returns : goal.returns
returns c = runs_last
