use Rattle.runs.proofs.Theorems.{runs_step}
use Rattle.runs.proofs.runs_step.Goals as goal

pub returns : goal.returns
returns c = runs_step
