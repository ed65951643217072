use Rattle.bounds.proofs.Theorems.{worked_runs_stand}
use Rattle.bounds.proofs.worked_runs_stand.Goals as goal

pub returns : goal.returns
returns c = worked_runs_stand
