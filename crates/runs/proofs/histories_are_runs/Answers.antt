use Rattle.runs.proofs.Theorems.{histories_are_runs}
use Rattle.runs.proofs.histories_are_runs.Goals as goal

pub returns : goal.returns
returns c = histories_are_runs
