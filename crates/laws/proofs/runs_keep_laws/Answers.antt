use Rattle.laws.proofs.Runs.{runs_keep_laws}
use Rattle.laws.proofs.runs_keep_laws.Goals as goal

pub returns : goal.returns
returns c = runs_keep_laws
