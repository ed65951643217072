use Rattle.runs.proofs.Theorems.{worked_case_stands}
use Rattle.runs.proofs.worked_case_stands.Goals as goal

pub returns : goal.returns
returns c = worked_case_stands
