use Rattle.walks.proofs.Theorems.{worked_case_stands}
use Rattle.walks.proofs.worked_case_stands.Goals as goal

pub returns : goal.returns
returns c = worked_case_stands
