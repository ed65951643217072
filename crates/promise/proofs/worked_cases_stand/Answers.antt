use Rattle.promise.proofs.Theorems.{worked_cases_stand}
use Rattle.promise.proofs.worked_cases_stand.Goals as goal

pub returns : goal.returns
returns c = worked_cases_stand
