use Rattle.questions.proofs.Worked.{cases}
use Rattle.questions.proofs.laws.cases_stand.Goals as goal

pub returns : goal.returns
returns c = cases
