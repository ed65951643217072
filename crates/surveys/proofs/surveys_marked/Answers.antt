use Rattle.surveys.proofs.Theorems.{surveys_marked}
use Rattle.surveys.proofs.surveys_marked.Goals as goal

pub returns : goal.returns
returns c = surveys_marked
