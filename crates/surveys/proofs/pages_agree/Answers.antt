use Rattle.surveys.proofs.Theorems.{pages_agree}
use Rattle.surveys.proofs.pages_agree.Goals as goal

pub returns : goal.returns
returns c = pages_agree
