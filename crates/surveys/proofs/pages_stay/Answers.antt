use Rattle.surveys.proofs.Theorems.{pages_stay}
use Rattle.surveys.proofs.pages_stay.Goals as goal

pub returns : goal.returns
returns c = pages_stay
