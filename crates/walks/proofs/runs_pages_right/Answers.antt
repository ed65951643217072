use Rattle.walks.proofs.Theorems.{runs_pages_right}
use Rattle.walks.proofs.runs_pages_right.Goals as goal

pub returns : goal.returns
returns c = runs_pages_right
