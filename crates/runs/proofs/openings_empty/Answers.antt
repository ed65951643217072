use Rattle.runs.proofs.Theorems.{openings_empty}
use Rattle.runs.proofs.openings_empty.Goals as goal

pub returns : goal.returns
returns c = openings_empty
