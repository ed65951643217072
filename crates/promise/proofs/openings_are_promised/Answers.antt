use Rattle.promise.proofs.Theorems.{openings_are_promised}
use Rattle.promise.proofs.openings_are_promised.Goals as goal

pub returns : goal.returns
returns c = openings_are_promised
