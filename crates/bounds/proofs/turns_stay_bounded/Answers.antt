use Rattle.bounds.proofs.Theorems.{turns_stay_bounded}
use Rattle.bounds.proofs.turns_stay_bounded.Goals as goal

pub returns : goal.returns
returns c = turns_stay_bounded
