use Rattle.walks.proofs.Theorems.{turns_stay_within_limit}
use Rattle.walks.proofs.turns_stay_within_limit.Goals as goal

pub returns : goal.returns
returns c = turns_stay_within_limit
