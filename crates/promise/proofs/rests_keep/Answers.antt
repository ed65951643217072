use Rattle.promise.proofs.Theorems.{rests_keep}
use Rattle.promise.proofs.rests_keep.Goals as goal

pub returns : goal.returns
returns c = rests_keep
