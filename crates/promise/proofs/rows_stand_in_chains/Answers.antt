use Rattle.promise.proofs.Theorems.{rows_stand_in_chains}
use Rattle.promise.proofs.rows_stand_in_chains.Goals as goal

pub returns : goal.returns
returns c = rows_stand_in_chains
