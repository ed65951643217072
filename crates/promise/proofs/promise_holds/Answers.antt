use Rattle.promise.proofs.Theorems.{promise_holds}
use Rattle.promise.proofs.promise_holds.Goals as goal

pub returns : goal.returns
returns c = promise_holds
