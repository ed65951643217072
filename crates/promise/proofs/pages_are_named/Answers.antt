use Rattle.promise.proofs.Theorems.{pages_are_named}
use Rattle.promise.proofs.pages_are_named.Goals as goal

pub returns : goal.returns
returns c = pages_are_named
