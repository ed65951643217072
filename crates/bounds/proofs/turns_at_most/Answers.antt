use Rattle.bounds.proofs.Theorems.{turns_at_most}
use Rattle.bounds.proofs.turns_at_most.Goals as goal

pub returns : goal.returns
returns c = turns_at_most
