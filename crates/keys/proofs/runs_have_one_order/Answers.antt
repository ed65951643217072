use Rattle.keys.proofs.Theorems.{runs_have_one_order}
use Rattle.keys.proofs.runs_have_one_order.Goals as goal

pub returns : goal.returns
returns c = runs_have_one_order
