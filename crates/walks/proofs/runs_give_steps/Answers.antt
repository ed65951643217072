use Rattle.walks.proofs.Theorems.{runs_give_steps}
use Rattle.walks.proofs.runs_give_steps.Goals as goal

pub returns : goal.returns
returns c = runs_give_steps
