use Rattle.keys.proofs.Theorems.{answers_stand}
use Rattle.keys.proofs.answers_stand.Goals as goal

pub returns : goal.returns
returns c = answers_stand
