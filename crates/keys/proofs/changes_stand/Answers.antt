use Rattle.keys.proofs.Theorems.{changes_stand}
use Rattle.keys.proofs.changes_stand.Goals as goal

pub returns : goal.returns
returns c = changes_stand
