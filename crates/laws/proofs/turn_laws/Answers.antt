use Rattle.laws.proofs.Stays.{turn_laws}
use Rattle.laws.proofs.turn_laws.Goals as goal

pub returns : goal.returns
returns c = turn_laws
