use Rattle.machine.proofs.SeveralTurns.{turns_made_stand, turns_made_once}
use Rattle.machine.proofs.laws.turns_made_stand.Goals as goal

pub returns-clause-stand : goal.returns-clause-stand
returns-clause-stand c = turns_made_stand

pub returns-clause-once : goal.returns-clause-once
returns-clause-once c = turns_made_once
