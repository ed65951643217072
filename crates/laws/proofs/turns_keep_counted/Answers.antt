use Rattle.laws.proofs.Stays.{turns_keep_counted}
use Rattle.laws.proofs.turns_keep_counted.Goals as goal

pub returns : goal.returns
returns c = turns_keep_counted
