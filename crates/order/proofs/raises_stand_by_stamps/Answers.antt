use Rattle.order.proofs.Stands.{raises_stand}
use Rattle.order.proofs.raises_stand_by_stamps.Goals as goal

pub returns : goal.returns
returns c = raises_stand
