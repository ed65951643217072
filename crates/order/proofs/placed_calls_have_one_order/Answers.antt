use Rattle.order.proofs.Replay.{one_order}
use Rattle.order.proofs.placed_calls_have_one_order.Goals as goal

pub returns : goal.returns
returns c = λ h p. one_order p
