use Rattle.order.proofs.Marked.{fresh_stands}
use Rattle.order.proofs.fresh_calls_have_one_order.Goals as goal

pub returns : goal.returns
returns c = fresh_stands
