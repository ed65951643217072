use Rattle.order.proofs.Marked.{marked_stands}
use Rattle.order.proofs.marked_calls_have_one_order.Goals as goal

pub returns : goal.returns
returns c = marked_stands
