use Rattle.order.proofs.TwoCalls.{order, run, marked, fresh}
use Rattle.order.proofs.worked_case_stands.Goals as goal

pub returns : goal.returns
returns c = record { order = order; marked = (run, marked, fresh) }
