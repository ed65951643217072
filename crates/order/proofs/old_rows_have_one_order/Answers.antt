use Rattle.order.proofs.Ends.{runs_show_ends, old_rows_stand}
use Rattle.order.proofs.old_rows_have_one_order.Goals as goal

pub returns-clause-ends : goal.returns-clause-ends
returns-clause-ends c = runs_show_ends

pub returns-clause-order : goal.returns-clause-order
returns-clause-order c = old_rows_stand
