use Rattle.order.proofs.Started.{order, leaves, marked, shows, none_ended, raised, settled}
use Rattle.order.proofs.AfterAdds.{after_adds, over}
use Rattle.order.proofs.worked_start_stands.Goals as goal

pub returns : goal.returns
returns c = record {
  order = order;
  leaves = leaves;
  marked = marked;
  shows = shows;
  none_ended = none_ended;
  raise = raised;
  settled = settled;
  after_adds = after_adds;
  over = over;
}
