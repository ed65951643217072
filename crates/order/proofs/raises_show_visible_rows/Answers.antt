use Rattle.order.proofs.Raises.{raises_show_visible}
use Rattle.order.proofs.raises_show_visible_rows.Goals as goal

pub returns : goal.returns
returns c = raises_show_visible
