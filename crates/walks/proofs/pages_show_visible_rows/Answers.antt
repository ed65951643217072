use Rattle.walks.proofs.Theorems.{pages_show_visible_rows}
use Rattle.walks.proofs.pages_show_visible_rows.Goals as goal

pub returns : goal.returns
returns c = pages_show_visible_rows
