use Rattle.walks.proofs.Theorems.{walks_find_visible_rows}
use Rattle.walks.proofs.walks_find_visible_rows.Goals as goal

pub returns : goal.returns
returns c = walks_find_visible_rows
