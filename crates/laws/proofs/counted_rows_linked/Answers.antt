use Rattle.laws.proofs.CountedRows.{counted_rows_linked}
use Rattle.laws.proofs.counted_rows_linked.Goals as goal

pub returns : goal.returns
returns c = counted_rows_linked
