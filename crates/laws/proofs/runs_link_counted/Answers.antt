use Rattle.laws.proofs.CountedRows.{runs_link_counted}
use Rattle.laws.proofs.runs_link_counted.Goals as goal

pub returns : goal.returns
returns c = runs_link_counted
