use Rattle.machine.proofs.PageCounts.{pages_counted}
use Rattle.machine.proofs.laws.pages_are_counted.Goals as goal

pub returns : goal.returns
returns c = pages_counted
