use Rattle.order.proofs.Clean.{clean_starts}
use Rattle.order.proofs.clean_starts_are_marked.Goals as goal

pub returns : goal.returns
returns c = clean_starts
