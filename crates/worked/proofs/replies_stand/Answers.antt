use Rattle.worked.proofs.Playing.{plays_once}
use Rattle.worked.proofs.replies_stand.Goals as goal

pub returns : goal.returns
returns c = plays_once
