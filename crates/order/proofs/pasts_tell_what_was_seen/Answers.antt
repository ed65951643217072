use Rattle.order.proofs.Seen.{pasts_seen}
use Rattle.order.proofs.pasts_tell_what_was_seen.Goals as goal

pub returns : goal.returns
returns c = pasts_seen
