use Rattle.session.proofs.Once.{replies_once}
use Rattle.session.proofs.facts.replied_once.Goals as goal

pub returns : goal.returns
returns c = replies_once
