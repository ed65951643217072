use Rattle.session.proofs.GivingBack.{given_back}
use Rattle.session.proofs.facts.given_back.Goals as goal

pub returns : goal.returns
returns c = given_back
