use Rattle.laws.proofs.Clean.{openings_clean}
use Rattle.laws.proofs.openings_clean.Goals as goal

pub returns : goal.returns
returns c = openings_clean
