use Rattle.questions.proofs.Fixed.{entry_fixed}
use Rattle.questions.proofs.laws.entries_fixed.Goals as goal

pub returns : goal.returns
returns g c = entry_fixed g.met.M.Measure.lawful
