use Rattle.laws.proofs.StampRuns.{runs_stamp}
use Rattle.laws.proofs.runs_stamp.Goals as goal

pub returns : goal.returns
returns c = runs_stamp
