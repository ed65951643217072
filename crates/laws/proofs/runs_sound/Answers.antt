use Rattle.laws.proofs.Runs.{runs_sound}
use Rattle.laws.proofs.runs_sound.Goals as goal

pub returns : goal.returns
returns c = runs_sound
