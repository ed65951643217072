use Rattle.runs.proofs.Theorems.{runs_events}
use Rattle.runs.proofs.runs_events.Goals as goal

pub returns : goal.returns
returns c = runs_events
