-- What an opened run starts with.
use Rattle.std.specs.Prelude.{[]}
use Rattle.machine.specs.States.{State}
use Rattle.laws.specs.Clean.{Clean}
use Rattle.order.specs.Graph.{empty}
use Rattle.runs.specs.Starts.{ShowsGraph}
use Rattle.promise.specs.Promise.{Promised}

-- it is clean, shows the empty graph, and its history of no requests is promised: what the calls that follow keep begins here
pub record Starts (s : State) : Type 0 where
  pub clean : Clean s
  pub shows : ShowsGraph s empty
  pub promised : Promised s empty []
