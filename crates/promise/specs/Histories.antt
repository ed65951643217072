-- What a history shows from outside, newest first, and the state that it leads to.
use Rattle.std.specs.Prelude.{List, [], ◌∷◌}
use Rattle.machine.specs.States.{State}
use Rattle.machine.specs.Requests.{stepped}
use Rattle.machine.specs.History.{Event}
use Rattle.promise.specs.Sights.{Sight, sight_of}

-- a state, and what was seen on the way to it
pub record Shown : Type 0 where
  pub state : State
  pub sights : List Sight

-- one event more leads to this state
abbrev pub shown_at : Shown → Event → State → Shown
shown_at x e after = record { state = after; sights = sight_of x.state.sizes x.state.cells after.cells e.request e.reply ∷ x.sights }

-- a history from a state on
abbrev pub shown_by : State → List Event → Shown
shown_by start [] = record { state = start; sights = [] }
shown_by start (e ∷ h) = shown_at (shown_by start h) e (stepped (shown_by start h).state e.request)
