-- A run as functions of time: the state at time k, and the request that makes the next one of it. It starts in a clean state.
use Rattle.std.specs.Prelude.{◌≡◌, ℕ, zero, suc, ◌≤◌, List, [], ◌∷◌, length}
use Rattle.layout.specs.declared.sizes.Sizes.{Sizes}
use Rattle.layout.specs.Layout.{needed}
use Rattle.machine.specs.declared.request.Request.{Request}
use Rattle.machine.specs.States.{State}
use Rattle.machine.specs.Opening.{opened_state}
use Rattle.machine.specs.Requests.{reply_of, stepped}
use Rattle.machine.specs.History.{Event, Traces}
use Rattle.laws.specs.Clean.{Clean}

pub record RunInTime : Type 0 where
  pub sizes : Sizes
  pub request : ℕ → Request
  pub state : ℕ → State
  pub clean : Clean (state 0)
  pub start : (state 0).sizes ≡ sizes
  pub next : (k : ℕ) → state (suc k) ≡ stepped (state k) (request k)

-- the requests before time k with their replies, newest first
unfoldable pub history_at : RunInTime → ℕ → List Event
history_at R zero = []
history_at R (suc k) = record { request = R.request k; reply = reply_of (R.state k) (R.request k) } ∷ history_at R k

-- a run that starts in a state, and that has history h and state s after as many requests as h holds
pub record RunOf (start : State) (h : List Event) (s : State) : Type 0 where
  pub run : RunInTime
  pub sizes : run.sizes ≡ start.sizes
  pub starts : run.state 0 ≡ start
  pub history : history_at run (length h) ≡ h
  pub state : run.state (length h) ≡ s

abbrev pub HistoriesAreRuns : Type 0
HistoriesAreRuns = (start : State) → Clean start → (h : List Event) (s : State) → Traces start h s → RunOf start h s

-- so is every history from an opening
abbrev pub OpeningsAreRuns : Type 0
OpeningsAreRuns = (z : Sizes) (cs : List ℕ) → needed z ≤ length cs → (h : List Event) (s : State) → Traces (opened_state cs z) h s → RunOf (opened_state cs z) h s
