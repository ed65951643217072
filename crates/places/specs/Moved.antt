-- What follows from a place and what its turn gave.
use Rattle.std.specs.Prelude.{ℕ}
use Rattle.places.specs.Flows.{Flow, flow_of}
use Rattle.places.specs.declared.place.Change.{Change}
use Rattle.places.specs.declared.place.Survey.{Survey}
use Rattle.places.specs.declared.place.Walk.{Walk}
use Rattle.places.specs.declared.place.Place.{Place}
use Rattle.places.specs.declared.place.TurnOutcome.{TurnOutcome}
use Rattle.places.specs.declared.place.TurnOutcome.TheVariants as outcome

-- a place or an answer; a row linked; the clock raised; the end of a walk, with the visible row
pub data Next : Type 0 where
  Moved : (o : Flow) → Next
  Linked : (c : Change) (r : ℕ) → Next
  Raised : (v : Survey) (t : ℕ) → Next
  Walked : (k : Walk) (r : ℕ) → Next

-- the place that it moved to, and what is left to do
abbrev pub next_from : Place → TurnOutcome → Next
next_from p (outcome.Moved a) = Next.Moved (flow_of p a)
next_from p (outcome.Linked c r) = Next.Linked c r
next_from p (outcome.Raised v t) = Next.Raised v t
next_from p (outcome.Walked k r) = Next.Walked k r
