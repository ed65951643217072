-- The most turns that each call takes. The worked runs reach these numbers.
use Rattle.std.specs.Prelude.{ℕ, ◌+◌, ◌*◌, ◌≤◌}
use Rattle.layout.specs.declared.names.Head.TheVariants as head
use Rattle.places.specs.declared.place.Op.TheVariants.{Add, Remove, Contains}
use Rattle.places.specs.declared.place.Call.{Call}
use Rattle.places.specs.declared.place.Call.TheVariants as call
use Rattle.runs.specs.Runs.{RunInTime}
use Rattle.runs.specs.Reasons.{BegunBy}
use Rattle.bounds.specs.Bounds.{turns_taken, latest_turn, links_of_others}

-- where other workers made so many links on its pair; of a snapshot or reach nothing is said here
abbrev pub most_turns : Call → ℕ → ℕ
most_turns (call.Vertex Add i) links = 15
most_turns (call.Vertex Remove i) links = 11
most_turns (call.Vertex Contains i) links = 9
most_turns (call.Edge Add p) links = 37 + 25 * links
most_turns (call.Edge Remove p) links = 32
most_turns (call.Edge Contains p) links = 27
most_turns (call.Survey v) links = 0

module _ (R : RunInTime) (w b now : ℕ) where
  -- the links of other workers on the pair of the call, up to its latest turn
  abbrev pub links_on_pair : Call → ℕ
  links_on_pair (call.Edge o p) = links_of_others R w b (head.Edge p.from p.to) (latest_turn R w b now)
  links_on_pair c = 0

  abbrev pub WithinMost : Call → Type 0
  WithinMost (call.Survey v) = Unit {0}
  WithinMost c = turns_taken R w b now ≤ most_turns c (links_on_pair c)

abbrev pub TurnsAtMost : Type 0
TurnsAtMost = (R : RunInTime) (now w b : ℕ) (c : Call) → BegunBy R now w b c → WithinMost R w b now c
