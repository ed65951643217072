-- How many turns a snapshot or reach takes, finished or not.
use Rattle.std.specs.Prelude.{ℕ}
use Rattle.places.specs.declared.place.Survey.{Survey}
use Rattle.places.specs.declared.place.Call.TheVariants as call
use Rattle.runs.specs.Runs.{RunInTime}
use Rattle.runs.specs.Reasons.{BegunBy}
use Rattle.bounds.specs.Bounds.{WithinBound}

abbrev pub SurveysStayBounded : Type 0
SurveysStayBounded = (R : RunInTime) (now w b : ℕ) (v : Survey) → BegunBy R now w b (call.Survey v) → WithinBound R w b now (call.Survey v)
