-- A worker of a run that has a snapshot or reach open makes a page.
use Rattle.std.specs.Prelude.{◌≡◌, ℕ, suc, ◌<◌, ◌≤◌, min, Some}
use Rattle.places.specs.declared.place.Survey.{Survey}
use Rattle.places.specs.declared.place.Call.TheVariants as call
use Rattle.runs.specs.Runs.{RunInTime}
use Rattle.runs.specs.Seen.{open_at}
use Rattle.runs.specs.Reasons.{BegunBy}
use Rattle.walks.specs.Surveys.{Surveyor, Surveying}
use Rattle.walks.specs.Turns.{surveyor_of}
use Rattle.walks.specs.Histories.{run_course}

-- worker w at each time of a run up to now
abbrev pub run_surveyor : RunInTime → ℕ → ℕ → ℕ → Surveyor
run_surveyor R now w k = surveyor_of (R.state (min k now)) w

-- from the begin of its call up to a time at which it has not answered
abbrev pub RunsSurvey : Type 0
RunsSurvey = (R : RunInTime) (now w began till : ℕ) (v : Survey) → till ≤ now → w < R.sizes.workers → BegunBy R till w began (call.Survey v) →
    open_at R till w ≡ Some began → Surveying (run_course R now) R.sizes.keys R.sizes.top v (suc began) till (run_surveyor R now w)
