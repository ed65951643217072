-- The theorems of this crate, each from those of the crates below and from those above it in this file.
use Rattle.bounds.specs.Bounds.{TurnsStayBounded}
use Rattle.bounds.specs.Counted.{RunsCount}
use Rattle.bounds.specs.Most.{TurnsAtMost}
use Rattle.bounds.specs.Surveys.{SurveysStayBounded}
use Rattle.bounds.specs.Worked.{Worked}
use Rattle.bounds.proofs.Bounds as from_bounds
use Rattle.bounds.proofs.Counted as from_counted
use Rattle.bounds.proofs.SurveyTurns as from_survey_turns
use Rattle.bounds.proofs.Worked as from_worked

-- Every accepted turn counts for the call that its worker has open, and what counts as a link of another worker, or as a linked row, is one.
pub turns_are_counted : RunsCount
turns_are_counted = from_counted.runs_count

-- The most turns that each call on vertices or edges takes.
pub turns_at_most : TurnsAtMost
turns_at_most = from_bounds.turns_at_most

-- A snapshot or reach of n keys takes at most 1 + 8 · n · n turns, and one for each row of a head at the start or linked up to its latest turn.
pub surveys_stay_bounded : SurveysStayBounded
surveys_stay_bounded = from_survey_turns.surveys_stay_bounded

-- So no other takes more than 48, but an add of an edge 52, and 52 more for each link that another worker made on its pair while it ran.
pub turns_stay_bounded : TurnsStayBounded
turns_stay_bounded = from_bounds.turns_stay_bounded

-- The worked runs reach the most turns.
pub worked_runs_stand : Worked
worked_runs_stand = from_worked.worked
