-- The theorems of this crate, each from those of the crates below and from those above it in this file.
use Rattle.promise.specs.Answers.{RunsAnswersTold}
use Rattle.promise.specs.Bridges.{ContractsFollow, OrdersSuffice, RunsBounded, RunsKeepPages, RunsShown, RunsSuffice, SurveysBounded}
use Rattle.promise.specs.Chains.{RowsStandInChains}
use Rattle.promise.specs.Counts.{RowsCounted, RunsCount, SurveysFollow}
use Rattle.promise.specs.Deeds.{RunsDeeds, RunsStampsTold}
use Rattle.promise.specs.Keyed.{KeysSuffice, RunsLeave}
use Rattle.promise.specs.Named.{PagesNamed}
use Rattle.promise.specs.Points.{PointsKeyed, PointsSuffice, PromiseFollows, RaisesAgree, RunsKeySurveys}
use Rattle.promise.specs.Promise.{OpeningsKept, OpeningsPromised, PromiseHolds, RestsKeep}
use Rattle.promise.specs.Worked.{Worked}
use Rattle.promise.proofs.Answered as from_answered
use Rattle.promise.proofs.Bounded as from_bounded
use Rattle.promise.proofs.Bridges as from_bridges
use Rattle.promise.proofs.Cases as from_cases
use Rattle.promise.proofs.Chains as from_chains
use Rattle.promise.proofs.CountRuns as from_count_runs
use Rattle.promise.proofs.DeedRuns as from_deed_runs
use Rattle.promise.proofs.Leaves as from_leaves
use Rattle.promise.proofs.Named as from_named
use Rattle.promise.proofs.Pages as from_pages
use Rattle.promise.proofs.Points as from_points
use Rattle.promise.proofs.Rests as from_rests
use Rattle.promise.proofs.Stamps as from_stamps
use Rattle.promise.proofs.SurveyKeys as from_survey_keys

-- What the definitions say of worked histories, and a page that they refuse.
pub worked_cases_stand : Worked
worked_cases_stand = from_cases.worked

-- The promise holds at every opening.
pub openings_keep : OpeningsKept
openings_keep = from_rests.openings_kept

-- A refusal keeps it, and so does each request that begins no call and gives no turn.
pub rests_keep : RestsKeep
rests_keep = from_rests.rests_keep

-- The history of a run shows its states and its past.
pub runs_are_shown : RunsShown
runs_are_shown = from_bridges.runs_shown

-- Pages read as lists of cells show what they show cell by cell.
pub pages_are_named : PagesNamed
pages_are_named = from_named.page_named

-- Histories are promised if runs as functions of time are.
pub runs_suffice : RunsSuffice
runs_suffice = from_bridges.runs_suffice

-- How the counts of the bounds move with each request of a run.
pub runs_count : RunsCount
runs_count = from_count_runs.runs_count

-- The rows that are seen to be linked are as many as the turns that link one.
pub rows_are_counted : RowsCounted
rows_are_counted = from_count_runs.rows_counted

-- The rows that heads held at the start and those that were linked are the rows that stand in chains.
pub rows_stand_in_chains : RowsStandInChains
rows_stand_in_chains = from_chains.rows_stand_in_chains

-- So snapshots and reaches keep their bound, if they do by a count of these turns.
pub surveys_follow : SurveysFollow
surveys_follow = from_count_runs.surveys_follow rows_are_counted

-- They do.
pub surveys_keep_bound : SurveysBounded
surveys_keep_bound = from_survey_keys.surveys_bounded surveys_follow

-- Every call of a run keeps its bound.
pub runs_stay_bounded : RunsBounded
runs_stay_bounded = from_bounded.runs_bounded surveys_keep_bound

-- A finished page stays as it was at its answer, until its worker next begins a snapshot or reach.
pub runs_keep_pages : RunsKeepPages
runs_keep_pages = from_pages.pages_stay

-- Runs are, if each has an order of its past.
pub orders_suffice : OrdersSuffice
orders_suffice = from_bridges.orders_suffice runs_keep_pages runs_stay_bounded

-- The cells of a run show the graph of the rows that are there by the last stamp.
pub runs_leave : RunsLeave
runs_leave = from_leaves.runs_leave

-- What a call is seen to have done it did at one of its turns, and nothing else.
pub runs_tell_deeds : RunsDeeds
runs_tell_deeds = from_deed_runs.runs_deeds

-- So the stamps and the raises that are seen are those of the calls.
pub runs_tell_stamps : RunsStampsTold
runs_tell_stamps = from_stamps.stamps_told

-- The numbers of the raises that are seen are those that the clock tells.
pub raises_agree : RaisesAgree
raises_agree = from_survey_keys.raises_agree

-- The snapshots and reaches of a run have their keys, and those that are not finished do not belong.
pub runs_key_surveys : RunsKeySurveys
runs_key_surveys = from_survey_keys.runs_key_surveys

-- So all calls have keys and changes, if calls 1 to 6 have beside theirs.
pub points_suffice : PointsSuffice
points_suffice = from_survey_keys.points_suffice runs_key_surveys

-- So each run has an order that leaves it, if its calls have keys and changes.
pub keys_suffice : KeysSuffice
keys_suffice = from_leaves.keys_suffice

-- The whole promise, from what is left to prove.
pub promise_follows : PromiseFollows
promise_follows = from_survey_keys.promise_follows points_suffice keys_suffice orders_suffice runs_suffice

-- Calls 1 to 6 have keys and changes beside those of the snapshots and reaches.
pub points_are_keyed : PointsKeyed
points_are_keyed = from_points.points_keyed

-- So the promise holds of every history from a clean state, with the graph that the state shows.
pub promise_holds : PromiseHolds
promise_holds = promise_follows points_are_keyed

-- Where histories are promised, so are openings and what extends a history.
pub contracts_follow : ContractsFollow
contracts_follow = from_bridges.contracts_follow

-- So it holds of every history of every opening, from the empty graph on.
pub openings_are_promised : OpeningsPromised
openings_are_promised = contracts_follow.openings promise_holds

-- A finished call that changed the graph bears its stamp, and only a snapshot or reach that was not short of clock raised it.
pub runs_tell_answers : RunsAnswersTold
runs_tell_answers = from_answered.answers_told
