-- The theorems of this crate, each from those of the crates below and from those above it in this file.
use Rattle.walks.specs.Answered.{RunsPagesRight}
use Rattle.walks.specs.Budgets.{TurnsFit}
use Rattle.walks.specs.Calls.{RunsSurvey}
use Rattle.walks.specs.Histories.{RunsGiveSteps}
use Rattle.walks.specs.Marking.{RunsTellMarks}
use Rattle.walks.specs.Placed.{PagesShowRaise}
use Rattle.walks.specs.Steps.{StepsGiveLaws}
use Rattle.walks.specs.Surveys.{PagesStand}
use Rattle.walks.specs.Told.{MarksShow}
use Rattle.walks.specs.Turns.{TurnsGo}
use Rattle.walks.specs.Walking.{WalksFind}
use Rattle.walks.specs.Worked.{Worked}
use Rattle.walks.specs.Written.{TurnsWrite}
use Rattle.walks.proofs.Limits as from_limits
use Rattle.walks.proofs.PageTurns as from_page_turns
use Rattle.walks.proofs.Placed as from_placed
use Rattle.walks.proofs.Right as from_right
use Rattle.walks.proofs.RunAnswers as from_run_answers
use Rattle.walks.proofs.RunCourses as from_run_courses
use Rattle.walks.proofs.RunMarks as from_run_marks
use Rattle.walks.proofs.RunSurveys as from_run_surveys
use Rattle.walks.proofs.Runs as from_runs
use Rattle.walks.proofs.Steps as from_steps
use Rattle.walks.proofs.Told as from_told
use Rattle.walks.proofs.Walking as from_walking
use Rattle.walks.proofs.Worked as from_worked

-- What walks use of the memory over time follows from what each step does to it.
pub steps_give_laws : StepsGiveLaws
steps_give_laws = from_steps.steps_give_laws

-- A walk down the rows of a head finds the row that is visible at the number of the raise, or no row.
pub walks_find_visible_rows : WalksFind
walks_find_visible_rows = from_walking.walks_find

-- Every answer of a snapshot or reach, and its page, is right of the graph at the number of its raise.
pub pages_show_visible_rows : PagesStand
pages_show_visible_rows = from_right.pages_stand

-- A snapshot or reach of n keys takes at most 1 + 8 · n · n turns, and one for each row that is in a chain.
pub turns_stay_within_limit : TurnsFit
turns_stay_within_limit = from_limits.turns_fit

-- A turn of a worker of a run answers, moves the worker, writes into its page and changes the memory as a turn of a worker that makes a page.
pub turns_go : TurnsGo
turns_go = from_runs.turns_go

-- After such a turn the page of the worker is what was written into it.
pub turns_write : TurnsWrite
turns_write = from_page_turns.turns_write

-- A graph of the rows that are visible by the marks of a run is one of the rows that are visible by its memory.
pub marks_show_visible_rows : MarksShow
marks_show_visible_rows = from_told.marks_show

-- So every answer but 41, and its page, is right of the graph just before the key of the raise.
pub pages_show_raise_graph : PagesShowRaise
pages_show_raise_graph = from_placed.pages_show_raise

-- The states of a run are such a memory.
pub runs_give_steps : RunsGiveSteps
runs_give_steps = from_run_courses.runs_give_steps

-- The marks that a run gives to order are those of its states.
pub runs_tell_marks : RunsTellMarks
runs_tell_marks = from_run_marks.runs_tell_marks

-- A worker that has a snapshot or reach open makes a page.
pub runs_survey : RunsSurvey
runs_survey = from_run_surveys.runs_survey

-- So every answer but 41 of a snapshot or reach of a run is right of the graph just before the key of its raise.
pub runs_pages_right : RunsPagesRight
runs_pages_right = from_run_answers.runs_pages_right

-- What is asked of a run can be had.
pub worked_case_stands : Worked
worked_case_stands = from_worked.worked
