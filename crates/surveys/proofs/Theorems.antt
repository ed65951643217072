-- The theorems of this crate, each from those of the crates below and from those above it in this file.
use Rattle.surveys.specs.Marked.{SurveysMarked}
use Rattle.surveys.specs.Pages.{PagesJoin, PagesSeen, PageGraphsStay}
use Rattle.surveys.specs.Records.{PagesAgree}
use Rattle.surveys.specs.Raises.{OnlySurveysRaise, RunsRaise, RunsSettle, SurveysChangeNone, TurnsOfOne}
use Rattle.surveys.proofs.Marked as from_marked
use Rattle.surveys.proofs.Only as from_only
use Rattle.surveys.proofs.PagesSeen as from_pages_seen
use Rattle.surveys.proofs.PagesStay as from_pages_stay
use Rattle.surveys.proofs.Raises as from_raises
use Rattle.surveys.proofs.Records as from_records

-- The clock moves only in a turn of a snapshot or reach that raises it.
pub runs_raise : RunsRaise
runs_raise = from_raises.runs_raise

-- So the changes of a run are settled for each raise.
pub runs_settle : RunsSettle
runs_settle = from_raises.runs_settle

-- No other call raises the clock.
pub only_surveys_raise : OnlySurveysRaise
only_surveys_raise = from_only.only_surveys_raise

-- A snapshot or reach changes no row.
pub surveys_change_none : SurveysChangeNone
surveys_change_none = from_only.surveys_change_none

-- A turn is of one call.
pub turns_of_one : TurnsOfOne
turns_of_one = from_only.turns_of_one

-- After the answer of a snapshot or reach its worker's page shows, cell by cell, the graph of the page that its walks made.
pub pages_seen : PagesSeen
pages_seen = from_pages_seen.pages_seen

-- A page shows what it showed at an answer, until its worker next begins a snapshot or reach.
pub pages_stay : PageGraphsStay
pages_stay = from_pages_stay.pages_stay

-- So a snapshot or reach that was finished has a key, and there it finds and shows what it answered.
pub surveys_marked : SurveysMarked
surveys_marked = from_marked.surveys_marked

-- An edge on the page of a finished snapshot or reach joins two keys that the page shows.
pub pages_join : PagesJoin
pages_join = from_marked.pages_join

-- The key cells of a page hold what its worker's book says.
pub pages_agree : PagesAgree
pages_agree = from_records.pages_agree
