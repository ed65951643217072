-- The marks that a run gives to order are those of its course.
use Rattle.std.specs.Prelude.{ℕ}
use Rattle.order.specs.Marks.{Marks}
use Rattle.runs.specs.Runs.{RunInTime}
use Rattle.runs.specs.Views.{clock_at}
use Rattle.runs.specs.Marking as runs
use Rattle.walks.specs.Told.{MarksTellCourse}
use Rattle.walks.specs.Histories.{run_course}

abbrev pub RunsTellMarks : Type 0
RunsTellMarks = (R : RunInTime) (now : ℕ) (m : Marks) → runs.MarksTellRun R now m → MarksTellCourse (run_course R now) now (clock_at R now) m
