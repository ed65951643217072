-- At a turn that raises the clock of a run, what a raise meets can be said of the marks of any later time.
use Rattle.std.specs.Prelude.{ℕ}
use Rattle.places.specs.declared.place.Survey.{Survey}
use Rattle.places.specs.declared.place.Place.TheVariants as place
use Rattle.order.specs.Marks.{Marks}
use Rattle.order.specs.Raises.{AllSettled}
use Rattle.runs.specs.Runs.{RunInTime}
use Rattle.runs.specs.Views.{clock_at}
use Rattle.runs.specs.Steps.{TurnAt}
use Rattle.runs.specs.Marking.{MarksTellRun}

abbrev pub RunsSettle : Type 0
RunsSettle = (R : RunInTime) (now : ℕ) (m : Marks) → MarksTellRun R now m → (r w : ℕ) (v : Survey) → TurnAt R r w (place.Raise v) → AllSettled (clock_at R) r (clock_at R now) m
