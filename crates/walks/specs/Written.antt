-- After a turn of a worker at a place of a snapshot or reach, its page is what was written into it.
use Rattle.std.specs.Prelude.{◌≡◌, ℕ}
use Rattle.machine.specs.States.{State}
use Rattle.machine.specs.Turns.{worker_at, followed_at, turned}
use Rattle.laws.specs.Fits.{Fit}
use Rattle.walks.specs.Pages.{page_of, written}
use Rattle.walks.specs.Turns.{InSurvey}

abbrev pub TurnsWrite : Type 0
TurnsWrite = (s : State) (w : ℕ) → Fit s w → InSurvey (worker_at s w).place → page_of (turned s w) w ≡ written (page_of s w) (followed_at s w).entry
