-- A turn of a worker of a run is a turn of a worker that makes a page.
use Rattle.std.specs.Prelude.{◌≡◌, ℕ}
use Rattle.std.specs.declared.ops.ControlFlow.TheVariants.{Continue, Break}
use Rattle.layout.specs.declared.names.Field.{Field}
use Rattle.places.specs.declared.place.Survey.{Survey}
use Rattle.places.specs.declared.place.Walk.{Walk}
use Rattle.places.specs.declared.place.Stage.{Stage}
use Rattle.places.specs.declared.place.Purpose.TheVariants as purpose
use Rattle.places.specs.declared.place.Place.{Place}
use Rattle.places.specs.declared.place.Place.TheVariants.{Idle, Settle, Raise, WalkHead, WalkOlder}
use Rattle.places.specs.Flows.{Flow}
use Rattle.machine.specs.States.{State}
use Rattle.machine.specs.Turns.{worker_at, followed_at, answer_at, turned}
use Rattle.machine.specs.Workers.{flow_answer}
use Rattle.laws.specs.Fits.{Fit}
use Rattle.walks.specs.Memory.{memory_of}
use Rattle.walks.specs.Pages.{page_of, written}
use Rattle.walks.specs.Surveys.{Surveyor, Going, turn_of, TurnDone}

-- worker w of a state
abbrev pub surveyor_of : State → ℕ → Surveyor
surveyor_of s w = record { place = (worker_at s w).place; book = (worker_at s w).book; page = page_of s w }

abbrev pub goes : State → ℕ → Going
goes s w = turn_of s.sizes.keys s.sizes.top (memory_of s) (surveyor_of s w)

-- a place of a snapshot or reach
pub data InSurvey : Place → Type 0 where
  at_raise : (v : Survey) → InSurvey (Raise v)
  at_head : (k : Walk) → InSurvey (WalkHead k)
  at_older : (k : Walk) (r : ℕ) → InSurvey (WalkOlder k r)
  at_field : (st : Stage) (f : Field) (k : Walk) (r : ℕ) → InSurvey (Settle st (purpose.Walk f k r))

-- a worker that answers is idle
abbrev pub place_then : Flow → Place
place_then (Continue p) = p
place_then (Break a) = Idle

-- a turn of worker w answers, moves the worker and writes into its page as g says
pub record TurnGoes (s : State) (w : ℕ) (g : Going) : Type 0 where
  pub answer : answer_at s w ≡ flow_answer g.out
  pub place : (followed_at s w).worker.place ≡ place_then g.out
  pub book : (followed_at s w).worker.book ≡ g.book
  pub page : written (page_of s w) (followed_at s w).entry ≡ g.page

-- this holds of every turn of a worker that fits, and it does to the memory what a turn of a snapshot or reach does
abbrev pub TurnsGo : Type 0
TurnsGo = (s : State) (w : ℕ) → Fit s w → InSurvey (worker_at s w).place →
    TurnGoes s w (goes s w) × TurnDone s.sizes.top (memory_of s) (memory_of (turned s w)) (surveyor_of s w)
