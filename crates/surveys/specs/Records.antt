-- The page of a worker and the worker's own record of it agree.
use Rattle.std.specs.Prelude.{◌≡◌, ℕ, suc, ◌<◌, true, List}
use Rattle.codes.specs.declared.answer.Answer.{Answer}
use Rattle.layout.specs.declared.names.Cell.TheVariants as cell
use Rattle.places.specs.declared.place.Purpose.TheVariants as purpose
use Rattle.places.specs.declared.place.Place.{Place}
use Rattle.places.specs.declared.place.Place.TheVariants as place
use Rattle.books.specs.Books.{shown_of}
use Rattle.machine.specs.States.{State}
use Rattle.machine.specs.Turns.{worker_at, cell_at}
use Rattle.machine.specs.Workers as workers
use Rattle.machine.specs.History.{Event, Traces}
use Rattle.laws.specs.Clean.{Clean}
use Rattle.questions.specs.Graph.{Graph}
use Rattle.order.specs.Seen.{CallSight.finishes}
use Rattle.runs.specs.Runs.{RunInTime}
use Rattle.runs.specs.Seen.{seen}
use Rattle.surveys.specs.Pages.{BeginsNone}

-- the key cells of worker w's page hold what its book says the page shows
abbrev pub Agrees : State → ℕ → Type 0
Agrees s w = (k : ℕ) → k < s.sizes.keys → cell_at s.sizes s.cells (cell.PageKey w k) ≡ shown_of (worker_at s w).book k

-- a place of a snapshot or reach that has raised the clock
abbrev pub Walks : Place → Type 0
Walks (place.Settle st (purpose.Walk f k r)) = Unit {0}
Walks (place.WalkHead k) = Unit {0}
Walks (place.WalkOlder k r) = Unit {0}
Walks p = ⊥

-- the page of a worker and its book agree as long as the book is of that page
pub record PagesAgree : Type 0 where
  -- from the raise to the answer, in every state that a history leads to
  pub walking : (start : State) → Clean start → (h : List Event) (s : State) → Traces start h s → (w : ℕ) → w < s.sizes.workers → Walks (worker_at s w).place → Agrees s w
  -- after an answer 30 or 31, until the worker next begins a snapshot or reach
  pub finished : (R : RunInTime) (w f k : ℕ) (a : Answer) (g : Graph) → seen R f ≡ finishes w a g → workers.finishes a ≡ true → f < k → BeginsNone R w (suc f) k → Agrees (R.state k) w
