-- Pages read as lists of cells show what runs see of them, cell by cell.
use Rattle.std.specs.Prelude.{◌≡◌, ℕ}
use Rattle.machine.specs.States.{State}
use Rattle.runs.specs.Seen.{page_graph as named_page}
use Rattle.promise.specs.Sights.{page_in, page_graph}

-- so it is in every state, and also of a worker that there is not
abbrev pub PagesNamed : Type 0
PagesNamed = (s : State) (w : ℕ) → page_graph s.sizes.keys (page_in s.sizes s.cells w) ≡ named_page s w
