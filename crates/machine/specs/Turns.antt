-- One turn of a worker: what it has at hand, and what the turn makes of the state.
use Rattle.std.specs.Prelude.{ℕ, if◌then◌else◌, List, Some, None, Option, ◌==◌, slice_index, slice_index_or, slice_set}
use Rattle.codes.specs.declared.answer.Answer.{Answer}
use Rattle.layout.specs.declared.sizes.Sizes.{Sizes}
use Rattle.layout.specs.declared.names.Kind.{Kind}
use Rattle.layout.specs.declared.names.Cell.{Cell}
use Rattle.layout.specs.declared.names.Cell.TheVariants as cell
use Rattle.layout.specs.Layout.{index_of}
use Rattle.layout.specs.Rows.{no_row, row_at}
use Rattle.places.specs.declared.place.Hand.{Hand}
use Rattle.places.specs.declared.place.Place.{Place}
use Rattle.places.specs.declared.place.Touch.{Touch}
use Rattle.places.specs.Moved.{Next}
use Rattle.places.specs.Touches.{touch_of}
use Rattle.places.specs.Private.{link_kind, older_row, edge_row}
use Rattle.places.specs.Nexts.{next_of}
use Rattle.machine.specs.declared.worker.Worker.{Worker}
use Rattle.machine.specs.States.{State}
use Rattle.machine.specs.Workers.{nobody, linked_of, followed, Turned}
use Rattle.machine.specs.Effects.{got_of, cells_after, entered}

abbrev pub worker_at : State → ℕ → Worker
worker_at s w = slice_index_or s.workers w nobody

-- a named cell; a name past the end reads as 0
abbrev pub cell_at : Sizes → List ℕ → Cell → ℕ
cell_at z cs c = slice_index cs (index_of z c)

-- the row that comes next: of a worker's own rows of a kind, in order, the first not linked yet
abbrev pub next_row : Sizes → ℕ → Worker → Kind → Option ℕ
next_row z w v k = row_at z k w (linked_of v k)

abbrev pub spare_for : Sizes → ℕ → Worker → Option Kind → Option ℕ
spare_for z w v None = None
spare_for z w v (Some k) = next_row z w v k

abbrev pub older_at : Sizes → List ℕ → Option (Kind × ℕ) → ℕ
older_at z cs None = no_row
older_at z cs (Some p) = cell_at z cs (cell.Older p.0 p.1)

-- a cell of an edge row, where there is one
abbrev pub edge_cell : Sizes → List ℕ → Cell → ℕ → ℕ
edge_cell z cs c e = if e == no_row then 0 else cell_at z cs c

-- what a worker has at hand without a turn, at a place
abbrev pub hand_of : Sizes → List ℕ → ℕ → Worker → Place → Hand
hand_of z cs w v p = record {
  spare = spare_for z w v (link_kind p);
  t = v.book.t;
  older = older_at z cs (older_row p);
  source = edge_cell z cs (cell.Source (edge_row p)) (edge_row p);
  target = edge_cell z cs (cell.Target (edge_row p)) (edge_row p);
  weight = edge_cell z cs (cell.Weight (edge_row p)) (edge_row p);
}

abbrev pub hand_at : State → ℕ → Hand
hand_at s w = hand_of s.sizes s.cells w (worker_at s w) (worker_at s w).place

-- the one operation of the turn
abbrev pub touch_at : State → ℕ → Touch
touch_at s w = touch_of (worker_at s w).place (hand_at s w).spare

-- what follows from the place and what the operation gave
abbrev pub next_at : State → ℕ → Next
next_at s w = next_of (worker_at s w).place (hand_at s w) (got_of s.sizes s.cells (touch_at s w))

abbrev pub followed_at : State → ℕ → Turned
followed_at s w = followed s.sizes.keys (worker_at s w) (hand_at s w) (next_at s w)

abbrev pub answer_at : State → ℕ → Option Answer
answer_at s w = (followed_at s w).answer

-- the state after a turn of worker w: one touch, what goes into its page, and its own record
abbrev pub turned : State → ℕ → State
turned s w = record {
  cells = entered s.sizes w (cells_after s.sizes s.cells (touch_at s w)) (followed_at s w).entry;
  sizes = s.sizes;
  workers = slice_set s.workers w (followed_at s w).worker;
}
