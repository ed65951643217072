-- What one turn of worker w can do to a named cell.
use Rattle.std.specs.Prelude.{◌≡◌, ℕ, ◌+◌, ◌<◌, Some, Option}
use Rattle.layout.specs.declared.names.Kind.{Kind}
use Rattle.layout.specs.declared.names.Kind.TheVariants.{Edge}
use Rattle.layout.specs.declared.names.Field.TheVariants.{Del}
use Rattle.layout.specs.declared.names.Cell.{Cell}
use Rattle.layout.specs.declared.names.Cell.TheVariants as cell
use Rattle.places.specs.declared.place.Change.{Change}
use Rattle.places.specs.declared.place.Purpose.{Purpose}
use Rattle.places.specs.declared.place.Purpose.TheVariants as purpose
use Rattle.places.specs.declared.place.Survey.{Survey}
use Rattle.places.specs.declared.place.Stage.TheVariants as stage
use Rattle.places.specs.declared.place.Place.{Place}
use Rattle.places.specs.declared.place.Place.TheVariants as place
use Rattle.places.specs.Marks.{pending}
use Rattle.places.specs.Touches.{change_head, change_kind, settled_field}
use Rattle.machine.specs.States.{State}
use Rattle.machine.specs.Turns.{worker_at, cell_at, next_row}

-- a cell of worker w's page
abbrev pub OnPage : ℕ → Cell → Type 0
OnPage w (cell.PageKey v k) = v ≡ w
OnPage w (cell.PagePair v i j) = v ≡ w
OnPage w c = ⊥

-- a cell of row r of kind k
abbrev pub OfRow : Kind → ℕ → Cell → Type 0
OfRow k r (cell.Older l q) = (l ≡ k) × (q ≡ r)
OfRow k r (cell.Stamp l f q) = (l ≡ k) × (q ≡ r)
OfRow k r (cell.Source q) = (k ≡ Edge) × (q ≡ r)
OfRow k r (cell.Target q) = (k ≡ Edge) × (q ≡ r)
OfRow k r (cell.Weight q) = (k ≡ Edge) × (q ≡ r)
OfRow k r c = ⊥

-- the worker's next row of a kind
abbrev pub next_own : State → ℕ → Kind → Option ℕ
next_own s w k = next_row s.sizes w (worker_at s w) k

abbrev pub number_in : State → Cell → ℕ
number_in s c = cell_at s.sizes s.cells c

-- what del of a row is filled with
abbrev pub FilledWith : Cell → ℕ → Type 0
FilledWith (cell.Stamp k Del r) y = y ≡ 0
FilledWith c y = Unit {0}

-- a place of a snapshot or reach
abbrev pub Surveys : Place → Type 0
Surveys (place.Settle st (purpose.Walk f k r)) = Unit {0}
Surveys (place.Raise v) = Unit {0}
Surveys (place.WalkHead k) = Unit {0}
Surveys (place.WalkOlder k r) = Unit {0}
Surveys p = ⊥

-- from number x to number y
pub data Changes (s : State) (w : ℕ) (c : Cell) (x y : ℕ) : Type 0 where
  -- nothing
  keeps : y ≡ x → Changes s w c x y
  -- the clock is raised
  ticks : (v : Survey) → (worker_at s w).place ≡ place.Raise v → c ≡ cell.Clock → x < s.sizes.top → y ≡ x + 1 → Changes s w c x y
  -- a head moves from the row that was read to the worker's next row
  links : (d : Change) → (worker_at s w).place ≡ place.Link d x → c ≡ cell.Head (change_head d) → next_own s w (change_kind d) ≡ Some y → Changes s w c x y
  -- ins or del of a linked row goes from pending to the number in hand
  stamps : (p : Purpose) → (worker_at s w).place ≡ place.Settle (stage.Swap y) p → c ≡ settled_field p → x ≡ pending → Changes s w c x y
  -- del of a linked row goes from 0 to pending
  ends : (d : Change) (r : ℕ) → (worker_at s w).place ≡ place.End d r → c ≡ cell.Stamp (change_kind d) Del r → x ≡ 0 → y ≡ pending → Changes s w c x y
  -- private: the worker's next row is filled, with del not ended
  fills : (k : Kind) (r : ℕ) → next_own s w k ≡ Some r → OfRow k r c → FilledWith c y → Changes s w c x y
  -- private: the worker's page, in a snapshot or reach
  writes : OnPage w c → Surveys (worker_at s w).place → Changes s w c x y
