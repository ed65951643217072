-- The shared cells that walks read, by their names.
use Rattle.std.specs.Prelude.{ℕ, Bool, if◌then◌else◌, ◌&&◌, nat_lt}
use Rattle.layout.specs.declared.sizes.Sizes.{Sizes}
use Rattle.layout.specs.declared.names.Kind.{Kind}
use Rattle.layout.specs.declared.names.Field.{Field}
use Rattle.layout.specs.declared.names.Head.{Head}
use Rattle.layout.specs.declared.names.Head.TheVariants as head
use Rattle.layout.specs.declared.names.Cell.TheVariants as cell
use Rattle.layout.specs.Rows.{no_row}
use Rattle.places.specs.Marks.{mark_of}
use Rattle.places.specs.declared.mark.Mark.{Mark}
use Rattle.machine.specs.States.{State}
use Rattle.machine.specs.Turns.{cell_at}

pub record Memory : Type 0 where
  pub clock : ℕ
  pub head : Head → ℕ
  pub stamp : Kind → Field → ℕ → ℕ
  pub older : Kind → ℕ → ℕ
  pub source : ℕ → ℕ
  pub target : ℕ → ℕ
  pub weight : ℕ → ℕ

-- the mark of ins or del of a row
abbrev pub mark_in : Memory → Kind → Field → ℕ → Mark
mark_in m k f r = mark_of (m.stamp k f r)

-- the keys of a head are keys of the sizes
abbrev pub head_inside : Sizes → Head → Bool
head_inside z (head.Vertex i) = nat_lt i z.keys
head_inside z (head.Edge i j) = nat_lt i z.keys && nat_lt j z.keys

-- what the cells of a state hold; a head outside holds no row
abbrev pub memory_of : State → Memory
memory_of s = record {
  clock = cell_at s.sizes s.cells cell.Clock;
  head = λ h. if head_inside s.sizes h then cell_at s.sizes s.cells (cell.Head h) else no_row;
  stamp = λ k f r. cell_at s.sizes s.cells (cell.Stamp k f r);
  older = λ k r. cell_at s.sizes s.cells (cell.Older k r);
  source = λ r. cell_at s.sizes s.cells (cell.Source r);
  target = λ r. cell_at s.sizes s.cells (cell.Target r);
  weight = λ r. cell_at s.sizes s.cells (cell.Weight r);
}
