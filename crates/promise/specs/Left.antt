-- The graph that heads and rows show.
use Rattle.std.specs.Prelude.{ℕ, Bool, if◌then◌else◌, not, ◌&&◌, List, Some, None, is_some, ◌==◌, nat_lt}
use Rattle.layout.specs.declared.sizes.Sizes.{Sizes}
use Rattle.layout.specs.declared.names.Kind.{Kind}
use Rattle.layout.specs.declared.names.Kind.TheVariants.{Vertex, Edge}
use Rattle.layout.specs.declared.names.Field.{Field}
use Rattle.layout.specs.declared.names.Field.TheVariants.{Ins, Del}
use Rattle.layout.specs.declared.names.Head.{Head}
use Rattle.layout.specs.declared.names.Head.TheVariants as head
use Rattle.layout.specs.declared.names.Cell.TheVariants as cell
use Rattle.layout.specs.Rows.{no_row}
use Rattle.places.specs.Marks.{mark_of, stamp_of}
use Rattle.machine.specs.Turns.{cell_at}
use Rattle.questions.specs.Graph.{Graph}

module _ (z : Sizes) (cells : List ℕ) where
  -- ins or del of a row bears a stamp
  abbrev pub is_stamped : Kind → Field → ℕ → Bool
  is_stamped k f r = is_some (stamp_of (mark_of (cell_at z cells (cell.Stamp k f r))))

  -- the row that is a head, or none
  abbrev pub head_row : Head → ℕ
  head_row h = cell_at z cells (cell.Head h)

  -- it is a row whose ins bears a stamp, and whose del bears none
  abbrev pub is_there : Kind → ℕ → Bool
  is_there k r = not (r == no_row) && (is_stamped k Ins r && not (is_stamped k Del r))

  -- key i is a vertex
  abbrev pub has_in : ℕ → Bool
  has_in i = nat_lt i z.keys && is_there Vertex (head_row (head.Vertex i))

  -- an edge row is bound to the heads of two keys
  abbrev pub joins : ℕ → ℕ → ℕ → Bool
  joins e i j = (cell_at z cells (cell.Source e) == head_row (head.Vertex i)) && (cell_at z cells (cell.Target e) == head_row (head.Vertex j))

  -- there is an edge between two vertices
  abbrev pub has_edge : ℕ → ℕ → Bool
  has_edge i j = (has_in i && has_in j) && (is_there Edge (head_row (head.Edge i j)) && joins (head_row (head.Edge i j)) i j)

  abbrev pub graph_in : Graph
  graph_in = record {
    has = has_in;
    edge = λ i j. if has_edge i j then Some (cell_at z cells (cell.Weight (head_row (head.Edge i j)))) else None;
  }
