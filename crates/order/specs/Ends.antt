-- The graphs with which the calls of a run begin and end, by the rows that are there then.
use Rattle.std.specs.Prelude.{◌≡◌, ℕ, ◌<◌, true, ◌↔◌, Some}
use Rattle.questions.specs.Graph.{Graph}
use Rattle.order.specs.Past.{Past}
use Rattle.order.specs.Order.{Ordered}
use Rattle.order.specs.Marks.{Old}
use Rattle.order.specs.Raises.{Joins, ShowsVisible}
use Rattle.order.specs.Marked.{Marking, Marked, start_graph, end_graph}

-- the graph g is that of the rows from before the start
pub record ShowsOld (run : Marking) (g : Graph) : Type 0 where
  pub vertices : (i : ℕ) → (g.has i ≡ true) ↔ ((v : ℕ) × (v < run.marks.vertices) × Old run.clock (run.marks.vertex_ins v) × (run.marks.key_of v ≡ i))
  pub edges : (i j x : ℕ) → (g.edge i j ≡ Some x) ↔ ((e : ℕ) × (e < run.marks.edges) × Old run.clock (run.marks.edge_ins e) × Joins run.marks e i j x)

-- no row ended before the start
pub record NoneEnded (run : Marking) : Type 0 where
  pub vertices : (v : ℕ) → ¬ (Old run.clock (run.marks.vertex_del v))
  pub edges : (e : ℕ) → ¬ (Old run.clock (run.marks.edge_del e))

-- the graph at the start is that of the rows from before it, if none of them ended before; the graph after all calls is that of the rows that are
-- there by the last stamp
pub record EndsShown (run : Marking) : Type 0 where
  pub start : NoneEnded run → ShowsOld run (start_graph run)
  pub end : ShowsVisible run.marks run.top (end_graph run)

abbrev pub RunsShowEnds : Type 0
RunsShowEnds = (h : Past) (run : Marking) → Marked h run → EndsShown run

-- so one order explains the calls, from the graph of the rows from before the start to the graph of the rows that are there by the last stamp
abbrev pub OldRowsStand : Type 0
OldRowsStand = (h : Past) (run : Marking) → Marked h run → NoneEnded run →
    (g e : Graph) → ShowsOld run g → ShowsVisible run.marks run.top e → Ordered h g e
