-- The graph that the cells of a run show is that of its rows; and what an order of its calls asks for.
use Rattle.std.specs.Prelude.{◌≡◌, ℕ, ◌≤◌, true, Some, Option}
use Rattle.order.specs.Past.{Belongs}
use Rattle.order.specs.Keys.{Key}
use Rattle.order.specs.Marks.{Marks, change_key, edge_effect, edge_key}
use Rattle.order.specs.Raises.{ShowsVisible}
use Rattle.order.specs.Finds.{RowChange, vertex_born, vertex_ends, edge_born, edge_ends}
use Rattle.order.specs.Marked.{Marking, CallMarked, MadeAtKey}
use Rattle.runs.specs.Runs.{RunInTime}
use Rattle.runs.specs.Views.{clock_at}
use Rattle.runs.specs.Marking.{time_bound, MarksTellRun, RunMarks}
use Rattle.promise.specs.Bridges.{past_at, graph_at, RunsOrdered}

-- the cells show the rows that are there by the last stamp
abbrev pub RunsLeave : Type 0
RunsLeave = (R : RunInTime) (now : ℕ) (m : Marks) → MarksTellRun R now m → ShowsVisible m (clock_at R now) (graph_at R now)

module _ (R : RunInTime) (now : ℕ) where
  -- the clock of a run and the marks of its rows up to now, with keys and changes for its calls
  abbrev pub marking : Marks → (ℕ → Option Key) → (ℕ → RowChange) → Marking
  marking m key change = record { now = now; clock = clock_at R; bound = time_bound now; top = clock_at R now; marks = m; key = key; change = change }

  -- what is owed for the calls: they have keys, and the changes of the rows that have an effect are theirs
  pub record CallsMarked (run : Marking) : Type 0 where
    pub keyed : (b : ℕ) → Belongs (past_at R now) b → (k : Key) × (run.key b ≡ Some k)
    pub calls : (b : ℕ) (k : Key) → run.key b ≡ Some k → CallMarked (past_at R now) run b k
    pub apart : (b c : ℕ) (k l : Key) → run.key b ≡ Some k → run.key c ≡ Some l → k.time ≡ l.time → k.part ≡ l.part → b ≡ c
    pub vertex_births : (r : ℕ) → (run.marks.vertex_ins r).stamp ≤ run.top →
        MadeAtKey run (run.marks.vertex_ins r) (change_key run.bound (run.marks.vertex_ins r)) (vertex_born r)
    pub vertex_endings : (r : ℕ) → (run.marks.vertex_del r).stamp ≤ run.top →
        MadeAtKey run (run.marks.vertex_del r) (change_key run.bound (run.marks.vertex_del r)) (vertex_ends r)
    pub edge_births : (e : ℕ) → edge_effect run.top run.marks e (run.marks.edge_ins e) ≡ true →
        MadeAtKey run (run.marks.edge_ins e) (edge_key run.bound run.marks e (run.marks.edge_ins e)) (edge_born e)
    pub edge_endings : (e : ℕ) → edge_effect run.top run.marks e (run.marks.edge_del e) ≡ true →
        MadeAtKey run (run.marks.edge_del e) (edge_key run.bound run.marks e (run.marks.edge_del e)) (edge_ends e)

-- the calls of every run have keys and changes, whatever marks its rows have
abbrev pub RunsKeyed : Type 0
RunsKeyed = (R : RunInTime) (now : ℕ) (m : RunMarks R now) → (key : ℕ → Option Key) × (change : ℕ → RowChange) × CallsMarked R now (marking R now m.marks key change)

-- then one order explains them from the graph at the start on, and leaves the graph that the cells show
abbrev pub KeysSuffice : Type 0
KeysSuffice = RunsKeyed → RunsOrdered
