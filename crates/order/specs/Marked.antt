-- What a run owes, so that one order explains its calls: a key for each call, the marks of the rows, and what each call finds at its key.
use Rattle.std.specs.Prelude.{◌≡◌, ℕ, suc, ◌-◌, ◌*◌, ◌<◌, ◌≤◌, true, not, Some, None, Option, IfSome}
use Rattle.codes.specs.declared.answer.Answer.{Answer}
use Rattle.questions.specs.Graph.{Graph}
use Rattle.order.specs.Graph.{Feed, empty, Shows}
use Rattle.order.specs.Past.{Finish, Past, Belongs, fed}
use Rattle.order.specs.Order.{Ordered}
use Rattle.order.specs.Keys.{Key, Bounded, number, Fits}
use Rattle.order.specs.Marks.{Mark, Old, Marks, MarksSound, change_key, edge_effect, edge_key}
use Rattle.order.specs.Rows.{graph_at, rows_of, graph_before}
use Rattle.order.specs.Finds.{RowChange, vertex_born, vertex_ends, edge_born, edge_ends, makes_change, Finds}

-- what a run up to a moment gives besides its past
pub record Marking : Type 0 where
  -- the calls of the past began before this time; the run starts at time 0
  pub now : ℕ
  -- the clock at each time
  pub clock : ℕ → ℕ
  -- times are below bound, and stamps are at most top
  pub bound : ℕ
  pub top : ℕ
  -- the marks of the rows
  pub marks : Marks
  -- the key of the call that began at a time, if it belongs to the order
  pub key : ℕ → Option Key
  -- the change that this call makes, if it has an effect
  pub change : ℕ → RowChange

-- the time at which a call was finished, or now
abbrev pub end_of : ℕ → Option Finish → ℕ
end_of now None = now
end_of now (Some f) = f.time

-- the key k is that of a raise of the clock from t
pub record RaiseKey (run : Marking) (k : Key) (t : ℕ) : Type 0 where
  pub stamp : k.stamp ≡ t
  pub part : k.part ≡ run.bound
  pub raised : run.clock (suc k.time) ≡ suc t
  pub high : t < run.top

-- a call that is fed as f was finished with the answer a, and its page shows what the graph g gives
pub record Told (g : Graph) (f : Feed) (a : Answer) (e : Finish) : Type 0 where
  pub answer : e.answer ≡ a
  pub page : Shows g f e.page

-- what is owed for the call that began at b and has the key k
pub record CallMarked (h : Past) (run : Marking) (b : ℕ) (k : Key) : Type 0 where
  -- it belongs to the order, and began before now
  pub belongs : Belongs h b
  pub early : b < run.now
  -- its key is of a time after the start, and of a stamp from that of the start on
  pub bounded : Bounded run.bound k
  pub time : 0 < k.time
  pub low : run.clock 0 ≤ k.stamp
  pub high : k.stamp ≤ run.top
  -- its key is of a moment between its begin and its end
  pub fits : Fits run.clock k b (end_of run.now (h.finish b))
  -- a change with an effect bears the stamp of the key; that of an unfinished call has an effect unless a vertex of it ended with a lower stamp
  pub stamp : makes_change (run.change b) ≡ true → h.stamp b ≡ Some k.stamp
  pub counts : h.finish b ≡ None → makes_change (run.change b) ≡ not (h.lower_end b)
  -- if it raised the clock, its key is that of the raise
  pub raise : (t : ℕ) → h.raise b ≡ Some t → RaiseKey run k t
  -- what it finds at its key
  pub answer : Answer
  pub finds : Finds run.bound run.top run.marks k (fed h b) (run.change b) answer
  -- if it is finished, that was its answer, and its page shows what the graph just before the key gives
  pub told : IfSome (h.finish b) (Told (graph_before run.bound run.top run.marks k) (fed h b) answer)

-- the change x is from before the start, or a call that stands at the key k makes it
pub data MadeAtKey (run : Marking) (x : Mark) (k : Key) (v : RowChange) : Type 0 where
  before_start : Old run.clock x → MadeAtKey run x k v
  by_call : (b : ℕ) → run.key b ≡ Some k → run.change b ≡ v → MadeAtKey run x k v

-- what is owed
pub record Marked (h : Past) (run : Marking) : Type 0 where
  -- the clock never falls
  pub rises : (s t : ℕ) → s ≤ t → run.clock s ≤ run.clock t
  -- there is a time, and the start has a stamp
  pub start_stamp : run.clock 0 ≤ run.top
  pub some_time : 0 < run.bound
  -- each call that belongs to the order has a key, with what is owed for it
  pub keyed : (b : ℕ) → Belongs h b → (k : Key) × (run.key b ≡ Some k)
  pub calls : (b : ℕ) (k : Key) → run.key b ≡ Some k → CallMarked h run b k
  -- no two calls have one time and one third part
  pub apart : (b c : ℕ) (k l : Key) → run.key b ≡ Some k → run.key c ≡ Some l → k.time ≡ l.time → k.part ≡ l.part → b ≡ c
  -- the rows keep their laws, and each change with an effect is made at its key
  pub sound : MarksSound run.bound run.top run.marks
  pub vertex_births : (r : ℕ) → (run.marks.vertex_ins r).stamp ≤ run.top →
      MadeAtKey run (run.marks.vertex_ins r) (change_key run.bound (run.marks.vertex_ins r)) (vertex_born r)
  pub vertex_endings : (r : ℕ) → (run.marks.vertex_del r).stamp ≤ run.top →
      MadeAtKey run (run.marks.vertex_del r) (change_key run.bound (run.marks.vertex_del r)) (vertex_ends r)
  pub edge_births : (e : ℕ) → edge_effect run.top run.marks e (run.marks.edge_ins e) ≡ true →
      MadeAtKey run (run.marks.edge_ins e) (edge_key run.bound run.marks e (run.marks.edge_ins e)) (edge_born e)
  pub edge_endings : (e : ℕ) → edge_effect run.top run.marks e (run.marks.edge_del e) ≡ true →
      MadeAtKey run (run.marks.edge_del e) (edge_key run.bound run.marks e (run.marks.edge_del e)) (edge_ends e)

-- the greatest key of the start
abbrev pub start_key : Marking → Key
start_key run = record { stamp = run.clock 0; time = 0; part = 2 * run.bound - 1 }

-- the graph at the start
abbrev pub start_graph : Marking → Graph
start_graph run = graph_at (rows_of run.bound run.top run.marks) (number run.bound (start_key run))

-- a key above those of all calls
abbrev pub end_key : Marking → Key
end_key run = record { stamp = suc run.top; time = 0; part = 0 }

-- the graph after all calls
abbrev pub end_graph : Marking → Graph
end_graph run = graph_at (rows_of run.bound run.top run.marks) (number run.bound (end_key run))

-- one order explains the calls, from the graph at the start to the graph after all calls
abbrev pub MarkedStands : Type 0
MarkedStands = (h : Past) (run : Marking) → Marked h run → Ordered h (start_graph run) (end_graph run)

-- no row is from before the start
pub record Fresh (run : Marking) : Type 0 where
  pub vertices : (r : ℕ) → ¬ (Old run.clock (run.marks.vertex_ins r))
  pub edges : (e : ℕ) → ¬ (Old run.clock (run.marks.edge_ins e))

-- then one order explains the calls from the empty graph on
abbrev pub FreshStands : Type 0
FreshStands = (h : Past) (run : Marking) → Marked h run → Fresh run → Ordered h empty (end_graph run)
