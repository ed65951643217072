-- Worked case: a run that starts with two vertices and an edge between them. A snapshot shows just that, and then the edge is removed.
use Rattle.std.specs.Prelude.{◌≡◌, false, if◌then◌else◌, ◌&&◌, ◌||◌, [], ◌∷◌, Some, None, ◌==◌, nat_le, nat_lt}
use Rattle.codes.specs.declared.answer.Answer.TheVariants.{VertexAdded, EdgeAdded, EdgeRemoved, SnapshotTaken}
use Rattle.places.specs.declared.place.Op.TheVariants.{Add, Remove}
use Rattle.places.specs.declared.place.Survey.TheVariants.{Snapshot}
use Rattle.places.specs.declared.place.Call.TheVariants as call
use Rattle.questions.specs.Graph.{Graph}
use Rattle.order.specs.Graph.{empty, with_edge}
use Rattle.order.specs.Past.{Past}
use Rattle.order.specs.Order.{left_by, OneOrder, Ordered}
use Rattle.order.specs.Keys.{Key}
use Rattle.order.specs.Marks.{Marks, old_vertex, old_edge}
use Rattle.order.specs.Raises.{Raise, AllSettled}
use Rattle.order.specs.Finds.{no_change, edge_ends}
use Rattle.order.specs.Marked.{Marking, Marked}
use Rattle.order.specs.Ends.{ShowsOld, NoneEnded}
use Rattle.order.specs.Joined.{continued, Over}

-- vertices 0 and 1, and an edge of weight 5 from 0 to 1
abbrev pub two_joined : Graph
two_joined = record { has = λ k. k == 0 || k == 1; edge = λ i j. if i == 0 && j == 1 then Some 5 else None }

-- a snapshot begins at 1, raises the clock from 7, and is finished at 12; a remove of the edge begins at 13, makes a change that bears stamp 8, and is
-- finished at 26
abbrev pub started : Past
started = record {
  begun = λ b.
      if b == 1 then Some (call.Survey Snapshot)
      else if b == 13 then Some (call.Edge Remove (record { from = 0; to = 1; weight = 0 }))
      else None;
  finish = λ b.
      if b == 1 then Some (record { time = 12; answer = SnapshotTaken; page = two_joined })
      else if b == 13 then Some (record { time = 26; answer = EdgeRemoved; page = empty })
      else None;
  stamp = λ b. if b == 13 then Some 8 else None;
  raise = λ b. if b == 1 then Some 7 else None;
  lower_end = λ b. false;
}

-- two vertex rows and an edge row from before the start; del of the edge row became pending at 20
abbrev pub old_rows : Marks
old_rows = record {
  vertices = 2;
  key_of = λ v. v;
  vertex_ins = λ v. if nat_lt v 2 then old_vertex else (record { stamp = 10; time = 0 });
  vertex_del = λ v. record { stamp = 9; time = 0 };
  edges = 1;
  source = λ e. 0;
  target = λ e. 1;
  weight = λ e. 5;
  edge_ins = λ e. if e == 0 then old_edge 7 else (record { stamp = 10; time = 0 });
  edge_del = λ e. if e == 0 then (record { stamp = 8; time = 20 }) else (record { stamp = 9; time = 0 });
}

-- the snapshot stands at its raise, at time 2, and the remove at its change
abbrev pub snapshot_key : Key
snapshot_key = record { stamp = 7; time = 2; part = 30 }

abbrev pub remove_key : Key
remove_key = record { stamp = 8; time = 20; part = 30 }

abbrev pub run : Marking
run = record {
  now = 27;
  clock = λ k. if nat_le k 2 then 7 else 8;
  bound = 30;
  top = 8;
  marks = old_rows;
  key = λ b.
      if b == 1 then Some snapshot_key
      else if b == 13 then Some remove_key
      else None;
  change = λ b. if b == 13 then edge_ends 0 else no_change;
}

-- a stretch that leads there from the empty graph: an add of vertex 0 from 1 to 9, of vertex 1 from 10 to 19, and of the edge from 20 to 39
abbrev pub adds : Past
adds = record {
  begun = λ b.
      if b == 1 then Some (call.Vertex Add 0)
      else if b == 10 then Some (call.Vertex Add 1)
      else if b == 20 then Some (call.Edge Add (record { from = 0; to = 1; weight = 5 }))
      else None;
  finish = λ b.
      if b == 1 then Some (record { time = 9; answer = VertexAdded; page = empty })
      else if b == 10 then Some (record { time = 19; answer = VertexAdded; page = empty })
      else if b == 20 then Some (record { time = 39; answer = EdgeAdded; page = empty })
      else None;
  stamp = λ b.
      if b == 1 then Some 1
      else if b == 10 then Some 1
      else if b == 20 then Some 7
      else None;
  raise = λ b. None;
  lower_end = λ b. false;
}

pub record Started : Type 0 where
  -- the calls have an order from the graph at the start on, and it leaves the graph without the edge
  pub order : OneOrder started two_joined (1 ∷ 13 ∷ [])
  pub leaves : left_by started two_joined (1 ∷ 13 ∷ []) ≡ with_edge two_joined 0 1 None
  -- the run gives what it owes for them, its rows from before the start show the graph, and none of them ended before
  pub marked : Marked started run
  pub shows : ShowsOld run two_joined
  pub none_ended : NoneEnded run
  -- and what a snapshot meets can be said of it
  pub raise : Raise run.clock 2 7
  pub settled : AllSettled run.clock 2 run.top run.marks
  -- one order explains the calls after those of the stretch that leads there, and all of them began before 67 and bear stamps up to 8
  pub after_adds : Ordered (continued 40 adds started) empty (with_edge two_joined 0 1 None)
  pub over : Over 67 8 (continued 40 adds started)
