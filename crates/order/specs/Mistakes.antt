-- Worked cases: what known mistakes would show, which no order explains, and what is right in its place, which one order explains.
use Rattle.std.specs.Prelude.{ℕ, Bool, true, false, if◌then◌else◌, ◌&&◌, ◌||◌, List, Some, None, Option, ◌==◌}
use Rattle.codes.specs.declared.answer.Answer.{Answer}
use Rattle.codes.specs.declared.answer.Answer.TheVariants.{VertexAdded, VertexAlready, VertexRemoved, VertexAbsent, VertexPresent, EdgeAdded, EdgeAbsent, EdgePresent, SnapshotTaken}
use Rattle.places.specs.declared.place.Op.{Op}
use Rattle.places.specs.declared.place.Op.TheVariants.{Add, Remove, Contains}
use Rattle.places.specs.declared.place.Survey.TheVariants.{Snapshot}
use Rattle.places.specs.declared.place.Call.{Call}
use Rattle.places.specs.declared.place.Call.TheVariants as call
use Rattle.questions.specs.Graph.{Graph}
use Rattle.order.specs.Graph.{empty, with_vertex, without_vertex}
use Rattle.order.specs.Past.{Finish, Past}
use Rattle.order.specs.Order.{OneOrder}
use Rattle.order.specs.Started.{two_joined}

-- from the graph g on, one order explains the past that has r in it, and no order explains the past that has w in that place
pub record Tells {X : Type 0} (past : X → Past) (g : Graph) (r w : X) : Type 0 where
  pub right : (order : List ℕ) × OneOrder (past r) g order
  pub wrong : (order : List ℕ) → ¬ (OneOrder (past w) g order)

-- a call of the pair (0, 1)
abbrev pub of_pair : Op → ℕ → Call
of_pair o weight = call.Edge o (record { from = 0; to = 1; weight = weight })

-- a finish with a page, or with one that does not matter
abbrev pub shown : ℕ → Graph → Option Finish
shown time page = Some (record { time = time; answer = SnapshotTaken; page = page })

abbrev pub ended : ℕ → Answer → Option Finish
ended time answer = Some (record { time = time; answer = answer; page = empty })

-- An add of vertex 0 begins at 1, and its row is linked. Another add begins at 2, loses the link, and answers at some time that the vertex was there: at
-- 5, while ins of that row is pending, or later. A snapshot begins at 7, raises the clock from 1, and shows nothing; then ins gets stamp 2
abbrev pub lost_link : ℕ → Past
lost_link time = record {
  begun = λ b.
      if b == 1 || b == 2 then Some (call.Vertex Add 0)
      else if b == 7 then Some (call.Survey Snapshot)
      else None;
  finish = λ b.
      if b == 1 then ended 12 VertexAdded
      else if b == 2 then ended time VertexAlready
      else if b == 7 then shown 9 empty
      else None;
  stamp = λ b. if b == 1 then Some 2 else None;
  raise = λ b. if b == 7 then Some 1 else None;
  lower_end = λ b. false;
}

-- Vertices 0 and 1 are joined. A contains of the edge begins at 1, a remove of vertex 0 at 2, a remove of the edge at 3, and all bind. The vertex ends
-- with stamp 7, a snapshot raises the clock from 7, and the edge row ends with stamp 8: too late to count, so its remove answers that a vertex is
-- absent. The contains meets the row that has ended. It checks again, or answers that the edge is absent
abbrev pub ended_row : Answer → Past
ended_row a = record {
  begun = λ b.
      if b == 1 then Some (of_pair Contains 0)
      else if b == 2 then Some (call.Vertex Remove 0)
      else if b == 3 then Some (of_pair Remove 0)
      else if b == 20 then Some (call.Survey Snapshot)
      else None;
  finish = λ b.
      if b == 1 then ended 50 a
      else if b == 2 then ended 19 VertexRemoved
      else if b == 3 then ended 40 VertexAbsent
      else if b == 20 then shown 30 (without_vertex two_joined 0)
      else None;
  stamp = λ b.
      if b == 2 then Some 7
      else if b == 3 then Some 8
      else None;
  raise = λ b. if b == 20 then Some 7 else None;
  lower_end = λ b. b == 3;
}

-- vertices 0 and 1, and no edges
abbrev pub two_apart : Graph
two_apart = record { has = λ k. k == 0 || k == 1; edge = λ i j. None }

-- An add of the edge begins at 1 and binds. Vertex 0 is removed and added again, and the edge is added between the new row of 0 and the row of 1. The
-- first add links a row bound to the old row of 0 over the newer edge, without checking again, and has the stamp with which the old row ended. A
-- contains then sees the newer edge, or meets the row that is bound to others and answers that the edge is absent
abbrev pub linked_over : Answer → Past
linked_over a = record {
  begun = λ b.
      if b == 1 then Some (of_pair Add 5)
      else if b == 11 then Some (call.Vertex Remove 0)
      else if b == 21 then Some (call.Vertex Add 0)
      else if b == 31 then Some (of_pair Add 6)
      else if b == 61 then Some (of_pair Contains 0)
      else None;
  finish = λ b.
      if b == 1 then ended 60 EdgeAdded
      else if b == 11 then ended 20 VertexRemoved
      else if b == 21 then ended 30 VertexAdded
      else if b == 31 then ended 50 EdgeAdded
      else if b == 61 then ended 80 a
      else None;
  stamp = λ b. if b == 1 || (b == 11 || (b == 21 || b == 31)) then Some 7 else None;
  raise = λ b. None;
  lower_end = λ b. false;
}

-- An add of vertex 0 begins at 1 and links its row, whose ins is pending, so the add does not belong to the order. A contains then does not see it, or
-- does
abbrev pub pending_change : Answer → Past
pending_change a = record {
  begun = λ b.
      if b == 1 then Some (call.Vertex Add 0)
      else if b == 5 then Some (call.Vertex Contains 0)
      else None;
  finish = λ b. if b == 5 then ended 9 a else None;
  stamp = λ b. None;
  raise = λ b. None;
  lower_end = λ b. false;
}

-- An add of vertex 0 is finished. A snapshot that begins later shows it, or does not
abbrev pub finished_add : Graph → Past
finished_add page = record {
  begun = λ b.
      if b == 1 then Some (call.Vertex Add 0)
      else if b == 10 then Some (call.Survey Snapshot)
      else None;
  finish = λ b.
      if b == 1 then ended 8 VertexAdded
      else if b == 10 then shown 15 page
      else None;
  stamp = λ b. if b == 1 then Some 1 else None;
  raise = λ b. if b == 10 then Some 1 else None;
  lower_end = λ b. false;
}

-- A contains of vertex 0 is answered, and an add of the vertex begins later. The contains did not see the vertex, or did
abbrev pub seen_early : Answer → Past
seen_early a = record {
  begun = λ b.
      if b == 1 then Some (call.Vertex Contains 0)
      else if b == 10 then Some (call.Vertex Add 0)
      else None;
  finish = λ b.
      if b == 1 then ended 3 a
      else if b == 10 then ended 16 VertexAdded
      else None;
  stamp = λ b. if b == 10 then Some 1 else None;
  raise = λ b. None;
  lower_end = λ b. false;
}

-- An add of the edge begins at 1 and binds. Vertex 0 ends with stamp 7, a snapshot raises the clock from 7, and the edge row is born with stamp 8. The
-- add is unfinished, and its change does not count, since the vertex has a lower end; or it counts
abbrev pub late_birth : Bool → Past
late_birth lower = record {
  begun = λ b.
      if b == 1 then Some (of_pair Add 5)
      else if b == 2 then Some (call.Vertex Remove 0)
      else if b == 20 then Some (call.Survey Snapshot)
      else None;
  finish = λ b.
      if b == 2 then ended 19 VertexRemoved
      else if b == 20 then shown 30 (without_vertex two_apart 0)
      else None;
  stamp = λ b.
      if b == 1 then Some 8
      else if b == 2 then Some 7
      else None;
  raise = λ b. if b == 20 then Some 7 else None;
  lower_end = λ b. b == 1 && lower;
}

pub record Mistakes : Type 0 where
  -- answering that the vertex is there before the row that won the link has its stamp
  pub early_answer : Tells lost_link empty 11 5
  -- answering that the edge is absent, from an ended row, without checking again
  pub second_check : Tells ended_row two_joined VertexAbsent EdgeAbsent
  -- linking an edge row without checking again, which hides a newer edge
  pub hidden_edge : Tells linked_over two_apart EdgePresent EdgeAbsent
  -- counting a pending change of an unfinished call
  pub pending_member : Tells pending_change empty VertexAbsent VertexPresent
  -- leaving a finished call out
  pub left_out : Tells finished_add empty (with_vertex empty 0) empty
  -- two calls turned round: the one that was finished first stands behind the one that began later
  pub turned_round : Tells seen_early empty VertexAbsent VertexPresent
  -- counting a change that a lower end has overtaken
  pub overtaken : Tells late_birth two_apart true false
