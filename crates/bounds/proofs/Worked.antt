-- The worked runs, by computation.
use Rattle.std.proofs.Common.{refl}
use Rattle.codes.specs.declared.answer.Answer.TheVariants.{VertexAlready, VertexRemoved, VertexAbsent, EdgeAdded, EdgeRemoved}
use Rattle.places.specs.declared.place.Op.TheVariants.{Add, Remove, Contains}
use Rattle.places.specs.declared.place.Call.TheVariants as call
use Rattle.order.specs.Seen.{open_call}
use Rattle.bounds.specs.Bounds.{count_before, any_below, rows_held_at_start, latest_turn}
use Rattle.walks.specs.Budgets.{sum_below}
use Rattle.bounds.specs.Worked.{pair, slow_contains_vertex, slow_remove_vertex, slow_add_vertex, slow_contains_edge, slow_remove_edge, slow_add_edge, slow_lost_edge, state_after, one_key_after, TakesMost, LosesTwo, SnapshotTakesMost, Worked}

contains_vertex : TakesMost slow_contains_vertex 3 (call.Vertex Contains 0) 0 VertexAbsent
unfolding state_after count_before latest_turn open_call
contains_vertex = record { begun = refl; answer = refl; linked = refl; taken = refl }

remove_vertex : TakesMost slow_remove_vertex 3 (call.Vertex Remove 0) 0 VertexRemoved
unfolding state_after count_before latest_turn open_call
remove_vertex = record { begun = refl; answer = refl; linked = refl; taken = refl }

add_vertex : TakesMost slow_add_vertex 3 (call.Vertex Add 0) 0 VertexAlready
unfolding state_after count_before latest_turn open_call
add_vertex = record { begun = refl; answer = refl; linked = refl; taken = refl }

contains_edge : TakesMost slow_contains_edge 3 (call.Edge Contains pair) 1 VertexAbsent
unfolding state_after count_before latest_turn open_call
contains_edge = record { begun = refl; answer = refl; linked = refl; taken = refl }

remove_edge : TakesMost slow_remove_edge 3 (call.Edge Remove pair) 1 EdgeRemoved
unfolding state_after count_before latest_turn open_call
remove_edge = record { begun = refl; answer = refl; linked = refl; taken = refl }

add_edge : TakesMost slow_add_edge 48 (call.Edge Add pair) 0 EdgeAdded
unfolding state_after count_before latest_turn open_call
add_edge = record { begun = refl; answer = refl; linked = refl; taken = refl }

lost_edge : TakesMost slow_lost_edge 48 (call.Edge Add pair) 1 EdgeAdded
unfolding state_after count_before latest_turn open_call
lost_edge = record { begun = refl; answer = refl; linked = refl; taken = refl }

two_links_lost : LosesTwo
unfolding state_after count_before latest_turn open_call
two_links_lost = record { begun = refl; answer = refl; linked = refl; taken = refl }

snapshot : SnapshotTakesMost
unfolding one_key_after count_before latest_turn open_call any_below rows_held_at_start sum_below
snapshot = record { begun = refl; answer = refl; linked = refl; taken = refl }

pub worked : Worked
worked = record {
  contains_vertex = contains_vertex;
  remove_vertex = remove_vertex;
  add_vertex = add_vertex;
  contains_edge = contains_edge;
  remove_edge = remove_edge;
  add_edge = add_edge;
  lost_edge = lost_edge;
  two_links_lost = two_links_lost;
  snapshot = snapshot;
}
