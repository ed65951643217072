-- Runs in which calls take as many turns as they can, since other workers leave pending what they settle.
use Rattle.std.specs.Prelude.{◌≡◌, ℕ, zero, suc, ◌-◌, List, [], ◌∷◌, ◌++◌, length, get_or, replicate, refl}
use Rattle.std.proofs.Common.{lit≤}
use Rattle.codes.specs.declared.answer.Answer.{Answer}
use Rattle.codes.specs.declared.answer.Answer.TheVariants.{VertexAlready, VertexRemoved, VertexAbsent, EdgeAdded, EdgeAlready, EdgeRemoved, SnapshotTaken}
use Rattle.layout.specs.declared.sizes.Sizes.{Sizes}
use Rattle.layout.specs.Layout.{needed}
use Rattle.places.specs.declared.place.Op.TheVariants.{Add, Remove, Contains}
use Rattle.places.specs.declared.place.Pair.{Pair}
use Rattle.places.specs.declared.place.Survey.TheVariants.{Snapshot}
use Rattle.places.specs.declared.place.Call.{Call}
use Rattle.places.specs.declared.place.Call.TheVariants as call
use Rattle.machine.specs.declared.request.Request.{Request}
use Rattle.machine.specs.declared.request.Request.TheVariants.{Begin, Turn}
use Rattle.machine.specs.declared.request.Reply.TheVariants.{Answered}
use Rattle.machine.specs.States.{State}
use Rattle.machine.specs.Opening.{opened_state}
use Rattle.laws.proofs.Clean.{openings_clean}
use Rattle.machine.specs.Requests.{reply_of, stepped}
use Rattle.order.specs.Seen.{CallSight.begins}
use Rattle.runs.specs.Runs.{RunInTime}
use Rattle.runs.specs.Seen.{seen}
use Rattle.bounds.specs.Bounds.{turns_taken, rows_met}
use Rattle.bounds.specs.Most.{most_turns, links_on_pair}

-- two keys, four workers, with four vertex rows and two edge rows each
abbrev pub small : Sizes
small = record {
  keys = 2;
  workers = 4;
  vrows = 4;
  erows = 2;
  top = 9;
  keyed = (lit≤ tt, lit≤ tt);
  staffed = (lit≤ tt, lit≤ tt);
  vrowed = (lit≤ tt, lit≤ tt);
  erowed = (lit≤ tt, lit≤ tt);
  timed = (lit≤ tt, lit≤ tt);
}

-- one key
abbrev pub one_key : Sizes
one_key = record {
  keys = 1;
  workers = 3;
  vrows = 1;
  erows = 1;
  top = 9;
  keyed = (lit≤ tt, lit≤ tt);
  staffed = (lit≤ tt, lit≤ tt);
  vrowed = (lit≤ tt, lit≤ tt);
  erowed = (lit≤ tt, lit≤ tt);
  timed = (lit≤ tt, lit≤ tt);
}

-- worker w begins call n of keys i and j, with weight 1; worker w has n turns
abbrev pub calls : ℕ → ℕ → ℕ → ℕ → List Request
calls w n i j = Begin (record { worker = w; call = n; from = i; to = j; weight = 1 }) ∷ []

abbrev pub turns : ℕ → ℕ → List Request
turns w n = replicate n (Turn w)

abbrev pub pair : Pair
pair = record { from = 0; to = 1; weight = 1 }

-- A contains of a vertex settles ins and then del of the row that it finds.
abbrev pub slow_contains_vertex : List Request
slow_contains_vertex =
    calls 1 1 0 0 ++ turns 1 2 ++ calls 0 3 0 0 ++ turns 0 5 ++ turns 1 1 ++ calls 1 2 0 0 ++ turns 1 4 ++ turns 0 4

-- A remove of a vertex settles ins of the row that it finds, and its own end.
abbrev pub slow_remove_vertex : List Request
slow_remove_vertex =
    calls 1 1 0 0 ++ turns 1 2 ++ calls 0 2 0 0 ++ turns 0 11

-- An add of a vertex settles ins and then del of the row that it finds, loses its link, and settles the winner's ins.
abbrev pub slow_add_vertex : List Request
slow_add_vertex =
    calls 1 1 0 0 ++ turns 1 2 ++ calls 0 1 0 0 ++ turns 0 5 ++ calls 2 2 0 0 ++ turns 2 4 ++ turns 0 4 ++ turns 2 1 ++ calls 2 1 0 0 ++ turns 2 4
    ++ turns 0 6

-- A contains of an edge settles ins of both vertices, ins and then del of the edge, and at last del of the target.
abbrev pub slow_contains_edge : List Request
slow_contains_edge =
    calls 1 1 0 0 ++ turns 1 2 ++ calls 0 6 0 1 ++ turns 0 6 ++ turns 1 1 ++ calls 1 1 1 0 ++ turns 1 2 ++ turns 0 7 ++ turns 1 1 ++ calls 1 4 0 1
    ++ turns 1 11 ++ turns 0 5 ++ turns 1 3 ++ calls 1 5 0 1 ++ turns 1 11 ++ turns 0 5 ++ turns 1 3 ++ calls 1 2 1 0 ++ turns 1 4 ++ turns 0 4

-- A remove of an edge settles ins of both vertices and of the edge, its own end, and del of both vertices.
abbrev pub slow_remove_edge : List Request
slow_remove_edge =
    calls 1 1 0 0 ++ turns 1 2 ++ calls 0 5 0 1 ++ turns 0 6 ++ turns 1 1 ++ calls 1 1 1 0 ++ turns 1 2 ++ turns 0 7 ++ turns 1 1 ++ calls 1 4 0 1
    ++ turns 1 11 ++ turns 0 11 ++ turns 1 3 ++ calls 1 2 0 0 ++ turns 1 4 ++ turns 0 4 ++ turns 1 1 ++ calls 1 2 1 0 ++ turns 1 4 ++ turns 0 4

-- An add of an edge settles ins of both vertices, ins and then del of an edge of older rows, its own ins, and del of both vertices.
abbrev pub slow_add_edge : List Request
slow_add_edge =
    calls 1 1 0 0 ++ turns 1 6 ++ calls 1 1 1 0 ++ turns 1 6 ++ calls 1 4 0 1 ++ turns 1 11 ++ calls 3 5 0 1 ++ turns 3 7 ++ calls 2 2 0 0
    ++ turns 2 8 ++ calls 2 1 0 0 ++ turns 2 4 ++ calls 0 4 0 1 ++ turns 0 6 ++ turns 2 1 ++ calls 2 2 1 0 ++ turns 2 8 ++ calls 2 1 1 0 ++ turns 2 4
    ++ turns 0 12 ++ turns 3 4 ++ turns 0 11 ++ turns 2 1 ++ calls 2 2 0 0 ++ turns 2 4 ++ turns 0 4 ++ turns 2 1 ++ calls 2 2 1 0 ++ turns 2 4
    ++ turns 0 4

-- The same, where another worker links first; in its second round all is pending anew.
abbrev pub slow_lost_edge : List Request
slow_lost_edge =
    calls 1 1 0 0 ++ turns 1 6 ++ calls 1 1 1 0 ++ turns 1 6 ++ calls 1 4 0 1 ++ turns 1 11 ++ calls 3 5 0 1 ++ turns 3 7 ++ calls 2 2 0 0
    ++ turns 2 8 ++ calls 2 1 0 0 ++ turns 2 4 ++ calls 0 4 0 1 ++ turns 0 6 ++ turns 2 1 ++ calls 2 2 1 0 ++ turns 2 8 ++ calls 2 1 1 0 ++ turns 2 4
    ++ turns 0 12 ++ turns 3 4 ++ turns 0 6 ++ turns 1 3 ++ calls 1 4 0 1 ++ turns 1 13 ++ turns 0 1 ++ turns 2 1 ++ turns 3 3 ++ calls 3 5 0 1
    ++ turns 3 7 ++ calls 2 2 0 0 ++ turns 2 8 ++ calls 2 1 0 0 ++ turns 2 4 ++ turns 0 6 ++ turns 2 1 ++ calls 2 2 1 0 ++ turns 2 8 ++ calls 2 1 1 0
    ++ turns 2 4 ++ turns 0 12 ++ turns 3 4 ++ turns 0 11 ++ turns 2 1 ++ calls 2 2 0 0 ++ turns 2 4 ++ turns 0 4 ++ turns 2 1 ++ calls 2 2 1 0
    ++ turns 2 4 ++ turns 0 4

-- Both keys are there. Worker 0 is about to link its edge row when worker 1 adds the edge and removes it; it starts again, and is about to link when worker 2 adds
-- the edge; it starts again and finds that edge.
abbrev pub lost_twice : List Request
lost_twice =
    calls 1 1 0 0 ++ turns 1 6 ++ calls 1 1 1 0 ++ turns 1 6 ++ calls 0 4 0 1 ++ turns 0 10 ++ calls 1 4 0 1 ++ turns 1 17 ++ calls 1 5 0 1 ++ turns 1 17
    ++ turns 0 13 ++ calls 2 4 0 1 ++ turns 2 19 ++ turns 0 13

-- A snapshot of the one key settles ins, and then del, of the one row.
abbrev pub slow_snapshot : List Request
slow_snapshot = calls 1 1 0 0 ++ turns 1 4 ++ calls 0 7 0 0 ++ turns 0 4 ++ turns 1 1 ++ calls 2 2 0 0 ++ turns 2 4 ++ turns 0 6

-- the state after k of some requests; past them all are refused
unfoldable pub state_after : List Request → ℕ → State
state_after qs zero = opened_state (replicate (needed small) 0) small
state_after qs (suc k) = stepped (state_after qs k) (get_or qs k (Turn 9))

-- the same with one key
unfoldable pub one_key_after : List Request → ℕ → State
one_key_after qs zero = opened_state (replicate (needed one_key) 0) one_key
one_key_after qs (suc k) = stepped (one_key_after qs k) (get_or qs k (Turn 9))

abbrev pub one_key_run : List Request → RunInTime
unfolding one_key_after
one_key_run qs = record {
  sizes = one_key;
  request = λ k. get_or qs k (Turn 9);
  state = one_key_after qs;
  clean = openings_clean one_key (replicate (needed one_key) 0) (lit≤ tt);
  start = refl;
  next = λ k. refl;
}

abbrev pub run_of : List Request → RunInTime
unfolding state_after
run_of qs = record {
  sizes = small;
  request = λ k. get_or qs k (Turn 9);
  state = state_after qs;
  clean = openings_clean small (replicate (needed small) 0) (lit≤ tt);
  start = refl;
  next = λ k. refl;
}

-- the call that worker 0 begins at time b is answered by the last of the requests, and took the most turns where there were so many links
pub record TakesMost (qs : List Request) (b : ℕ) (c : Call) (links : ℕ) (a : Answer) : Type 0 where
  pub begun : seen (run_of qs) b ≡ begins 0 c
  pub answer : reply_of (state_after qs (length qs - 1)) (Turn 0) ≡ Answered a
  pub linked : links_on_pair (run_of qs) 0 b (length qs) c ≡ links
  pub taken : turns_taken (run_of qs) 0 b (length qs) ≡ most_turns c links

-- The add of the edge that worker 0 begins at time 14 loses two links. It had 36 turns, where 52 · (1 + 2) are allowed, and is answered by the last of the requests.
pub record LosesTwo : Type 0 where
  pub begun : seen (run_of lost_twice) 14 ≡ begins 0 (call.Edge Add pair)
  pub answer : reply_of (state_after lost_twice (length lost_twice - 1)) (Turn 0) ≡ Answered EdgeAlready
  pub linked : links_on_pair (run_of lost_twice) 0 14 (length lost_twice) (call.Edge Add pair) ≡ 2
  pub taken : turns_taken (run_of lost_twice) 0 14 (length lost_twice) ≡ 36

-- the snapshot that worker 0 begins at time 5 is answered by the last of the requests, and took 1 + 8 turns and one for the one row
pub record SnapshotTakesMost : Type 0 where
  pub begun : seen (one_key_run slow_snapshot) 5 ≡ begins 0 (call.Survey Snapshot)
  pub answer : reply_of (one_key_after slow_snapshot (length slow_snapshot - 1)) (Turn 0) ≡ Answered SnapshotTaken
  pub linked : rows_met (one_key_run slow_snapshot) 0 5 (length slow_snapshot) ≡ 1
  pub taken : turns_taken (one_key_run slow_snapshot) 0 5 (length slow_snapshot) ≡ 10

pub record Worked : Type 0 where
  pub contains_vertex : TakesMost slow_contains_vertex 3 (call.Vertex Contains 0) 0 VertexAbsent
  pub remove_vertex : TakesMost slow_remove_vertex 3 (call.Vertex Remove 0) 0 VertexRemoved
  pub add_vertex : TakesMost slow_add_vertex 3 (call.Vertex Add 0) 0 VertexAlready
  pub contains_edge : TakesMost slow_contains_edge 3 (call.Edge Contains pair) 1 VertexAbsent
  pub remove_edge : TakesMost slow_remove_edge 3 (call.Edge Remove pair) 1 EdgeRemoved
  pub add_edge : TakesMost slow_add_edge 48 (call.Edge Add pair) 0 EdgeAdded
  pub lost_edge : TakesMost slow_lost_edge 48 (call.Edge Add pair) 1 EdgeAdded
  pub two_links_lost : LosesTwo
  pub snapshot : SnapshotTakesMost
