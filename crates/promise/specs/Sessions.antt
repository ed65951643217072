-- Histories of small openings: the worked session, the same without its snapshot, an add of an edge that loses a link, pages with an edge and refusals, a spent clock.
use Rattle.std.specs.Prelude.{ℕ, List, [], ◌∷◌, ◌++◌, replicate}
use Rattle.std.proofs.Common.{lit≤}
use Rattle.codes.specs.declared.answer.Answer.{Answer}
use Rattle.codes.specs.declared.answer.Answer.TheVariants.{EdgeRemoved, VertexAdded, VertexAbsent, VertexRemoved, EdgeAdded, EdgeAlready, SnapshotTaken, ReachTaken, ClockSpent}
use Rattle.codes.specs.declared.refusal.Refusal.{Refusal}
use Rattle.codes.specs.declared.refusal.Refusal.TheVariants.{KeyOutside, WorkerIdle}
use Rattle.layout.specs.declared.sizes.Sizes.{Sizes}
use Rattle.layout.specs.Layout.{needed}
use Rattle.machine.specs.declared.request.Request.{Request}
use Rattle.machine.specs.declared.request.Request.TheVariants as request
use Rattle.machine.specs.declared.request.Reply.TheVariants as reply
use Rattle.machine.specs.States.{State}
use Rattle.machine.specs.Opening.{opened_state}
use Rattle.machine.specs.History.{Event}

-- two keys, two workers, four rows of each kind, greatest clock 9
abbrev pub two : Sizes
two = record {
  keys = 2;
  workers = 2;
  vrows = 4;
  erows = 4;
  top = 9;
  keyed = (lit≤ tt, lit≤ tt);
  staffed = (lit≤ tt, lit≤ tt);
  vrowed = (lit≤ tt, lit≤ tt);
  erowed = (lit≤ tt, lit≤ tt);
  timed = (lit≤ tt, lit≤ tt);
}

-- two keys, two workers, two rows of each kind
abbrev pub small : Sizes
small = record {
  keys = 2;
  workers = 2;
  vrows = 2;
  erows = 2;
  top = 9;
  keyed = (lit≤ tt, lit≤ tt);
  staffed = (lit≤ tt, lit≤ tt);
  vrowed = (lit≤ tt, lit≤ tt);
  erowed = (lit≤ tt, lit≤ tt);
  timed = (lit≤ tt, lit≤ tt);
}

-- as many cells as are needed
abbrev pub blank_cells : Sizes → List ℕ
blank_cells z = replicate (needed z) 0

abbrev pub opened_with : Sizes → State
opened_with z = opened_state (blank_cells z) z

-- worker w begins a call, and is not refused
abbrev pub begin : ℕ → ℕ → ℕ → ℕ → ℕ → Event
begin w c i j weight = record { request = request.Begin (record { worker = w; call = c; from = i; to = j; weight = weight }); reply = reply.Done }

-- n turns of worker w that do not answer
abbrev pub running : ℕ → ℕ → List Event
running w n = replicate n (record { request = request.Turn w; reply = reply.Running })

-- a turn of worker w that answers
abbrev pub answers : ℕ → Answer → Event
answers w a = record { request = request.Turn w; reply = reply.Answered a }

-- Newest first. Both keys are added, and worker 0 is ten turns into adding edge (0, 1) of weight 5 when worker 1 removes key 1.
abbrev pub prelude : List Event
prelude =
    answers 1 VertexRemoved ∷ running 1 7 ++ (begin 1 2 1 0 0 ∷ running 0 10 ++ (begin 0 4 0 1 5 ∷
    (answers 1 VertexAdded ∷ running 1 5 ++ (begin 1 1 1 0 0 ∷ (answers 0 VertexAdded ∷ running 0 5 ++ (begin 0 1 0 0 0 ∷ []))))))

-- then a snapshot raises the clock, so that the edge bears a higher stamp than the removal
abbrev pub session : List Event
session = answers 0 VertexAbsent ∷ running 0 6 ++ (answers 1 SnapshotTaken ∷ running 1 6 ++ (begin 1 7 0 0 0 ∷ prelude))

-- or it does not, and the two stamps are equal
abbrev pub equal_stamps : List Event
equal_stamps = answers 0 EdgeAdded ∷ running 0 6 ++ prelude

-- both keys are there, both workers add edge (0, 1), and worker 1 links its row first; then worker 0 starts again and finds the edge
abbrev pub lost_link : List Event
lost_link =
    answers 0 EdgeAlready ∷ running 0 15 ++ (running 1 1 ++ (running 0 10 ++ (running 1 10 ++ (begin 1 4 0 1 7 ∷ (begin 0 4 0 1 5 ∷
    (answers 0 VertexAdded ∷ running 0 5 ++ (begin 0 1 1 0 0 ∷ (answers 0 VertexAdded ∷ running 0 5 ++ (begin 0 1 0 0 0 ∷ [])))))))))

-- one of everything
abbrev pub least : Sizes
least = record {
  keys = 1;
  workers = 1;
  vrows = 1;
  erows = 1;
  top = 1;
  keyed = (lit≤ tt, lit≤ tt);
  staffed = (lit≤ tt, lit≤ tt);
  vrowed = (lit≤ tt, lit≤ tt);
  erowed = (lit≤ tt, lit≤ tt);
  timed = (lit≤ tt, lit≤ tt);
}

-- a request that is refused
abbrev pub refused : Request → Refusal → Event
refused q e = record { request = q; reply = reply.Refused e }

-- Worker 0 makes an edge. Worker 1 is refused a turn, and a begin with a key outside; it takes a snapshot, and a reach from key 0.
abbrev pub shown_edge : List Event
shown_edge =
    answers 1 ReachTaken ∷ running 1 10 ++ (begin 1 8 0 0 0 ∷ (answers 1 SnapshotTaken ∷ running 1 10 ++ (begin 1 7 0 0 0 ∷
    (refused (request.Begin (record { worker = 1; call = 8; from = 2; to = 0; weight = 0 })) KeyOutside ∷ (refused (request.Turn 1) WorkerIdle ∷
    (answers 0 EdgeAdded ∷ running 0 16 ++ (begin 0 4 0 1 5 ∷ (answers 0 VertexAdded ∷ running 0 5 ++ (begin 0 1 1 0 0 ∷
    (answers 0 VertexAdded ∷ running 0 5 ++ (begin 0 1 0 0 0 ∷ [])))))))))))

-- from a state with two vertices and an edge, the edge is removed
abbrev pub edge_removed : List Event
edge_removed = answers 0 EdgeRemoved ∷ running 0 16 ++ (begin 0 5 0 1 0 ∷ [])

-- with the greatest clock 1 a snapshot ends at its first turn
abbrev pub clock_spent : List Event
clock_spent = answers 0 ClockSpent ∷ (begin 0 7 0 0 0 ∷ [])
