-- The plain graph: what it answers to each call, what the call makes of it, and what the call's page shows.
use Rattle.std.specs.Prelude.{◌≡◌, ℕ, Bool, true, false, if◌then◌else◌, not, ◌&&◌, ◌||◌, ◌↔◌, Some, None, Option, is_some, ◌==◌}
use Rattle.codes.specs.declared.answer.Answer.{Answer}
use Rattle.codes.specs.declared.answer.Answer.TheVariants.{VertexAdded, VertexAlready, VertexRemoved, VertexAbsent, VertexPresent, EdgeAdded, EdgeAlready, EdgeRemoved, EdgeAbsent, EdgePresent, SnapshotTaken, ReachTaken}
use Rattle.places.specs.declared.place.Op.{Op}
use Rattle.places.specs.declared.place.Op.TheVariants.{Add, Remove, Contains}
use Rattle.places.specs.declared.place.Pair.{Pair}
use Rattle.places.specs.declared.place.Survey.TheVariants.{Snapshot, Reach}
use Rattle.places.specs.declared.place.Call.{Call}
use Rattle.places.specs.declared.place.Call.TheVariants as call
use Rattle.questions.specs.Graph.{Graph, Walk}

-- no vertices and no edges
abbrev pub empty : Graph
empty = record { has = λ k. false; edge = λ k j. None }

-- one vertex more
abbrev pub with_vertex : Graph → ℕ → Graph
with_vertex g i = record { has = λ k. (k == i) || g.has k; edge = g.edge }

-- one vertex less, and none of the edges that leave or enter it
abbrev pub without_vertex : Graph → ℕ → Graph
without_vertex g i = record {
  has = λ k. not (k == i) && g.has k;
  edge = λ k j. if (k == i) || (j == i) then None else g.edge k j;
}

-- another weight, or none, from i to j
abbrev pub with_edge : Graph → ℕ → ℕ → Option ℕ → Graph
with_edge g i j weight = record { has = g.has; edge = λ k l. if (k == i) && (l == j) then weight else g.edge k l }

-- what the plain graph is fed for a call: the call, or the answer of a call that ended for want of rows or of clock
pub data Feed : Type 0 where
  asks : Call → Feed
  spent : Answer → Feed

-- both vertices of a pair are there
abbrev pub both : Graph → Pair → Bool
both g p = g.has p.from && g.has p.to

-- there is an edge of the pair
abbrev pub joined : Graph → Pair → Bool
joined g p = is_some (g.edge p.from p.to)

-- of a vertex that is there or is not
abbrev pub vertex_answer : Op → Bool → Answer
vertex_answer Add present = if present then VertexAlready else VertexAdded
vertex_answer Remove present = if present then VertexRemoved else VertexAbsent
vertex_answer Contains present = if present then VertexPresent else VertexAbsent

-- of an edge, between two vertices, that is there or is not
abbrev pub edge_answer : Op → Bool → Answer
edge_answer Add present = if present then EdgeAlready else EdgeAdded
edge_answer Remove present = if present then EdgeRemoved else EdgeAbsent
edge_answer Contains present = if present then EdgePresent else EdgeAbsent

-- the answer to what is fed; a spent call gets its own answer back
abbrev pub answer_to : Graph → Feed → Answer
answer_to g (asks (call.Vertex o i)) = vertex_answer o (g.has i)
answer_to g (asks (call.Edge o p)) = if both g p then edge_answer o (joined g p) else VertexAbsent
answer_to g (asks (call.Survey Snapshot)) = SnapshotTaken
answer_to g (asks (call.Survey (Reach i))) = if g.has i then ReachTaken else VertexAbsent
answer_to g (spent a) = a

-- only these four answers change the graph
abbrev pub is_change : Answer → Bool
is_change VertexAdded = true
is_change VertexRemoved = true
is_change EdgeAdded = true
is_change EdgeRemoved = true
is_change a = false

-- what an add or a remove of a vertex makes of the graph
abbrev pub vertex_changed : Op → Graph → ℕ → Graph
vertex_changed Add g i = with_vertex g i
vertex_changed Remove g i = without_vertex g i
vertex_changed Contains g i = g

-- what an add or a remove of an edge makes of the graph
abbrev pub edge_changed : Op → Graph → Pair → Graph
edge_changed Add g p = with_edge g p.from p.to (Some p.weight)
edge_changed Remove g p = with_edge g p.from p.to None
edge_changed Contains g p = g

-- the same for what is fed
abbrev pub changed : Graph → Feed → Graph
changed g (asks (call.Vertex o i)) = vertex_changed o g i
changed g (asks (call.Edge o p)) = edge_changed o g p
changed g (asks (call.Survey v)) = g
changed g (spent a) = g

-- the graph after what is fed: changed if the answer is one of the four, else as it was
abbrev pub after : Graph → Feed → Graph
after g f = if is_change (answer_to g f) then changed g f else g

-- the page p shows the vertices that walks from i reach, and the edges that leave them
pub record Reached (g : Graph) (i : ℕ) (p : Graph) : Type 0 where
  pub keys : (k : ℕ) → (p.has k ≡ true) ↔ Walk g i k
  pub leaving : (k j : ℕ) → p.edge k j ≡ (if p.has k then g.edge k j else None)

-- what the page of a finished call shows, read as a graph: of a snapshot the graph, of a reach the part that it reaches
abbrev pub Shows : Graph → Feed → Graph → Type 0
Shows g (asks (call.Survey Snapshot)) p = p ≡ g
Shows g (asks (call.Survey (Reach i))) p = g.has i ≡ true → Reached g i p
Shows g f p = Unit {0}
