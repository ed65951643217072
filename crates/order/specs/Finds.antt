-- What a call finds at its key: one case for each kind of answer, said of the marks of the rows.
use Rattle.std.specs.Prelude.{◌≡◌, ℕ, ◌<◌, ◌≤◌, Bool, true, false, ◌⊎◌}
use Rattle.codes.specs.declared.answer.Answer.{Answer}
use Rattle.codes.specs.declared.answer.Answer.TheVariants.{VertexAdded, VertexRemoved, VertexAbsent, EdgeAdded, EdgeRemoved, SnapshotTaken, ReachTaken}
use Rattle.places.specs.declared.place.Op.{Op}
use Rattle.places.specs.declared.place.Op.TheVariants.{Add, Remove}
use Rattle.places.specs.declared.place.Pair.{Pair}
use Rattle.places.specs.declared.place.Survey.TheVariants.{Snapshot, Reach}
use Rattle.places.specs.declared.place.Call.TheVariants as call
use Rattle.order.specs.Graph.{Feed, asks, spent, vertex_answer, edge_answer, is_change}
use Rattle.order.specs.Keys.{Key}
use Rattle.order.specs.Marks.{Mark, Earlier, Marks, change_key, edge_effect, edge_key}

-- a change of the rows that has an effect, or none
pub data RowChange : Type 0 where
  no_change : RowChange
  vertex_born : (r : ℕ) → RowChange
  vertex_ends : (r : ℕ) → RowChange
  edge_born : (e : ℕ) → RowChange
  edge_ends : (e : ℕ) → RowChange

-- there is a change
abbrev pub makes_change : RowChange → Bool
makes_change no_change = false
makes_change v = true

-- the stamp and the time of a key
abbrev pub key_mark : Key → Mark
key_mark k = record { stamp = k.stamp; time = k.time }

-- the change x comes before the key k, or k is right after it
abbrev pub BeforeKey : ℕ → Key → Mark → Type 0
BeforeKey bound k x = Earlier x (key_mark k) ⊎ ((x.stamp ≡ k.stamp) × (x.time ≡ k.time) × (bound < k.part))

-- the change x comes after the key k
abbrev pub AfterKey : Key → Mark → Type 0
AfterKey k x = Earlier (key_mark k) x

-- what is there at the key k
module _ (bound : ℕ) (m : Marks) (k : Key) where
  -- vertex row r is born, and has not ended
  pub record VertexThere (r : ℕ) : Type 0 where
    pub row : r < m.vertices
    pub born : BeforeKey bound k (m.vertex_ins r)
    pub ends : AfterKey k (m.vertex_del r)

  -- edge row e is born, and has not ended
  pub record EdgeThere (e : ℕ) : Type 0 where
    pub row : e < m.edges
    pub born : BeforeKey bound k (m.edge_ins e)
    pub ends : AfterKey k (m.edge_del e)

  -- rows r and s of the two keys of a pair are there
  pub record PairThere (p : Pair) (r s : ℕ) : Type 0 where
    pub source : VertexThere r
    pub from : m.key_of r ≡ p.from
    pub target : VertexThere s
    pub to : m.key_of s ≡ p.to

  -- a row of key i is there, or none is
  abbrev pub VertexFound : ℕ → Bool → Type 0
  VertexFound i true = (r : ℕ) × VertexThere r × (m.key_of r ≡ i)
  VertexFound i false = (r : ℕ) → r < m.vertices → m.key_of r ≡ i → AfterKey k (m.vertex_ins r) ⊎ BeforeKey bound k (m.vertex_del r)

  -- an edge row bound to the vertex rows r and s is there, or none is
  abbrev pub EdgeFound : ℕ → ℕ → Bool → Type 0
  EdgeFound r s true = (e : ℕ) × EdgeThere e × (m.source e ≡ r) × (m.target e ≡ s)
  EdgeFound r s false = (e : ℕ) → e < m.edges → m.source e ≡ r → m.target e ≡ s → AfterKey k (m.edge_ins e) ⊎ BeforeKey bound k (m.edge_del e)

-- what changes at the key k
module _ (bound top : ℕ) (m : Marks) (k : Key) where
  -- vertex row r is born
  pub record VertexBirth (r : ℕ) : Type 0 where
    pub row : r < m.vertices
    pub stamped : (m.vertex_ins r).stamp ≤ top
    pub key : k ≡ change_key bound (m.vertex_ins r)

  -- vertex row r ends
  pub record VertexEnd (r : ℕ) : Type 0 where
    pub row : r < m.vertices
    pub stamped : (m.vertex_ins r).stamp ≤ top
    pub key : k ≡ change_key bound (m.vertex_del r)

  -- edge row e is born, with an effect
  pub record EdgeBirth (e : ℕ) : Type 0 where
    pub row : e < m.edges
    pub effect : edge_effect top m e (m.edge_ins e) ≡ true
    pub key : k ≡ edge_key bound m e (m.edge_ins e)

  -- edge row e ends, with an effect
  pub record EdgeEnd (e : ℕ) : Type 0 where
    pub row : e < m.edges
    pub stamped : (m.edge_ins e).stamp ≤ top
    pub effect : edge_effect top m e (m.edge_del e) ≡ true
    pub key : k ≡ edge_key bound m e (m.edge_del e)

-- the pair that the edge row e joins, with a weight
abbrev pub pair_of : Marks → ℕ → ℕ → Pair
pair_of m e weight = record { from = m.key_of (m.source e); to = m.key_of (m.target e); weight = weight }

-- what is asked at the key k, which change it makes there, and the answer
module _ (bound top : ℕ) (m : Marks) (k : Key) where
  pub data Finds : Feed → RowChange → Answer → Type 0 where
    adds_vertex : (r : ℕ) → VertexBirth bound top m k r → Finds (asks (call.Vertex Add (m.key_of r))) (vertex_born r) VertexAdded
    removes_vertex : (r : ℕ) → VertexEnd bound top m k r → Finds (asks (call.Vertex Remove (m.key_of r))) (vertex_ends r) VertexRemoved
    adds_edge : (e : ℕ) → EdgeBirth bound top m k e → Finds (asks (call.Edge Add (pair_of m e (m.weight e)))) (edge_born e) EdgeAdded
    removes_edge : (e weight : ℕ) → EdgeEnd bound top m k e → Finds (asks (call.Edge Remove (pair_of m e weight))) (edge_ends e) EdgeRemoved
    -- a vertex call that changes nothing
    finds_vertex : (o : Op) (i : ℕ) (there : Bool) → VertexFound bound m k i there → is_change (vertex_answer o there) ≡ false →
        Finds (asks (call.Vertex o i)) no_change (vertex_answer o there)
    -- an edge call of a pair with a key that is no vertex
    finds_no_vertex : (o : Op) (p : Pair) → VertexFound bound m k p.from false ⊎ VertexFound bound m k p.to false →
        Finds (asks (call.Edge o p)) no_change VertexAbsent
    -- an edge call between two vertices that changes nothing
    finds_edge : (o : Op) (p : Pair) (r s : ℕ) (there : Bool) → PairThere bound m k p r s → EdgeFound bound m k r s there →
        is_change (edge_answer o there) ≡ false → Finds (asks (call.Edge o p)) no_change (edge_answer o there)
    -- a snapshot, and a reach from a key that is a vertex or is not
    takes_snapshot : Finds (asks (call.Survey Snapshot)) no_change SnapshotTaken
    reaches : (i : ℕ) → VertexFound bound m k i true → Finds (asks (call.Survey (Reach i))) no_change ReachTaken
    reaches_none : (i : ℕ) → VertexFound bound m k i false → Finds (asks (call.Survey (Reach i))) no_change VertexAbsent
    -- a call that ended for want of rows or of clock
    ends_spent : (a : Answer) → is_change a ≡ false → Finds (spent a) no_change a
