-- What a snapshot or reach meets: the graph just before its raise of the clock, by the stamps of the rows.
use Rattle.std.specs.Prelude.{◌≡◌, ℕ, suc, ◌<◌, ◌≤◌, true, false, ◌≢◌, ◌⊎◌, ◌↔◌, Some}
use Rattle.questions.specs.Graph.{Graph}
use Rattle.order.specs.Keys.{Key}
use Rattle.order.specs.Marks.{Mark, Old, Marks, MarksSound, change_key}
use Rattle.order.specs.Rows.{graph_before}
use Rattle.order.specs.Finds.{VertexFound}

-- the clock is raised from t at time r
pub record Raise (clock : ℕ → ℕ) (r t : ℕ) : Type 0 where
  pub rises : (i j : ℕ) → i ≤ j → clock i ≤ clock j
  pub from : clock r ≡ t
  pub next : clock (suc r) ≡ suc t

-- a change with a stamp is from before the start, or bears a stamp that the clock had when it became pending, or later; it did not become pending at
-- the raise
abbrev pub Settled : (ℕ → ℕ) → ℕ → ℕ → Mark → Type 0
Settled clock r top x = x.stamp ≤ top → (Old clock x ⊎ (clock x.time ≤ x.stamp)) × (x.time ≢ r)

-- this holds of all changes
pub record AllSettled (clock : ℕ → ℕ) (r top : ℕ) (m : Marks) : Type 0 where
  pub vertex_ins : (v : ℕ) → Settled clock r top (m.vertex_ins v)
  pub vertex_del : (v : ℕ) → Settled clock r top (m.vertex_del v)
  pub edge_ins : (e : ℕ) → Settled clock r top (m.edge_ins e)
  pub edge_del : (e : ℕ) → Settled clock r top (m.edge_del e)

-- vertex row v is visible at t: its ins is at most t, and its del is not
pub record VertexVisibleByMarks (m : Marks) (t v : ℕ) : Type 0 where
  pub row : v < m.vertices
  pub born : (m.vertex_ins v).stamp ≤ t
  pub ends : t < (m.vertex_del v).stamp

-- edge row e and its two vertex rows are visible at t
pub record EdgeVisibleByMarks (m : Marks) (t e : ℕ) : Type 0 where
  pub row : e < m.edges
  pub born : (m.edge_ins e).stamp ≤ t
  pub ends : t < (m.edge_del e).stamp
  pub source : VertexVisibleByMarks m t (m.source e)
  pub target : VertexVisibleByMarks m t (m.target e)

-- edge row e joins key i to key j with the weight x
pub record Joins (m : Marks) (e i j x : ℕ) : Type 0 where
  pub from : m.key_of (m.source e) ≡ i
  pub to : m.key_of (m.target e) ≡ j
  pub weight : m.weight e ≡ x

-- the graph g is that of the rows that are visible at t
pub record ShowsVisible (m : Marks) (t : ℕ) (g : Graph) : Type 0 where
  pub vertices : (i : ℕ) → (g.has i ≡ true) ↔ ((v : ℕ) × VertexVisibleByMarks m t v × (m.key_of v ≡ i))
  pub edges : (i j x : ℕ) → (g.edge i j ≡ Some x) ↔ ((e : ℕ) × EdgeVisibleByMarks m t e × Joins m e i j x)

-- the key of a raise from t at time r
abbrev pub raise_key : ℕ → ℕ → ℕ → Key
raise_key bound r t = change_key bound (record { stamp = t; time = r })

-- what a call with the key k of a raise from t meets
pub record RaiseMeets (bound top : ℕ) (m : Marks) (k : Key) (t : ℕ) : Type 0 where
  -- the graph just before the key is that of the rows that are visible at t, and no other graph is
  pub shows : ShowsVisible m t (graph_before bound top m k)
  pub only : (g : Graph) → ShowsVisible m t g → g ≡ graph_before bound top m k
  -- the call finds the vertex of a visible row, and no vertex where no row is visible
  pub finds : (v : ℕ) → VertexVisibleByMarks m t v → VertexFound bound m k (m.key_of v) true
  pub finds_none : (i : ℕ) → ((v : ℕ) → VertexVisibleByMarks m t v → m.key_of v ≢ i) → VertexFound bound m k i false

-- a call that raises the clock from t meets the rows that are visible at t
abbrev pub RaisesShowVisible : Type 0
RaisesShowVisible = (clock : ℕ → ℕ) (bound top : ℕ) (m : Marks) → MarksSound bound top m →
    (r t : ℕ) → r < bound → t ≤ top → Raise clock r t → AllSettled clock r top m → RaiseMeets bound top m (raise_key bound r t) t
