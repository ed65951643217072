-- Rows that live from key to key, and the graph that they make at each key. Keys are numbers here.
use Rattle.std.specs.Prelude.{ℕ, zero, suc, pred, Bool, if◌then◌else◌, ◌&&◌, Some, None, Option, is_some, ◌==◌, nat_le, nat_lt}
use Rattle.questions.specs.Graph.{Graph}
use Rattle.order.specs.Keys.{Key, number}
use Rattle.order.specs.Marks.{Mark, Marks, source_end, target_end, change_key, has_effect, moved_key}

-- a row is there from the key at which it is born to just before the key at which it ends; what has not happened stands at a key above those
-- of all calls
pub record Rows : Type 0 where
  pub vertices : ℕ
  pub key_of : ℕ → ℕ
  pub vertex_born : ℕ → ℕ
  pub vertex_ends : ℕ → ℕ
  pub edges : ℕ
  pub source : ℕ → ℕ
  pub target : ℕ → ℕ
  pub weight : ℕ → ℕ
  pub edge_born : ℕ → ℕ
  pub edge_ends : ℕ → ℕ

-- the greatest number below n that passes a test
unfoldable pub last_below : (ℕ → Bool) → ℕ → Option ℕ
last_below test zero = None
last_below test (suc n) = if test n then Some n else last_below test n

module _ (rows : Rows) (k : ℕ) where
  -- vertex row r is there at the key k
  abbrev pub vertex_lives : ℕ → Bool
  vertex_lives r = nat_le (rows.vertex_born r) k && nat_lt k (rows.vertex_ends r)

  -- edge row e is there, and its vertex rows have not ended
  abbrev pub edge_lives : ℕ → Bool
  edge_lives e =
      nat_le (rows.edge_born e) k &&
      (nat_lt k (rows.edge_ends e) && (nat_lt k (rows.vertex_ends (rows.source e)) && nat_lt k (rows.vertex_ends (rows.target e))))

  -- vertex row r shows that key i is a vertex
  abbrev pub shows_vertex : ℕ → ℕ → Bool
  shows_vertex i r = (rows.key_of r == i) && vertex_lives r

  -- edge row e shows an edge from i to j
  abbrev pub shows_edge : ℕ → ℕ → ℕ → Bool
  shows_edge i j e = (rows.key_of (rows.source e) == i) && ((rows.key_of (rows.target e) == j) && edge_lives e)

  -- the weight of an edge row, if there is one
  abbrev pub weight_of : Option ℕ → Option ℕ
  weight_of None = None
  weight_of (Some e) = Some (rows.weight e)

  -- a row shows that key i is a vertex
  unfoldable pub has_at : ℕ → Bool
  has_at i = is_some (last_below (shows_vertex i) rows.vertices)

  -- the weight of the edge from i to j that a row shows, if one does
  unfoldable pub edge_at : ℕ → ℕ → Option ℕ
  edge_at i j = weight_of (last_below (shows_edge i j) rows.edges)

  -- the graph that the rows show at the key k
  abbrev pub graph_at : Graph
  graph_at = record { has = has_at; edge = edge_at }

-- a key above those of all calls, if n is greater than their stamps
abbrev pub far_key : ℕ → ℕ → Key
far_key bound n = record { stamp = n; time = 0; part = bound }

-- the number at which an edge row stands that is not born, or without an effect
abbrev pub unborn : ℕ → ℕ
unborn top = suc (suc (suc top))

module _ (bound top : ℕ) where
  -- the key of an edge change x between vertices that end by d and f, or the far key of n if it has no effect
  unfoldable pub edge_number : ℕ → Mark → Mark → Mark → ℕ
  edge_number n d f x =
      if has_effect top d f x then number bound (moved_key bound d f x)
      else number bound (far_key bound n)

  -- the lives that the marks give to the rows
  abbrev pub rows_of : Marks → Rows
  rows_of m = record {
    vertices = m.vertices;
    key_of = m.key_of;
    vertex_born = λ r. number bound (change_key bound (m.vertex_ins r));
    vertex_ends = λ r. number bound (change_key bound (m.vertex_del r));
    edges = m.edges;
    source = m.source;
    target = m.target;
    weight = m.weight;
    edge_born = λ e. edge_number (unborn top) (source_end m e) (target_end m e) (m.edge_ins e);
    edge_ends = λ e. edge_number (suc top) (source_end m e) (target_end m e) (m.edge_del e);
  }

-- the graph just before a key
abbrev pub graph_before : ℕ → ℕ → Marks → Key → Graph
graph_before bound top m k = graph_at (rows_of bound top m) (pred (number bound k))
