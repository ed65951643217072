-- Marks: when the changes of the rows became pending, and their stamps; the keys of the changes.
use Rattle.std.specs.Prelude.{◌≡◌, ℕ, suc, ◌<◌, ◌≤◌, min, Bool, if◌then◌else◌, ◌&&◌, ◌≢◌, ◌⊎◌, ◌==◌, nat_le, nat_lt}
use Rattle.order.specs.Keys.{Key}

-- a change of ins or del of a row: its stamp, and the time at which it became pending. Without a stamp the number is top + 2 where the row
-- is not born yet, and top + 1 where it has not ended
pub record Mark : Type 0 where
  pub stamp : ℕ
  pub time : ℕ

-- x comes before y
abbrev pub Earlier : Mark → Mark → Type 0
Earlier x y = (x.stamp < y.stamp) ⊎ ((x.stamp ≡ y.stamp) × (x.time < y.time))

-- a change from before the start of a run with this clock has the time 0, and a stamp of the start or a lower one
abbrev pub Old : (ℕ → ℕ) → Mark → Type 0
Old clock x = (x.time ≡ 0) × (x.stamp ≤ clock 0)

-- the marks of ins of the rows that are there at the start: vertex rows come before the edge rows, which bear the clock at the start
abbrev pub old_vertex : Mark
old_vertex = record { stamp = 0; time = 0 }

abbrev pub old_edge : ℕ → Mark
old_edge first = record { stamp = first; time = 0 }

-- two changes with one stamp did not become pending at one time
abbrev pub Distinct : Mark → Mark → Type 0
Distinct x y = x.stamp ≡ y.stamp → x.time ≢ y.time

-- the rows of a run: of which key each vertex row is, to which vertex rows each edge row is bound, and the marks of ins and del
pub record Marks : Type 0 where
  -- the numbers of vertex rows are below this one
  pub vertices : ℕ
  pub key_of : ℕ → ℕ
  pub vertex_ins : ℕ → Mark
  pub vertex_del : ℕ → Mark
  -- the numbers of edge rows are below this one
  pub edges : ℕ
  pub source : ℕ → ℕ
  pub target : ℕ → ℕ
  pub weight : ℕ → ℕ
  pub edge_ins : ℕ → Mark
  pub edge_del : ℕ → Mark

-- the ends of the two vertex rows of an edge row
abbrev pub source_end : Marks → ℕ → Mark
source_end m e = m.vertex_del (m.source e)

abbrev pub target_end : Marks → ℕ → Mark
target_end m e = m.vertex_del (m.target e)

-- the key of a change of a vertex: its stamp, and the time at which it became pending
abbrev pub change_key : ℕ → Mark → Key
change_key bound x = record { stamp = x.stamp; time = x.time; part = bound }

-- the time of an edge change x, or of the end d of one of its vertices, if both have one stamp and the end became pending first
unfoldable pub moved_for : Mark → Mark → ℕ
moved_for d x = if (d.stamp == x.stamp) && nat_lt d.time x.time then d.time else x.time

-- the same for the ends d and f of both vertices
abbrev pub moved_time : Mark → Mark → Mark → ℕ
moved_time d f x = min (moved_for d x) (moved_for f x)

-- an edge change that goes back stands just before the end of the vertex, and such changes keep their own order
unfoldable pub moved_part : ℕ → Mark → Mark → Mark → ℕ
moved_part bound d f x = if nat_lt (moved_time d f x) x.time then x.time else bound

-- the key of an edge change x between vertices that end by d and f
abbrev pub moved_key : ℕ → Mark → Mark → Mark → Key
moved_key bound d f x = record { stamp = x.stamp; time = moved_time d f x; part = moved_part bound d f x }

-- an edge change has an effect if it has a stamp, and neither of its vertices ends with a lower one
abbrev pub has_effect : ℕ → Mark → Mark → Mark → Bool
has_effect top d f x = nat_le x.stamp top && (nat_le x.stamp d.stamp && nat_le x.stamp f.stamp)

-- the change x of the edge row e has an effect
abbrev pub edge_effect : ℕ → Marks → ℕ → Mark → Bool
edge_effect top m e x = has_effect top (source_end m e) (target_end m e) x

-- the key of the change x of the edge row e
abbrev pub edge_key : ℕ → Marks → ℕ → Mark → Key
edge_key bound m e x = moved_key bound (source_end m e) (target_end m e) x

-- what every run keeps of its marks
pub record MarksSound (bound top : ℕ) (m : Marks) : Type 0 where
  -- changes became pending at times below the bound
  pub vertex_ins : (r : ℕ) → (m.vertex_ins r).time < bound
  pub vertex_del : (r : ℕ) → (m.vertex_del r).time < bound
  pub edge_ins : (e : ℕ) → (m.edge_ins e).time < bound
  pub edge_del : (e : ℕ) → (m.edge_del e).time < bound
  -- the stamp of a birth is at most top, or one of the two numbers above it
  pub births : (r : ℕ) → (m.vertex_ins r).stamp ≤ suc (suc top)
  -- a row ends after it was born
  pub vertex_order : (r : ℕ) → (m.vertex_ins r).stamp ≤ top → Earlier (m.vertex_ins r) (m.vertex_del r)
  pub edge_order : (e : ℕ) → (m.edge_ins e).stamp ≤ top → Earlier (m.edge_ins e) (m.edge_del e)
  -- of two rows of a key one ends before the other is born
  pub vertex_apart : (r s : ℕ) → m.key_of r ≡ m.key_of s → r ≢ s → Earlier (m.vertex_del r) (m.vertex_ins s) ⊎ Earlier (m.vertex_del s) (m.vertex_ins r)
  -- so does one of two edge rows that are bound to the same vertex rows
  pub edge_apart : (e f : ℕ) → m.source e ≡ m.source f → m.target e ≡ m.target f → e ≢ f →
      Earlier (m.edge_del e) (m.edge_ins f) ⊎ Earlier (m.edge_del f) (m.edge_ins e)
  -- an edge row that is born is bound to vertex rows
  pub source_row : (e : ℕ) → (m.edge_ins e).stamp ≤ top → m.source e < m.vertices
  pub target_row : (e : ℕ) → (m.edge_ins e).stamp ≤ top → m.target e < m.vertices
  -- it is born after them
  pub source_first : (e : ℕ) → (m.edge_ins e).stamp ≤ top → Earlier (m.vertex_ins (m.source e)) (m.edge_ins e)
  pub target_first : (e : ℕ) → (m.edge_ins e).stamp ≤ top → Earlier (m.vertex_ins (m.target e)) (m.edge_ins e)
  -- each of its vertex rows is born before the other ends
  pub source_meets : (e : ℕ) → (m.edge_ins e).stamp ≤ top → Earlier (m.vertex_ins (m.source e)) (target_end m e)
  pub target_meets : (e : ℕ) → (m.edge_ins e).stamp ≤ top → Earlier (m.vertex_ins (m.target e)) (source_end m e)
  -- no edge change became pending at the time of the end of a vertex with the same stamp
  pub ins_distinct : (e r : ℕ) → (m.edge_ins e).stamp ≤ top → Distinct (m.vertex_del r) (m.edge_ins e)
  pub del_distinct : (e r : ℕ) → (m.edge_del e).stamp ≤ top → Distinct (m.vertex_del r) (m.edge_del e)
