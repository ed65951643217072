-- Where each named cell lies: the clock, the heads of the keys, the heads of the pairs, the vertex rows, the edge rows, the pages.
use Rattle.std.specs.Prelude.{ℕ, ◌+◌, ◌-◌, ◌*◌, ◌<◌, ◌≤◌}
use Rattle.layout.specs.declared.sizes.Sizes.{Sizes}
use Rattle.layout.specs.declared.names.Kind.{Kind}
use Rattle.layout.specs.declared.names.Kind.TheVariants.{Vertex, Edge}
use Rattle.layout.specs.declared.names.Field.{Field}
use Rattle.layout.specs.declared.names.Field.TheVariants.{Ins, Del}
use Rattle.layout.specs.declared.names.Head.TheVariants as head
use Rattle.layout.specs.declared.names.Cell.{Cell}
use Rattle.layout.specs.declared.names.Cell.TheVariants as cell
use Rattle.layout.specs.Rows.{rows_all}

abbrev pub page_size : Sizes → ℕ
page_size z = z.keys + z.keys * z.keys

abbrev pub vertex_base : Sizes → ℕ
vertex_base z = 1 + z.keys + z.keys * z.keys

abbrev pub edge_base : Sizes → ℕ
edge_base z = vertex_base z + 3 * rows_all z Vertex

abbrev pub page_base : Sizes → ℕ
page_base z = edge_base z + 6 * rows_all z Edge

-- how many cells an opening needs
abbrev pub needed : Sizes → ℕ
needed z = page_base z + z.workers * page_size z

-- a vertex row has the cells older, ins, del; an edge row also source, target, weight
abbrev pub row_start : Sizes → Kind → ℕ → ℕ
row_start z Vertex r = vertex_base z + 3 * (r - 1)
row_start z Edge r = edge_base z + 6 * (r - 1)

abbrev pub stamp_offset : Field → ℕ
stamp_offset Ins = 1
stamp_offset Del = 2

abbrev pub page_start : Sizes → ℕ → ℕ
page_start z w = page_base z + w * page_size z

abbrev pub index_of : Sizes → Cell → ℕ
index_of z cell.Clock = 0
index_of z (cell.Head (head.Vertex i)) = 1 + i
index_of z (cell.Head (head.Edge i j)) = 1 + z.keys + z.keys * i + j
index_of z (cell.Older k r) = row_start z k r
index_of z (cell.Stamp k f r) = row_start z k r + stamp_offset f
index_of z (cell.Source r) = row_start z Edge r + 3
index_of z (cell.Target r) = row_start z Edge r + 4
index_of z (cell.Weight r) = row_start z Edge r + 5
index_of z (cell.PageKey w k) = page_start z w + k
index_of z (cell.PagePair w i j) = page_start z w + z.keys + z.keys * i + j

abbrev pub IsRow : Sizes → Kind → ℕ → Type 0
IsRow z k r = (1 ≤ r) × (r ≤ rows_all z k)

-- the names that there are
abbrev pub Named : Sizes → Cell → Type 0
Named z cell.Clock = Unit {0}
Named z (cell.Head (head.Vertex i)) = i < z.keys
Named z (cell.Head (head.Edge i j)) = (i < z.keys) × (j < z.keys)
Named z (cell.Older k r) = IsRow z k r
Named z (cell.Stamp k f r) = IsRow z k r
Named z (cell.Source r) = IsRow z Edge r
Named z (cell.Target r) = IsRow z Edge r
Named z (cell.Weight r) = IsRow z Edge r
Named z (cell.PageKey w k) = (w < z.workers) × (k < z.keys)
Named z (cell.PagePair w i j) = (w < z.workers) × (i < z.keys) × (j < z.keys)
