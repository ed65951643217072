-- Rows of a kind count from 1 and row 0 is none. Worker w owns as many as every other, from w times that number on.
use Rattle.std.specs.Prelude.{ℕ, ◌+◌, ◌*◌, ◌≤◌, if◌then◌else◌, ◌&&◌, Some, None, Option, nat_lt}
use Rattle.layout.specs.declared.sizes.Sizes.{Sizes}
use Rattle.layout.specs.declared.names.Kind.{Kind}
use Rattle.layout.specs.declared.names.Kind.TheVariants.{Vertex, Edge}

-- the number of no row, in the cells and wherever a row is named
abbrev pub no_row : ℕ
no_row = 0

abbrev pub rows_each : Sizes → Kind → ℕ
rows_each z Vertex = z.vrows
rows_each z Edge = z.erows

-- the last row of a kind
abbrev pub rows_all : Sizes → Kind → ℕ
rows_all z k = z.workers * rows_each z k

pub record Owns (z : Sizes) (k : Kind) (w r : ℕ) : Type 0 where
  pub from : w * rows_each z k + 1 ≤ r
  pub to : r ≤ w * rows_each z k + rows_each z k

-- row n of worker w, counted from 0 among its own
abbrev pub row_at : Sizes → Kind → ℕ → ℕ → Option ℕ
row_at z k w n = if nat_lt w z.workers && nat_lt n (rows_each z k) then Some (w * rows_each z k + n + 1) else None
