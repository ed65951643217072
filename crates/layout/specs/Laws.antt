-- What holds of every layout.
use Rattle.std.specs.Prelude.{◌≡◌, ℕ, ◌<◌, Some}
use Rattle.layout.specs.declared.sizes.Sizes.{Sizes}
use Rattle.layout.specs.declared.names.Kind.{Kind}
use Rattle.layout.specs.declared.names.Cell.{Cell}
use Rattle.layout.specs.Layout.{index_of, needed, Named, IsRow}
use Rattle.layout.specs.Rows.{Owns, row_at}

-- a named cell, by its index
pub record CellAt (z : Sizes) (i : ℕ) : Type 0 where
  pub name : Cell
  pub named : Named z name
  pub lies : index_of z name ≡ i

-- the worker that owns a row
pub record Owner (z : Sizes) (k : Kind) (r : ℕ) : Type 0 where
  pub worker : ℕ
  pub within : worker < z.workers
  pub owns : Owns z k worker r

pub record LayoutOf (z : Sizes) : Type 0 where
  -- a name lies among the needed cells
  pub within : (c : Cell) → Named z c → index_of z c < needed z
  -- two names of one cell are the same name
  pub apart : (c d : Cell) → Named z c → Named z d → index_of z c ≡ index_of z d → c ≡ d
  -- every needed cell has a name
  pub named : (i : ℕ) → i < needed z → CellAt z i
  -- every row has an owner, and only one
  pub owned : (k : Kind) (r : ℕ) → IsRow z k r → Owner z k r
  pub one_owner : (k : Kind) (w v r : ℕ) → Owns z k w r → Owns z k v r → w ≡ v
  -- a worker's n-th row is a row of its own
  pub own : (k : Kind) (w n r : ℕ) → row_at z k w n ≡ Some r → IsRow z k r × Owns z k w r

abbrev pub LayoutStands : Type 0
LayoutStands = (z : Sizes) → LayoutOf z
