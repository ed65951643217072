-- What the cells of a page show.
use Rattle.std.specs.Prelude.{ℕ, ◌+◌, ◌*◌, Bool, if◌then◌else◌, not, ◌&&◌, List, length, None, ◌==◌, nat_le, nat_lt, slice_index}
use Rattle.questions.specs.Graph.{Graph}
pub use Rattle.codes.specs.Page.{weight_of}

-- a page has 1 to 64 keys, n cells for the keys, and n × n for the pairs
abbrev pub fits : List ℕ → ℕ → Bool
fits cells n = nat_le 1 n && (nat_le n 64 && length cells == n + n * n)

-- cells that do not fit make a page with no keys
abbrev pub keys_of : List ℕ → ℕ → ℕ
keys_of cells n = if fits cells n then n else 0

-- a key is shown where its cell is not 0
abbrev pub has : List ℕ → ℕ → ℕ → Bool
has cells n k = nat_lt k n && not (slice_index cells k == 0)

-- an edge joins keys that are shown
abbrev pub shown : List ℕ → ℕ → Graph
shown cells n = record {
  has = has cells n;
  edge = λ i j. if has cells n i && has cells n j then weight_of (slice_index cells (n + n * i + j)) else None;
}
