-- The page of a worker, what is written into it, and the graph that it shows.
use Rattle.std.specs.Prelude.{ℕ, Bool, if◌then◌else◌, not, ◌&&◌, None, ◌==◌, nat_lt}
use Rattle.layout.specs.declared.names.Cell.TheVariants as cell
use Rattle.layout.specs.Rows.{no_row}
use Rattle.books.specs.declared.walked.Entry.{Entry}
use Rattle.books.specs.declared.walked.Entry.TheVariants as entry
use Rattle.machine.specs.States.{State}
use Rattle.machine.specs.Turns.{cell_at}
use Rattle.questions.specs.Graph.{Graph}
use Rattle.questions.specs.Pages.{weight_of}

-- the row of each key, and the weight of each pair
pub record Page : Type 0 where
  pub key : ℕ → ℕ
  pub pair : ℕ → ℕ → ℕ

-- what the cells of worker w's page hold
abbrev pub page_of : State → ℕ → Page
page_of s w = record {
  key = λ k. if nat_lt k s.sizes.keys then cell_at s.sizes s.cells (cell.PageKey w k) else 0;
  pair = λ i j.
      if nat_lt i s.sizes.keys && nat_lt j s.sizes.keys then cell_at s.sizes s.cells (cell.PagePair w i j)
      else 0;
}

abbrev pub clear : Page
clear = record { key = λ k. no_row; pair = λ i j. 0 }

abbrev pub with_key : Page → ℕ → ℕ → Page
with_key p k r = record { key = λ j. if j == k then r else p.key j; pair = p.pair }

abbrev pub with_pair : Page → ℕ → ℕ → ℕ → Page
with_pair p i j x = record { key = p.key; pair = λ k l. if (k == i) && (l == j) then x else p.pair k l }

abbrev pub written : Page → Entry → Page
written p entry.Nothing = p
written p entry.Clear = clear
written p (entry.Key k r) = with_key p k r
written p (entry.Pair i j x) = with_pair p i j x
written p (entry.Join i j x r) = with_key (with_pair p i j x) j r

abbrev pub has_key : ℕ → Page → ℕ → Bool
has_key n p k = nat_lt k n && not (p.key k == no_row)

-- a page of n keys, read as a graph, cell by cell
abbrev pub graph_of : ℕ → Page → Graph
graph_of n p = record {
  has = has_key n p;
  edge = λ i j. if nat_lt i n && nat_lt j n then weight_of (p.pair i j) else None;
}
