-- The page of a worker in a state.
use Rattle.std.specs.Prelude.{ℕ, List, take, drop}
use Rattle.layout.specs.Layout.{page_start, page_size}
use Rattle.machine.specs.States.{State}

-- the cells of the page of worker w: one for each key, then one for each pair of keys
abbrev pub page_in : State → ℕ → List ℕ
page_in s w = take (page_size s.sizes) (drop (page_start s.sizes w) s.cells)

-- how many keys a page has, and its cells
pub record PageOf : Type 0 where
  pub keys : ℕ
  pub cells : List ℕ

abbrev pub page_of : State → ℕ → PageOf
page_of s w = record { keys = s.sizes.keys; cells = page_in s w }
