-- The cell of a pair of keys on a page.
use Rattle.std.specs.Prelude.{ℕ, if◌then◌else◌, Some, None, Option, ◌==◌}

-- the number that stands for no edge
abbrev pub no_edge : ℕ
no_edge = 0

-- a pair's cell holds a weight or the number for no edge
abbrev pub weight_of : ℕ → Option ℕ
weight_of cell = if cell == no_edge then None else Some cell
