-- A lent memory on which a run can stand.
use Rattle.std.specs.Prelude.{ℕ, ◌≤◌, List, length}
use Rattle.layout.specs.declared.sizes.Sizes.{Sizes}
use Rattle.layout.specs.Layout.{needed}
use Rattle.machine.specs.States.{State}
use Rattle.machine.specs.Workers.{fresh_table}
use Rattle.machine.specs.Counts.{Counts}

-- the state of cells on which nothing was done since they were cleared
abbrev pub fresh_state : List ℕ → Sizes → State
fresh_state cs z = record { cells = cs; sizes = z; workers = fresh_table }

-- there are the cells that the sizes need, and the counts are small
pub record Ready (cs : List ℕ) (z : Sizes) : Type 0 where
  pub room : needed z ≤ length cs
  pub counts : Counts (fresh_state cs z)
