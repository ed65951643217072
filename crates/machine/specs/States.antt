-- The state of a run: its cells, its sizes and the records of its workers.
use Rattle.std.specs.Prelude.{ℕ, List}
use Rattle.layout.specs.declared.sizes.Sizes.{Sizes}
use Rattle.machine.specs.declared.worker.Worker.{Worker}
use Rattle.machine.specs.declared.table.Table.{Table}

pub record State : Type 0 where
  pub cells : List ℕ
  pub sizes : Sizes
  pub workers : List Worker

-- cells beside a table of records
abbrev pub state_in : List ℕ → Table → State
state_in cs t = record { cells = cs; sizes = t.sizes; workers = t.workers }
