-- One worker's record, lent for change.
use Rattle.std.specs.Prelude.{ℕ, List, slice_set}
use Rattle.std.specs.Borrow.{Lends, MutBor, Array, Fml}
use Rattle.machine.specs.declared.worker.Worker.{Worker}
use Rattle.machine.specs.contracts.worker.Worker.{the_row}

-- the records end with record i as it was left
abbrev pub LendsRecord : MutBor (List Worker) → ℕ → MutBor Worker → Fml
LendsRecord vs i v = Lends (Array the_row 0) the_row vs v (slice_set vs.now i)
