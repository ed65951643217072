-- The counts of a run stay small: rows that are linked are owned, and finished pages are fewer than the clock.
use Rattle.std.specs.Prelude.{ℕ, ◌+◌, ◌<◌, ◌≤◌}
use Rattle.layout.specs.declared.sizes.Sizes.{Sizes}
use Rattle.layout.specs.declared.names.Cell.TheVariants.{Clock}
use Rattle.layout.specs.declared.names.Kind.{Kind}
use Rattle.layout.specs.Rows.{rows_each}
use Rattle.places.specs.declared.place.Place.{Place}
use Rattle.places.specs.declared.place.Place.TheVariants.{Settle, WalkHead, WalkOlder}
use Rattle.places.specs.declared.place.Purpose.TheVariants.{Walk}
use Rattle.machine.specs.declared.worker.Worker.{Worker}
use Rattle.machine.specs.States.{State}
use Rattle.machine.specs.Turns.{cell_at, worker_at}
use Rattle.machine.specs.Workers.{linked_of}

-- a snapshot or reach that has raised the clock may still finish one page
abbrev pub may_finish : Place → ℕ
may_finish (Settle st (Walk f k r)) = 1
may_finish (WalkHead k) = 1
may_finish (WalkOlder k r) = 1
may_finish p = 0

-- the counts of one worker: no more rows are linked than it owns, and each finished page has raised the clock by one
pub record RecordCounts (z : Sizes) (clock : ℕ) (v : Worker) : Type 0 where
  pub rows : (k : Kind) → linked_of v k ≤ rows_each z k
  pub pages : v.serial + may_finish v.place < clock

abbrev pub clock_of : State → ℕ
clock_of s = cell_at s.sizes s.cells Clock

-- the counts of every worker, and the clock, which no raise takes above its greatest number
pub record Counts (s : State) : Type 0 where
  pub each : (w : ℕ) → RecordCounts s.sizes (clock_of s) (worker_at s w)
  pub clock : clock_of s ≤ s.sizes.top
