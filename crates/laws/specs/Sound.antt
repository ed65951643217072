-- What every run keeps: heads and older rows are linked rows or none, and every place fits.
use Rattle.std.specs.Prelude.{ℕ, ◌<◌, ◌≤◌, List, length, slice_index}
use Rattle.layout.specs.declared.names.Kind.{Kind}
use Rattle.layout.specs.declared.names.Head.{Head}
use Rattle.layout.specs.declared.names.Cell.TheVariants as cell
use Rattle.layout.specs.Layout.{needed, Named}
use Rattle.places.specs.Touches.{head_kind}
use Rattle.machine.specs.States.{State}
use Rattle.machine.specs.Turns.{worker_at}
use Rattle.machine.specs.History.{Event, Traces}
use Rattle.laws.specs.Fits.{Linked, Counted, RowOrNone, FitPlace}
use Rattle.laws.specs.Changes.{number_in}
use Rattle.laws.specs.Laws.{TurnLaws}
use Rattle.laws.specs.Clean.{Clean}

pub record Sound (s : State) : Type 0 where
  pub cells : needed s.sizes ≤ length s.cells
  pub table : s.sizes.workers ≤ length s.workers
  pub heads : (h : Head) → Named s.sizes (cell.Head h) → RowOrNone s (head_kind h) (number_in s (cell.Head h))
  pub counted : (k : Kind) (r : ℕ) → Linked s k r → Counted s k r
  pub olders : (k : Kind) (r : ℕ) → Linked s k r → RowOrNone s k (number_in s (cell.Older k r))
  pub places : (w : ℕ) → w < s.sizes.workers → FitPlace s (worker_at s w).place
  pub queues : (w n : ℕ) → w < s.sizes.workers → slice_index (worker_at s w).book.queue n < s.sizes.keys

-- every state that a history leads to from a clean state
abbrev pub RunsSound : Type 0
RunsSound = (start : State) → Clean start → (h : List Event) (s : State) → Traces start h s → Sound s

abbrev pub RunsKeepLaws : Type 0
RunsKeepLaws = (start : State) → Clean start → (h : List Event) (s : State) → Traces start h s → (w : ℕ) → w < s.sizes.workers → TurnLaws s w
