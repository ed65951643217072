-- Rows that their owners count: in a run from an opening they are the linked ones, and what every run keeps of linked rows holds of them too.
use Rattle.std.specs.Prelude.{◌≡◌, ℕ, ◌<◌, ◌≤◌, List, length}
use Rattle.layout.specs.declared.sizes.Sizes.{Sizes}
use Rattle.layout.specs.declared.names.Kind.{Kind}
use Rattle.layout.specs.declared.names.Field.{Field}
use Rattle.layout.specs.declared.names.Head.{Head}
use Rattle.layout.specs.declared.names.Cell.TheVariants as cell
use Rattle.layout.specs.Layout.{needed, Named}
use Rattle.places.specs.Touches.{head_kind}
use Rattle.machine.specs.States.{State}
use Rattle.machine.specs.Opening.{opened_state}
use Rattle.machine.specs.Turns.{worker_at, turned}
use Rattle.machine.specs.History.{Event, Traces}
use Rattle.laws.specs.Fits.{Linked, Counted, RowOrNoneBy, FitPlaceBy}
use Rattle.laws.specs.Changes.{number_in}
use Rattle.laws.specs.Laws.{TurnLawsBy}
use Rattle.laws.specs.Clean.{Clean}
use Rattle.laws.specs.Stamps.{field_start, Holds, Moves}

-- each row that its owner counts is linked
abbrev pub CountedLinked : State → Type 0
CountedLinked s = (k : Kind) (r : ℕ) → Counted s k r → Linked s k r

-- every run keeps it, from a clean state on
abbrev pub RunsLinkCounted : Type 0
RunsLinkCounted = (start : State) → Clean start → CountedLinked start → (h : List Event) (s : State) → Traces start h s → CountedLinked s

-- so it holds in every state that a history leads to from an opening, where no row is counted
abbrev pub CountedRowsLinked : Type 0
CountedRowsLinked = (z : Sizes) (cs : List ℕ) → needed z ≤ length cs → (h : List Event) (s : State) → Traces (opened_state cs z) h s → CountedLinked s

-- what holds of the rows that their owners count
pub record CountedLaws (s : State) : Type 0 where
  -- heads and older rows are counted rows or none, and every place fits
  pub heads : (h : Head) → Named s.sizes (cell.Head h) → RowOrNoneBy Counted s (head_kind h) (number_in s (cell.Head h))
  pub olders : (k : Kind) (r : ℕ) → Counted s k r → RowOrNoneBy Counted s k (number_in s (cell.Older k r))
  pub places : (w : ℕ) → w < s.sizes.workers → FitPlaceBy Counted s (worker_at s w).place
  -- so each turn keeps the laws
  pub laws : (w : ℕ) → w < s.sizes.workers → TurnLawsBy Counted s w
  -- ins of a counted row is pending or a stamp; del is 0, pending or a stamp
  pub fields : (k : Kind) (f : Field) (r : ℕ) → Counted s k r → Holds s.sizes f (number_in s (cell.Stamp k f r))
  -- in a turn they go from 0 to pending, from pending to a stamp, or stay
  pub turns : (w : ℕ) → w < s.sizes.workers → (k : Kind) (f : Field) (r : ℕ) → Counted s k r → Moves s.sizes f (number_in s (cell.Stamp k f r)) (number_in (turned s w) (cell.Stamp k f r))
  -- a row that is counted in a turn has ins pending and del 0
  pub starts : (w : ℕ) → w < s.sizes.workers → (k : Kind) (f : Field) (r : ℕ) → ¬ (Counted s k r) → Counted (turned s w) k r → number_in (turned s w) (cell.Stamp k f r) ≡ field_start f

-- every state that a history leads to from an opening
abbrev pub CountedRowsSound : Type 0
CountedRowsSound = (z : Sizes) (cs : List ℕ) → needed z ≤ length cs → (h : List Event) (s : State) → Traces (opened_state cs z) h s → CountedLaws s
