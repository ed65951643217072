-- How many rows stand in chains, read from cells.
use Rattle.std.specs.Prelude.{◌≡◌, ℕ, zero, suc, ◌+◌, ◌≢◌, List}
use Rattle.layout.specs.declared.sizes.Sizes.{Sizes}
use Rattle.layout.specs.declared.names.Kind.{Kind}
use Rattle.layout.specs.declared.names.Head.{Head}
use Rattle.layout.specs.declared.names.Head.TheVariants as head
use Rattle.layout.specs.declared.names.Cell.TheVariants as cell
use Rattle.layout.specs.Layout.{Named}
use Rattle.layout.specs.Rows.{no_row}
use Rattle.places.specs.Touches.{head_kind}
use Rattle.machine.specs.States.{State}
use Rattle.machine.specs.Turns.{cell_at}
use Rattle.machine.specs.History.{Event, Traces}
use Rattle.laws.specs.Clean.{Clean}
use Rattle.walks.specs.Budgets.{sum_below}
use Rattle.promise.specs.Histories.{shown_by}
use Rattle.promise.specs.Bounds.{rows_held, rows_linked}

-- n rows stand in the chain from row r of a kind: none from row 0, else the row itself and those from its older row
abbrev pub ChainOf : Sizes → List ℕ → Kind → ℕ → ℕ → Type 0
ChainOf z cells k r zero = r ≡ no_row
ChainOf z cells k r (suc n) = (r ≢ no_row) × ChainOf z cells k (cell_at z cells (cell.Older k r)) n

-- the sum of f over the heads of all keys and all pairs
unfoldable pub over_heads : ℕ → (Head → ℕ) → ℕ
over_heads keys f = sum_below keys (λ i. f (head.Vertex i)) + sum_below keys (λ i. sum_below keys (λ j. f (head.Edge i j)))

-- n rows stand in the chains of all keys and pairs
pub record ChainsHold (z : Sizes) (cells : List ℕ) (n : ℕ) : Type 0 where
  pub rows : Head → ℕ
  pub chains : (h : Head) → Named z (cell.Head h) → ChainOf z cells (head_kind h) (cell_at z cells (cell.Head h)) (rows h)
  pub all : over_heads z.keys rows ≡ n

-- of every history from a clean state: those that heads held at the start, and those linked since
abbrev pub RowsStandInChains : Type 0
RowsStandInChains = (start : State) (h : List Event) (s : State) → Clean start → Traces start h s →
    ChainsHold start.sizes (shown_by start h).state.cells (rows_held start.sizes start.cells + rows_linked (shown_by start h).sights)
