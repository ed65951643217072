-- Clean states: no call is open, and the heads hold rows that make a graph. A run can start with any of them.
use Rattle.std.specs.Prelude.{◌≡◌, ℕ, ◌<◌, ◌≤◌, ◌≢◌, ◌⊎◌, List, length, slice_index}
use Rattle.layout.specs.declared.sizes.Sizes.{Sizes}
use Rattle.layout.specs.declared.names.Head.{Head}
use Rattle.layout.specs.declared.names.Head.TheVariants as head
use Rattle.layout.specs.declared.names.Field.TheVariants.{Ins, Del}
use Rattle.layout.specs.declared.names.Cell.TheVariants as cell
use Rattle.layout.specs.Layout.{needed, Named}
use Rattle.layout.specs.Rows.{no_row}
use Rattle.places.specs.declared.place.Place.TheVariants as place
use Rattle.places.specs.Touches.{head_kind}
use Rattle.machine.specs.States.{State}
use Rattle.machine.specs.Opening.{opened_state}
use Rattle.machine.specs.Turns.{worker_at}
use Rattle.laws.specs.Fits.{Counted}
use Rattle.laws.specs.Changes.{number_in}

-- a number that the clock can have; it is neither 0 nor pending
abbrev pub IsStamp : Sizes → ℕ → Type 0
IsStamp z n = (1 ≤ n) × (n ≤ z.top)

abbrev pub head_in : State → Head → ℕ
head_in s h = number_in s (cell.Head h)

-- the row of a head is one that its owner has used; it bears a stamp up to the clock, has not ended, and no row is older
pub record Stands (s : State) (h : Head) : Type 0 where
  pub counted : Counted s (head_kind h) (head_in s h)
  pub born : number_in s (cell.Stamp (head_kind h) Ins (head_in s h)) ≤ number_in s cell.Clock
  pub stamp : 1 ≤ number_in s (cell.Stamp (head_kind h) Ins (head_in s h))
  pub alive : number_in s (cell.Stamp (head_kind h) Del (head_in s h)) ≡ 0
  pub alone : number_in s (cell.Older (head_kind h) (head_in s h)) ≡ no_row

-- the edge row of a pair joins the vertices of its two keys, which differ, with a weight within its limits
pub record Joins (s : State) (i j : ℕ) : Type 0 where
  pub apart : i ≢ j
  pub source : number_in s (cell.Source (head_in s (head.Edge i j))) ≡ head_in s (head.Vertex i)
  pub target : number_in s (cell.Target (head_in s (head.Edge i j))) ≡ head_in s (head.Vertex j)
  pub from : 1 ≤ head_in s (head.Vertex i)
  pub to : 1 ≤ head_in s (head.Vertex j)
  pub weight : (1 ≤ number_in s (cell.Weight (head_in s (head.Edge i j)))) × (number_in s (cell.Weight (head_in s (head.Edge i j))) ≤ 1000000)

-- Pages are finished or not or out, and counters and cells of no chain as they are.
pub record Clean (s : State) : Type 0 where
  pub cells : needed s.sizes ≤ length s.cells
  pub table : s.sizes.workers ≤ length s.workers
  pub clock : IsStamp s.sizes (number_in s cell.Clock)
  pub idle : (w : ℕ) → w < s.sizes.workers → (worker_at s w).place ≡ place.Idle
  -- the keys in a worker's book are keys
  pub books : (w n : ℕ) → w < s.sizes.workers → slice_index (worker_at s w).book.queue n < s.sizes.keys
  -- a head is no row, or its row stands
  pub heads : (h : Head) → Named s.sizes (cell.Head h) → (head_in s h ≡ no_row) ⊎ Stands s h
  -- different heads have different rows
  pub apart : (h g : Head) → Named s.sizes (cell.Head h) → Named s.sizes (cell.Head g) → head_kind h ≡ head_kind g → head_in s h ≡ head_in s g → 1 ≤ head_in s h → h ≡ g
  pub joined : (i j : ℕ) → i < s.sizes.keys → j < s.sizes.keys → 1 ≤ head_in s (head.Edge i j) → Joins s i j

-- every opening is clean
abbrev pub OpeningsClean : Type 0
OpeningsClean = (z : Sizes) (cs : List ℕ) → needed z ≤ length cs → Clean (opened_state cs z)
