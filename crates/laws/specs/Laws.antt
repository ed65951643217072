-- What one turn of a worker that fits does, and what it leaves as it was.
use Rattle.std.specs.Prelude.{◌≡◌, ℕ, ◌<◌, ◌≤◌, length}
use Rattle.layout.specs.declared.names.Kind.{Kind}
use Rattle.layout.specs.declared.names.Kind.TheVariants.{Edge}
use Rattle.layout.specs.declared.names.Cell.{Cell}
use Rattle.layout.specs.declared.names.Cell.TheVariants as cell
use Rattle.layout.specs.Layout.{needed, Named, IsRow}
use Rattle.layout.specs.Rows.{Owns}
use Rattle.machine.specs.States.{State}
use Rattle.machine.specs.Turns.{worker_at, turned}
use Rattle.laws.specs.Fits.{Linked, Counted, FitPlaceBy, Fit}
use Rattle.laws.specs.Changes.{OnPage, OfRow, number_in, Changes}

-- a cell holds what it held
abbrev pub Stays : State → ℕ → Cell → Type 0
Stays s w c = number_in (turned s w) c ≡ number_in s c

-- L says which rows are linked
pub record TurnLawsBy (L : State → Kind → ℕ → Type 0) (s : State) (w : ℕ) : Type 0 where
  -- which cells a turn can change, and how
  pub changes : (c : Cell) → Named s.sizes c → Changes s w c (number_in s c) (number_in (turned s w) c)
  -- the clock never falls
  pub clock : number_in s cell.Clock ≤ number_in (turned s w) cell.Clock
  -- the others' records stay
  pub records : (v : ℕ) → ¬ (v ≡ w) → worker_at (turned s w) v ≡ worker_at s v
  -- the others' pages stay
  pub pages : (v : ℕ) (c : Cell) → Named s.sizes c → OnPage v c → ¬ (v ≡ w) → Stays s w c
  -- the others' rows that are not linked stay
  pub unlinked : (v : ℕ) (k : Kind) (r : ℕ) (c : Cell) → Named s.sizes c → OfRow k r c → Owns s.sizes k v r → ¬ (v ≡ w) → ¬ (L s k r) → Stays s w c
  -- older, source, target and weight of a linked row stay
  pub older : (k : Kind) (r : ℕ) → IsRow s.sizes k r → L s k r → Stays s w (cell.Older k r)
  pub source : (r : ℕ) → IsRow s.sizes Edge r → L s Edge r → Stays s w (cell.Source r)
  pub target : (r : ℕ) → IsRow s.sizes Edge r → L s Edge r → Stays s w (cell.Target r)
  pub weight : (r : ℕ) → IsRow s.sizes Edge r → L s Edge r → Stays s w (cell.Weight r)

abbrev pub TurnLaws : State → ℕ → Type 0
TurnLaws s w = TurnLawsBy Linked s w

abbrev pub TurnsKeepLaws : Type 0
TurnsKeepLaws = (s : State) (w : ℕ) → Fit s w → TurnLaws s w

-- the same of rows that their owners count, in a chain or not
abbrev pub TurnsKeepCounted : Type 0
TurnsKeepCounted = (s : State) (w : ℕ) → w < s.sizes.workers → needed s.sizes ≤ length s.cells → FitPlaceBy Counted s (worker_at s w).place → TurnLawsBy Counted s w
