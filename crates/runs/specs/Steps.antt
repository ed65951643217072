-- What one step of a run, from time k to the next, does to the clock, to heads and to linked rows.
use Rattle.std.specs.Prelude.{◌≡◌, ℕ, suc, ◌<◌, ◌≤◌, ◌⊎◌}
use Rattle.layout.specs.declared.names.Kind.{Kind}
use Rattle.layout.specs.declared.names.Kind.TheVariants.{Edge}
use Rattle.layout.specs.declared.names.Field.{Field}
use Rattle.layout.specs.declared.names.Field.TheVariants.{Ins, Del}
use Rattle.layout.specs.declared.names.Head.{Head}
use Rattle.layout.specs.declared.names.Cell.TheVariants as cell
use Rattle.layout.specs.Layout.{Named}
use Rattle.places.specs.declared.mark.Mark.{Mark}
use Rattle.places.specs.declared.mark.Mark.TheVariants.{NotEnded, Pending, Stamp}
use Rattle.places.specs.declared.place.Change.{Change}
use Rattle.places.specs.declared.place.Change.TheVariants as change
use Rattle.places.specs.declared.place.Purpose.{Purpose}
use Rattle.places.specs.declared.place.Stage.TheVariants.{Swap}
use Rattle.places.specs.declared.place.Place.{Place}
use Rattle.places.specs.declared.place.Place.TheVariants as place
use Rattle.places.specs.Touches.{change_head, change_kind, settled_field}
use Rattle.machine.specs.declared.request.Request.TheVariants.{Turn}
use Rattle.laws.specs.Clean.{IsStamp}
use Rattle.runs.specs.Runs.{RunInTime}
use Rattle.runs.specs.Views.{number_at, clock_at, head_at, mark_at, place_at, LinkedAt}

module _ (R : RunInTime) where
  -- request k is a turn of worker w at a place
  pub record TurnAt (k w : ℕ) (p : Place) : Type 0 where
    pub asked : R.request k ≡ Turn w
    pub within : w < R.sizes.workers
    pub place : place_at R k w ≡ p

  -- an edge row is bound to the rows of its two vertices, and has the weight of its call
  abbrev pub BoundAt : ℕ → Change → ℕ → Type 0
  BoundAt k (change.Vertex i) r = Unit {0}
  BoundAt k (change.Edge b) r = (number_at R k (cell.Source r) ≡ b.source) × (number_at R k (cell.Target r) ≡ b.target) × (number_at R k (cell.Weight r) ≡ b.pair.weight)

  -- turn k links row r for a change, over the row that was head
  pub record LinkStep (k : ℕ) (d : Change) (r : ℕ) : Type 0 where
    pub worker : ℕ
    pub turn : TurnAt k worker (place.Link d (head_at R k (change_head d)))
    pub fresh : ¬ (LinkedAt R k (change_kind d) r)
    pub linked : LinkedAt R (suc k) (change_kind d) r
    pub head : head_at R (suc k) (change_head d) ≡ r
    pub ins : mark_at R (suc k) (change_kind d) Ins r ≡ Pending
    pub del : mark_at R (suc k) (change_kind d) Del r ≡ NotEnded
    pub older : number_at R (suc k) (cell.Older (change_kind d) r) ≡ head_at R k (change_head d)
    pub bound : BoundAt (suc k) d r

  -- a head stays, or moves to the row that turn k links
  pub data HeadSteps (k : ℕ) (h : Head) (y : ℕ) : Type 0 where
    stays : y ≡ head_at R k h → HeadSteps k h y
    moves : (d : Change) → change_head d ≡ h → LinkStep k d y → HeadSteps k h y

  -- ins or del of a linked row stays; is stamped with the number in hand of the worker whose turn it is; or its del becomes pending
  pub data MarkSteps (k : ℕ) (c : Kind) (f : Field) (r : ℕ) (x y : Mark) : Type 0 where
    same : y ≡ x → MarkSteps k c f r x y
    settled : (w n : ℕ) (p : Purpose) → TurnAt k w (place.Settle (Swap n) p) → settled_field p ≡ cell.Stamp c f r → IsStamp R.sizes n → x ≡ Pending → y ≡ Stamp n → MarkSteps k c f r x y
    ended : (w : ℕ) (d : Change) → TurnAt k w (place.End d r) → change_kind d ≡ c → f ≡ Del → x ≡ NotEnded → y ≡ Pending → MarkSteps k c f r x y

  -- turn k linked row r of a kind
  pub record LinkStepOfKind (k : ℕ) (c : Kind) (r : ℕ) : Type 0 where
    pub change : Change
    pub kind : change_kind change ≡ c
    pub step : LinkStep k change r

  pub record StepLaws (k : ℕ) : Type 0 where
    pub clock : clock_at R k ≤ clock_at R (suc k)
    pub linked : (c : Kind) (r : ℕ) → LinkedAt R k c r → LinkedAt R (suc k) c r
    -- a row that is linked now was linked before, or turn k linked it
    pub news : (c : Kind) (r : ℕ) → LinkedAt R (suc k) c r → LinkedAt R k c r ⊎ LinkStepOfKind k c r
    pub heads : (h : Head) → Named R.sizes (cell.Head h) → HeadSteps k h (head_at R (suc k) h)
    pub marks : (c : Kind) (f : Field) (r : ℕ) → LinkedAt R k c r → MarkSteps k c f r (mark_at R k c f r) (mark_at R (suc k) c f r)
    pub older : (c : Kind) (r : ℕ) → LinkedAt R k c r → number_at R (suc k) (cell.Older c r) ≡ number_at R k (cell.Older c r)
    pub source : (r : ℕ) → LinkedAt R k Edge r → number_at R (suc k) (cell.Source r) ≡ number_at R k (cell.Source r)
    pub target : (r : ℕ) → LinkedAt R k Edge r → number_at R (suc k) (cell.Target r) ≡ number_at R k (cell.Target r)
    pub weight : (r : ℕ) → LinkedAt R k Edge r → number_at R (suc k) (cell.Weight r) ≡ number_at R k (cell.Weight r)

abbrev pub RunsStep : Type 0
RunsStep = (R : RunInTime) (k : ℕ) → StepLaws R k
