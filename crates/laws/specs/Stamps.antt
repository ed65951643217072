-- What every run keeps of the clock and of ins and del of linked rows.
use Rattle.std.specs.Prelude.{◌≡◌, ℕ, ◌<◌, List, ◌++◌}
use Rattle.layout.specs.declared.sizes.Sizes.{Sizes}
use Rattle.layout.specs.declared.names.Kind.{Kind}
use Rattle.layout.specs.declared.names.Field.{Field}
use Rattle.layout.specs.declared.names.Field.TheVariants.{Ins, Del}
use Rattle.layout.specs.declared.names.Cell.{Cell}
use Rattle.layout.specs.declared.names.Cell.TheVariants as cell
use Rattle.places.specs.declared.place.Stage.TheVariants as stage
use Rattle.places.specs.declared.place.Purpose.{Purpose}
use Rattle.places.specs.declared.place.Place.TheVariants as place
use Rattle.places.specs.Marks.{pending}
use Rattle.places.specs.Touches.{settled_field}
use Rattle.machine.specs.States.{State}
use Rattle.machine.specs.Turns.{worker_at, turned}
use Rattle.machine.specs.History.{Event, Traces}
use Rattle.laws.specs.Fits.{Linked}
use Rattle.laws.specs.Changes.{number_in}
use Rattle.laws.specs.Clean.{IsStamp, Clean}

-- what ins and del of a row hold when it is linked
abbrev pub field_start : Field → ℕ
field_start Ins = pending
field_start Del = 0

-- what ins and del of a linked row can hold: only del can be 0
pub data Holds (z : Sizes) (f : Field) (x : ℕ) : Type 0 where
  not_ended : f ≡ Del → x ≡ 0 → Holds z f x
  waits : x ≡ pending → Holds z f x
  stamped : IsStamp z x → Holds z f x

-- what a turn can do to ins and del of a linked row
pub data Moves (z : Sizes) (f : Field) (x y : ℕ) : Type 0 where
  same : y ≡ x → Moves z f x y
  ended : f ≡ Del → x ≡ 0 → y ≡ pending → Moves z f x y
  settled : x ≡ pending → IsStamp z y → Moves z f x y

-- a moment of a run, now or before, at which the clock was n and a cell was pending
pub record Moment (start : State) (h : List Event) (c : Cell) (n : ℕ) : Type 0 where
  pub since : List Event
  pub until : List Event
  pub parts : h ≡ since ++ until
  pub state : State
  pub traces : Traces start until state
  pub clock : number_in state cell.Clock ≡ n
  pub waited : number_in state c ≡ pending

-- a state s that history h leads to
pub record StampLaws (start : State) (h : List Event) (s : State) : Type 0 where
  pub sizes : s.sizes ≡ start.sizes
  -- a stamp is neither 0 nor pending
  pub apart : (n : ℕ) → IsStamp s.sizes n → ¬ (n ≡ 0) × ¬ (n ≡ pending)
  -- the clock is 1 to T
  pub clock : IsStamp s.sizes (number_in s cell.Clock)
  -- ins of a linked row is pending or a stamp; del is 0, pending or a stamp
  pub fields : (k : Kind) (f : Field) (r : ℕ) → Linked s k r → Holds s.sizes f (number_in s (cell.Stamp k f r))
  -- in a turn they go from 0 to pending, from pending to a stamp, or stay
  pub turns : (w : ℕ) → w < s.sizes.workers → (k : Kind) (f : Field) (r : ℕ) → Linked s k r → Moves s.sizes f (number_in s (cell.Stamp k f r)) (number_in (turned s w) (cell.Stamp k f r))
  -- a row that is linked in a turn has ins pending and del 0
  pub starts : (w : ℕ) → w < s.sizes.workers → (k : Kind) (f : Field) (r : ℕ) → ¬ (Linked s k r) → Linked (turned s w) k r → number_in (turned s w) (cell.Stamp k f r) ≡ field_start f
  -- the number that a worker puts in for pending is one that the clock had while the field was pending
  pub sources : (w : ℕ) → w < s.sizes.workers → (n : ℕ) (p : Purpose) → (worker_at s w).place ≡ place.Settle (stage.Swap n) p → number_in s (settled_field p) ≡ pending → Moment start h (settled_field p) n

-- every state that a history leads to from a clean state
abbrev pub RunsStamp : Type 0
RunsStamp = (start : State) → Clean start → (h : List Event) (s : State) → Traces start h s → StampLaws start h s
