-- Places whose keys are keys of the sizes and whose rows are linked.
use Rattle.std.specs.Prelude.{◌≡◌, ℕ, ◌<◌, ◌≤◌, ◌⊎◌, List, length, Some, Ok, Err, Result}
use Rattle.layout.specs.declared.sizes.Sizes.{Sizes}
use Rattle.layout.specs.declared.names.Kind.{Kind}
use Rattle.layout.specs.declared.names.Kind.TheVariants.{Vertex}
use Rattle.layout.specs.declared.names.Head.{Head}
use Rattle.layout.specs.declared.names.Head.TheVariants as head
use Rattle.layout.specs.declared.names.Cell.TheVariants as cell
use Rattle.layout.specs.Layout.{needed, Named, IsRow}
use Rattle.layout.specs.Rows.{no_row, row_at}
use Rattle.places.specs.declared.place.Pair.{Pair}
use Rattle.places.specs.declared.place.Bound.{Bound}
use Rattle.places.specs.declared.place.Look.{Look}
use Rattle.places.specs.declared.place.Look.TheVariants as look
use Rattle.places.specs.declared.place.Change.{Change}
use Rattle.places.specs.declared.place.Change.TheVariants as change
use Rattle.places.specs.declared.place.Survey.{Survey}
use Rattle.places.specs.declared.place.Survey.TheVariants.{Snapshot, Reach}
use Rattle.places.specs.declared.place.ServedPair.{ServedPair}
use Rattle.places.specs.declared.place.Job.{Job}
use Rattle.places.specs.declared.place.Job.TheVariants as job
use Rattle.places.specs.declared.place.Purpose.{Purpose}
use Rattle.places.specs.declared.place.Purpose.TheVariants as purpose
use Rattle.places.specs.declared.place.Place.{Place}
use Rattle.places.specs.declared.place.Place.TheVariants as place
use Rattle.places.specs.Touches.{head_kind, look_head, change_head, change_kind, job_kind}
use Rattle.machine.specs.States.{State}
use Rattle.machine.specs.Turns.{worker_at, cell_at}
use Rattle.machine.specs.Workers.{linked_of}

-- row r of kind k is in a chain: it is the row of a head, or the older row of one that is in a chain
pub data InChain (z : Sizes) (cs : List ℕ) (k : Kind) : ℕ → Type 0 where
  at_head : (h : Head) (r : ℕ) → Named z (cell.Head h) → head_kind h ≡ k → cell_at z cs (cell.Head h) ≡ r → IsRow z k r → InChain z cs k r
  below : (q r : ℕ) → InChain z cs k q → cell_at z cs (cell.Older k q) ≡ r → IsRow z k r → InChain z cs k r

-- row r of kind k is linked
abbrev pub Linked : State → Kind → ℕ → Type 0
Linked s k r = InChain s.sizes s.cells k r

-- it is among the rows that its owner has used
pub record Counted (s : State) (k : Kind) (r : ℕ) : Type 0 where
  pub owner : ℕ
  pub nth : ℕ
  pub before : nth < linked_of (worker_at s owner) k
  pub is : row_at s.sizes k owner nth ≡ Some r

abbrev pub IsKey : State → ℕ → Type 0
IsKey s i = i < s.sizes.keys

abbrev pub FitPair : State → Pair → Type 0
FitPair s p = IsKey s p.from × IsKey s p.to

abbrev pub pair_head : Pair → Head
pair_head p = head.Edge p.from p.to

abbrev pub FitSurvey : State → Survey → Type 0
FitSurvey s Snapshot = Unit {0}
FitSurvey s (Reach i) = IsKey s i

abbrev pub FitServedPair : State → ServedPair → Type 0
FitServedPair s l = IsKey s l.from × IsKey s l.to

abbrev pub FitJob : State → Job → Type 0
FitJob s (job.Key i) = IsKey s i
FitJob s (job.Start i) = IsKey s i
FitJob s (job.Pair l) = FitServedPair s l
FitJob s (job.Target l e) = FitServedPair s l

-- L says which rows of a kind are linked in a state: Linked does, and so does Counted
module _ (L : State → Kind → ℕ → Type 0) where
  -- a linked row of a head that is not none
  pub record HeldBy (s : State) (h : Head) (r : ℕ) : Type 0 where
    pub linked : L s (head_kind h) r
    pub some : 0 < cell_at s.sizes s.cells (cell.Head h)

  -- no row, or a linked one
  abbrev pub RowOrNoneBy : State → Kind → ℕ → Type 0
  RowOrNoneBy s k r = (r ≡ no_row) ⊎ L s k r

  abbrev pub HeldOrNoneBy : State → Head → ℕ → Type 0
  HeldOrNoneBy s h r = (r ≡ no_row) ⊎ HeldBy s h r

  -- an edge between keys, bound to linked rows
  pub record FitBoundBy (s : State) (b : Bound) : Type 0 where
    pub keys : FitPair s b.pair
    pub source : L s Vertex b.source
    pub target : L s Vertex b.target

  abbrev pub FitLookBy : State → Look → Type 0
  FitLookBy s (look.Vertex o i) = IsKey s i
  FitLookBy s (look.Source o p) = FitPair s p
  FitLookBy s (look.Target o p r) = FitPair s p × L s Vertex r
  FitLookBy s (look.Edge o b) = FitBoundBy s b

  abbrev pub FitChangeBy : State → Change → Type 0
  FitChangeBy s (change.Vertex i) = IsKey s i
  FitChangeBy s (change.Edge b) = FitBoundBy s b

  abbrev pub FitFoundBy : State → Pair → Result ℕ ℕ → Type 0
  FitFoundBy s p (Ok e) = HeldBy s (pair_head p) e
  FitFoundBy s p (Err h) = HeldOrNoneBy s (pair_head p) h

  -- the row whose field is settled is linked
  abbrev pub FitPurposeBy : State → Purpose → Type 0
  FitPurposeBy s (purpose.Look f l r) = FitLookBy s l × HeldBy s (look_head l) r
  FitPurposeBy s (purpose.Own f c r) = FitChangeBy s c × L s (change_kind c) r
  FitPurposeBy s (purpose.LostDel c r) = FitChangeBy s c × HeldBy s (change_head c) r
  FitPurposeBy s (purpose.WinnerIns i r) = L s Vertex r
  FitPurposeBy s (purpose.SourceAgain o b) = FitBoundBy s b
  FitPurposeBy s (purpose.CheckAgain d o b f) = FitBoundBy s b × FitFoundBy s b.pair f
  FitPurposeBy s (purpose.Compare d b f e x) = FitBoundBy s b
  FitPurposeBy s (purpose.Walk f k r) = FitJob s k.job × L s (job_kind k.job) r

  abbrev pub FitPlaceBy : State → Place → Type 0
  FitPlaceBy s place.Idle = Unit {0}
  FitPlaceBy s (place.Head l) = FitLookBy s l
  FitPlaceBy s (place.Settle st p) = FitPurposeBy s p
  FitPlaceBy s (place.Link c h) = FitChangeBy s c × HeldOrNoneBy s (change_head c) h
  FitPlaceBy s (place.End c r) = FitChangeBy s c × HeldBy s (change_head c) r
  FitPlaceBy s (place.LostHead i) = IsKey s i × (0 < cell_at s.sizes s.cells (cell.Head (head.Vertex i)))
  FitPlaceBy s (place.Raise v) = FitSurvey s v
  FitPlaceBy s (place.WalkHead k) = FitJob s k.job
  FitPlaceBy s (place.WalkOlder k r) = FitJob s k.job × L s (job_kind k.job) r

  -- a state with cells enough, and a worker whose place fits
  pub record FitBy (s : State) (w : ℕ) : Type 0 where
    pub worker : w < s.sizes.workers
    pub cells : needed s.sizes ≤ length s.cells
    -- the row that comes next is not linked, since linked rows are counted
    pub counted : (k : Kind) (r : ℕ) → L s k r → Counted s k r
    pub place : FitPlaceBy s (worker_at s w).place

-- where the linked rows are those in chains
abbrev pub Held : State → Head → ℕ → Type 0
Held s h r = HeldBy Linked s h r

abbrev pub RowOrNone : State → Kind → ℕ → Type 0
RowOrNone s k r = RowOrNoneBy Linked s k r

abbrev pub HeldOrNone : State → Head → ℕ → Type 0
HeldOrNone s h r = HeldOrNoneBy Linked s h r

abbrev pub FitBound : State → Bound → Type 0
FitBound s b = FitBoundBy Linked s b

abbrev pub FitLook : State → Look → Type 0
FitLook s l = FitLookBy Linked s l

abbrev pub FitChange : State → Change → Type 0
FitChange s c = FitChangeBy Linked s c

abbrev pub FitFound : State → Pair → Result ℕ ℕ → Type 0
FitFound s p f = FitFoundBy Linked s p f

abbrev pub FitPurpose : State → Purpose → Type 0
FitPurpose s p = FitPurposeBy Linked s p

abbrev pub FitPlace : State → Place → Type 0
FitPlace s p = FitPlaceBy Linked s p

abbrev pub Fit : State → ℕ → Type 0
Fit s w = FitBy Linked s w
