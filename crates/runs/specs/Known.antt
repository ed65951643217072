-- What a worker knows at each place of the calls on vertices and edges, in the call that began at time b: facts about past times, and facts that
-- stay once true.
use Rattle.std.specs.Prelude.{◌≡◌, ℕ, suc, ◌<◌, ◌≤◌, ◌⊎◌, Some, Ok, Err, Result}
use Rattle.layout.specs.declared.names.Kind.{Kind}
use Rattle.layout.specs.declared.names.Kind.TheVariants.{Vertex, Edge}
use Rattle.layout.specs.declared.names.Field.{Field}
use Rattle.layout.specs.declared.names.Field.TheVariants.{Ins, Del}
use Rattle.layout.specs.declared.names.Head.{Head}
use Rattle.layout.specs.declared.names.Head.TheVariants as head
use Rattle.layout.specs.declared.names.Cell.TheVariants as cell
use Rattle.places.specs.declared.mark.Mark.TheVariants.{NotEnded, Pending, Stamp}
use Rattle.places.specs.declared.place.Op.{Op}
use Rattle.places.specs.declared.place.Op.TheVariants.{Add, Remove}
use Rattle.places.specs.declared.place.Bound.{Bound}
use Rattle.places.specs.declared.place.Side.TheVariants.{Source, Target}
use Rattle.places.specs.declared.place.Look.{Look}
use Rattle.places.specs.declared.place.Look.TheVariants as look
use Rattle.places.specs.declared.place.Change.{Change}
use Rattle.places.specs.declared.place.Change.TheVariants as change
use Rattle.places.specs.declared.place.Purpose.{Purpose}
use Rattle.places.specs.declared.place.Purpose.TheVariants as purpose
use Rattle.places.specs.declared.place.Stage.{Stage}
use Rattle.places.specs.declared.place.Stage.TheVariants as stage
use Rattle.places.specs.declared.place.Place.{Place}
use Rattle.places.specs.declared.place.Place.TheVariants as place
use Rattle.places.specs.Touches.{look_head, look_kind, change_head, change_kind}
use Rattle.machine.specs.declared.request.Request.TheVariants.{Turn}
use Rattle.runs.specs.Runs.{RunInTime}
use Rattle.runs.specs.Views.{number_at, clock_at, head_at, mark_at, LinkedAt}
use Rattle.runs.specs.Seen.{open_at}
use Rattle.runs.specs.Steps.{TurnAt, LinkStep}
use Rattle.runs.specs.Times.{Before}
use Rattle.runs.specs.Purposes.{purpose_kind, purpose_field, purpose_row}

module _ (R : RunInTime) where
  -- turn t was one of the call that began at b
  pub record TurnOf (t b : ℕ) : Type 0 where
    pub after : b < t
    pub worker : ℕ
    pub asked : R.request t ≡ Turn worker
    pub whose : open_at R t worker ≡ Some b

  -- ins or del of a row bears a stamp
  pub record StampedAt (k : ℕ) (c : Kind) (f : Field) (r : ℕ) : Type 0 where
    pub number : ℕ
    pub is : mark_at R k c f r ≡ Stamp number

  -- del of a linked vertex row bears a stamp
  pub record Dead (k r : ℕ) : Type 0 where
    pub linked : LinkedAt R k Vertex r
    pub ended : StampedAt k Vertex Del r

  -- ins or del of a linked row was pending before time k
  abbrev pub WasPending : ℕ → Kind → Field → ℕ → Type 0
  WasPending k c f r = Before k (λ t. LinkedAt R t c r × (mark_at R t c f r ≡ Pending))

  -- n was the clock at a time by which the field had become pending
  abbrev pub FromClock : ℕ → Kind → Field → ℕ → ℕ → Type 0
  FromClock k c f r n = Before k (λ t. (clock_at R t ≡ n) × WasPending (suc t) c f r)

  -- Settling. From the second turn on the field was pending; the number in hand was the clock since; after the swap it bears a stamp.
  abbrev pub KnownStage : ℕ → Kind → Field → ℕ → Stage → Type 0
  KnownStage k c f r stage.First = Unit {0}
  KnownStage k c f r stage.Clock = WasPending k c f r × (¬ (mark_at R k c f r ≡ NotEnded))
  KnownStage k c f r (stage.Swap n) = FromClock k c f r n × (¬ (mark_at R k c f r ≡ NotEnded))
  KnownStage k c f r stage.Reread = StampedAt k c f r

  -- row s is the head of key i, its ins bears a stamp, and it has not ended
  pub record Living (t i s : ℕ) : Type 0 where
    pub linked : LinkedAt R t Vertex s
    pub head : head_at R t (head.Vertex i) ≡ s
    pub born : StampedAt t Vertex Ins s
    pub alive : mark_at R t Vertex Del s ≡ NotEnded

  -- it was, at a turn of the call
  abbrev pub Has : ℕ → ℕ → ℕ → ℕ → Type 0
  Has k b i s = Before k (λ t. TurnOf t b × Living t i s)

  -- a head was r, at a turn of the call
  abbrev pub HeadWas : ℕ → ℕ → Head → ℕ → Type 0
  HeadWas k b h r = Before k (λ t. TurnOf t b × (head_at R t h ≡ r))

  -- Before a look. A look at the target has seen the source alive, a look at the edge both.
  abbrev pub Have : ℕ → ℕ → Look → Type 0
  Have k b (look.Vertex o i) = Unit {0}
  Have k b (look.Source o p) = Unit {0}
  Have k b (look.Target o p s) = Has k b p.from s
  Have k b (look.Edge o d) = Has k b d.pair.from d.source × Has k b d.pair.to d.target

  -- a look has read r as its head
  abbrev pub Saw : ℕ → ℕ → Look → ℕ → Type 0
  Saw k b l r = Before k (λ t. TurnOf t b × (head_at R t (look_head l) ≡ r) × Have t b l)

  -- an edge row is bound to these two rows
  abbrev pub BoundTo : ℕ → ℕ → Bound → Type 0
  BoundTo k e d = (number_at R k (cell.Source e) ≡ d.source) × (number_at R k (cell.Target e) ≡ d.target)

  -- an edge row has ended, or is bound to other rows
  pub record Shut (k e : ℕ) (d : Bound) : Type 0 where
    pub linked : LinkedAt R k Edge e
    pub born : StampedAt k Edge Ins e
    pub why : StampedAt k Edge Del e ⊎ ¬ (BoundTo k e d)

  -- no row, or a row that is not the edge
  abbrev pub Over : ℕ → ℕ → Bound → Type 0
  Over k e d = (e ≡ 0) ⊎ Shut k e d

  -- the look found the edge: e was read as head, and at turn t its del was not ended
  pub record HitAt (t b : ℕ) (o : Op) (d : Bound) (e : ℕ) : Type 0 where
    pub turn : TurnOf t b
    pub linked : LinkedAt R t Edge e
    pub born : StampedAt t Edge Ins e
    pub alive : mark_at R t Edge Del e ≡ NotEnded
    pub bound : BoundTo t e d
    pub saw : Saw t b (look.Edge o d) e

  -- what the look at the edge found
  abbrev pub KnownFound : ℕ → ℕ → Op → Bound → Result ℕ ℕ → Type 0
  KnownFound k b o d (Err h) = Saw k b (look.Edge o d) h × Over k h d
  KnownFound k b o d (Ok e) = Before k (λ t. HitAt t b o d e)

  -- after that the source was seen alive again, and after that the target
  abbrev pub Half : ℕ → ℕ → Op → Bound → Result ℕ ℕ → Type 0
  Half k b o d f = Before k (λ t. TurnOf t b × Living t d.pair.from d.source × KnownFound t b o d f)

  abbrev pub Firm : ℕ → ℕ → Op → Bound → Result ℕ ℕ → Type 0
  Firm k b o d f = Before k (λ t. TurnOf t b × Living t d.pair.to d.target × Half t b o d f)

  -- Before a link over h: the head was h, and h is no row, is dead, or is an edge row that is not the edge.
  abbrev pub KnownLink : ℕ → ℕ → Change → ℕ → Type 0
  KnownLink k b (change.Vertex i) h = Saw k b (look.Vertex Add i) h × ((h ≡ 0) ⊎ Dead k h)
  KnownLink k b (change.Edge d) h = Firm k b Add d (Err h) × Over k h d

  -- Before the swap of del of row r: it was seen alive.
  abbrev pub KnownEnd : ℕ → ℕ → Change → ℕ → Type 0
  KnownEnd k b (change.Vertex i) r = Has k b i r
  KnownEnd k b (change.Edge d) r = Before k (λ t. HitAt t b Remove d r)

  -- turn p, of the call that began at b, linked row r for a change
  pub record LinkEvent (p b : ℕ) (d : Change) (r : ℕ) : Type 0 where
    pub step : LinkStep R p d r
    pub whose : open_at R p step.worker ≡ Some b
    pub why : KnownLink p b d (head_at R p (change_head d))

  -- turn p, of the call that began at b, made del of row r pending
  pub record EndEvent (p b : ℕ) (d : Change) (r : ℕ) : Type 0 where
    pub worker : ℕ
    pub turn : TurnAt R p worker (place.End d r)
    pub whose : open_at R p worker ≡ Some b
    pub before : mark_at R p (change_kind d) Del r ≡ NotEnded
    pub after : mark_at R (suc p) (change_kind d) Del r ≡ Pending
    pub linked : LinkedAt R p (change_kind d) r
    pub born : StampedAt p (change_kind d) Ins r
    pub why : KnownEnd p b d r

  abbrev pub ChangeEvent : Field → ℕ → ℕ → Change → ℕ → Type 0
  ChangeEvent Ins p b d r = LinkEvent p b d r
  ChangeEvent Del p b d r = EndEvent p b d r

  -- the call's own change
  abbrev pub OwnChange : ℕ → ℕ → Field → Change → ℕ → Type 0
  OwnChange k b f d r = Before k (λ p. TurnOf p b × ChangeEvent f p b d r)

  -- since the call began, some call linked r as the head of key i
  abbrev pub LinkedSince : ℕ → ℕ → ℕ → ℕ → Type 0
  LinkedSince k b i r = Before k (λ p. (a : ℕ) × (b < p) × LinkEvent p a (change.Vertex i) r)

  -- the head of key i was read, and later it was another one
  abbrev pub HeadMoved : ℕ → ℕ → ℕ → Type 0
  HeadMoved k b i = Before k (λ u. Before u (λ t. TurnOf t b × ¬ (head_at R t (head.Vertex i) ≡ head_at R u (head.Vertex i))))

  -- vertex row s did not end below the stamp x of the edge row: it was seen alive once that stamp stood, or its end has no lower stamp
  abbrev pub NotBelow : ℕ → ℕ → Field → ℕ → ℕ → ℕ → Type 0
  NotBelow k b f e x s =
      Before k (λ t. TurnOf t b × LinkedAt R t Edge e × (mark_at R t Edge f e ≡ Stamp x) × (mark_at R t Vertex Del s ≡ NotEnded))
      ⊎ ((n : ℕ) × (mark_at R k Vertex Del s ≡ Stamp n) × (x ≤ n))

  -- the call's own edge change, with its stamp
  pub record StampedChange (k b : ℕ) (d : Bound) (f : Field) (e x : ℕ) : Type 0 where
    pub made : OwnChange k b f (change.Edge d) e
    pub linked : LinkedAt R k Edge e
    pub stamped : mark_at R k Edge f e ≡ Stamp x

  -- What is known beside the stage of settling. Of walks nothing is.
  abbrev pub KnownPurpose : ℕ → ℕ → Purpose → Type 0
  KnownPurpose k b (purpose.Look Ins l r) = Saw k b l r
  KnownPurpose k b (purpose.Look Del l r) = Saw k b l r × StampedAt k (look_kind l) Ins r
  KnownPurpose k b (purpose.Own f d r) = OwnChange k b f d r × (¬ (mark_at R k (change_kind d) f r ≡ NotEnded))
  KnownPurpose k b (purpose.LostDel d r) = KnownEnd k b d r × (¬ (mark_at R k (change_kind d) Del r ≡ NotEnded)) × StampedAt k (change_kind d) Ins r
  KnownPurpose k b (purpose.WinnerIns i r) = LinkedSince k b i r × HeadWas k b (head.Vertex i) r
  KnownPurpose k b (purpose.SourceAgain o d) = Has k b d.pair.from d.source × Has k b d.pair.to d.target
  KnownPurpose k b (purpose.CheckAgain Source o d f) = KnownFound k b o d f
  KnownPurpose k b (purpose.CheckAgain Target o d f) = Half k b o d f
  KnownPurpose k b (purpose.Compare Source d f e x) = StampedChange k b d f e x
  KnownPurpose k b (purpose.Compare Target d f e x) = StampedChange k b d f e x × NotBelow k b f e x d.source
  KnownPurpose k b (purpose.Walk f w r) = Unit {0}

  -- What is known at a place, beside that the rows it names are linked. Idle workers know nothing, and snapshots and reaches only how they settle.
  abbrev pub Known : ℕ → ℕ → Place → Type 0
  Known k b place.Idle = Unit {0}
  Known k b (place.Head l) = Have k b l
  Known k b (place.Settle st p) = KnownStage k (purpose_kind p) (purpose_field p) (purpose_row p) st × KnownPurpose k b p
  Known k b (place.Link d h) = KnownLink k b d h
  Known k b (place.End d r) = StampedAt k (change_kind d) Ins r × KnownEnd k b d r
  Known k b (place.LostHead i) = HeadMoved k b i
  Known k b (place.Raise v) = Unit {0}
  Known k b (place.WalkHead w) = Unit {0}
  Known k b (place.WalkOlder w r) = Unit {0}
