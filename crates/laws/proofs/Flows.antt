-- A place that fits leads to places that fit.
use Rattle.std.proofs.Common.{rules, ◌≡◌, ℕ, ◌<◌, Bool, true, false, cond, eqb, Some, None, Ok, Err, Option, Result, refl, inl, inr, arith}
use Rattle.std.proofs.lemmas.Bool.{eqb-false}
use Rattle.std.specs.Option.{is_some}
use Rattle.std.specs.declared.ops.ControlFlow.TheVariants.{Continue, Break}
use Rattle.layout.specs.declared.names.Kind.{Kind}
use Rattle.layout.specs.declared.names.Kind.TheVariants.{Vertex}
use Rattle.layout.specs.declared.names.Field.{Field}
use Rattle.layout.specs.declared.names.Field.TheVariants.{Ins, Del}
use Rattle.layout.specs.declared.names.Head.TheVariants as head
use Rattle.layout.specs.declared.names.Cell.TheVariants as cell
use Rattle.places.specs.declared.mark.Mark.{Mark}
use Rattle.places.specs.declared.place.Op.{Op}
use Rattle.places.specs.declared.place.Op.TheVariants.{Add, Remove, Contains}
use Rattle.places.specs.declared.place.Pair.{Pair}
use Rattle.places.specs.declared.place.Bound.{Bound}
use Rattle.places.specs.declared.place.Side.TheVariants.{Source, Target}
use Rattle.places.specs.declared.place.Look.{Look}
use Rattle.places.specs.declared.place.Look.TheVariants as look
use Rattle.places.specs.declared.place.Change.{Change}
use Rattle.places.specs.declared.place.Change.TheVariants as change
use Rattle.places.specs.declared.place.Survey.{Survey}
use Rattle.places.specs.declared.place.Walk.{Walk}
use Rattle.places.specs.declared.place.Hand.{Hand}
use Rattle.places.specs.declared.place.Stage.{Stage}
use Rattle.places.specs.declared.place.Stage.TheVariants as stage
use Rattle.places.specs.declared.place.Purpose.{Purpose}
use Rattle.places.specs.declared.place.Purpose.TheVariants as purpose
use Rattle.places.specs.declared.place.Place.{Place}
use Rattle.places.specs.declared.place.Place.TheVariants as place
use Rattle.places.specs.Moved.{Next, Next as next}
use Rattle.places.specs.Marks.{mark_of, is_ended, is_below}
use Rattle.places.specs.Flows.{Flow}
use Rattle.places.specs.Touches.{head_kind, look_head, change_head, job_kind}
use Rattle.places.specs.Rules.{look_found, checked, bound_row, alive, absent, looked, unless_gone, owned, lost_to, lost_link, end_done}
use Rattle.places.specs.Walks.{walked_ins}
use Rattle.places.specs.Nexts.{number_of, link_done, raise_done, settled, settling, next_of}
use Rattle.machine.specs.States.{State}
use Rattle.laws.specs.Fits.{Linked, Held, RowOrNone, HeldOrNone, FitBound, pair_head, FitLook, FitChange, FitFound, FitSurvey, FitJob, FitPurpose, FitPlace}
use Rattle.laws.specs.Changes.{number_in}

abbrev pub FitFlow : State → Flow → Type 0
FitFlow s (Continue p) = FitPlace s p
FitFlow s (Break a) = Unit {0}

abbrev pub FitsNext : State → Next → Type 0
FitsNext s (next.Moved o) = FitFlow s o
FitsNext s (next.Linked c r) = FitChange s c
FitsNext s (next.Raised v t) = FitSurvey s v
FitsNext s (next.Walked k r) = FitJob s k.job

module _ (s : State) where
  look_found_fit : (o : Op) (b : Bound) (f : Result ℕ ℕ) → FitBound s b → FitFound s b.pair f → FitFlow s (look_found o b f)
  look_found_fit Remove b (Ok e) f g = (f, g)
  look_found_fit o b r f g = (f, g)

  checked_fit : (o : Op) (b : Bound) (r : Result ℕ ℕ) → FitBound s b → FitFound s b.pair r → FitFlow s (checked o b r)
  checked_fit Add b (Err h) f g = (f, g)
  checked_fit Remove b (Ok e) f g = (f, g)
  checked_fit Contains b (Ok e) f g = tt
  checked_fit o b r f g = tt

  found_fit : (b : Bool) (p : Pair) (r : ℕ) → Held s (pair_head p) r → FitFound s p (cond b (Ok r) (Err r))
  found_fit true p r h = h
  found_fit false p r h = inr h

  alive_fit : (l : Look) (r : ℕ) (h : Hand) → FitLook s l → Held s (look_head l) r → FitFlow s (alive l r h)
  alive_fit (look.Vertex Remove i) r h f g = (f, g)
  alive_fit (look.Vertex o i) r h f g = tt
  alive_fit (look.Source o p) r h f g = (f, g.linked)
  alive_fit (look.Target o p x) r h f g = record { keys = f.0; source = f.1; target = g.linked }
  alive_fit (look.Edge o b) r h f g = look_found_fit o b (bound_row b r h) f (found_fit _ b.pair r g)

  absent_fit : (l : Look) (r : ℕ) → FitLook s l → HeldOrNone s (look_head l) r → FitFlow s (absent l r)
  absent_fit (look.Vertex Add i) r f g = (f, g)
  absent_fit (look.Edge o b) r f g = look_found_fit o b (Err r) f g
  absent_fit l r f g = tt

  looked_fit : (l : Look) (r : ℕ) (h : Hand) (m : Mark) → FitLook s l → Held s (look_head l) r → FitFlow s (looked l r h m)
  looked_fit l r h m f g = search (rules, alive_fit, absent_fit)

  unless_fit : (gone : Bool) (o : Flow) → FitFlow s o → FitFlow s (unless_gone gone o)
  unless_fit true o f = tt
  unless_fit false o f = f

  owned_fit : (g : Field) (c : Change) (r : ℕ) (m : Mark) → FitChange s c → FitFlow s (owned g c r m)
  owned_fit Ins (change.Vertex i) r m f = tt
  owned_fit Del (change.Vertex i) r m f = tt
  owned_fit g (change.Edge b) r m f = f

  lost_to_fit : (c : Change) (r : ℕ) → FitChange s c → Held s (change_head c) r → FitFlow s (lost_to c r)
  lost_to_fit (change.Vertex i) r f g = tt
  lost_to_fit (change.Edge b) r f g = (f, inr g)

  lost_link_fit : (c : Change) → FitChange s c → 0 < number_in s (cell.Head (change_head c)) → FitFlow s (lost_link c)
  lost_link_fit (change.Vertex i) f g = (f, g)
  lost_link_fit (change.Edge b) f g = f.keys

  link_done_fit : (c : Change) (spare : Option ℕ) (done : Bool) → FitChange s c → ((r : ℕ) → spare ≡ Some r → done ≡ false → 0 < number_in s (cell.Head (change_head c))) → FitsNext s (link_done c spare done)
  link_done_fit c None done f a = tt
  link_done_fit c (Some r) true f a = f
  link_done_fit c (Some r) false f a = lost_link_fit c f (a r refl refl)

  end_done_fit : (b : Bool) (c : Change) (r : ℕ) → FitChange s c → Held s (change_head c) r → FitFlow s (end_done b c r)
  end_done_fit true c r f g = (f, g.linked)
  end_done_fit false c r f g = (f, g)

  raise_done_fit : (v : Survey) (g : Option ℕ) → FitSurvey s v → FitsNext s (raise_done v g)
  raise_done_fit v None f = tt
  raise_done_fit v (Some t) f = f

  nonzero : (k : Kind) (r : ℕ) → RowOrNone s k r → eqb r 0 ≡ false → Linked s k r
  nonzero k r (inl z) e = absurd (eqb-false r 0 e z)
  nonzero k r (inr l) e = l

  walked_ins_fit : (k : Walk) (r : ℕ) (h : Hand) (m : Mark) → FitJob s k.job → Linked s (job_kind k.job) r → RowOrNone s (job_kind k.job) h.older → FitsNext s (walked_ins k r h m)
  walked_ins_fit k r h m f l o = search (rules, nonzero)

  -- what is at hand to settle a field
  abbrev pub HandAt : Purpose → Hand → Type 0
  HandAt (purpose.Walk Ins k r) h = RowOrNone s (job_kind k.job) h.older
  HandAt p h = Unit {0}

  settled_fit : (p : Purpose) (h : Hand) (m : Mark) → FitPurpose s p → HandAt p h → FitsNext s (settled p h m)
  settled_fit (purpose.Look Ins l r) h m f a = f
  settled_fit (purpose.Look Del l r) h m f a = looked_fit l r h m f.0 f.1
  settled_fit (purpose.Own g c r) h m f a = owned_fit g c r m f.0
  settled_fit (purpose.LostDel c r) h m f a = lost_to_fit c r f.0 f.1
  settled_fit (purpose.WinnerIns i r) h m f a = tt
  settled_fit (purpose.SourceAgain o b) h m f a = unless_fit (is_ended m) _ f
  settled_fit (purpose.CheckAgain Source o b g) h m f a = unless_fit (is_ended m) _ f
  settled_fit (purpose.CheckAgain Target o b g) h m f a = unless_fit (is_ended m) _ (checked_fit o b g f.0 f.1)
  settled_fit (purpose.Compare Source b g e x) h m f a = unless_fit (is_below x m) _ f
  settled_fit (purpose.Compare Target b g e x) h m f a = unless_fit (is_below x m) _ tt
  settled_fit (purpose.Walk Ins k r) h m f a = walked_ins_fit k r h m f.0 f.1 a
  settled_fit (purpose.Walk Del k r) h m f a = f.0

  settling_fit : (st : Stage) (p : Purpose) (h : Hand) (n : ℕ) → FitPurpose s p → HandAt p h → FitsNext s (settling st p h n)
  settling_fit stage.First p h n f a = search (rules, settled_fit)
  settling_fit stage.Reread p h n f a = settled_fit p h (mark_of n) f a
  settling_fit st p h n f a = f

  -- what a turn at a place gave, where it matters
  abbrev pub GotAt : Place → Hand → Option ℕ → Type 0
  GotAt (place.Head l) h g = (number_of g ≡ number_in s (cell.Head (look_head l))) × RowOrNone s (head_kind (look_head l)) (number_of g)
  GotAt (place.Settle st p) h g = HandAt p h
  GotAt (place.Link c o) h g = (r : ℕ) → h.spare ≡ Some r → is_some g ≡ false → 0 < number_in s (cell.Head (change_head c))
  GotAt (place.LostHead i) h g = (number_of g ≡ number_in s (cell.Head (head.Vertex i))) × RowOrNone s Vertex (number_of g)
  GotAt (place.WalkHead k) h g = RowOrNone s (job_kind k.job) (number_of g)
  GotAt (place.WalkOlder k r) h g = RowOrNone s (job_kind k.job) h.older
  GotAt p h g = Unit {0}

  held_of : (l : Look) (n : ℕ) → n ≡ number_in s (cell.Head (look_head l)) → RowOrNone s (head_kind (look_head l)) n → eqb n 0 ≡ false → Held s (look_head l) n
  held_of l n e r z = let p : n ≡ 0 → ⊥ = eqb-false n 0 z in record { linked = nonzero (head_kind (look_head l)) n r z; some = omega (arith, p) }

  won_of : (i n : ℕ) → 0 < number_in s (cell.Head (head.Vertex i)) → n ≡ number_in s (cell.Head (head.Vertex i)) → RowOrNone s Vertex n → Linked s Vertex n
  won_of i n p e (inl z) = absurd (omega arith)
  won_of i n p e (inr l) = l

  pub next_of_fit : (p : Place) (h : Hand) (g : Option ℕ) → FitPlace s p → GotAt p h g → FitsNext s (next_of p h g)
  next_of_fit place.Idle h g f a = tt
  next_of_fit (place.Head l) h g f a = let none : FitFlow s (absent l 0) = absent_fit l 0 f (inl refl) in search (rules, held_of)
  next_of_fit (place.Settle st p) h g f a = settling_fit st p h (number_of g) f a
  next_of_fit (place.Link c o) h g f a = link_done_fit c h.spare (is_some g) f.0 a
  next_of_fit (place.End c r) h g f a = end_done_fit (is_some g) c r f.0 f.1
  next_of_fit (place.LostHead i) h g f a = won_of i (number_of g) f.1 a.0 a.1
  next_of_fit (place.Raise v) h g f a = raise_done_fit v g f
  next_of_fit (place.WalkHead k) h g f a = search (rules, nonzero)
  next_of_fit (place.WalkOlder k r) h g f a = walked_ins_fit k r h (mark_of (number_of g)) f.0 f.1 a
