-- A call that has made a change carries it from place to place.
use Rattle.std.proofs.Common.{◌≡◌, ℕ, Bool, true, false, eqb, Some, None, Option}
use Rattle.std.proofs.lemmas.Bool.{cond_both}
use Rattle.std.specs.declared.ops.ControlFlow.TheVariants.{Continue, Break}
use Rattle.layout.specs.declared.names.Field.{Field}
use Rattle.layout.specs.declared.names.Field.TheVariants.{Ins, Del}
use Rattle.places.specs.declared.mark.Mark.{Mark}
use Rattle.places.specs.declared.place.Change.{Change}
use Rattle.places.specs.declared.place.Change.TheVariants as change
use Rattle.places.specs.declared.place.Hand.{Hand}
use Rattle.places.specs.declared.place.Side.TheVariants.{Source, Target}
use Rattle.places.specs.declared.place.Purpose.{Purpose}
use Rattle.places.specs.declared.place.Purpose.TheVariants as purpose
use Rattle.places.specs.declared.place.Stage.{Stage}
use Rattle.places.specs.declared.place.Stage.TheVariants as stage
use Rattle.places.specs.declared.place.Place.{Place}
use Rattle.places.specs.declared.place.Place.TheVariants as place
use Rattle.places.specs.Marks.{pending, mark_of, is_below}
use Rattle.places.specs.Moved.{Next, Next as next}
use Rattle.places.specs.Flows.{Flow}
use Rattle.places.specs.Rules.{unless_gone, owned, first}
use Rattle.places.specs.Nexts.{number_of, settle_on, settled, settling, next_of}
use Rattle.machine.specs.declared.worker.Worker.{Worker}
use Rattle.machine.specs.Workers.{followed}
use Rattle.runs.specs.Purposes.{MadeChange, purpose_made, place_made}

module _ (m : MadeChange) where
  abbrev pub MadeFlow : Flow → Type 0
  MadeFlow (Continue p) = place_made p ≡ Some m
  MadeFlow (Break a) = Unit {0}

  abbrev pub MadeNext : Next → Type 0
  MadeNext (next.Moved o) = MadeFlow o
  MadeNext x = ⊥

  none_made : None ≡ Some m → ⊥
  none_made e = cc

  gone_made : (gone : Bool) (o : Flow) → MadeFlow o → MadeFlow (unless_gone gone o)
  gone_made true o h = tt
  gone_made false o h = h

  owned_made : (f : Field) (d : Change) (r : ℕ) (x : Mark) → Some (record { field = f; change = d; row = r }) ≡ Some m → MadeFlow (owned f d r x)
  owned_made Ins (change.Vertex i) r x e = tt
  owned_made Del (change.Vertex i) r x e = tt
  owned_made Ins (change.Edge b) r x e = e
  owned_made Del (change.Edge b) r x e = e

  settled_made : (p : Purpose) (h : Hand) (x : Mark) → purpose_made p ≡ Some m → MadeNext (settled p h x)
  settled_made (purpose.Own f d r) h x e = owned_made f d r x e
  settled_made (purpose.Compare Source d f r y) h x e = gone_made (is_below y x) (first (purpose.Compare Target d f r y)) e
  settled_made (purpose.Compare Target d f r y) h x e = gone_made (is_below y x) _ tt
  settled_made (purpose.Look f l r) h x e = absurd (none_made e)
  settled_made (purpose.LostDel c r) h x e = absurd (none_made e)
  settled_made (purpose.WinnerIns i r) h x e = absurd (none_made e)
  settled_made (purpose.SourceAgain o b) h x e = absurd (none_made e)
  settled_made (purpose.CheckAgain s o b f) h x e = absurd (none_made e)
  settled_made (purpose.Walk f k r) h x e = absurd (none_made e)

  settling_made : (st : Stage) (p : Purpose) (h : Hand) (n : ℕ) → purpose_made p ≡ Some m → MadeNext (settling st p h n)
  settling_made stage.First p h n e = cond_both (eqb n pending) (settle_on stage.Clock p) (settled p h (mark_of n)) MadeNext (λ _. e) (λ _. settled_made p h (mark_of n) e)
  settling_made stage.Clock p h n e = e
  settling_made (stage.Swap x) p h n e = e
  settling_made stage.Reread p h n e = settled_made p h (mark_of n) e

  pub next_made : (p : Place) (h : Hand) (g : Option ℕ) → place_made p ≡ Some m → MadeNext (next_of p h g)
  next_made (place.Settle st q) h g e = settling_made st q h (number_of g) e
  next_made place.Idle h g e = absurd (none_made e)
  next_made (place.Head l) h g e = absurd (none_made e)
  next_made (place.Link c r) h g e = absurd (none_made e)
  next_made (place.End c r) h g e = absurd (none_made e)
  next_made (place.LostHead i) h g e = absurd (none_made e)
  next_made (place.Raise v) h g e = absurd (none_made e)
  next_made (place.WalkHead k) h g e = absurd (none_made e)
  next_made (place.WalkOlder k r) h g e = absurd (none_made e)

  -- where the turn did not answer
  pub made_after : (n : ℕ) (v : Worker) (h : Hand) (x : Next) → MadeNext x → (followed n v h x).answer ≡ None → place_made (followed n v h x).worker.place ≡ Some m
  made_after n v h (next.Moved (Continue p)) g e = g
  made_after n v h (next.Moved (Break a)) g e = absurd cc
  made_after n v h (next.Linked c r) g e = absurd g
  made_after n v h (next.Raised s t) g e = absurd g
  made_after n v h (next.Walked w r) g e = absurd g
