-- The sorts of what follows a place: only a link turn links, only a raise raises, and only a walk's own place ends that walk.
use Rattle.std.proofs.Common.{rules, ◌≡◌, ℕ, Bool, true, false, Some, None, Option, refl}
use Rattle.layout.specs.declared.names.Field.TheVariants.{Ins, Del}
use Rattle.places.specs.declared.mark.Mark.{Mark}
use Rattle.places.specs.declared.place.Side.TheVariants.{Source}
use Rattle.places.specs.declared.place.Survey.{Survey}
use Rattle.places.specs.declared.place.Change.{Change}
use Rattle.places.specs.declared.place.Walk.{Walk}
use Rattle.places.specs.declared.place.Hand.{Hand}
use Rattle.places.specs.declared.place.Stage.{Stage}
use Rattle.places.specs.declared.place.Stage.TheVariants as stage
use Rattle.places.specs.declared.place.Purpose.{Purpose}
use Rattle.places.specs.declared.place.Purpose.TheVariants as purpose
use Rattle.places.specs.declared.place.Place.{Place}
use Rattle.places.specs.declared.place.Place.TheVariants as place
use Rattle.places.specs.Moved.{Next, Next as next}
use Rattle.places.specs.Walks.{walked_ins}
use Rattle.places.specs.Nexts.{link_done, raise_done, settled, next_of}

-- the walk that a place belongs to
abbrev pub AtWalk : Place → Walk → Type 0
AtWalk (place.Settle st (purpose.Walk f j r)) k = j ≡ k
AtWalk (place.WalkHead j) k = j ≡ k
AtWalk (place.WalkOlder j r) k = j ≡ k
AtWalk p k = ⊥

-- the link turn that linked row r for change c
pub record LinkTurn (p : Place) (h : Hand) (c : Change) (r : ℕ) : Type 0 where
  pub over : ℕ
  pub place : p ≡ place.Link c over
  pub spare : h.spare ≡ Some r

abbrev pub Follows : Place → Hand → Next → Type 0
Follows p h (next.Moved o) = Unit {0}
Follows p h (next.Linked c r) = LinkTurn p h c r
Follows p h (next.Raised v t) = p ≡ place.Raise v
Follows p h (next.Walked k r) = AtWalk p k

follows_ins : (p : Place) (h : Hand) (k : Walk) (r : ℕ) (m : Mark) → AtWalk p k → Follows p h (walked_ins k r h m)
follows_ins p h k r m a = search rules

follows_settled : (st : Stage) (q : Purpose) (h : Hand) (m : Mark) → Follows (place.Settle st q) h (settled q h m)
follows_settled st (purpose.Look Ins l r) h m = tt
follows_settled st (purpose.CheckAgain Source o b f) h m = tt
follows_settled st (purpose.Compare Source b f e x) h m = tt
follows_settled st (purpose.Walk Ins k r) h m = follows_ins (place.Settle st (purpose.Walk Ins k r)) h k r m refl
follows_settled st (purpose.Walk Del k r) h m = refl
follows_settled st q h m = tt

follows_link : (c : Change) (o : ℕ) (h : Hand) (spare : Option ℕ) (done : Bool) → h.spare ≡ spare → Follows (place.Link c o) h (link_done c spare done)
follows_link c o h None done e = tt
follows_link c o h (Some r) true e = record { over = o; place = refl; spare = e }
follows_link c o h (Some r) false e = tt

follows_raise : (v : Survey) (h : Hand) (g : Option ℕ) → Follows (place.Raise v) h (raise_done v g)
follows_raise v h None = tt
follows_raise v h (Some t) = refl

pub follows : (p : Place) (h : Hand) (g : Option ℕ) → Follows p h (next_of p h g)
follows (place.Head l) h g = search rules
follows (place.Settle stage.First q) h g = search (rules, follows_settled)
follows (place.Settle stage.Clock q) h g = tt
follows (place.Settle (stage.Swap n) q) h g = tt
follows (place.Settle stage.Reread q) h g = follows_settled stage.Reread q h _
follows (place.Link c o) h g = follows_link c o h h.spare _ refl
follows (place.Raise v) h g = follows_raise v h g
follows (place.WalkHead k) h g = search rules
follows (place.WalkOlder k r) h g = follows_ins (place.WalkOlder k r) h k r _ refl
follows p h g = tt
