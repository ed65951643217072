-- Only a snapshot or reach that has raised the clock answers 30 or 31, and only a raise leads into its walks. Only a link answers 40,
-- and only a raise 41.
use Rattle.std.proofs.Common.{rules, ◌≡◌, ℕ, ◌+◌, ◌≤◌, Bool, true, false, eqb, Some, None, Ok, Err, Option, Result, refl, arith}
use Rattle.std.proofs.lemmas.Bool.{cond_both}
use Rattle.std.specs.declared.ops.ControlFlow.TheVariants.{Continue, Break}
use Rattle.codes.specs.declared.answer.Answer.{Answer}
use Rattle.codes.specs.declared.answer.Answer.TheVariants.{SnapshotTaken, ReachTaken, RowsSpent, ClockSpent}
use Rattle.layout.specs.declared.names.Field.{Field}
use Rattle.layout.specs.declared.names.Field.TheVariants.{Ins, Del}
use Rattle.places.specs.declared.mark.Mark.{Mark}
use Rattle.places.specs.declared.place.Op.{Op}
use Rattle.places.specs.declared.place.Op.TheVariants.{Add, Remove, Contains}
use Rattle.places.specs.declared.place.Bound.{Bound}
use Rattle.places.specs.declared.place.Side.TheVariants.{Source, Target}
use Rattle.places.specs.declared.place.Look.{Look}
use Rattle.places.specs.declared.place.Look.TheVariants as look
use Rattle.places.specs.declared.place.Change.{Change}
use Rattle.places.specs.declared.place.Change.TheVariants as change
use Rattle.places.specs.declared.place.Survey.{Survey}
use Rattle.places.specs.declared.place.Walk.{Walk}
use Rattle.places.specs.declared.place.Hand.{Hand}
use Rattle.places.specs.declared.place.Stage.TheVariants as stage
use Rattle.places.specs.declared.place.Purpose.{Purpose}
use Rattle.places.specs.declared.place.Purpose.TheVariants as purpose
use Rattle.places.specs.declared.place.Place.{Place}
use Rattle.places.specs.declared.place.Place.TheVariants as place
use Rattle.places.specs.Moved.{Next, Next as next}
use Rattle.places.specs.Marks.{pending, mark_of, is_ended, is_below}
use Rattle.places.specs.Flows.{Flow}
use Rattle.places.specs.Private.{link_kind}
use Rattle.places.specs.Touches.{change_kind}
use Rattle.places.specs.Rules.{look_found, checked, bound_row, alive, absent, looked, unless_gone, owned, lost_to, lost_link, end_done, edge_changed}
use Rattle.places.specs.Walks.{walked_head, walked_ins}
use Rattle.places.specs.Nexts.{number_of, link_done, raise_done, settled, settle_on, next_of}
use Rattle.books.specs.Walked.{WalkOutcome, walked_at}
use Rattle.machine.specs.declared.worker.Worker.{Worker}
use Rattle.machine.specs.Counts.{may_finish}
use Rattle.machine.specs.Workers.{at, finishes, finished, with_book, arrived, followed}

-- where a worker stands that gives an answer without a walk
abbrev pub AtLink : Place → Type 0
AtLink (place.Link c b) = Unit {0}
AtLink p = ⊥

abbrev pub AtRaise : Place → Type 0
AtRaise (place.Raise v) = Unit {0}
AtRaise p = ⊥

abbrev pub Answers : Place → Answer → Type 0
Answers p SnapshotTaken = ⊥
Answers p ReachTaken = ⊥
Answers p RowsSpent = AtLink p
Answers p ClockSpent = AtRaise p
Answers p a = Unit {0}

-- an answer other than 30, 31, 40 and 41, or a place that cannot lead to 30 and 31 without a raise
abbrev Plain : Flow → Type 0
Plain (Continue q) = may_finish q ≡ 0
Plain (Break a) = Answers place.Idle a

-- an answer that any place may give
anywhere : (p : Place) (a : Answer) → Answers place.Idle a → Answers p a
anywhere p SnapshotTaken f = absurd f
anywhere p ReachTaken f = absurd f
anywhere p RowsSpent f = absurd f
anywhere p ClockSpent f = absurd f
anywhere p a f = tt

unfinished : (p : Place) (a : Answer) → Answers p a → finishes a ≡ false
unfinished p SnapshotTaken f = absurd f
unfinished p ReachTaken f = absurd f
unfinished p a f = refl

look_found_plain : (o : Op) (b : Bound) (f : Result ℕ ℕ) → Plain (look_found o b f)
look_found_plain Remove b (Ok e) = refl
look_found_plain o b f = refl

checked_plain : (o : Op) (b : Bound) (f : Result ℕ ℕ) → Plain (checked o b f)
checked_plain Add b (Ok e) = tt
checked_plain Add b (Err e) = refl
checked_plain Contains b (Ok e) = tt
checked_plain Contains b (Err e) = tt
checked_plain Remove b (Ok e) = refl
checked_plain Remove b (Err e) = tt

alive_plain : (l : Look) (r : ℕ) (h : Hand) → Plain (alive l r h)
alive_plain (look.Vertex Add i) r h = tt
alive_plain (look.Vertex Remove i) r h = refl
alive_plain (look.Vertex Contains i) r h = tt
alive_plain (look.Source o p) r h = refl
alive_plain (look.Target o p s) r h = refl
alive_plain (look.Edge o b) r h = look_found_plain o b (bound_row b r h)

absent_plain : (l : Look) (r : ℕ) → Plain (absent l r)
absent_plain (look.Vertex Add i) r = refl
absent_plain (look.Edge o b) r = look_found_plain o b (Err r)
absent_plain l r = tt

looked_plain : (l : Look) (r : ℕ) (h : Hand) (m : Mark) → Plain (looked l r h m)
looked_plain l r h m = cond_both (is_ended m) (absent l r) (alive l r h) Plain (λ _. absent_plain l r) (λ _. alive_plain l r h)

unless_plain : (gone : Bool) (o : Flow) → Plain o → Plain (unless_gone gone o)
unless_plain true o s = tt
unless_plain false o s = s

changed_plain : (f : Field) → Answers place.Idle (edge_changed f)
changed_plain Ins = tt
changed_plain Del = tt

owned_plain : (f : Field) (c : Change) (r : ℕ) (m : Mark) → Plain (owned f c r m)
owned_plain Ins (change.Vertex i) r m = tt
owned_plain Del (change.Vertex i) r m = tt
owned_plain Ins (change.Edge b) r m = refl
owned_plain Del (change.Edge b) r m = refl

lost_to_plain : (c : Change) (r : ℕ) → Plain (lost_to c r)
lost_to_plain (change.Vertex i) r = tt
lost_to_plain (change.Edge b) r = refl

lost_link_plain : (c : Change) → Plain (lost_link c)
lost_link_plain (change.Vertex i) = refl
lost_link_plain (change.Edge b) = refl

end_done_plain : (done : Bool) (c : Change) (r : ℕ) → Plain (end_done done c r)
end_done_plain true c r = refl
end_done_plain false c r = refl

-- of the places from which a turn raises the clock
abbrev pub is_raise : Place → ℕ
is_raise (place.Raise v) = 1
is_raise p = 0

-- what follows from a place: only a link links or answers 40, only a raise answers 41 or leads into the walks, and only walks go on to 30 or 31
abbrev pub Finishes : Place → Next → Type 0
Finishes p (next.Moved (Continue q)) = may_finish q ≤ may_finish p
Finishes p (next.Moved (Break a)) = Answers p a
Finishes p (next.Linked c r) = link_kind p ≡ Some (change_kind c)
Finishes p (next.Raised v t) = is_raise p ≡ 1
Finishes p (next.Walked k r) = may_finish p ≡ 1

plain_finishes : (p : Place) (o : Flow) → Plain o → Finishes p (next.Moved o)
plain_finishes p (Continue q) e = omega (arith, e)
plain_finishes p (Break a) e = anywhere p a e

walked_ins_finishes : (p : Place) (k : Walk) (r : ℕ) (h : Hand) (m : Mark) → may_finish p ≡ 1 → Finishes p (walked_ins k r h m)
walked_ins_finishes p k r h m e = search (rules, e)

settled_finishes : (p : Place) (q : Purpose) (h : Hand) (m : Mark) → may_finish p ≡ may_finish (place.Settle stage.First q) → Finishes p (settled q h m)
settled_finishes p (purpose.Look Ins l r) h m e = omega arith
settled_finishes p (purpose.Look Del l r) h m e = plain_finishes p _ (looked_plain l r h m)
settled_finishes p (purpose.Own f c r) h m e = plain_finishes p _ (owned_plain f c r m)
settled_finishes p (purpose.LostDel c r) h m e = plain_finishes p _ (lost_to_plain c r)
settled_finishes p (purpose.WinnerIns i r) h m e = tt
settled_finishes p (purpose.SourceAgain o b) h m e = plain_finishes p _ (unless_plain (is_ended m) _ refl)
settled_finishes p (purpose.CheckAgain Source o b f) h m e = plain_finishes p _ (unless_plain (is_ended m) _ refl)
settled_finishes p (purpose.CheckAgain Target o b f) h m e = plain_finishes p _ (unless_plain (is_ended m) _ (checked_plain o b f))
settled_finishes p (purpose.Compare Source b f r x) h m e = plain_finishes p _ (unless_plain (is_below x m) _ refl)
settled_finishes p (purpose.Compare Target b f r x) h m e = plain_finishes p _ (unless_plain (is_below x m) _ (changed_plain f))
settled_finishes p (purpose.Walk Ins k r) h m e = walked_ins_finishes p k r h m e
settled_finishes p (purpose.Walk Del k r) h m e = e

link_finishes : (c : Change) (b : ℕ) (spare : Option ℕ) (done : Bool) → Finishes (place.Link c b) (link_done c spare done)
link_finishes c b None done = tt
link_finishes c b (Some r) true = refl
link_finishes c b (Some r) false = plain_finishes (place.Link c b) _ (lost_link_plain c)

raise_finishes : (v : Survey) (g : Option ℕ) → Finishes (place.Raise v) (raise_done v g)
raise_finishes v None = tt
raise_finishes v (Some t) = refl

walked_head_finishes : (k : Walk) (r : ℕ) → Finishes (place.WalkHead k) (walked_head k r)
walked_head_finishes k r = search rules

pub next_finishes : (p : Place) (h : Hand) (g : Option ℕ) → Finishes p (next_of p h g)
next_finishes place.Idle h g = omega arith
next_finishes (place.Head l) h g = let a = plain_finishes (place.Head l) _ (absent_plain l 0) in search rules
next_finishes (place.Settle stage.First q) h g =
    cond_both (eqb (number_of g) pending) (settle_on stage.Clock q) (settled q h (mark_of (number_of g))) (Finishes (place.Settle stage.First q))
    (λ _. omega arith) (λ _. settled_finishes (place.Settle stage.First q) q h _ refl)
next_finishes (place.Settle stage.Clock q) h g = omega arith
next_finishes (place.Settle (stage.Swap n) q) h g = omega arith
next_finishes (place.Settle stage.Reread q) h g = settled_finishes (place.Settle stage.Reread q) q h _ refl
next_finishes (place.Link c b) h g = link_finishes c b h.spare _
next_finishes (place.End c r) h g = plain_finishes (place.End c r) _ (end_done_plain _ c r)
next_finishes (place.LostHead i) h g = omega arith
next_finishes (place.Raise v) h g = raise_finishes v g
next_finishes (place.WalkHead k) h g = walked_head_finishes k _
next_finishes (place.WalkOlder k r) h g = walked_ins_finishes (place.WalkOlder k r) k r h _ refl

may_finish_once : (p : Place) → may_finish p ≤ 1
may_finish_once (place.Settle st (purpose.Walk f k r)) = omega arith
may_finish_once (place.Settle st p) = omega arith
may_finish_once (place.WalkHead k) = omega arith
may_finish_once (place.WalkOlder k r) = omega arith
may_finish_once p = omega arith

-- pages that a worker has finished, and the one that it may still finish without a raise
abbrev pub pages_of : Worker → ℕ
pages_of v = v.serial + may_finish v.place

-- the clock is raised
abbrev pub raised_by : Next → ℕ
raised_by (next.Raised v t) = 1
raised_by x = 0

-- a worker at a walk may finish, or go on to any place
arrived_walk : (v : Worker) (o : Flow) → (arrived v o).serial + may_finish (arrived v o).place ≤ v.serial + 1
arrived_walk v (Continue q) = omega (arith, may_finish_once q)
arrived_walk v (Break a) = cond_both (finishes a) (finished v) (at v place.Idle) (λ u. pages_of u ≤ v.serial + 1) (λ _. omega arith) (λ _. omega arith)

arrived_out : (v : Worker) (o : Flow) → Finishes v.place (next.Moved o) → pages_of (arrived v o) ≤ pages_of v
arrived_out v (Continue q) f = omega (arith, f)
arrived_out v (Break a) f = rw (unfinished v.place a f) (omega arith)

pub followed_pages : (n : ℕ) (v : Worker) (h : Hand) (x : Next) → Finishes v.place x → pages_of (followed n v h x).worker ≤ pages_of v + raised_by x
followed_pages n v h (next.Moved o) f = let l = arrived_out v o f in omega arith
followed_pages n v h (next.Linked (change.Vertex i) r) f = omega arith
followed_pages n v h (next.Linked (change.Edge b) r) f = omega arith
followed_pages n v h (next.Raised k t) f = omega arith
followed_pages n v h (next.Walked k r) f =
    let o : WalkOutcome = walked_at v.book k.survey k.job n r h in
    let l = arrived_walk (with_book v o.book) o.out in
    omega (arith, f)

pub raised_once : (p : Place) (x : Next) → Finishes p x → raised_by x ≤ is_raise p
raised_once p (next.Raised v t) f = omega (arith, f)
raised_once p (next.Moved o) f = omega arith
raised_once p (next.Linked c r) f = omega arith
raised_once p (next.Walked k r) f = omega arith
