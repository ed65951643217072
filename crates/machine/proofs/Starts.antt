-- What follows outside the stages of settling a field: an answer, or a place that is in a call, at no later stage of settling, and not at its raise.
use Rattle.std.proofs.Common.{rules, ℕ, Bool, true, false, Some, None, Ok, Err, Option, Result}
use Rattle.std.specs.declared.ops.ControlFlow.TheVariants.{Continue, Break}
use Rattle.layout.specs.declared.names.Field.{Field}
use Rattle.layout.specs.declared.names.Field.TheVariants.{Ins, Del}
use Rattle.places.specs.declared.mark.Mark.{Mark}
use Rattle.places.specs.declared.place.Op.{Op}
use Rattle.places.specs.declared.place.Op.TheVariants.{Add, Remove, Contains}
use Rattle.places.specs.declared.place.Bound.{Bound}
use Rattle.places.specs.declared.place.Side.TheVariants.{Source, Target}
use Rattle.places.specs.declared.place.Look.{Look}
use Rattle.places.specs.declared.place.Look.TheVariants as look
use Rattle.places.specs.declared.place.Change.{Change}
use Rattle.places.specs.declared.place.Change.TheVariants as change
use Rattle.places.specs.declared.place.Survey.{Survey}
use Rattle.places.specs.declared.place.ServedPair.{ServedPair}
use Rattle.places.specs.declared.place.Job.{Job}
use Rattle.places.specs.declared.place.Job.TheVariants as job
use Rattle.places.specs.declared.place.Walk.{Walk}
use Rattle.places.specs.declared.place.Hand.{Hand}
use Rattle.places.specs.declared.place.Stage.TheVariants as stage
use Rattle.places.specs.declared.place.Purpose.{Purpose}
use Rattle.places.specs.declared.place.Purpose.TheVariants as purpose
use Rattle.places.specs.declared.place.Place.{Place}
use Rattle.places.specs.declared.place.Place.TheVariants as place
use Rattle.places.specs.Moved.{Next, Next as next}
use Rattle.places.specs.Marks.{is_ended, is_below}
use Rattle.places.specs.Flows.{Flow}
use Rattle.places.specs.Rules.{look_found, checked, bound_row, alive, absent, looked, unless_gone, owned, lost_to, lost_link, end_done}
use Rattle.places.specs.Walks.{walked_head, walked_ins}
use Rattle.places.specs.Nexts.{link_done, raise_done, settled}
use Rattle.books.specs.declared.book.Book.{Book}
use Rattle.books.specs.Books.{with_row}
use Rattle.books.specs.Serving.{go_on, open_from, serve_from}
use Rattle.books.specs.Walked.{resolved, walked_at}

abbrev pub Starts : Place → Type 0
Starts place.Idle = ⊥
Starts (place.Settle stage.First p) = Unit {0}
Starts (place.Settle st p) = ⊥
Starts (place.Raise v) = ⊥
Starts p = Unit {0}

abbrev pub StartsFlow : Flow → Type 0
StartsFlow (Continue p) = Starts p
StartsFlow (Break a) = Unit {0}

abbrev pub StartsNext : Next → Type 0
StartsNext (next.Moved o) = StartsFlow o
StartsNext n = Unit {0}

look_found_starts : (o : Op) (b : Bound) (f : Result ℕ ℕ) → StartsFlow (look_found o b f)
look_found_starts Remove b (Ok e) = tt
look_found_starts o b f = tt

checked_starts : (o : Op) (b : Bound) (f : Result ℕ ℕ) → StartsFlow (checked o b f)
checked_starts Add b (Ok e) = tt
checked_starts Contains b (Ok e) = tt
checked_starts Remove b (Ok e) = tt
checked_starts o b f = tt

alive_starts : (l : Look) (r : ℕ) (h : Hand) → StartsFlow (alive l r h)
alive_starts (look.Vertex Add i) r h = tt
alive_starts (look.Edge o b) r h = look_found_starts o b (bound_row b r h)
alive_starts l r h = tt

pub absent_starts : (l : Look) (r : ℕ) → StartsFlow (absent l r)
absent_starts (look.Vertex Add i) r = tt
absent_starts (look.Edge o b) r = look_found_starts o b (Err r)
absent_starts l r = tt

looked_starts : (l : Look) (r : ℕ) (h : Hand) (m : Mark) → StartsFlow (looked l r h m)
looked_starts l r h m = search (rules, alive_starts, absent_starts)

unless_starts : (gone : Bool) (o : Flow) → StartsFlow o → StartsFlow (unless_gone gone o)
unless_starts true o s = tt
unless_starts false o s = s

owned_starts : (f : Field) (c : Change) (r : ℕ) (m : Mark) → StartsFlow (owned f c r m)
owned_starts Ins (change.Vertex i) r m = tt
owned_starts Del (change.Vertex i) r m = tt
owned_starts f (change.Edge b) r m = tt

lost_to_starts : (c : Change) (r : ℕ) → StartsFlow (lost_to c r)
lost_to_starts (change.Vertex i) r = tt
lost_to_starts (change.Edge b) r = tt

lost_link_starts : (c : Change) → StartsFlow (lost_link c)
lost_link_starts (change.Vertex i) = tt
lost_link_starts (change.Edge b) = tt

pub link_done_starts : (c : Change) (spare : Option ℕ) (done : Bool) → StartsNext (link_done c spare done)
link_done_starts c None done = tt
link_done_starts c (Some r) true = tt
link_done_starts c (Some r) false = lost_link_starts c

pub end_done_starts : (done : Bool) (c : Change) (r : ℕ) → StartsFlow (end_done done c r)
end_done_starts true c r = tt
end_done_starts false c r = tt

pub raise_done_starts : (v : Survey) (g : Option ℕ) → StartsNext (raise_done v g)
raise_done_starts v None = tt
raise_done_starts v (Some t) = tt

pub walked_head_starts : (k : Walk) (r : ℕ) → StartsNext (walked_head k r)
walked_head_starts k r = search rules

pub walked_ins_starts : (k : Walk) (r : ℕ) (h : Hand) (m : Mark) → StartsNext (walked_ins k r h m)
walked_ins_starts k r h m = search rules

pub settled_starts : (p : Purpose) (h : Hand) (m : Mark) → StartsNext (settled p h m)
settled_starts (purpose.Look Del l r) h m = looked_starts l r h m
settled_starts (purpose.Own f c r) h m = owned_starts f c r m
settled_starts (purpose.LostDel c r) h m = lost_to_starts c r
settled_starts (purpose.SourceAgain o b) h m = unless_starts (is_ended m) _ tt
settled_starts (purpose.CheckAgain Source o b f) h m = unless_starts (is_ended m) _ tt
settled_starts (purpose.CheckAgain Target o b f) h m = unless_starts (is_ended m) _ (checked_starts o b f)
settled_starts (purpose.Compare Source b f e x) h m = unless_starts (is_below x m) _ tt
settled_starts (purpose.Compare Target b f e x) h m = unless_starts (is_below x m) _ tt
settled_starts (purpose.Walk Ins k r) h m = walked_ins_starts k r h m
settled_starts p h m = tt

go_on_starts : (v : Survey) (j : Option Job) → StartsFlow (go_on v j)
go_on_starts v None = tt
go_on_starts v (Some j) = tt

serve_starts : (b : Book) (v : Survey) (n x : ℕ) → StartsFlow (serve_from b v n x)
serve_starts b v n x = go_on_starts v (open_from b v n x)

resolved_starts : (b : Book) (v : Survey) (n : ℕ) (l : ServedPair) (h : Hand) → StartsFlow (resolved b v n l h).out
resolved_starts b v n l h = search (rules, serve_starts)

pub walked_at_starts : (b : Book) (v : Survey) (k : Job) (n r : ℕ) (h : Hand) → StartsFlow (walked_at b v k n r h).out
walked_at_starts b v (job.Key i) n r h = search (rules, serve_starts)
walked_at_starts b v (job.Start i) n r h = search (rules, serve_starts)
walked_at_starts b v (job.Pair l) n r h = search (rules, serve_starts, resolved_starts)
walked_at_starts b v (job.Target l e) n r h = resolved_starts (with_row b l.to r) v n l h
