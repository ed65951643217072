-- The field that a purpose settles, the call that a place belongs to, and the change that this call has made.
use Rattle.std.specs.Prelude.{◌≡◌, ℕ, Some, None, Option}
use Rattle.layout.specs.declared.names.Kind.{Kind}
use Rattle.layout.specs.declared.names.Kind.TheVariants.{Vertex}
use Rattle.layout.specs.declared.names.Field.{Field}
use Rattle.layout.specs.declared.names.Field.TheVariants.{Ins, Del}
use Rattle.places.specs.declared.place.Op.{Op}
use Rattle.places.specs.declared.place.Op.TheVariants.{Add, Remove}
use Rattle.places.specs.declared.place.Look.{Look}
use Rattle.places.specs.declared.place.Look.TheVariants as look
use Rattle.places.specs.declared.place.Change.{Change}
use Rattle.places.specs.declared.place.Change.TheVariants as change
use Rattle.places.specs.declared.place.Call.{Call}
use Rattle.places.specs.declared.place.Call.TheVariants as call
use Rattle.places.specs.declared.place.Purpose.{Purpose}
use Rattle.places.specs.declared.place.Purpose.TheVariants as purpose
use Rattle.places.specs.declared.place.Place.{Place}
use Rattle.places.specs.declared.place.Place.TheVariants as place
use Rattle.places.specs.Touches.{side_row, look_kind, change_kind, job_kind}

abbrev pub purpose_kind : Purpose → Kind
purpose_kind (purpose.Look f l r) = look_kind l
purpose_kind (purpose.Own f c r) = change_kind c
purpose_kind (purpose.LostDel c r) = change_kind c
purpose_kind (purpose.Walk f k r) = job_kind k.job
purpose_kind p = Vertex

abbrev pub purpose_field : Purpose → Field
purpose_field (purpose.Look f l r) = f
purpose_field (purpose.Own f c r) = f
purpose_field (purpose.WinnerIns i r) = Ins
purpose_field (purpose.Walk f k r) = f
purpose_field p = Del

abbrev pub purpose_row : Purpose → ℕ
purpose_row (purpose.Look f l r) = r
purpose_row (purpose.Own f c r) = r
purpose_row (purpose.LostDel c r) = r
purpose_row (purpose.WinnerIns i r) = r
purpose_row (purpose.SourceAgain o b) = b.source
purpose_row (purpose.CheckAgain s o b f) = side_row b s
purpose_row (purpose.Compare s b f e x) = side_row b s
purpose_row (purpose.Walk f k r) = r

-- a change of ins is an add's, a change of del a remove's
abbrev pub change_op : Field → Op
change_op Ins = Add
change_op Del = Remove

abbrev pub change_call : Op → Change → Call
change_call o (change.Vertex i) = call.Vertex o i
change_call o (change.Edge b) = call.Edge o b.pair

abbrev pub look_call : Look → Call
look_call (look.Vertex o i) = call.Vertex o i
look_call (look.Source o p) = call.Edge o p
look_call (look.Target o p r) = call.Edge o p
look_call (look.Edge o b) = call.Edge o b.pair

abbrev pub purpose_call : Purpose → Call
purpose_call (purpose.Look f l r) = look_call l
purpose_call (purpose.Own f c r) = change_call (change_op f) c
purpose_call (purpose.LostDel c r) = change_call Remove c
purpose_call (purpose.WinnerIns i r) = call.Vertex Add i
purpose_call (purpose.SourceAgain o b) = call.Edge o b.pair
purpose_call (purpose.CheckAgain s o b f) = call.Edge o b.pair
purpose_call (purpose.Compare s b f e x) = call.Edge (change_op f) b.pair
purpose_call (purpose.Walk f k r) = call.Survey k.survey

-- a place of a call
abbrev pub InCall : Place → Call → Type 0
InCall place.Idle c = ⊥
InCall (place.Head l) c = look_call l ≡ c
InCall (place.Settle st p) c = purpose_call p ≡ c
InCall (place.Link d h) c = change_call Add d ≡ c
InCall (place.End d r) c = change_call Remove d ≡ c
InCall (place.LostHead i) c = call.Vertex Add i ≡ c
InCall (place.Raise v) c = call.Survey v ≡ c
InCall (place.WalkHead k) c = call.Survey k.survey ≡ c
InCall (place.WalkOlder k r) c = call.Survey k.survey ≡ c

-- a change that a call has made: of a field of a row
pub record MadeChange : Type 0 where
  pub field : Field
  pub change : Change
  pub row : ℕ

abbrev pub purpose_made : Purpose → Option MadeChange
purpose_made (purpose.Own f c r) = Some (record { field = f; change = c; row = r })
purpose_made (purpose.Compare s b f e x) = Some (record { field = f; change = change.Edge b; row = e })
purpose_made p = None

abbrev pub place_made : Place → Option MadeChange
place_made (place.Settle st p) = purpose_made p
place_made p = None
