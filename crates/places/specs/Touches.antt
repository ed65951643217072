-- Which operation on which named cell a turn does.
use Rattle.std.specs.Prelude.{ℕ, Some, None, Option}
use Rattle.layout.specs.declared.names.Kind.{Kind}
use Rattle.layout.specs.declared.names.Kind.TheVariants as kind
use Rattle.layout.specs.declared.names.Field.TheVariants.{Ins, Del}
use Rattle.layout.specs.declared.names.Head.{Head}
use Rattle.layout.specs.declared.names.Head.TheVariants as head
use Rattle.layout.specs.declared.names.Cell.{Cell}
use Rattle.layout.specs.declared.names.Cell.TheVariants as cell
use Rattle.places.specs.Marks.{pending}
use Rattle.places.specs.declared.place.Bound.{Bound}
use Rattle.places.specs.declared.place.Side.{Side}
use Rattle.places.specs.declared.place.Side.TheVariants.{Source, Target}
use Rattle.places.specs.declared.place.Look.{Look}
use Rattle.places.specs.declared.place.Look.TheVariants as look
use Rattle.places.specs.declared.place.Change.{Change}
use Rattle.places.specs.declared.place.Change.TheVariants as change
use Rattle.places.specs.declared.place.Job.{Job}
use Rattle.places.specs.declared.place.Job.TheVariants as job
use Rattle.places.specs.declared.place.Stage.{Stage}
use Rattle.places.specs.declared.place.Stage.TheVariants as stage
use Rattle.places.specs.declared.place.Purpose.{Purpose}
use Rattle.places.specs.declared.place.Purpose.TheVariants as purpose
use Rattle.places.specs.declared.place.Place.{Place}
use Rattle.places.specs.declared.place.Place.TheVariants as place
use Rattle.places.specs.declared.place.Touch.{Touch}
use Rattle.places.specs.declared.place.Touch.TheVariants as touch

-- the row of the vertex at one end of an edge
abbrev pub side_row : Bound → Side → ℕ
side_row b Source = b.source
side_row b Target = b.target

-- a vertex call looks at its vertex; an edge call at its source, its target, then its pair
abbrev pub look_head : Look → Head
look_head (look.Vertex o i) = head.Vertex i
look_head (look.Source o p) = head.Vertex p.from
look_head (look.Target o p s) = head.Vertex p.to
look_head (look.Edge o b) = head.Edge (b.pair.from) (b.pair.to)

abbrev pub head_kind : Head → Kind
head_kind (head.Vertex i) = kind.Vertex
head_kind (head.Edge i j) = kind.Edge

abbrev pub look_kind : Look → Kind
look_kind l = head_kind (look_head l)

abbrev pub change_head : Change → Head
change_head (change.Vertex i) = head.Vertex i
change_head (change.Edge b) = head.Edge (b.pair.from) (b.pair.to)

abbrev pub change_kind : Change → Kind
change_kind c = head_kind (change_head c)

abbrev pub job_head : Job → Head
job_head (job.Key i) = head.Vertex i
job_head (job.Start i) = head.Vertex i
job_head (job.Pair l) = head.Edge l.from l.to
job_head (job.Target l e) = head.Vertex l.to

abbrev pub job_kind : Job → Kind
job_kind j = head_kind (job_head j)

-- the field that is settled
abbrev pub settled_field : Purpose → Cell
settled_field (purpose.Look f l r) = cell.Stamp (look_kind l) f r
settled_field (purpose.Own f c r) = cell.Stamp (change_kind c) f r
settled_field (purpose.LostDel c r) = cell.Stamp (change_kind c) Del r
settled_field (purpose.WinnerIns i r) = cell.Stamp kind.Vertex Ins r
settled_field (purpose.SourceAgain o b) = cell.Stamp kind.Vertex Del b.source
settled_field (purpose.CheckAgain s o b f) = cell.Stamp kind.Vertex Del (side_row b s)
settled_field (purpose.Compare s b f e x) = cell.Stamp kind.Vertex Del (side_row b s)
settled_field (purpose.Walk f k r) = cell.Stamp (job_kind k.job) f r

-- to settle a field: read it; read the clock; swap pending for that number; read it again
abbrev pub settles : Cell → Stage → Touch
settles f stage.First = touch.Read f
settles f stage.Clock = touch.Read cell.Clock
settles f (stage.Swap n) = touch.Swap f pending n
settles f stage.Reread = touch.Read f

-- a link touches nothing where no row is left
abbrev pub link_touch : Change → ℕ → Option ℕ → Touch
link_touch c h None = touch.Nothing
link_touch c h (Some r) = touch.Link c h r

abbrev pub touch_of : Place → Option ℕ → Touch
touch_of place.Idle spare = touch.Nothing
touch_of (place.Head l) spare = touch.Read (cell.Head (look_head l))
touch_of (place.Settle st p) spare = settles (settled_field p) st
touch_of (place.Link c h) spare = link_touch c h spare
touch_of (place.End c r) spare = touch.Swap (cell.Stamp (change_kind c) Del r) 0 pending
touch_of (place.LostHead i) spare = touch.Read (cell.Head (head.Vertex i))
touch_of (place.Raise v) spare = touch.Raise
touch_of (place.WalkHead k) spare = touch.Read (cell.Head (job_head k.job))
touch_of (place.WalkOlder k r) spare = touch.Read (cell.Stamp (job_kind k.job) Ins r)
