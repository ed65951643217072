-- What follows from a place and what its turn gave, for the calls on vertices and edges.
use Rattle.std.specs.Prelude.{ℕ, Bool, true, false, if◌then◌else◌, ◌&&◌, Ok, Err, Result, ◌==◌}
use Rattle.std.specs.Option.{unwrap_or}
use Rattle.std.specs.declared.ops.ControlFlow.TheVariants.{Continue, Break}
use Rattle.codes.specs.declared.answer.Answer.{Answer}
use Rattle.codes.specs.declared.answer.Answer.TheVariants.{VertexAdded, VertexAlready, VertexRemoved, VertexAbsent, VertexPresent, EdgeAdded, EdgeAlready, EdgeRemoved, EdgeAbsent, EdgePresent}
use Rattle.layout.specs.declared.names.Field.{Field}
use Rattle.layout.specs.declared.names.Field.TheVariants.{Ins, Del}
use Rattle.places.specs.Marks.{stamp_of, is_ended, is_below}
use Rattle.places.specs.Flows.{Flow}
use Rattle.places.specs.declared.mark.Mark.{Mark}
use Rattle.places.specs.declared.place.Op.{Op}
use Rattle.places.specs.declared.place.Op.TheVariants.{Add, Remove, Contains}
use Rattle.places.specs.declared.place.Bound.{Bound}
use Rattle.places.specs.declared.place.Side.{Side}
use Rattle.places.specs.declared.place.Side.TheVariants.{Source, Target}
use Rattle.places.specs.declared.place.Look.{Look}
use Rattle.places.specs.declared.place.Look.TheVariants as look
use Rattle.places.specs.declared.place.Change.{Change}
use Rattle.places.specs.declared.place.Change.TheVariants as change
use Rattle.places.specs.declared.place.Hand.{Hand}
use Rattle.places.specs.declared.place.Stage.TheVariants.{First}
use Rattle.places.specs.declared.place.Purpose.{Purpose}
use Rattle.places.specs.declared.place.Purpose.TheVariants as purpose
use Rattle.places.specs.declared.place.Place.TheVariants as place

-- on to settling a field
abbrev pub first : Purpose → Flow
first p = Continue (place.Settle First p)

-- After the look at an edge: check again. Only a remove that found the edge goes on to swap its del.
abbrev pub look_found : Op → Bound → Result ℕ ℕ → Flow
look_found Remove b (Ok e) = Continue (place.End (change.Edge b) e)
look_found o b f = first (purpose.CheckAgain Source o b f)

-- After checking again: an add links a row over the head that it read, or answers 21; the others answer 24 or 23.
abbrev pub checked : Op → Bound → Result ℕ ℕ → Flow
checked Add b (Err h) = Continue (place.Link (change.Edge b) h)
checked Add b (Ok e) = Break EdgeAlready
checked Contains b (Err h) = Break EdgeAbsent
checked Contains b (Ok e) = Break EdgePresent
checked Remove b (Err h) = Break EdgeAbsent
checked Remove b (Ok e) = Continue (place.End (change.Edge b) e)

-- an edge row is the edge if its two rows are the bound ones
abbrev pub bound_row : Bound → ℕ → Hand → Result ℕ ℕ
bound_row b r h = if h.source == b.source && h.target == b.target then Ok r else Err r

-- The look met a row that has not ended. A vertex is alive: 11 of an add, 14 of a contains, the swap of del of a remove.
-- The source leads to the look at the target, the target to settling the source's del once more.
abbrev pub alive : Look → ℕ → Hand → Flow
alive (look.Vertex Add i) r h = Break VertexAlready
alive (look.Vertex Remove i) r h = Continue (place.End (change.Vertex i) r)
alive (look.Vertex Contains i) r h = Break VertexPresent
alive (look.Source o p) r h = Continue (place.Head (look.Target o p r))
alive (look.Target o p s) r h = first (purpose.SourceAgain o (record { pair = p; source = s; target = r }))
alive (look.Edge o b) r h = look_found o b (bound_row b r h)

-- The look met no row, or one that has ended: an add of a vertex links over it; a vertex that is needed answers 13.
abbrev pub absent : Look → ℕ → Flow
absent (look.Vertex Add i) h = Continue (place.Link (change.Vertex i) h)
absent (look.Edge o b) h = look_found o b (Err h)
absent l h = Break VertexAbsent

abbrev pub looked : Look → ℕ → Hand → Mark → Flow
looked l r h del = if is_ended del then absent l r else alive l r h

-- a vertex that has ended, or ended below x, answers 13
abbrev pub unless_gone : Bool → Flow → Flow
unless_gone gone o = if gone then Break VertexAbsent else o

-- check again
abbrev pub unless_ended : Mark → Flow → Flow
unless_ended del o = unless_gone (is_ended del) o

-- after the source the target, then the call goes on
abbrev pub checked_side : Side → Op → Bound → Result ℕ ℕ → Flow
checked_side Source o b f = first (purpose.CheckAgain Target o b f)
checked_side Target o b f = checked o b f

-- compare x
abbrev pub unless_below : ℕ → Mark → Flow → Flow
unless_below x del o = unless_gone (is_below x del) o

-- the answer of a change of an edge: 20 for an ins, 22 for a del
abbrev pub edge_changed : Field → Answer
edge_changed Ins = EdgeAdded
edge_changed Del = EdgeRemoved

-- after the source the target, then the answer
abbrev pub compared_side : Side → Bound → Field → ℕ → ℕ → Flow
compared_side Source b f e x = first (purpose.Compare Target b f e x)
compared_side Target b f e x = Break (edge_changed f)

-- the worker's own change bears its stamp: a vertex change answers, an edge change is compared with the ends of its two vertices
abbrev pub owned : Field → Change → ℕ → Mark → Flow
owned Ins (change.Vertex i) r m = Break VertexAdded
owned Del (change.Vertex i) r m = Break VertexRemoved
owned f (change.Edge b) r m = first (purpose.Compare Source b f r (unwrap_or (stamp_of m) 0))

-- the swap of del was lost, and the winner's end bears its stamp: a vertex answers 13, an edge call checks again
abbrev pub lost_to : Change → ℕ → Flow
lost_to (change.Vertex i) r = Break VertexAbsent
lost_to (change.Edge b) r = first (purpose.CheckAgain Source Remove b (Err r))

-- a lost link: an add of a vertex reads the head again, an add of an edge starts at bind
abbrev pub lost_link : Change → Flow
lost_link (change.Vertex i) = Continue (place.LostHead i)
lost_link (change.Edge b) = Continue (place.Head (look.Source Add b.pair))

-- the swap of del: the worker's own, or lost
abbrev pub end_done : Bool → Change → ℕ → Flow
end_done true c r = first (purpose.Own Del c r)
end_done false c r = first (purpose.LostDel c r)
