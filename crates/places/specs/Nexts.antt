-- What follows from a place and what its turn gave.
use Rattle.std.specs.Prelude.{ℕ, Bool, if◌then◌else◌, Some, None, Option, is_some, ◌==◌}
use Rattle.std.specs.Option.{unwrap_or}
use Rattle.std.specs.declared.ops.ControlFlow.TheVariants.{Continue, Break}
use Rattle.codes.specs.declared.answer.Answer.TheVariants.{VertexAlready, RowsSpent, ClockSpent}
use Rattle.layout.specs.declared.names.Field.TheVariants.{Ins, Del}
use Rattle.layout.specs.Rows.{no_row}
use Rattle.places.specs.Marks.{pending, mark_of}
use Rattle.places.specs.declared.mark.Mark.{Mark}
use Rattle.places.specs.Rules.{first, absent, looked, checked, unless_ended, unless_below, owned, lost_to, lost_link, end_done, edge_changed}
use Rattle.places.specs.Walks.{walked_head, walked_ins, walked_del}
use Rattle.places.specs.declared.place.Survey.{Survey}
use Rattle.places.specs.declared.place.Side.TheVariants.{Source, Target}
use Rattle.places.specs.declared.place.Look.TheVariants as look
use Rattle.places.specs.declared.place.Change.{Change}
use Rattle.places.specs.declared.place.Stage.{Stage}
use Rattle.places.specs.declared.place.Stage.TheVariants as stage
use Rattle.places.specs.declared.place.Purpose.{Purpose}
use Rattle.places.specs.declared.place.Purpose.TheVariants as purpose
use Rattle.places.specs.declared.place.Place.{Place}
use Rattle.places.specs.declared.place.Place.TheVariants as place
use Rattle.places.specs.declared.place.Hand.{Hand}
use Rattle.places.specs.Moved.{Next, Next as next}

-- a link turn answers 40 where no row is left
abbrev pub link_done : Change → Option ℕ → Bool → Next
link_done c None done = next.Moved (Break RowsSpent)
link_done c (Some r) done = if done then next.Linked c r else next.Moved (lost_link c)

-- a raise answers 41 where the clock is at its greatest
abbrev pub raise_done : Survey → Option ℕ → Next
raise_done v None = next.Moved (Break ClockSpent)
raise_done v (Some t) = next.Raised v t

-- The field is settled at a mark.
abbrev pub settled : Purpose → Hand → Mark → Next
settled (purpose.Look Ins l r) h m = next.Moved (first (purpose.Look Del l r))
settled (purpose.Look Del l r) h m = next.Moved (looked l r h m)
settled (purpose.Own f c r) h m = next.Moved (owned f c r m)
settled (purpose.LostDel c r) h m = next.Moved (lost_to c r)
settled (purpose.WinnerIns i r) h m = next.Moved (Break VertexAlready)
settled (purpose.SourceAgain o b) h m = next.Moved (unless_ended m (Continue (place.Head (look.Edge o b))))
settled (purpose.CheckAgain Source o b f) h m = next.Moved (unless_ended m (first (purpose.CheckAgain Target o b f)))
settled (purpose.CheckAgain Target o b f) h m = next.Moved (unless_ended m (checked o b f))
settled (purpose.Compare Source b f e x) h m = next.Moved (unless_below x m (first (purpose.Compare Target b f e x)))
settled (purpose.Compare Target b f e x) h m = next.Moved (unless_below x m (Break (edge_changed f)))
settled (purpose.Walk Ins k r) h m = walked_ins k r h m
settled (purpose.Walk Del k r) h m = walked_del k r h m

abbrev pub settle_on : Stage → Purpose → Next
settle_on st p = next.Moved (Continue (place.Settle st p))

-- Settling: where the field is pending, three turns more.
abbrev pub settling : Stage → Purpose → Hand → ℕ → Next
settling stage.First p h n = if n == pending then settle_on stage.Clock p else settled p h (mark_of n)
settling stage.Clock p h n = settle_on (stage.Swap n) p
settling (stage.Swap m) p h n = settle_on stage.Reread p
settling stage.Reread p h n = settled p h (mark_of n)

-- a number that was not read counts as 0
abbrev pub number_of : Option ℕ → ℕ
number_of g = unwrap_or g 0

abbrev pub next_of : Place → Hand → Option ℕ → Next
next_of place.Idle h g = next.Moved (Continue place.Idle)
next_of (place.Head l) h g =
    if number_of g == no_row then next.Moved (absent l no_row)
    else next.Moved (first (purpose.Look Ins l (number_of g)))
next_of (place.Settle st p) h g = settling st p h (number_of g)
next_of (place.Link c r) h g = link_done c h.spare (is_some g)
next_of (place.End c r) h g = next.Moved (end_done (is_some g) c r)
next_of (place.LostHead i) h g = next.Moved (first (purpose.WinnerIns i (number_of g)))
next_of (place.Raise v) h g = raise_done v g
next_of (place.WalkHead k) h g = walked_head k (number_of g)
next_of (place.WalkOlder k r) h g = walked_ins k r h (mark_of (number_of g))
