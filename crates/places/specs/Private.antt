-- What a turn has to know of private cells, beside the cell that it touches. Touching these takes no turn.
use Rattle.std.specs.Prelude.{ℕ, Some, None, Option}
use Rattle.layout.specs.declared.names.Kind.{Kind}
use Rattle.layout.specs.declared.names.Field.TheVariants.{Ins, Del}
use Rattle.layout.specs.Rows.{no_row}
use Rattle.places.specs.Touches.{change_kind, job_kind}
use Rattle.places.specs.declared.place.Look.TheVariants as look
use Rattle.places.specs.declared.place.Job.{Job}
use Rattle.places.specs.declared.place.Job.TheVariants as job
use Rattle.places.specs.declared.place.Purpose.{Purpose}
use Rattle.places.specs.declared.place.Purpose.TheVariants as purpose
use Rattle.places.specs.declared.place.Place.{Place}
use Rattle.places.specs.declared.place.Place.TheVariants as place

-- the kind of row that a link takes
abbrev pub link_kind : Place → Option Kind
link_kind (place.Link c h) = Some (change_kind c)
link_kind p = None

-- a walk may go to the older row of the one whose ins it reads
abbrev pub older_row : Place → Option (Kind × ℕ)
older_row (place.Settle st (purpose.Walk Ins k r)) = Some (job_kind k.job, r)
older_row (place.WalkOlder k r) = Some (job_kind k.job, r)
older_row p = None

-- the edge row that a walk is about: the row in hand of a pair, or the row whose target is walked
abbrev pub job_edge : Job → ℕ → ℕ
job_edge (job.Pair l) r = r
job_edge (job.Target l e) r = e
job_edge j r = no_row

-- the edge row whose field is settled, where its source, target or weight may be wanted
abbrev pub edge_of : Purpose → ℕ
edge_of (purpose.Look Del (look.Edge o b) r) = r
edge_of (purpose.Walk Ins k r) = job_edge (k.job) no_row
edge_of (purpose.Walk Del k r) = job_edge k.job r
edge_of p = no_row

-- the edge row whose source, target or weight may be wanted
abbrev pub edge_row : Place → ℕ
edge_row (place.Settle st p) = edge_of p
edge_row (place.WalkHead k) = job_edge (k.job) no_row
edge_row (place.WalkOlder k r) = job_edge (k.job) no_row
edge_row p = no_row
