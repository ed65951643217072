-- To walk a head: read it, settle the first row's ins, go to older rows while ins is above t, settle del of the first row that is not.
use Rattle.std.specs.Prelude.{ℕ, Bool, true, false, if◌then◌else◌, ◌==◌, nat_lt}
use Rattle.std.specs.declared.ops.ControlFlow.TheVariants.{Continue}
use Rattle.layout.specs.declared.names.Field.TheVariants.{Ins, Del}
use Rattle.layout.specs.Rows.{no_row}
use Rattle.places.specs.Rules.{first}
use Rattle.places.specs.declared.mark.Mark.{Mark}
use Rattle.places.specs.declared.mark.Mark.TheVariants.{NotEnded, Pending, Stamp}
use Rattle.places.specs.declared.place.Survey.{Survey}
use Rattle.places.specs.declared.place.Survey.TheVariants.{Snapshot, Reach}
use Rattle.places.specs.declared.place.Job.{Job}
use Rattle.places.specs.declared.place.Job.TheVariants as job
use Rattle.places.specs.declared.place.Walk.{Walk}
use Rattle.places.specs.declared.place.Hand.{Hand}
use Rattle.places.specs.declared.place.Purpose.TheVariants as purpose
use Rattle.places.specs.declared.place.Place.TheVariants as place
use Rattle.places.specs.Moved.{Next, Next as next}

-- a snapshot walks all keys rising, a reach its start
abbrev pub first_job : Survey → Job
first_job Snapshot = job.Key 0
first_job (Reach i) = job.Start i

-- a walk that comes to no row finds nothing visible
abbrev pub walked_head : Walk → ℕ → Next
walked_head k r = if r == no_row then next.Walked k no_row else next.Moved (first (purpose.Walk Ins k r))

abbrev pub above : ℕ → Mark → Bool
above t NotEnded = false
above t Pending = true
above t (Stamp n) = nat_lt t n

abbrev pub walked_ins : Walk → ℕ → Hand → Mark → Next
walked_ins k r h ins =
    if above h.t ins then (if h.older == no_row then next.Walked k no_row else next.Moved (Continue (place.WalkOlder k h.older)))
    else next.Moved (first (purpose.Walk Del k r))

-- visible if del is 0 or above t
abbrev pub visible : ℕ → Mark → Bool
visible t NotEnded = true
visible t Pending = true
visible t (Stamp n) = nat_lt t n

abbrev pub walked_del : Walk → ℕ → Hand → Mark → Next
walked_del k r h del = next.Walked k (if visible h.t del then r else no_row)
