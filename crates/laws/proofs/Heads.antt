-- The heads that a place names are there.
use Rattle.std.proofs.Common.{ℕ}
use Rattle.layout.specs.declared.names.Kind.{Kind}
use Rattle.layout.specs.declared.names.Cell.TheVariants as cell
use Rattle.layout.specs.Layout.{Named}
use Rattle.places.specs.declared.place.Look.{Look}
use Rattle.places.specs.declared.place.Look.TheVariants as look
use Rattle.places.specs.declared.place.Change.{Change}
use Rattle.places.specs.declared.place.Change.TheVariants as change
use Rattle.places.specs.declared.place.Job.{Job}
use Rattle.places.specs.declared.place.Job.TheVariants as job
use Rattle.places.specs.Touches.{look_head, change_head, job_head}
use Rattle.machine.specs.States.{State}
use Rattle.laws.specs.Fits.{Linked, FitLookBy, FitChangeBy, FitLook, FitChange, FitJob}

module _ (L : State → Kind → ℕ → Type 0) (s : State) where
  pub look_named_by : (l : Look) → FitLookBy L s l → Named s.sizes (cell.Head (look_head l))
  look_named_by (look.Vertex o i) f = f
  look_named_by (look.Source o p) f = f.0
  look_named_by (look.Target o p r) f = f.0.1
  look_named_by (look.Edge o b) f = f.keys

  pub change_named_by : (c : Change) → FitChangeBy L s c → Named s.sizes (cell.Head (change_head c))
  change_named_by (change.Vertex i) f = f
  change_named_by (change.Edge b) f = f.keys

pub look_named : (s : State) (l : Look) → FitLook s l → Named s.sizes (cell.Head (look_head l))
look_named s l f = look_named_by Linked s l f

pub change_named : (s : State) (c : Change) → FitChange s c → Named s.sizes (cell.Head (change_head c))
change_named s c f = change_named_by Linked s c f

pub job_named : (s : State) (j : Job) → FitJob s j → Named s.sizes (cell.Head (job_head j))
job_named s (job.Target l e) f = f.1
job_named s j f = f
