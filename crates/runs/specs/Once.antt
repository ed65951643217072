-- A call makes one change: its place tells which.
use Rattle.std.specs.Prelude.{◌≡◌, ℕ, ◌<◌, Some}
use Rattle.layout.specs.declared.names.Field.{Field}
use Rattle.places.specs.declared.place.Change.{Change}
use Rattle.runs.specs.Runs.{RunInTime}
use Rattle.runs.specs.Views.{place_at}
use Rattle.runs.specs.Seen.{open_at}
use Rattle.runs.specs.Purposes.{place_made}
use Rattle.runs.specs.Known.{ChangeEvent}

-- while a worker has the call b open, each change that this call has made is the one that the worker's place tells
abbrev pub RunsChangeOnce : Type 0
RunsChangeOnce = (R : RunInTime) (k w b : ℕ) → w < R.sizes.workers → open_at R k w ≡ Some b → (f : Field) (p : ℕ) (d : Change) (r : ℕ) → p < k → ChangeEvent R f p b d r → place_made (place_at R k w) ≡ Some (record { field = f; change = d; row = r })
