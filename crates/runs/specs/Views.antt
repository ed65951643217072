-- What the cells and the records of a run hold at a time.
use Rattle.std.specs.Prelude.{ℕ}
use Rattle.layout.specs.declared.names.Kind.{Kind}
use Rattle.layout.specs.declared.names.Field.{Field}
use Rattle.layout.specs.declared.names.Head.{Head}
use Rattle.layout.specs.declared.names.Cell.{Cell}
use Rattle.layout.specs.declared.names.Cell.TheVariants as cell
use Rattle.places.specs.declared.mark.Mark.{Mark}
use Rattle.places.specs.declared.place.Place.{Place}
use Rattle.places.specs.Marks.{mark_of}
use Rattle.machine.specs.Turns.{worker_at}
use Rattle.laws.specs.Fits.{Linked}
use Rattle.laws.specs.Changes.{number_in}
use Rattle.runs.specs.Runs.{RunInTime}

module _ (R : RunInTime) where
  abbrev pub number_at : ℕ → Cell → ℕ
  number_at k c = number_in (R.state k) c

  abbrev pub clock_at : ℕ → ℕ
  clock_at k = number_at k cell.Clock

  abbrev pub head_at : ℕ → Head → ℕ
  head_at k h = number_at k (cell.Head h)

  -- ins or del of a row: not ended, pending or a stamp
  abbrev pub mark_at : ℕ → Kind → Field → ℕ → Mark
  mark_at k c f r = mark_of (number_at k (cell.Stamp c f r))

  abbrev pub place_at : ℕ → ℕ → Place
  place_at k w = (worker_at (R.state k) w).place

  abbrev pub LinkedAt : ℕ → Kind → ℕ → Type 0
  LinkedAt k c r = Linked (R.state k) c r
