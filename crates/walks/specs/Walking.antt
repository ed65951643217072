-- One walk of a head, turn by turn.
use Rattle.std.specs.Prelude.{◌≡◌, ℕ, suc, ◌<◌, ◌≤◌, if◌then◌else◌, ◌⊎◌, Some, None, Option, ◌==◌, nat_lt}
use Rattle.std.specs.Bool.{then_some}
use Rattle.std.specs.declared.ops.ControlFlow.TheVariants.{Continue}
use Rattle.layout.specs.declared.names.Kind.{Kind}
use Rattle.layout.specs.declared.names.Cell.{Cell}
use Rattle.layout.specs.declared.names.Cell.TheVariants as cell
use Rattle.layout.specs.Rows.{no_row}
use Rattle.places.specs.declared.place.Hand.{Hand}
use Rattle.places.specs.declared.place.Walk.{Walk}
use Rattle.places.specs.declared.place.Place.{Place}
use Rattle.places.specs.declared.place.Place.TheVariants.{WalkHead}
use Rattle.places.specs.declared.place.Touch.{Touch}
use Rattle.places.specs.declared.place.Touch.TheVariants as touch
use Rattle.places.specs.Moved.{Next, Next as next}
use Rattle.places.specs.Touches.{touch_of, job_head}
use Rattle.places.specs.Private.{older_row, edge_row}
use Rattle.places.specs.Nexts.{next_of}
use Rattle.walks.specs.Memory.{Memory}
use Rattle.walks.specs.Courses.{Course, Laws}
use Rattle.walks.specs.Visible.{Found}

abbrev pub older_in : Memory → Option (Kind × ℕ) → ℕ
older_in m None = no_row
older_in m (Some p) = m.older p.0 p.1

-- what a cell of an edge row holds, where there is one
abbrev pub edge_in : (ℕ → ℕ) → ℕ → ℕ
edge_in cells e = if e == no_row then 0 else cells e

-- what a worker that walks at t has at hand at a place
abbrev pub hand_in : Memory → ℕ → Place → Hand
hand_in m t p = record {
  spare = None;
  t = t;
  older = older_in m (older_row p);
  source = edge_in m.source (edge_row p);
  target = edge_in m.target (edge_row p);
  weight = edge_in m.weight (edge_row p);
}

-- the number in a cell that a walk touches
abbrev pub number_touched : Memory → Cell → ℕ
number_touched m cell.Clock = m.clock
number_touched m (cell.Head h) = m.head h
number_touched m (cell.Stamp k f r) = m.stamp k f r
number_touched m c = 0

-- what the operation of a turn gives; the clock is raised below top
abbrev pub got_in : ℕ → Memory → Touch → Option ℕ
got_in top m (touch.Read c) = Some (number_touched m c)
got_in top m (touch.Swap c old new) = then_some (number_touched m c == old) old
got_in top m touch.Raise = if nat_lt m.clock top then Some m.clock else None
got_in top m o = None

-- what the operation does to the memory, from m to m'
abbrev pub Done : ℕ → Memory → Memory → Touch → Type 0
Done top m m' (touch.Swap c old new) = number_touched m c ≡ old → number_touched m' c ≡ new
Done top m m' touch.Raise = m.clock < top → m'.clock ≡ suc m.clock
Done top m m' o = Unit {0}

-- what follows from a place of a worker that walks at t
abbrev pub next_in : ℕ → Memory → ℕ → Place → Next
next_in top m t p = next_of p (hand_in m t p) (got_in top m (touch_of p None))

-- The places of one walk from time `from` to time `till`. Its turns come at any times.
pub record Walking (c : Course) (top t : ℕ) (w : Walk) (from till : ℕ) (place : ℕ → Place) : Type 0 where
  -- the clock was raised from t before
  pub raised : t < (c.at from).clock
  pub starts : place from ≡ WalkHead w
  pub turns : (k : ℕ) → from ≤ k → k < till → (place (suc k) ≡ place k) ⊎
      ((next_in top (c.at k) t (place k) ≡ next.Moved (Continue (place (suc k)))) × Done top (c.at k) (c.at (suc k)) (touch_of (place k) None))

-- a walk that ends at time `till` has found the row of its head that is visible at t, or no row
abbrev pub WalksFind : Type 0
WalksFind = (c : Course) (n : ℕ) → Laws c n → (top t : ℕ) (w : Walk) (from till : ℕ) (place : ℕ → Place) → Walking c top t w from till place →
    from ≤ till → (v : Walk) (r : ℕ) → next_in top (c.at till) t (place till) ≡ next.Walked v r → (v ≡ w) × Found c t till (job_head w.job) r
