-- What a call finds of the edge of a pair, where it saw the edge and then both vertices alive.
use Rattle.std.specs.Prelude.{ℕ, ◌<◌, ◌≤◌, true, Ok}
use Rattle.places.specs.declared.place.Op.{Op}
use Rattle.places.specs.declared.place.Bound.{Bound}
use Rattle.order.specs.Marks.{Marks, MarksSound}
use Rattle.order.specs.Finds.{PairThere, EdgeFound}
use Rattle.runs.specs.Runs.{RunInTime}
use Rattle.runs.specs.Views.{clock_at}
use Rattle.runs.specs.Known.{TurnOf, Firm}
use Rattle.runs.specs.Marking.{time_bound, MarksTellRun}
use Rattle.runs.specs.VertexFinds.{turn_key, MadeNone}

module _ (R : RunInTime) (now : ℕ) (m : Marks) where
  -- at a turn of the call before time k both vertices and the edge are there
  pub record EdgeHere (b k : ℕ) (d : Bound) : Type 0 where
    pub time : ℕ
    pub turn : TurnOf R time b
    pub before : time < k
    pub pair : PairThere (time_bound now) m (turn_key R now time) d.pair d.source d.target
    pub found : EdgeFound (time_bound now) m (turn_key R now time) d.source d.target true

abbrev pub RunsFindEdges : Type 0
RunsFindEdges =
    (R : RunInTime) (now : ℕ) (m : Marks) → MarksTellRun R now m → MarksSound (time_bound now) (clock_at R now) m → (b k : ℕ) (o : Op) (d : Bound) (e : ℕ) → MadeNone R now b → k ≤ now → d.pair.from < R.sizes.keys → d.pair.to < R.sizes.keys → Firm R k b o d (Ok e) → EdgeHere R now m b k d
