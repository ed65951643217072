-- What a call finds of the edge of a pair, where it read a head that is not the edge, and then saw both vertices alive.
use Rattle.std.specs.Prelude.{ℕ, ◌<◌, ◌≤◌, ◌⊎◌, false, Err}
use Rattle.layout.specs.declared.names.Kind.{Kind}
use Rattle.places.specs.declared.place.Op.{Op}
use Rattle.places.specs.declared.place.Bound.{Bound}
use Rattle.order.specs.Keys.{Key}
use Rattle.order.specs.Marks.{Marks, MarksSound}
use Rattle.order.specs.Finds.{PairThere, EdgeFound}
use Rattle.runs.specs.Runs.{RunInTime}
use Rattle.runs.specs.Views.{clock_at}
use Rattle.runs.specs.Known.{TurnOf, Firm}
use Rattle.runs.specs.Events.{EndEventOfKind}
use Rattle.runs.specs.Marking.{time_bound, MarksTellRun}
use Rattle.runs.specs.VertexFinds.{turn_key, after_key, MadeNone}

module _ (R : RunInTime) (now b k : ℕ) where
  -- a key of the call before time k: of one of its turns, or right after an end since it began
  pub data KeyBefore : Key → Type 0 where
    at_turn : (t : ℕ) → TurnOf R t b → t < k → KeyBefore (turn_key R now t)
    after_end : (c : Kind) (r p n : ℕ) → EndEventOfKind R c r p → p < k → clock_at R p ≤ n → n ≤ clock_at R k → (b ≤ p) ⊎ (clock_at R b < n) → KeyBefore (after_key R now n p b)

  -- at such a key both vertices are there, and the edge is not
  pub record EdgeMissed (m : Marks) (d : Bound) : Type 0 where
    pub key : Key
    pub before : KeyBefore key
    pub pair : PairThere (time_bound now) m key d.pair d.source d.target
    pub found : EdgeFound (time_bound now) m key d.source d.target false

abbrev pub RunsMissEdges : Type 0
RunsMissEdges =
    (R : RunInTime) (now : ℕ) (m : Marks) → MarksTellRun R now m → MarksSound (time_bound now) (clock_at R now) m → (b k : ℕ) (o : Op) (d : Bound) (h : ℕ) → MadeNone R now b → k ≤ now → d.pair.from < R.sizes.keys → d.pair.to < R.sizes.keys → Firm R k b o d (Err h) → EdgeMissed R now b k m d
