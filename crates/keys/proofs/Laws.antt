-- What is used of a run, in one record.
use Rattle.std.proofs.Common.{◌≡◌, ℕ, suc, ◌<◌, ◌≤◌, ◌⊎◌, Some, Ok, Err}
use Rattle.codes.specs.declared.answer.Answer.{Answer}
use Rattle.layout.specs.declared.names.Kind.{Kind}
use Rattle.layout.specs.declared.names.Field.{Field}
use Rattle.layout.specs.Rows.{rows_all}
use Rattle.places.specs.declared.place.Op.{Op}
use Rattle.places.specs.declared.place.Bound.{Bound}
use Rattle.places.specs.declared.place.Change.{Change}
use Rattle.places.specs.declared.place.Call.{Call}
use Rattle.places.specs.declared.place.Call.TheVariants as call
use Rattle.machine.specs.declared.request.Request.TheVariants.{Turn}
use Rattle.machine.specs.declared.request.Reply.TheVariants.{Answered}
use Rattle.machine.specs.Requests.{reply_of}
use Rattle.order.specs.Marks.{Marks, MarksSound}
use Rattle.runs.specs.Runs.{RunInTime}
use Rattle.runs.specs.Views.{clock_at, place_at, LinkedAt}
use Rattle.runs.specs.Seen.{open_at}
use Rattle.runs.specs.Times.{LastingLaws}
use Rattle.runs.specs.Purposes.{place_made}
use Rattle.runs.specs.Known.{Firm, ChangeEvent}
use Rattle.runs.specs.Reasons.{BegunBy, RunKnows}
use Rattle.runs.specs.Events.{EventLaws}
use Rattle.runs.specs.Marking.{time_bound, MarksTellRun}
use Rattle.runs.specs.VertexFinds.{MadeNone, VertexFinds}
use Rattle.runs.specs.EdgeFinds.{EdgeHere}
use Rattle.runs.specs.EdgeMisses.{EdgeMissed}
use Rattle.keys.specs.Standing.{OfRows}

-- the keys of a call are keys
abbrev pub KeysIn : ℕ → Call → Type 0
KeysIn n (call.Vertex o i) = i < n
KeysIn n (call.Edge o p) = (p.from < n) × (p.to < n)
KeysIn n (call.Survey v) = Unit {0}

pub record RunLaws (R : RunInTime) (N : ℕ) (m : Marks) : Type 0 where
  pub last : LastingLaws R
  pub know : RunKnows R
  pub events : EventLaws R
  pub once : (k w b : ℕ) → w < R.sizes.workers → open_at R k w ≡ Some b → (f : Field) (p : ℕ) (d : Change) (r : ℕ) → p < k → ChangeEvent R f p b d r → place_made (place_at R k w) ≡ Some (record { field = f; change = d; row = r })
  pub tell : MarksTellRun R N m
  pub sound : MarksSound (time_bound N) (clock_at R N) m
  pub vertices : VertexFinds R N m
  pub edges : (b k : ℕ) (o : Op) (d : Bound) (e : ℕ) → MadeNone R N b → k ≤ N → d.pair.from < R.sizes.keys → d.pair.to < R.sizes.keys → Firm R k b o d (Ok e) → EdgeHere R N m b k d
  pub misses : (b k : ℕ) (o : Op) (d : Bound) (h : ℕ) → MadeNone R N b → k ≤ N → d.pair.from < R.sizes.keys → d.pair.to < R.sizes.keys → Firm R k b o d (Err h) → EdgeMissed R N b k m d
  -- linked rows are rows, and can be told from others
  pub row : (k : ℕ) (c : Kind) (r : ℕ) → LinkedAt R k c r → (0 < r) × (r ≤ rows_all R.sizes c)
  pub linked_or : (c : Kind) (r : ℕ) → LinkedAt R N c r ⊎ ¬ (LinkedAt R N c r)
  -- a call that began was accepted: its keys are keys, and its worker is one
  pub keys : (k w b : ℕ) (c : Call) → BegunBy R k w b c → KeysIn R.sizes.keys c
  pub worker : (k w b : ℕ) (c : Call) → BegunBy R k w b c → w < R.sizes.workers
  -- the turn that answers a call on vertices or edges leaves the clock, and makes no change; later the call makes none
  pub still : (a w b : ℕ) (c : Call) (x : Answer) → R.request a ≡ Turn w → reply_of (R.state a) (Turn w) ≡ Answered x → open_at R a w ≡ Some b → BegunBy R a w b c → OfRows c → clock_at R (suc a) ≤ clock_at R a
  pub over : (a w b : ℕ) (x : Answer) → R.request a ≡ Turn w → reply_of (R.state a) (Turn w) ≡ Answered x → open_at R a w ≡ Some b → (f : Field) (p : ℕ) (d : Change) (r : ℕ) → ChangeEvent R f p b d r → p < a
