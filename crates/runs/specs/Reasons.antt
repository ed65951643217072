-- Why an answer is right, in what the run did before it; and that every worker knows what its place says.
use Rattle.std.specs.Prelude.{◌≡◌, ℕ, suc, ◌<◌, ◌⊎◌, Some, None, Ok, Err, Option}
use Rattle.codes.specs.declared.answer.Answer.{Answer}
use Rattle.codes.specs.declared.answer.Answer.TheVariants.{VertexAdded, VertexAlready, VertexRemoved, VertexAbsent, VertexPresent, EdgeAlready, EdgeAbsent, EdgePresent, RowsSpent}
use Rattle.layout.specs.declared.names.Kind.TheVariants.{Vertex}
use Rattle.layout.specs.declared.names.Field.{Field}
use Rattle.layout.specs.declared.names.Field.TheVariants.{Ins, Del}
use Rattle.layout.specs.declared.names.Head.TheVariants as head
use Rattle.places.specs.declared.call.Begin.{Begin}
use Rattle.places.specs.declared.mark.Mark.TheVariants.{Stamp}
use Rattle.places.specs.declared.place.Op.{Op}
use Rattle.places.specs.declared.place.Op.TheVariants.{Add, Remove, Contains}
use Rattle.places.specs.declared.place.Bound.{Bound}
use Rattle.places.specs.declared.place.Change.{Change}
use Rattle.places.specs.declared.place.Change.TheVariants as change
use Rattle.places.specs.declared.place.Call.{Call}
use Rattle.places.specs.declared.place.Call.TheVariants as call
use Rattle.places.specs.declared.place.Place.TheVariants as place
use Rattle.places.specs.Rules.{edge_changed}
use Rattle.machine.specs.declared.request.Request.TheVariants as request
use Rattle.machine.specs.declared.request.Reply.TheVariants.{Answered}
use Rattle.machine.specs.Requests.{call_to_begin, reply_of}
use Rattle.runs.specs.Runs.{RunInTime}
use Rattle.runs.specs.Views.{mark_at, place_at, LinkedAt}
use Rattle.runs.specs.Seen.{open_at}
use Rattle.runs.specs.Times.{Before}
use Rattle.runs.specs.Purposes.{change_op, change_call, InCall, MadeChange, place_made}
use Rattle.runs.specs.Known.{TurnOf, StampedAt, Dead, Has, HeadWas, Firm, OwnChange, LinkedSince, NotBelow, StampedChange, Known}

-- the call answers 13 where key i is absent
abbrev pub Needs : Call → ℕ → Type 0
Needs (call.Vertex Add x) i = ⊥
Needs (call.Vertex o x) i = x ≡ i
Needs (call.Edge o p) i = (p.from ≡ i) ⊎ (p.to ≡ i)
Needs (call.Survey v) i = ⊥

abbrev pub vertex_changed : Field → Answer
vertex_changed Ins = VertexAdded
vertex_changed Del = VertexRemoved

-- row r is the bound row of one end of an edge, and i the key of that end
abbrev pub IsEnd : Bound → ℕ → ℕ → Type 0
IsEnd d i r = ((d.pair.from ≡ i) × (d.source ≡ r)) ⊎ ((d.pair.to ≡ i) × (d.target ≡ r))

module _ (R : RunInTime) where
  -- the answer a of call c, which began at b and had made the change m: one way for each sort of key that explains it
  pub data Why (k b : ℕ) (c : Call) (m : Option MadeChange) (a : Answer) : Type 0 where
    -- 10, 12: the change bears its stamp
    vertex_made : (f : Field) (i r : ℕ) → m ≡ Some (record { field = f; change = change.Vertex i; row = r }) → c ≡ call.Vertex (change_op f) i → a ≡ vertex_changed f → OwnChange R k b f (change.Vertex i) r → LinkedAt R k Vertex r → StampedAt R k Vertex f r → Why k b c m a
    -- 11, 14: a living head was seen
    vertex_here : (i r : ℕ) → m ≡ None → ((c ≡ call.Vertex Add i) × (a ≡ VertexAlready)) ⊎ ((c ≡ call.Vertex Contains i) × (a ≡ VertexPresent)) → Has R k b i r → Why k b c m a
    -- 11: the row that was linked since the call began bears the stamp of its ins
    vertex_won : (i r : ℕ) → m ≡ None → c ≡ call.Vertex Add i → a ≡ VertexAlready → LinkedSince R k b i r → HeadWas R k b (head.Vertex i) r → LinkedAt R k Vertex r → StampedAt R k Vertex Ins r → Why k b c m a
    -- 13: the head was no row, or a dead one
    vertex_gone : (i r : ℕ) → m ≡ None → Needs c i → a ≡ VertexAbsent → HeadWas R k b (head.Vertex i) r → (r ≡ 0) ⊎ Dead R k r → Why k b c m a
    -- 13: a row that the call saw alive is dead
    vertex_ended : (i r : ℕ) → m ≡ None → Needs c i → a ≡ VertexAbsent → Has R k b i r → Dead R k r → Why k b c m a
    -- 13 from compare: a row of the edge ended with a lower stamp than the change
    ended_below : (f : Field) (d : Bound) (e x i r n : ℕ) → m ≡ Some (record { field = f; change = change.Edge d; row = e }) → c ≡ call.Edge (change_op f) d.pair → a ≡ VertexAbsent → StampedChange R k b d f e x → IsEnd d i r → Has R k b i r → LinkedAt R k Vertex r → mark_at R k Vertex Del r ≡ Stamp n → n < x → Why k b c m a
    -- 20, 22: neither row of the edge ended with a lower stamp
    edge_made : (f : Field) (d : Bound) (e x : ℕ) → m ≡ Some (record { field = f; change = change.Edge d; row = e }) → c ≡ call.Edge (change_op f) d.pair → a ≡ edge_changed f → StampedChange R k b d f e x → NotBelow R k b f e x d.source → NotBelow R k b f e x d.target → Why k b c m a
    -- 21, 24: the edge row was seen not ended, and both vertices alive after it
    edge_here : (o : Op) (d : Bound) (e : ℕ) → m ≡ None → c ≡ call.Edge o d.pair → ((o ≡ Add) × (a ≡ EdgeAlready)) ⊎ ((o ≡ Contains) × (a ≡ EdgePresent)) → Firm R k b o d (Ok e) → Why k b c m a
    -- 23: the edge head was no row or not the edge, and both vertices alive after it
    edge_missed : (o : Op) (d : Bound) (h : ℕ) → m ≡ None → c ≡ call.Edge o d.pair → a ≡ EdgeAbsent → (o ≡ Remove) ⊎ (o ≡ Contains) → Firm R k b o d (Err h) → Why k b c m a
    -- 40: the worker had no row left
    rows_spent : (d : Change) → m ≡ None → c ≡ change_call Add d → a ≡ RowsSpent → Before k (λ t. TurnOf R t b) → Why k b c m a

  -- of a snapshot or reach nothing is said here
  abbrev pub HasReason : ℕ → ℕ → Call → Option MadeChange → Answer → Type 0
  HasReason k b (call.Survey v) m a = Unit {0}
  HasReason k b c m a = Why k b c m a

  -- worker w began call c at time b
  pub record BegunBy (k w b : ℕ) (c : Call) : Type 0 where
    pub before : b < k
    pub begin : Begin
    pub asked : R.request b ≡ request.Begin begin
    pub worker : begin.worker ≡ w
    pub call : call_to_begin (R.state b) begin ≡ Ok c

  -- a worker has no call open and is idle, or knows what its place says in its call
  pub data WorkerKnows (k w : ℕ) : Type 0 where
    free : open_at R k w ≡ None → place_at R k w ≡ place.Idle → WorkerKnows k w
    busy : (b : ℕ) (c : Call) → open_at R k w ≡ Some b → BegunBy k w b c → InCall (place_at R k w) c → Known R k b (place_at R k w) → WorkerKnows k w

  -- the answer of turn k is right, for the call that its worker had open
  pub record AnswerRight (k w : ℕ) (a : Answer) : Type 0 where
    pub began : ℕ
    pub call : Call
    pub whose : open_at R k w ≡ Some began
    pub begun : BegunBy k w began call
    pub right : HasReason (suc k) began call (place_made (place_at R k w)) a

  pub record RunKnows : Type 0 where
    pub workers : (k w : ℕ) → w < R.sizes.workers → WorkerKnows k w
    pub answers : (k w : ℕ) (a : Answer) → R.request k ≡ request.Turn w → reply_of (R.state k) (request.Turn w) ≡ Answered a → AnswerRight k w a

abbrev pub RunsKnow : Type 0
RunsKnow = (R : RunInTime) → RunKnows R
