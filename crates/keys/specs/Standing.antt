-- Where the calls on vertices and edges of a run stand: a key for each, what the call finds there, and the change that it makes.
use Rattle.std.specs.Prelude.{◌≡◌, ℕ, suc, ◌+◌, ◌<◌, ◌≤◌, true, false, ◌⊎◌, Some}
use Rattle.codes.specs.declared.answer.Answer.{Answer}
use Rattle.layout.specs.declared.names.Field.{Field}
use Rattle.layout.specs.declared.names.Field.TheVariants.{Ins, Del}
use Rattle.places.specs.declared.mark.Mark.TheVariants.{Stamp}
use Rattle.places.specs.declared.place.Change.{Change}
use Rattle.places.specs.declared.place.Change.TheVariants as change
use Rattle.places.specs.declared.place.Call.{Call}
use Rattle.places.specs.declared.place.Call.TheVariants as call
use Rattle.places.specs.Touches.{change_kind}
use Rattle.machine.specs.declared.request.Request.TheVariants.{Turn}
use Rattle.machine.specs.declared.request.Reply.TheVariants.{Answered}
use Rattle.machine.specs.Requests.{reply_of}
use Rattle.order.specs.Graph.{Feed, asks}
use Rattle.order.specs.Past.{fed_until}
use Rattle.order.specs.Keys.{Key, Bounded, Fits}
use Rattle.order.specs.Marks.{Mark, Marks, MarksSound, change_key, edge_effect, edge_key}
use Rattle.order.specs.Finds.{RowChange, no_change, vertex_born, vertex_ends, edge_born, edge_ends, makes_change, Finds}
use Rattle.runs.specs.Runs.{RunInTime}
use Rattle.runs.specs.Views.{clock_at, mark_at}
use Rattle.runs.specs.Seen.{open_at}
use Rattle.runs.specs.Times.{Before}
use Rattle.runs.specs.Known.{TurnOf, ChangeEvent}
use Rattle.runs.specs.Reasons.{BegunBy}
use Rattle.runs.specs.Marking.{time_bound, MarksTellRun}

-- a call on vertices or edges
abbrev pub OfRows : Call → Type 0
OfRows (call.Survey v) = ⊥
OfRows c = Unit {0}

module _ (R : RunInTime) (now : ℕ) where
  -- whose a key is: its time is that of a turn of the call; or its third part is, where a change has gone back before the end of a vertex; or it is right
  -- after a change, and its third part names the call
  pub data Owner (k : Key) (b : ℕ) : Type 0 where
    at_turn : k.part ≡ 0 → TurnOf R k.time b → Owner k b
    at_change : k.part ≡ time_bound now → TurnOf R k.time b → Owner k b
    moved_back : 0 < k.part → k.part < time_bound now → TurnOf R k.part b → Owner k b
    right_after : k.part ≡ suc (time_bound now + b) → Owner k b

  -- the call that began at b made a change, which bears stamp n
  pub record StampedBy (b n : ℕ) : Type 0 where
    pub field : Field
    pub change : Change
    pub row : ℕ
    pub made : Before now (λ p. ChangeEvent R field p b change row)
    pub bears : mark_at R now (change_kind change) field row ≡ Stamp n

  module _ (m : Marks) where
    -- the call that began at b, and was finished at a or is unfinished at a, stands at the key k, where it is fed as f, makes the change v and finds x
    pub record Stands (b a : ℕ) (f : Feed) (v : RowChange) (x : Answer) (k : Key) : Type 0 where
      pub bounded : Bounded (time_bound now) k
      pub time : 0 < k.time
      pub low : clock_at R 0 ≤ k.stamp
      pub high : k.stamp ≤ clock_at R now
      pub fits : Fits (clock_at R) k b a
      pub owner : Owner k b
      pub finds : Finds (time_bound now) (clock_at R now) m k f v x

    -- the change x of edge row e, with an effect, is the change w at its key; without one nothing changes
    abbrev pub EdgeMakes : Mark → ℕ → RowChange → Key → RowChange → Type 0
    EdgeMakes x e w k v =
        ((edge_effect (clock_at R now) m e x ≡ true) × (k ≡ edge_key (time_bound now) m e x) × (v ≡ w))
        ⊎ ((edge_effect (clock_at R now) m e x ≡ false) × (v ≡ no_change))

    -- a change of a field of row r is, at the key k, the change v
    abbrev pub Makes : Field → Change → ℕ → Key → RowChange → Type 0
    Makes Ins (change.Vertex i) r k v = (k ≡ change_key (time_bound now) (m.vertex_ins r)) × (v ≡ vertex_born r)
    Makes Del (change.Vertex i) r k v = (k ≡ change_key (time_bound now) (m.vertex_del r)) × (v ≡ vertex_ends r)
    Makes Ins (change.Edge d) r k v = EdgeMakes (m.edge_ins r) r (edge_born r) k v
    Makes Del (change.Edge d) r k v = EdgeMakes (m.edge_del r) r (edge_ends r) k v

    -- a key for a call
    pub record Placing (b a : ℕ) (f : Feed) (x : Answer) : Type 0 where
      pub key : Key
      pub change : RowChange
      pub stands : Stands b a f change x key
      -- the change that the call made is the one at its key
      pub makes : (g : Field) (p : ℕ) (d : Change) (r : ℕ) → p < now → ChangeEvent R g p b d r → Makes g d r key change
      -- a change with an effect bears the stamp of the key
      pub bears : makes_change change ≡ true → StampedBy b key.stamp

-- every call on vertices or edges that was answered has a key at which it finds its answer
abbrev pub AnswersStand : Type 0
AnswersStand = (R : RunInTime) (now : ℕ) (m : Marks) → MarksTellRun R now m → MarksSound (time_bound now) (clock_at R now) m → (a w b : ℕ) (c : Call) (x : Answer) →
    a < now → R.request a ≡ Turn w → reply_of (R.state a) (Turn w) ≡ Answered x → open_at R a w ≡ Some b → BegunBy R a w b c → OfRows c →
    Placing R now m b a (fed_until c x) x

-- so has every unfinished one whose change bears its stamp
abbrev pub ChangesStand : Type 0
ChangesStand = (R : RunInTime) (now : ℕ) (m : Marks) → MarksTellRun R now m → MarksSound (time_bound now) (clock_at R now) m → (w b : ℕ) (c : Call) (n : ℕ) →
    w < R.sizes.workers → open_at R now w ≡ Some b → BegunBy R now w b c → StampedBy R now b n →
    (x : Answer) × Placing R now m b now (asks c) x
