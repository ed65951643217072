-- What a call finds of the vertex of a key, at the keys where calls of a run stand that change nothing.
use Rattle.std.specs.Prelude.{◌≡◌, ℕ, suc, ◌+◌, ◌<◌, ◌⊎◌, true, false}
use Rattle.layout.specs.declared.names.Kind.TheVariants.{Vertex}
use Rattle.layout.specs.declared.names.Field.{Field}
use Rattle.layout.specs.declared.names.Field.TheVariants.{Ins, Del}
use Rattle.layout.specs.declared.names.Head.TheVariants as head
use Rattle.places.specs.declared.mark.Mark.TheVariants.{Stamp}
use Rattle.places.specs.declared.place.Change.{Change}
use Rattle.places.specs.declared.place.Change.TheVariants as change
use Rattle.order.specs.Keys.{Key}
use Rattle.order.specs.Marks.{Earlier, Marks, MarksSound}
use Rattle.order.specs.Finds.{VertexFound}
use Rattle.runs.specs.Runs.{RunInTime}
use Rattle.runs.specs.Views.{clock_at, head_at, mark_at}
use Rattle.runs.specs.Known.{TurnOf, Living, LinkEvent, ChangeEvent}
use Rattle.runs.specs.Events.{EndEventOfKind}
use Rattle.runs.specs.Marking.{time_bound, MarksTellRun}

module _ (R : RunInTime) (now : ℕ) where
  -- the key of a turn at time t at which a call reads, and the key right after a change with stamp n at time p, for the call that began at b
  abbrev pub turn_key : ℕ → Key
  turn_key t = record { stamp = clock_at R t; time = t; part = 0 }

  abbrev pub after_key : ℕ → ℕ → ℕ → Key
  after_key n p b = record { stamp = n; time = p; part = suc (time_bound now + b) }

  -- the call that began at b has made no change up to now
  abbrev pub MadeNone : ℕ → Type 0
  MadeNone b = (f : Field) (p : ℕ) (d : Change) (r : ℕ) → p < now → ¬ (ChangeEvent R f p b d r)

  pub record VertexFinds (m : Marks) : Type 0 where
    -- a living head is there at the turn that sees it
    pub here : (b t i r : ℕ) → MadeNone b → TurnOf R t b → t < now → i < R.sizes.keys → Living R t i r → VertexFound (time_bound now) m (turn_key t) i true
    -- no row of the key is there at the turn that reads no row as its head, or one that has ended before
    pub absent : (b t i r : ℕ) → MadeNone b → TurnOf R t b → t < now → i < R.sizes.keys → head_at R t (head.Vertex i) ≡ r → (r ≡ 0) ⊎ Earlier (m.vertex_del r) (record { stamp = clock_at R t; time = t }) → VertexFound (time_bound now) m (turn_key t) i false
    -- a row of the key is there right after its birth
    pub born : (b i r a q n : ℕ) → LinkEvent R q a (change.Vertex i) r → q < now → mark_at R now Vertex Ins r ≡ Stamp n → VertexFound (time_bound now) m (after_key n q b) i true
    -- none is there right after the end of one of them
    pub ended : (b i r p n : ℕ) → m.key_of r ≡ i → EndEventOfKind R Vertex r p → p < now → mark_at R now Vertex Del r ≡ Stamp n → VertexFound (time_bound now) m (after_key n p b) i false

abbrev pub RunsFindVertices : Type 0
RunsFindVertices = (R : RunInTime) (now : ℕ) (m : Marks) → MarksTellRun R now m → MarksSound (time_bound now) (clock_at R now) m → VertexFinds R now m
