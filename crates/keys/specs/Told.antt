-- What a past has to tell of a run: its calls as they were, and of each its change, its raise and whether a vertex of it ended with a lower stamp.
use Rattle.std.specs.Prelude.{◌≡◌, ℕ, ◌<◌, ◌≤◌, Bool, true, false, ◌⊎◌, Some, None, Option}
use Rattle.layout.specs.declared.names.Kind.TheVariants.{Vertex, Edge}
use Rattle.layout.specs.declared.names.Field.{Field}
use Rattle.layout.specs.declared.names.Field.TheVariants.{Del}
use Rattle.layout.specs.declared.names.Cell.TheVariants as cell
use Rattle.places.specs.declared.mark.Mark.TheVariants.{Stamp}
use Rattle.places.specs.declared.place.Bound.{Bound}
use Rattle.places.specs.declared.place.Change.{Change}
use Rattle.places.specs.declared.place.Change.TheVariants as change
use Rattle.places.specs.declared.place.Call.{Call}
use Rattle.places.specs.declared.place.Call.TheVariants as call
use Rattle.places.specs.declared.place.Survey.{Survey}
use Rattle.places.specs.declared.place.Place.TheVariants.{Raise}
use Rattle.places.specs.Touches.{change_kind}
use Rattle.machine.specs.declared.request.Request.TheVariants.{Turn}
use Rattle.machine.specs.declared.request.Reply.TheVariants.{Answered}
use Rattle.machine.specs.Requests.{reply_of}
use Rattle.questions.specs.Graph.{Graph}
use Rattle.order.specs.Past.{Finish, Past}
use Rattle.order.specs.Seen.{past_of}
use Rattle.runs.specs.Runs.{RunInTime}
use Rattle.runs.specs.Views.{number_at, mark_at}
use Rattle.runs.specs.Seen.{sight_of, open_at}
use Rattle.runs.specs.Steps.{TurnAt}
use Rattle.runs.specs.Known.{ChangeEvent}
use Rattle.runs.specs.Reasons.{BegunBy}
use Rattle.keys.specs.Standing.{StampedBy}

module _ (R : RunInTime) (now : ℕ) where
  -- vertex row r ended with a stamp below x
  pub record EndsBelow (r x : ℕ) : Type 0 where
    pub number : ℕ
    pub ended : mark_at R now Vertex Del r ≡ Stamp number
    pub below : number < x

  -- a vertex row to which edge row e is bound did
  abbrev pub LowerEnd : ℕ → ℕ → Type 0
  LowerEnd e x = EndsBelow (number_at R now (cell.Source e)) x ⊎ EndsBelow (number_at R now (cell.Target e)) x

  module _ (h : Past) where
    -- the call c that began at b was answered before now, or its worker has it open
    pub data CallTold (b : ℕ) (c : Call) : Type 0 where
      answered : (w : ℕ) (f : Finish) → h.finish b ≡ Some f → f.time < now → R.request f.time ≡ Turn w → reply_of (R.state f.time) (Turn w) ≡ Answered f.answer →
          open_at R f.time w ≡ Some b → BegunBy R f.time w b c → CallTold b c
      unfinished : (w : ℕ) → h.finish b ≡ None → w < R.sizes.workers → open_at R now w ≡ Some b → BegunBy R now w b c → CallTold b c

    -- the calls of the past are those of the run
    pub record CallsTold : Type 0 where
      pub call : (b : ℕ) (c : Call) → h.begun b ≡ Some c → CallTold b c
      pub begun : (k w b : ℕ) (c : Call) → k ≤ now → BegunBy R k w b c → h.begun b ≡ Some c

  -- stamps and lower ends are those of the changes of the run
  module _ (stamp : ℕ → Option ℕ) (lower_end : ℕ → Bool) where
    pub record ChangesTold : Type 0 where
      -- the stamp of a call is the one that its change bears, if it bears one
      pub stamped : (b n : ℕ) → stamp b ≡ Some n → StampedBy R now b n
      pub bears : (f : Field) (p b : ℕ) (d : Change) (r n : ℕ) → p < now → ChangeEvent R f p b d r → mark_at R now (change_kind d) f r ≡ Stamp n → stamp b ≡ Some n
      -- a change of a vertex has no lower end; an edge change with stamp x has one if a vertex row to which its row is bound ended below x
      pub vertex_end : (f : Field) (p b i r : ℕ) → p < now → ChangeEvent R f p b (change.Vertex i) r → lower_end b ≡ false
      pub ends_lower : (f : Field) (p b : ℕ) (d : Bound) (e x : ℕ) → p < now → ChangeEvent R f p b (change.Edge d) e → mark_at R now Edge f e ≡ Stamp x → lower_end b ≡ true → LowerEnd e x
      pub ends_none : (f : Field) (p b : ℕ) (d : Bound) (e x : ℕ) → p < now → ChangeEvent R f p b (change.Edge d) e → mark_at R now Edge f e ≡ Stamp x → lower_end b ≡ false → ¬ (LowerEnd e x)

-- only snapshots and reaches raised the clock
abbrev pub RaisesTold : Past → Type 0
RaisesTold h = (b t : ℕ) (c : Call) → h.begun b ≡ Some c → h.raise b ≡ Some t → (v : Survey) × (c ≡ call.Survey v)

-- the past h tells the run up to now
pub record PastTold (R : RunInTime) (now : ℕ) (h : Past) : Type 0 where
  pub calls : CallsTold R now h
  pub changes : ChangesTold R now h.stamp h.lower_end
  pub raises : RaisesTold h

-- a past that is made of what is seen, with pages read in any way, tells the calls
abbrev pub PastsTell : Type 0
PastsTell = (R : RunInTime) (now : ℕ) (pages : ℕ → ℕ → Graph) (stamp raise : ℕ → Option ℕ) (lower_end : ℕ → Bool) →
    CallsTold R now (past_of (λ k. sight_of (pages k) (R.request k) (reply_of (R.state k) (R.request k))) now stamp raise lower_end)

-- a call that had a turn at the place of a raise is a snapshot or reach
abbrev pub TurnsRaise : Type 0
TurnsRaise = (R : RunInTime) (p w b : ℕ) (v : Survey) → TurnAt R p w (Raise v) → open_at R p w ≡ Some b → (k j : ℕ) (c : Call) → BegunBy R k j b c → c ≡ call.Survey v
