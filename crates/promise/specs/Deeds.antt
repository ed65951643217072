-- The deeds that are seen of a call are those that it does at its turns: a link, the end of a row, or a raise.
use Rattle.std.specs.Prelude.{◌≡◌, ℕ, suc, ◌+◌, ◌<◌, false, ◌||◌, Some, None}
use Rattle.layout.specs.declared.names.Kind.TheVariants.{Vertex, Edge}
use Rattle.layout.specs.declared.names.Field.TheVariants.{Del}
use Rattle.layout.specs.declared.names.Field.{Field}
use Rattle.places.specs.declared.mark.Mark.TheVariants.{Pending, Stamp}
use Rattle.places.specs.declared.place.Bound.{Bound}
use Rattle.places.specs.declared.place.Change.{Change}
use Rattle.places.specs.declared.place.Change.TheVariants as change
use Rattle.places.specs.Marks.{is_below}
use Rattle.places.specs.declared.place.Survey.{Survey}
use Rattle.places.specs.declared.place.Place.TheVariants.{Raise}
use Rattle.places.specs.Touches.{change_head, change_kind}
use Rattle.runs.specs.Runs.{RunInTime}
use Rattle.runs.specs.Views.{clock_at, mark_at}
use Rattle.runs.specs.Seen.{open_at}
use Rattle.runs.specs.Steps.{TurnAt}
use Rattle.runs.specs.Times.{Before}
use Rattle.runs.specs.Known.{LinkEvent, EndEvent, ChangeEvent}
use Rattle.keys.specs.Standing.{StampedBy}
use Rattle.promise.specs.Sights.{Deed, Deed.links, Deed.ends, Deed.raises}
use Rattle.promise.specs.Calls.{deed_by}
use Rattle.promise.specs.Bridges.{shown_at, stamp_at, raise_at, lower_at}

module _ (R : RunInTime) where
  -- turn p, of the call that began at b, raised the clock
  pub record RaiseEvent (p b : ℕ) : Type 0 where
    pub worker : ℕ
    pub survey : Survey
    pub turn : TurnAt R p worker (Raise survey)
    pub whose : open_at R p worker ≡ Some b
    pub moved : clock_at R (suc p) ≡ clock_at R p + 1

  -- turn p, of the call that began at b, did a deed
  abbrev pub DeedEvent : ℕ → ℕ → Deed → Type 0
  DeedEvent p b (links h r) = (d : Change) × (change_head d ≡ h) × LinkEvent R p b d r
  DeedEvent p b (ends k r) = (d : Change) × (change_kind d ≡ k) × EndEvent R p b d r
  DeedEvent p b (raises t) = RaiseEvent p b × (clock_at R p ≡ t)

  pub record DeedLaws (now b : ℕ) : Type 0 where
    -- what a call is seen to have done it did before
    pub done : (x : Deed) → deed_by (shown_at R now).sights b ≡ Some x → Before now (λ p. DeedEvent p b x)
    -- what it did before is seen
    pub seen : (x : Deed) (p : ℕ) → p < now → DeedEvent p b x → deed_by (shown_at R now).sights b ≡ Some x

  -- the stamps, the numbers of the raises and the lower ends that cells and turns tell are those of the changes and of the raises
  pub record StampsTold (now b : ℕ) : Type 0 where
    pub stamped : (n : ℕ) → stamp_at R now b ≡ Some n → StampedBy R now b n
    pub bears : (f : Field) (p : ℕ) (d : Change) (r n : ℕ) → p < now → ChangeEvent R f p b d r → mark_at R now (change_kind d) f r ≡ Stamp n → stamp_at R now b ≡ Some n
    pub waits : (f : Field) (p : ℕ) (d : Change) (r : ℕ) → p < now → ChangeEvent R f p b d r → mark_at R now (change_kind d) f r ≡ Pending → stamp_at R now b ≡ None
    pub raised : (t : ℕ) → raise_at R now b ≡ Some t → Before now (λ p. RaiseEvent p b × (clock_at R p ≡ t))
    pub raises_from : (p : ℕ) → p < now → RaiseEvent p b → raise_at R now b ≡ Some (clock_at R p)
    -- a change of an edge has a lower end if one of the vertex rows of its edge row has ended with a stamp below its own; no other change has one, and none without a stamp
    pub lower : (f : Field) (p : ℕ) (d : Bound) (r n : ℕ) → p < now → ChangeEvent R f p b (change.Edge d) r → mark_at R now Edge f r ≡ Stamp n →
        lower_at R now b ≡ (is_below n (mark_at R now Vertex Del d.source) || is_below n (mark_at R now Vertex Del d.target))
    pub no_lower : (f : Field) (p i r : ℕ) → p < now → ChangeEvent R f p b (change.Vertex i) r → lower_at R now b ≡ false
    pub unstamped : stamp_at R now b ≡ None → lower_at R now b ≡ false

abbrev pub RunsStampsTold : Type 0
RunsStampsTold = (R : RunInTime) (now b : ℕ) → StampsTold R now b

abbrev pub RunsDeeds : Type 0
RunsDeeds = (R : RunInTime) (now b : ℕ) → DeedLaws R now b
