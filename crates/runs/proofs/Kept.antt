-- What a worker knows stays known.
use Rattle.std.proofs.Common.{◌≡◌, ℕ, ◌≤◌, ◌⊎◌, Ok, Err, Result, sym, refl, ◌∙◌, inl, inr, ⊎_elim}
use Rattle.layout.specs.declared.names.Kind.{Kind}
use Rattle.layout.specs.declared.names.Kind.TheVariants.{Vertex, Edge}
use Rattle.layout.specs.declared.names.Field.{Field}
use Rattle.layout.specs.declared.names.Field.TheVariants.{Ins, Del}
use Rattle.layout.specs.declared.names.Cell.TheVariants as cell
use Rattle.places.specs.declared.place.Op.{Op}
use Rattle.places.specs.declared.place.Bound.{Bound}
use Rattle.places.specs.declared.place.Side.TheVariants.{Source, Target}
use Rattle.places.specs.declared.place.Look.{Look}
use Rattle.places.specs.declared.place.Look.TheVariants as look
use Rattle.places.specs.declared.place.Change.{Change}
use Rattle.places.specs.declared.place.Change.TheVariants as change
use Rattle.places.specs.declared.place.Purpose.{Purpose}
use Rattle.places.specs.declared.place.Purpose.TheVariants as purpose
use Rattle.places.specs.declared.place.Stage.{Stage}
use Rattle.places.specs.declared.place.Stage.TheVariants as stage
use Rattle.places.specs.declared.place.Place.{Place}
use Rattle.places.specs.declared.place.Place.TheVariants as place
use Rattle.places.specs.Touches.{settled_field}
use Rattle.machine.specs.States.{State}
use Rattle.laws.specs.Fits.{Linked, FitPurpose, FitPlace}
use Rattle.runs.specs.Runs.{RunInTime}
use Rattle.runs.specs.Views.{LinkedAt}
use Rattle.runs.specs.Times.{TimeLaws}
use Rattle.runs.specs.Purposes.{purpose_kind, purpose_field, purpose_row}
use Rattle.runs.specs.Known.{StampedAt, Dead, KnownStage, Have, BoundTo, Shut, Over, KnownFound, KnownLink, KnownEnd, NotBelow, StampedChange, KnownPurpose, Known}
use Rattle.runs.proofs.Times.{before_later}
use Rattle.laws.proofs.Touched.{side_linked}

-- the settled row is linked
pub purpose_linked : (s : State) (p : Purpose) → FitPurpose s p → Linked s (purpose_kind p) (purpose_row p)
purpose_linked s (purpose.Look f l r) h = h.1.linked
purpose_linked s (purpose.Own f c r) h = h.1
purpose_linked s (purpose.LostDel c r) h = h.1.linked
purpose_linked s (purpose.WinnerIns i r) h = h
purpose_linked s (purpose.SourceAgain o b) h = h.source
purpose_linked s (purpose.CheckAgain d o b f) h = side_linked s b d h.0
purpose_linked s (purpose.Compare d b f e x) h = side_linked s b d h
purpose_linked s (purpose.Walk f k r) h = h.1

pub settled_is : (p : Purpose) → settled_field p ≡ cell.Stamp (purpose_kind p) (purpose_field p) (purpose_row p)
settled_is (purpose.Look f l r) = refl
settled_is (purpose.Own f c r) = refl
settled_is (purpose.LostDel c r) = refl
settled_is (purpose.WinnerIns i r) = refl
settled_is (purpose.SourceAgain o b) = refl
settled_is (purpose.CheckAgain d o b f) = refl
settled_is (purpose.Compare d b f e x) = refl
settled_is (purpose.Walk f k r) = refl

module _ (R : RunInTime) (t u : ℕ) (l : t ≤ u) (laws : TimeLaws R t u) where
  pub stamped_later : (c : Kind) (f : Field) (r : ℕ) → LinkedAt R t c r → StampedAt R t c f r → StampedAt R u c f r
  stamped_later c f r k s = record { number = s.number; is = laws.stamp c f r s.number k s.is }

  pub dead_later : (r : ℕ) → Dead R t r → Dead R u r
  dead_later r d = record { linked = laws.linked Vertex r d.linked; ended = stamped_later Vertex Del r d.linked d.ended }

  pub unbound_later : (e : ℕ) (d : Bound) → LinkedAt R t Edge e → ¬ (BoundTo R t e d) → ¬ (BoundTo R u e d)
  unbound_later e d k n b = n (sym (laws.source e k) ∙ b.0, sym (laws.target e k) ∙ b.1)

  pub shut_later : (e : ℕ) (d : Bound) → Shut R t e d → Shut R u e d
  shut_later e d h = record {
    linked = laws.linked Edge e h.linked;
    born = stamped_later Edge Ins e h.linked h.born;
    why = ⊎_elim (λ (s : StampedAt R t Edge Del e). inl (stamped_later Edge Del e h.linked s)) (λ (n : ¬ (BoundTo R t e d)). inr (unbound_later e d h.linked n)) h.why;
  }

  pub over_later : (e : ℕ) (d : Bound) → Over R t e d → Over R u e d
  over_later e d (inl z) = inl z
  over_later e d (inr h) = inr (shut_later e d h)

  pub free_later : (h : ℕ) → (h ≡ 0) ⊎ Dead R t h → (h ≡ 0) ⊎ Dead R u h
  free_later h (inl z) = inl z
  free_later h (inr d) = inr (dead_later h d)

  pub have_later : (b : ℕ) (k : Look) → Have R t b k → Have R u b k
  have_later b (look.Vertex o i) h = tt
  have_later b (look.Source o p) h = tt
  have_later b (look.Target o p s) h = before_later l h
  have_later b (look.Edge o d) h = (before_later l h.0, before_later l h.1)

  pub found_later : (b : ℕ) (o : Op) (d : Bound) (f : Result ℕ ℕ) → KnownFound R t b o d f → KnownFound R u b o d f
  found_later b o d (Err h) n = (before_later l n.0, over_later h d n.1)
  found_later b o d (Ok e) n = before_later l n

  pub link_later : (b : ℕ) (d : Change) (h : ℕ) → KnownLink R t b d h → KnownLink R u b d h
  link_later b (change.Vertex i) h n = (before_later l n.0, free_later h n.1)
  link_later b (change.Edge d) h n = (before_later l n.0, over_later h d n.1)

  pub end_later : (b : ℕ) (d : Change) (r : ℕ) → KnownEnd R t b d r → KnownEnd R u b d r
  end_later b (change.Vertex i) r n = before_later l n
  end_later b (change.Edge d) r n = before_later l n

  pub below_later : (b : ℕ) (f : Field) (e x s : ℕ) → LinkedAt R t Vertex s → NotBelow R t b f e x s → NotBelow R u b f e x s
  below_later b f e x s k (inl h) = inl (before_later l h)
  below_later b f e x s k (inr h) = inr (h.0, laws.stamp Vertex Del s h.0 k h.1, h.2)

  pub change_later : (b : ℕ) (d : Bound) (f : Field) (e x : ℕ) → StampedChange R t b d f e x → StampedChange R u b d f e x
  change_later b d f e x h = record { made = before_later l h.made; linked = laws.linked Edge e h.linked; stamped = laws.stamp Edge f e x h.linked h.stamped }

  stage_later : (c : Kind) (f : Field) (r : ℕ) (st : Stage) → LinkedAt R t c r → KnownStage R t c f r st → KnownStage R u c f r st
  stage_later c f r stage.First k h = tt
  stage_later c f r stage.Clock k h = (before_later l h.0, laws.begun c f r k h.1)
  stage_later c f r (stage.Swap n) k h = (before_later l h.0, laws.begun c f r k h.1)
  stage_later c f r stage.Reread k h = stamped_later c f r k h

  pub purpose_later : (b : ℕ) (p : Purpose) → FitPurpose (R.state t) p → KnownPurpose R t b p → KnownPurpose R u b p
  purpose_later b (purpose.Look Ins k r) f h = before_later l h
  purpose_later b (purpose.Look Del k r) f h = (before_later l h.0, stamped_later _ Ins r f.1.linked h.1)
  purpose_later b (purpose.Own g d r) f h = (before_later l h.0, laws.begun _ g r f.1 h.1)
  purpose_later b (purpose.LostDel d r) f h = (end_later b d r h.0, laws.begun _ Del r f.1.linked h.1, stamped_later _ Ins r f.1.linked h.2)
  purpose_later b (purpose.WinnerIns i r) f h = (before_later l h.0, before_later l h.1)
  purpose_later b (purpose.SourceAgain o d) f h = (before_later l h.0, before_later l h.1)
  purpose_later b (purpose.CheckAgain Source o d g) f h = found_later b o d g h
  purpose_later b (purpose.CheckAgain Target o d g) f h = before_later l h
  purpose_later b (purpose.Compare Source d g e x) f h = change_later b d g e x h
  purpose_later b (purpose.Compare Target d g e x) f h = (change_later b d g e x h.0, below_later b g e x d.source f.source h.1)
  purpose_later b (purpose.Walk g w r) f h = tt

  pub known_later : (b : ℕ) (p : Place) → FitPlace (R.state t) p → Known R t b p → Known R u b p
  known_later b place.Idle f h = tt
  known_later b (place.Head k) f h = have_later b k h
  known_later b (place.Settle st p) f h = (stage_later _ _ _ st (purpose_linked (R.state t) p f) h.0, purpose_later b p f h.1)
  known_later b (place.Link d r) f h = link_later b d r h
  known_later b (place.End d r) f h = (stamped_later _ Ins r f.1.linked h.0, end_later b d r h.1)
  known_later b (place.LostHead i) f h = before_later l h
  known_later b (place.Raise v) f h = tt
  known_later b (place.WalkHead w) f h = tt
  known_later b (place.WalkOlder w r) f h = tt
