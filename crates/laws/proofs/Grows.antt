-- What a turn leaves linked stays linked, and a head that is not none stays so.
use Rattle.std.proofs.Common.{◌≡◌, ℕ, ◌<◌, Ok, Err, Result, sym, subst, inl, inr}
use Rattle.layout.specs.declared.names.Kind.{Kind}
use Rattle.layout.specs.declared.names.Kind.TheVariants.{Vertex}
use Rattle.layout.specs.declared.names.Head.{Head}
use Rattle.layout.specs.declared.names.Head.TheVariants as head
use Rattle.layout.specs.declared.names.Cell.TheVariants as cell
use Rattle.layout.specs.declared.sizes.Sizes.{Sizes}
use Rattle.layout.specs.Layout.{Named}
use Rattle.places.specs.declared.place.Pair.{Pair}
use Rattle.places.specs.declared.place.Bound.{Bound}
use Rattle.places.specs.declared.place.Look.{Look}
use Rattle.places.specs.declared.place.Look.TheVariants as look
use Rattle.places.specs.declared.place.Change.{Change}
use Rattle.places.specs.declared.place.Change.TheVariants as change
use Rattle.places.specs.declared.place.Survey.{Survey}
use Rattle.places.specs.declared.place.Survey.TheVariants.{Snapshot, Reach}
use Rattle.places.specs.declared.place.ServedPair.{ServedPair}
use Rattle.places.specs.declared.place.Job.{Job}
use Rattle.places.specs.declared.place.Job.TheVariants as job
use Rattle.places.specs.declared.place.Purpose.{Purpose}
use Rattle.places.specs.declared.place.Purpose.TheVariants as purpose
use Rattle.places.specs.declared.place.Place.{Place}
use Rattle.places.specs.declared.place.Place.TheVariants as place
use Rattle.places.specs.Touches.{head_kind, look_head, change_head}
use Rattle.machine.specs.States.{State}
use Rattle.laws.specs.Fits.{Linked, IsKey, FitPair, pair_head, FitSurvey, FitServedPair, FitJob, HeldBy, RowOrNoneBy, HeldOrNoneBy, FitBoundBy, FitLookBy, FitChangeBy, FitFoundBy, FitPurposeBy, FitPlaceBy}
use Rattle.laws.specs.Changes.{number_in}
use Rattle.laws.proofs.Heads.{look_named_by, change_named_by}

-- a later state of the same run: no row is unlinked, no head becomes none. L says which rows are linked, M says it of the later state
pub record LaterBy (L M : State → Kind → ℕ → Type 0) (s t : State) : Type 0 where
  pub sizes : t.sizes ≡ s.sizes
  pub linked : (k : Kind) (r : ℕ) → L s k r → M t k r
  pub some : (h : Head) → Named s.sizes (cell.Head h) → 0 < number_in s (cell.Head h) → 0 < number_in t (cell.Head h)

abbrev pub Later : State → State → Type 0
Later s t = LaterBy Linked Linked s t

module _ {L M : State → Kind → ℕ → Type 0} (s t : State) (l : LaterBy L M s t) where
  pub linked_later : (k : Kind) (r : ℕ) → L s k r → M t k r
  linked_later k r x = l.linked k r x

  pub key_later : (i : ℕ) → IsKey s i → IsKey t i
  key_later i k = subst (λ (z : Sizes). i < z.keys) (sym l.sizes) k

  pub row_later : (k : Kind) (r : ℕ) → RowOrNoneBy L s k r → RowOrNoneBy M t k r
  row_later k r (inl e) = inl e
  row_later k r (inr x) = inr (linked_later k r x)

  held_later : (h : Head) (r : ℕ) → Named s.sizes (cell.Head h) → HeldBy L s h r → HeldBy M t h r
  held_later h r n x = record { linked = linked_later (head_kind h) r x.linked; some = l.some h n x.some }

  none_later : (h : Head) (r : ℕ) → Named s.sizes (cell.Head h) → HeldOrNoneBy L s h r → HeldOrNoneBy M t h r
  none_later h r n (inl e) = inl e
  none_later h r n (inr x) = inr (held_later h r n x)

  pair_later : (p : Pair) → FitPair s p → FitPair t p
  pair_later p f = (key_later p.from f.0, key_later p.to f.1)

  bound_later : (b : Bound) → FitBoundBy L s b → FitBoundBy M t b
  bound_later b f = record { keys = pair_later b.pair f.keys; source = linked_later Vertex b.source f.source; target = linked_later Vertex b.target f.target }

  look_later : (k : Look) → FitLookBy L s k → FitLookBy M t k
  look_later (look.Vertex o i) f = key_later i f
  look_later (look.Source o p) f = pair_later p f
  look_later (look.Target o p r) f = (pair_later p f.0, linked_later Vertex r f.1)
  look_later (look.Edge o b) f = bound_later b f

  pub change_later : (c : Change) → FitChangeBy L s c → FitChangeBy M t c
  change_later (change.Vertex i) f = key_later i f
  change_later (change.Edge b) f = bound_later b f

  found_later : (p : Pair) (f : Result ℕ ℕ) → FitPair s p → FitFoundBy L s p f → FitFoundBy M t p f
  found_later p (Ok e) n f = held_later (pair_head p) e n f
  found_later p (Err h) n f = none_later (pair_head p) h n f

  survey_later : (v : Survey) → FitSurvey s v → FitSurvey t v
  survey_later Snapshot f = tt
  survey_later (Reach i) f = key_later i f

  served_pair_later : (l : ServedPair) → FitServedPair s l → FitServedPair t l
  served_pair_later l f = (key_later l.from f.0, key_later l.to f.1)

  pub job_later : (j : Job) → FitJob s j → FitJob t j
  job_later (job.Key i) f = key_later i f
  job_later (job.Start i) f = key_later i f
  job_later (job.Pair l) f = served_pair_later l f
  job_later (job.Target l e) f = served_pair_later l f

  purpose_later : (p : Purpose) → FitPurposeBy L s p → FitPurposeBy M t p
  purpose_later (purpose.Look g k r) f = (look_later k f.0, held_later (look_head k) r (look_named_by L s k f.0) f.1)
  purpose_later (purpose.Own g c r) f = (change_later c f.0, linked_later _ r f.1)
  purpose_later (purpose.LostDel c r) f = (change_later c f.0, held_later (change_head c) r (change_named_by L s c f.0) f.1)
  purpose_later (purpose.WinnerIns i r) f = linked_later Vertex r f
  purpose_later (purpose.SourceAgain o b) f = bound_later b f
  purpose_later (purpose.CheckAgain d o b g) f = (bound_later b f.0, found_later b.pair g f.0.keys f.1)
  purpose_later (purpose.Compare d b g e x) f = bound_later b f
  purpose_later (purpose.Walk g k r) f = (job_later k.job f.0, linked_later _ r f.1)

  pub place_later : (p : Place) → FitPlaceBy L s p → FitPlaceBy M t p
  place_later place.Idle f = tt
  place_later (place.Head k) f = look_later k f
  place_later (place.Settle st p) f = purpose_later p f
  place_later (place.Link c h) f = (change_later c f.0, none_later (change_head c) h (change_named_by L s c f.0) f.1)
  place_later (place.End c r) f = (change_later c f.0, held_later (change_head c) r (change_named_by L s c f.0) f.1)
  place_later (place.LostHead i) f = (key_later i f.0, l.some (head.Vertex i) f.0 f.1)
  place_later (place.Raise v) f = survey_later v f
  place_later (place.WalkHead k) f = job_later k.job f
  place_later (place.WalkOlder k r) f = (job_later k.job f.0, linked_later _ r f.1)
