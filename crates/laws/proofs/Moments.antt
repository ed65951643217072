-- Where a stamp comes from: the clock had its number while the field was pending.
use Rattle.std.proofs.Common.{◌≡◌, ℕ, ◌<◌, ◌⊎◌, List, [], ◌∷◌, Ok, sym, refl, ap, ◌∙◌, subst, inl, inr, arith}
use Rattle.layout.specs.declared.sizes.Sizes.{Sizes}
use Rattle.layout.specs.declared.names.Kind.{Kind}
use Rattle.layout.specs.declared.names.Field.{Field}
use Rattle.layout.specs.declared.names.Cell.{Cell}
use Rattle.layout.specs.declared.names.Cell.TheVariants as cell
use Rattle.places.specs.declared.call.Begin.{Begin}
use Rattle.places.specs.declared.place.Call.{Call}
use Rattle.places.specs.declared.place.Call.TheVariants as call
use Rattle.places.specs.declared.place.Stage.{Stage}
use Rattle.places.specs.declared.place.Stage.TheVariants as stage
use Rattle.places.specs.declared.place.Purpose.{Purpose}
use Rattle.places.specs.declared.place.Place.{Place}
use Rattle.places.specs.declared.place.Place.TheVariants as place
use Rattle.places.specs.Calls.{place_first}
use Rattle.places.specs.Marks.{pending}
use Rattle.places.specs.Touches.{settled_field}
use Rattle.machine.specs.States.{State}
use Rattle.machine.specs.Turns.{worker_at, turned}
use Rattle.machine.specs.Requests.{call_to_begin, state_begun}
use Rattle.machine.specs.History.{Event, Traces}
use Rattle.machine.proofs.Stages.{Staged}
use Rattle.laws.specs.Fits.{Linked, FitPlace, FitPurpose}
use Rattle.laws.specs.Changes.{number_in}
use Rattle.laws.specs.Sound.{Sound}
use Rattle.laws.specs.Clean.{IsStamp, Clean}
use Rattle.laws.specs.Stamps.{Moves, Moves.same, Moves.ended, Moves.settled, Moment}
use Rattle.laws.proofs.Touched.{Settled, settled_field_lem}
use Rattle.laws.proofs.Rests.{Rests}
use Rattle.laws.proofs.Steps.{step_each, run_each}
use Rattle.laws.proofs.Runs.{runs_sound}
use Rattle.laws.proofs.Places.{got_at, number_at, turn_places, begin_places}
use Rattle.laws.proofs.Stamped.{StampsHold, turn_moves, runs_stamped}

-- pending or a stamp
abbrev Begun : Sizes → ℕ → Type 0
Begun z x = (x ≡ pending) ⊎ IsStamp z x

-- a stamp stays, and what is pending stays so or gets a stamp
stamp_stays : (z : Sizes) (f : Field) (x y : ℕ) → Moves z f x y → IsStamp z x → IsStamp z y
stamp_stays z f x y (same e) h = subst (IsStamp z) (sym e) h
stamp_stays z f x y (ended e a b) h = absurd (omega arith)
stamp_stays z f x y (settled a b) h = b

begun_stays : (z : Sizes) (f : Field) (x y : ℕ) → Moves z f x y → Begun z x → Begun z y
begun_stays z f x y m (inr h) = inr (stamp_stays z f x y m h)
begun_stays z f x y (same e) (inl h) = inl (e ∙ h)
begun_stays z f x y (ended e a b) (inl h) = inl b
begun_stays z f x y (settled a b) (inl h) = inr b

-- what a worker knows of the field that it settles, in state s after history h
module _ (start : State) where
  -- once it has read the field as pending
  abbrev KnownStage : List Event → State → Stage → Purpose → Type 0
  KnownStage h s stage.Clock p = Begun s.sizes (number_in s (settled_field p))
  KnownStage h s (stage.Swap n) p = IsStamp s.sizes (number_in s (settled_field p)) ⊎ Moment start h (settled_field p) n
  KnownStage h s st p = Unit {0}

  abbrev Known : List Event → State → Place → Type 0
  Known h s (place.Settle st p) = KnownStage h s st p
  Known h s p = Unit {0}

  moment_later : (e : Event) (h : List Event) (c : Cell) (n : ℕ) → Moment start h c n → Moment start (e ∷ h) c n
  moment_later e h c n m = record {
    since = e ∷ m.since;
    until = m.until;
    parts = ap (λ (x : List Event). e ∷ x) m.parts;
    state = m.state;
    traces = m.traces;
    clock = m.clock;
    waited = m.waited;
  }

-- one state later, with the same sizes
pub record Moved (s t : State) : Type 0 where
  pub sizes : t.sizes ≡ s.sizes
  pub moves : (k : Kind) (f : Field) (r : ℕ) → Linked s k r → Moves s.sizes f (number_in s (cell.Stamp k f r)) (number_in t (cell.Stamp k f r))

module _ (start : State) (e : Event) (h : List Event) (s t : State) (m : Moved s t) where
  field_moves : (p : Purpose) → (q : Settled s p) → Moves s.sizes q.field (number_in s (settled_field p)) (number_in t (settled_field p))
  field_moves p q = subst (λ c. Moves s.sizes q.field (number_in s c) (number_in t c)) (sym q.is) (m.moves q.kind q.field q.row q.linked)

  begun_later : (p : Purpose) → FitPurpose s p → Begun s.sizes (number_in s (settled_field p)) → Begun t.sizes (number_in t (settled_field p))
  begun_later p f b = let q = settled_field_lem s p f in subst (λ z. Begun z (number_in t (settled_field p))) (sym m.sizes) (begun_stays s.sizes q.field _ _ (field_moves p q) b)

  stamp_later : (p : Purpose) → FitPurpose s p → IsStamp s.sizes (number_in s (settled_field p)) → IsStamp t.sizes (number_in t (settled_field p))
  stamp_later p f b = let q = settled_field_lem s p f in subst (λ z. IsStamp z (number_in t (settled_field p))) (sym m.sizes) (stamp_stays s.sizes q.field _ _ (field_moves p q) b)

  stage_later : (st : Stage) (p : Purpose) → FitPurpose s p → KnownStage start h s st p → KnownStage start (e ∷ h) t st p
  stage_later stage.Clock p f k = begun_later p f k
  stage_later (stage.Swap n) p f (inl k) = inl (stamp_later p f k)
  stage_later (stage.Swap n) p f (inr k) = inr (moment_later start e h (settled_field p) n k)
  stage_later st p f k = tt

  known_later : (p : Place) → FitPlace s p → Known start h s p → Known start (e ∷ h) t p
  known_later (place.Settle st p) f k = stage_later st p f k
  known_later p f k = tt

abbrev AllKnown : State → List Event → State → Type 0
AllKnown start h s = (w : ℕ) → w < s.sizes.workers → Known start h s (worker_at s w).place

-- a turn: who reads the clock knows this moment
module _ (start : State) (e : Event) (h : List Event) (s : State) (tr : Traces start h s) (w : ℕ) (z : Sound s) (b : w < s.sizes.workers) (i : StampsHold s) (k : AllKnown start h s) where
  turn_moved : Moved s (turned s w)
  turn_moved = record { sizes = refl; moves = turn_moves s w z b i }

  at_moment : (n : ℕ) (p : Purpose) → FitPurpose s p → number_in s cell.Clock ≡ n → Begun s.sizes (number_in s (settled_field p)) → KnownStage start (e ∷ h) (turned s w) (stage.Swap n) p
  at_moment n p f c (inl a) = inr (record { since = e ∷ []; until = h; parts = refl; state = s; traces = tr; clock = c; waited = a })
  at_moment n p f c (inr a) = inl (stamp_later start e h s (turned s w) turn_moved p f a)

  own_known : (q : Place) → Staged (worker_at s w).place (got_at s w) q → Known start (e ∷ h) (turned s w) q
  own_known (place.Settle stage.Clock p) g =
      begun_later start e h s (turned s w) turn_moved p (subst (FitPlace s) g.0 (z.places w b)) (inl (sym (ap (number_at s w) g.0) ∙ g.1))
  own_known (place.Settle (stage.Swap n) p) g =
      at_moment n p (subst (FitPlace s) g.0 (z.places w b)) (sym (g.1 ∙ ap (number_at s w) g.0)) (subst (Known start h s) g.0 (k w b))
  own_known q g = tt

  turn_known : AllKnown start (e ∷ h) (turned s w)
  turn_known = turn_places s w z b (Known start (e ∷ h) (turned s w)) tt own_known (λ v l. known_later start e h s (turned s w) turn_moved (worker_at s v).place (z.places v l) (k v l))

-- a request that gives no turn changes no cell
first_known : (start : State) (h : List Event) (s : State) (c : Call) → Known start h s (place_first c)
first_known start h s (call.Survey v) = tt
first_known start h s c = tt

module _ (start : State) (e : Event) (h : List Event) (s : State) (z : Sound s) (k : AllKnown start h s) where
  kept_known : (t : State) → t.sizes ≡ s.sizes → t.cells ≡ s.cells → (v : ℕ) → v < s.sizes.workers → Known start (e ∷ h) t (worker_at s v).place
  kept_known t a c v l = known_later start e h s t (record { sizes = a; moves = λ j f r x. same (kept_number j f r) }) (worker_at s v).place (z.places v l) (k v l)
    where
      kept_number : (j : Kind) (f : Field) (r : ℕ) → number_in t (cell.Stamp j f r) ≡ number_in s (cell.Stamp j f r)
      kept_number j f r = cc

  rest_known : (t : State) → Rests s t → AllKnown start (e ∷ h) t
  rest_known t r w b =
      subst (Known start (e ∷ h) t) (sym (r.workers w).place)
      (kept_known t r.rows.sizes r.rows.cells w (subst (λ (y : Sizes). w < y.workers) r.rows.sizes b))

  begin_known : (b : Begin) (c : Call) → call_to_begin s b ≡ Ok c → AllKnown start (e ∷ h) (state_begun s b.worker (Ok c))
  begin_known b c a =
      let t : State = state_begun s b.worker (Ok c) in
      begin_places s b z c a (Known start (e ∷ h) t) (first_known start (e ∷ h) t c) (kept_known t refl refl)

module _ (start : State) (c : Clean start) where
  runs_known : (h : List Event) (s : State) → Traces start h s → AllKnown start h s
  runs_known =
      run_each start (AllKnown start) (λ w b. subst (Known start [] start) (sym (c.idle w b)) tt)
      (λ e h s t a.
      let k = runs_sound start c h s t in
      let i = runs_stamped start c h s t in
      step_each s (AllKnown start (e ∷ h)) (rest_known start e h s k a) (begin_known start e h s k a) (λ w b. turn_known start e h s t w k b i a) e.request)

  swap_source : (h : List Event) (s : State) (n : ℕ) (p : Purpose) → Known start h s (place.Settle (stage.Swap n) p) → number_in s (settled_field p) ≡ pending → Moment start h (settled_field p) n
  swap_source h s n p (inl i) e = absurd (omega arith)
  swap_source h s n p (inr m) e = m

  pub runs_sources : (h : List Event) (s : State) → Traces start h s → (w : ℕ) → w < s.sizes.workers → (n : ℕ) (p : Purpose) → (worker_at s w).place ≡ place.Settle (stage.Swap n) p → number_in s (settled_field p) ≡ pending → Moment start h (settled_field p) n
  runs_sources h s t w b n p e a = swap_source h s n p (subst (Known start h s) e (runs_known h s t w b)) a
