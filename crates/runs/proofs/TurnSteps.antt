-- One turn as a step of a run.
use Rattle.std.proofs.Common.{◌≡◌, ℕ, suc, ◌<◌, ◌≤◌, ◌⊎◌, Some, None, sym, refl, ap, ◌∙◌, subst, inl, inr, arith}
use Rattle.std.proofs.lemmas.Bool.{ne_eqb}
use Rattle.layout.specs.declared.names.Kind.{Kind}
use Rattle.layout.specs.declared.names.Kind.TheVariants.{Edge}
use Rattle.layout.specs.declared.names.Field.{Field}
use Rattle.layout.specs.declared.names.Field.TheVariants.{Ins, Del}
use Rattle.layout.specs.declared.names.Head.{Head}
use Rattle.layout.specs.declared.names.Cell.{Cell}
use Rattle.layout.specs.declared.names.Cell.TheVariants as cell
use Rattle.layout.specs.declared.sizes.Sizes.{Sizes}
use Rattle.layout.specs.Layout.{Named, IsRow}
use Rattle.places.specs.declared.mark.Mark.TheVariants.{NotEnded, Pending, Stamp}
use Rattle.places.specs.declared.place.Change.{Change}
use Rattle.places.specs.declared.place.Change.TheVariants as change
use Rattle.places.specs.declared.place.Purpose.{Purpose}
use Rattle.places.specs.declared.place.Purpose.TheVariants as purpose
use Rattle.places.specs.declared.place.Place.{Place}
use Rattle.places.specs.declared.place.Place.TheVariants as place
use Rattle.places.specs.declared.place.Stage.TheVariants as stage
use Rattle.places.specs.Marks.{pending, mark_of}
use Rattle.places.specs.Touches.{head_kind, change_head, change_kind, settled_field}
use Rattle.machine.specs.declared.request.Request.TheVariants.{Turn}
use Rattle.machine.specs.States.{State}
use Rattle.machine.specs.Effects.{filled, linked_cells}
use Rattle.machine.specs.Turns.{worker_at, cell_at, followed_at, turned}
use Rattle.machine.specs.Workers.{at, counted}
use Rattle.laws.specs.Fits.{Linked, InChain.at_head, InChain.below, FitChange, FitPlace}
use Rattle.laws.specs.Changes.{next_own, number_in, Changes, Changes.keeps, Changes.ticks, Changes.links, Changes.stamps, Changes.ends, Changes.fills, Changes.writes}
use Rattle.laws.specs.Laws.{TurnLaws}
use Rattle.laws.specs.Sound.{Sound}
use Rattle.laws.specs.Clean.{IsStamp}
use Rattle.laws.specs.Stamps.{field_start, Moves, Moves.same, Moves.ended, Moves.settled}
use Rattle.runs.specs.Runs.{RunInTime}
use Rattle.runs.specs.Views.{head_at}
use Rattle.runs.specs.Steps.{TurnAt, BoundAt, LinkStep, HeadSteps, HeadSteps.stays, HeadSteps.moves, MarkSteps, MarkSteps.same, MarkSteps.settled, MarkSteps.ended, LinkStepOfKind, StepLaws}
use Rattle.runs.proofs.Links.{filled_older, filled_source, filled_target, filled_weight, linked_head, linked_cell}
use Rattle.runs.proofs.Turns.{LinkTurn, LinkTurn.spent, LinkTurn.lost, LinkTurn.won, link_turn}
use Rattle.laws.proofs.Owned.{linked_row, next_own_lem, next_unused}
use Rattle.laws.proofs.Heads.{change_named}

pub mark_stamp : (n : ℕ) → ¬ (n ≡ 0) × ¬ (n ≡ pending) → mark_of n ≡ Stamp n
mark_stamp n a = rw (ne_eqb n 0 a.0, ne_eqb n pending a.1) refl

pub no_settled_head : (h : Head) (p : Purpose) → ¬ (cell.Head h ≡ settled_field p)
no_settled_head h (purpose.Look f l r) e = absurd cc
no_settled_head h (purpose.Own f c r) e = absurd cc
no_settled_head h (purpose.LostDel c r) e = absurd cc
no_settled_head h (purpose.WinnerIns i r) e = absurd cc
no_settled_head h (purpose.SourceAgain o b) e = absurd cc
no_settled_head h (purpose.CheckAgain s o b f) e = absurd cc
no_settled_head h (purpose.Compare s b f e′ x) e = absurd cc
no_settled_head h (purpose.Walk f k r) e = absurd cc

-- a turn of worker w at time k
module _ (R : RunInTime) (k w : ℕ) (asked : R.request k ≡ Turn w) (b : w < R.sizes.workers) (same_sizes : (R.state k).sizes ≡ R.sizes) (step : R.state (suc k) ≡ turned (R.state k) w) (z : Sound (R.state k)) (laws : TurnLaws (R.state k) w)
    (apart : (n : ℕ) → IsStamp R.sizes n → ¬ (n ≡ 0) × ¬ (n ≡ pending))
    (moving : (c : Kind) (f : Field) (r : ℕ) → Linked (R.state k) c r → Moves R.sizes f (number_in (R.state k) (cell.Stamp c f r)) (number_in (turned (R.state k) w) (cell.Stamp c f r)))
    (starting : (c : Kind) (f : Field) (r : ℕ) → ¬ (Linked (R.state k) c r) → Linked (turned (R.state k) w) c r → number_in (turned (R.state k) w) (cell.Stamp c f r) ≡ field_start f) where
  abbrev s : State
  s = R.state k

  abbrev t : State
  t = turned (R.state k) w

  -- what holds of the state after the turn holds at the next time
  next_time : (P : State → Type 0) → P t → P (R.state (suc k))
  next_time P h = subst P (sym step) h

  here : w < s.sizes.workers
  here = subst (λ (y : Sizes). w < y.workers) (sym same_sizes) b

  turn_at : (p : Place) → (worker_at s w).place ≡ p → TurnAt R k w p
  turn_at p e = record { asked = asked; within = b; place = e }

  fits : (d : Change) (h : ℕ) → (worker_at s w).place ≡ place.Link d h → FitChange s d
  fits d h e = let f : FitPlace s (place.Link d h) = subst (FitPlace s) e (z.places w here) in f.0

  -- a link that was won
  module _ (d : Change) (h r : ℕ) (p : (worker_at s w).place ≡ place.Link d h) (q : next_own s w (change_kind d) ≡ Some r) (g : number_in s (cell.Head (change_head d)) ≡ h)
      (v : (followed_at s w).worker ≡ at (counted (worker_at s w) (change_kind d)) (place.Settle stage.First (purpose.Own Ins d r))) (x : t.cells ≡ linked_cells s.sizes s.cells d h r) where
    row : IsRow s.sizes (change_kind d) r
    row = (next_own_lem s w (change_kind d) r q).0

    top : Named s.sizes (cell.Head (change_head d))
    top = change_named s d (fits d h p)

    not_linked : ¬ (Linked s (change_kind d) r)
    not_linked l = next_unused s w (change_kind d) r q (z.counted (change_kind d) r l)

    -- a cell of the new row
    holds : (c : Cell) (y : ℕ) → Named s.sizes c → ¬ (c ≡ cell.Head (change_head d)) → cell_at s.sizes (filled s.sizes s.cells d h r) c ≡ y → number_in t c ≡ y
    holds c y n a e = ap (λ cs. cell_at s.sizes cs c) x ∙ linked_cell s.sizes s.cells z.cells h r d row top g c n a ∙ e

    head_now : number_in t (cell.Head (change_head d)) ≡ r
    head_now = ap (λ cs. cell_at s.sizes cs (cell.Head (change_head d))) x ∙ linked_head s.sizes s.cells z.cells h r d row top g

    now_linked : Linked t (change_kind d) r
    now_linked = at_head (change_head d) r top refl head_now row

    older_now : number_in t (cell.Older (change_kind d) r) ≡ number_in s (cell.Head (change_head d))
    older_now = holds (cell.Older (change_kind d) r) h row (λ e. absurd cc) (filled_older s.sizes s.cells z.cells h r d row) ∙ sym g

    pub link_step : BoundAt R (suc k) d r → LinkStep R k d r
    link_step bound = record {
      worker = w;
      turn = turn_at (place.Link d (number_in s (cell.Head (change_head d)))) (subst (λ y. (worker_at s w).place ≡ place.Link d y) (sym g) p);
      fresh = not_linked;
      linked = next_time (λ u. Linked u (change_kind d) r) now_linked;
      head = next_time (λ u. number_in u (cell.Head (change_head d)) ≡ r) head_now;
      ins = next_time (λ u. mark_of (number_in u (cell.Stamp (change_kind d) Ins r)) ≡ Pending) (ap mark_of (starting (change_kind d) Ins r not_linked now_linked));
      del = next_time (λ u. mark_of (number_in u (cell.Stamp (change_kind d) Del r)) ≡ NotEnded) (ap mark_of (starting (change_kind d) Del r not_linked now_linked));
      older = next_time (λ u. number_in u (cell.Older (change_kind d) r) ≡ number_in s (cell.Head (change_head d))) older_now;
      bound = bound;
    }

  bound_step : (d : Change) (h r : ℕ) → (worker_at s w).place ≡ place.Link d h → next_own s w (change_kind d) ≡ Some r → number_in s (cell.Head (change_head d)) ≡ h
      → (followed_at s w).worker ≡ at (counted (worker_at s w) (change_kind d)) (place.Settle stage.First (purpose.Own Ins d r)) → t.cells ≡ linked_cells s.sizes s.cells d h r → BoundAt R (suc k) d r
  bound_step (change.Vertex i) h r p q g v x = tt
  bound_step (change.Edge b) h r p q g v x =
      let n : IsRow s.sizes Edge r = row (change.Edge b) h r p q g v x in
      let held = holds (change.Edge b) h r p q g v x in (
        next_time (λ u. number_in u (cell.Source r) ≡ b.source) (held (cell.Source r) b.source n (λ e. absurd cc) (filled_source s.sizes s.cells z.cells h r b n)),
        next_time (λ u. number_in u (cell.Target r) ≡ b.target) (held (cell.Target r) b.target n (λ e. absurd cc) (filled_target s.sizes s.cells z.cells h r b n)),
        next_time (λ u. number_in u (cell.Weight r) ≡ b.pair.weight) (held (cell.Weight r) b.pair.weight n (λ e. absurd cc) (filled_weight s.sizes s.cells z.cells h r b n)),
      )

  pub linking : (d : Change) (h r : ℕ) → (worker_at s w).place ≡ place.Link d h → next_own s w (change_kind d) ≡ Some r → number_in s (cell.Head (change_head d)) ≡ h
      → (followed_at s w).worker ≡ at (counted (worker_at s w) (change_kind d)) (place.Settle stage.First (purpose.Own Ins d r)) → t.cells ≡ linked_cells s.sizes s.cells d h r → LinkStep R k d r
  linking d h r p q g v x = link_step d h r p q g v x (bound_step d h r p q g v x)

  same_row : {a c : ℕ} → Some a ≡ Some c → a ≡ c
  same_row e = cc

  none_row : {a : ℕ} → None ≡ Some a → ⊥
  none_row e = cc

  -- a head that moved
  head_step : (h : Head) (y : ℕ) → number_in t (cell.Head h) ≡ y → Changes s w (cell.Head h) (number_in s (cell.Head h)) y → HeadSteps R k h (head_at R (suc k) h)
  head_step h y o (keeps e) = stays (next_time (λ u. number_in u (cell.Head h) ≡ number_in s (cell.Head h)) (o ∙ e))
  head_step h y o (ticks a e i l q) = absurd cc
  head_step h y o (links d e i q) = go (link_turn s w z here d _ e)
    where
      same_head : change_head d ≡ h
      same_head = cc

      go : LinkTurn s w d (number_in s (cell.Head h)) → HeadSteps R k h (head_at R (suc k) h)
      go (spent n a) = absurd (none_row (sym n ∙ q))
      go (lost r n a c) = absurd (a (ap (λ g. number_in s (cell.Head g)) same_head))
      go (won r n g a v x) =
          let st : LinkStep R k d r = linking d _ r e n g v x in
          moves d same_head (subst (LinkStep R k d) (sym (st.head) ∙ ap (head_at R (suc k)) same_head) st)
  head_step h y o (stamps p e i q) = absurd (no_settled_head h p i)
  head_step h y o (ends d r e i a b) = absurd cc
  head_step h y o (fills c r p i b) = absurd i
  head_step h y o (writes i q) = absurd i

  -- what holds at the next time holds of the state after the turn
  back : (P : State → Type 0) → P (R.state (suc k)) → P t
  back P h = subst P step h

  head_steps : (h : Head) → Named s.sizes (cell.Head h) → HeadSteps R k h (head_at R (suc k) h)
  head_steps h n = head_step h _ refl (laws.changes (cell.Head h) n)

  older_stays : (c : Kind) (q : ℕ) → Linked s c q → number_in t (cell.Older c q) ≡ number_in s (cell.Older c q)
  older_stays c q l = laws.older c q (linked_row s c q l) l

  -- linked rows stay linked
  stays_linked : (c : Kind) (r : ℕ) → Linked s c r → Linked t c r
  stays_linked c r (at_head h _ n e f l) = go (head_steps h n)
    where
      go : HeadSteps R k h (head_at R (suc k) h) → Linked t c r
      go (stays y) = at_head h r n e (back (λ u. number_in u (cell.Head h) ≡ number_in s (cell.Head h)) y ∙ f) l
      go (moves d q st) =
          let g : change_kind d ≡ c = ap head_kind q ∙ e in
          let y : ℕ = head_at R (suc k) h in
          let over : number_in t (cell.Older (change_kind d) y) ≡ number_in s (cell.Head (change_head d)) = back (λ u. number_in u (cell.Older (change_kind d) y) ≡ number_in s (cell.Head (change_head d))) st.older in
          below y r (subst (λ (j : Kind). Linked t j y) g (back (λ u. Linked u (change_kind d) y) st.linked))
          (subst (λ (j : Kind). number_in t (cell.Older j y) ≡ number_in s (cell.Head (change_head d))) g over ∙ ap (λ a. number_in s (cell.Head a)) q ∙ f) l
  stays_linked c r (below q _ x f l) = below q r (stays_linked c q x) (older_stays c q x ∙ f) l

  step_named : (d : Change) (r : ℕ) → LinkStep R k d r → Named s.sizes (cell.Head (change_head d))
  step_named d r st =
      let f : FitPlace s (place.Link d (head_at R k (change_head d))) = subst (FitPlace s) st.turn.place (z.places st.worker (subst (λ (y : Sizes). st.worker < y.workers) (sym same_sizes) st.turn.within)) in
      change_named s d f.0

  -- a row that is linked now was linked before, or is new
  new_row : (c : Kind) (r : ℕ) → Linked t c r → Linked s c r ⊎ LinkStepOfKind R k c r
  new_row c r (at_head h _ n e f l) = go (head_steps h n)
    where
      go : HeadSteps R k h (head_at R (suc k) h) → Linked s c r ⊎ LinkStepOfKind R k c r
      go (stays y) = inl (at_head h r n e (sym (back (λ u. number_in u (cell.Head h) ≡ number_in s (cell.Head h)) y) ∙ f) l)
      go (moves d q st) = inr (record { change = d; kind = ap head_kind q ∙ e; step = subst (LinkStep R k d) (next_time (λ u. number_in u (cell.Head h) ≡ r) f) st })
  new_row c r (below q _ x f l) = go (new_row c q x)
    where
      go : Linked s c q ⊎ LinkStepOfKind R k c q → Linked s c r ⊎ LinkStepOfKind R k c r
      go (inl o) = inl (below q r o (sym (older_stays c q o) ∙ f) l)
      go (inr m) =
          let d : Change = m.change in
          let over : number_in t (cell.Older (change_kind d) q) ≡ number_in s (cell.Head (change_head d)) = back (λ u. number_in u (cell.Older (change_kind d) q) ≡ number_in s (cell.Head (change_head d))) m.step.older in
          inl (at_head (change_head d) r (step_named d q m.step) m.kind (sym (subst (λ (j : Kind). number_in t (cell.Older j q) ≡ number_in s (cell.Head (change_head d))) m.kind over) ∙ f) l)

  -- ins and del of a linked row
  mark_step : (c : Kind) (f : Field) (r x y : ℕ) → Linked s c r → Changes s w (cell.Stamp c f r) x y → Moves R.sizes f x y → MarkSteps R k c f r (mark_of x) (mark_of y)
  mark_step c f r x y l (keeps e) m = same (ap mark_of e)
  mark_step c f r x y l (ticks a e i h q) m = absurd cc
  mark_step c f r x y l (links d e i q) m = absurd cc
  mark_step c f r x y l (stamps p e i q) (same a) = same (ap mark_of a)
  mark_step c f r x y l (stamps p e i q) (ended a h g) = absurd (omega arith)
  mark_step c f r x y l (stamps p e i q) (settled h g) = settled w y p (turn_at (place.Settle (stage.Swap y) p) e) (sym i) g (ap mark_of q) (mark_stamp y (apart y g))
  mark_step c f r x y l (ends d q e i a h) m = let same_field : f ≡ Del = cc in let same_kind : change_kind d ≡ c = cc in let same_number : q ≡ r = cc in
      ended w d (turn_at (place.End d r) (subst (λ n. (worker_at s w).place ≡ place.End d n) same_number e)) same_kind same_field (ap mark_of a) (ap mark_of h)
  mark_step c f r x y l (fills j q p o b) m = absurd (next_unused s w j q p (z.counted j q (subst (λ (u : Kind). Linked s u q) o.0 (subst (Linked s c) o.1 l))))
  mark_step c f r x y l (writes o q) m = absurd o

  fixed : (c : Cell) → number_in t c ≡ number_in s c → number_in (R.state (suc k)) c ≡ number_in s c
  fixed c e = next_time (λ u. number_in u c ≡ number_in s c) e

  pub turn_step : StepLaws R k
  turn_step = record {
    clock = next_time (λ u. number_in s cell.Clock ≤ number_in u cell.Clock) laws.clock;
    linked = λ c r l. next_time (λ u. Linked u c r) (stays_linked c r l);
    news = λ c r l. new_row c r (subst (λ u. Linked u c r) step l);
    heads = λ h n. head_step h _ refl (laws.changes (cell.Head h) (subst (λ (y : Sizes). Named y (cell.Head h)) (sym same_sizes) n));
    marks = λ c f r l. next_time (λ u. MarkSteps R k c f r (mark_of (number_in s (cell.Stamp c f r))) (mark_of (number_in u (cell.Stamp c f r)))) (mark_step c f r _ _ l (laws.changes (cell.Stamp c f r) (linked_row s c r l)) (moving c f r l));
    older = λ c r l. fixed (cell.Older c r) (laws.older c r (linked_row s c r l) l);
    source = λ r l. fixed (cell.Source r) (laws.source r (linked_row s Edge r l) l);
    target = λ r l. fixed (cell.Target r) (laws.target r (linked_row s Edge r l) l);
    weight = λ r l. fixed (cell.Weight r) (laws.weight r (linked_row s Edge r l) l);
  }
