-- Heads over time, where the workers up to a time N know what their places say: a row stays the head of its key until it is dead.
use Rattle.std.proofs.Common.{◌≡◌, ℕ, suc, ◌<◌, ◌≤◌, ◌⊎◌, sym, ◌∙◌, subst, inl, inr, ⊎_elim, arith}
use Rattle.layout.specs.declared.names.Kind.TheVariants.{Vertex}
use Rattle.layout.specs.declared.names.Field.TheVariants.{Ins, Del}
use Rattle.layout.specs.declared.names.Head.TheVariants as head
use Rattle.places.specs.declared.mark.Mark.TheVariants.{NotEnded, Stamp}
use Rattle.places.specs.declared.place.Change.{Change}
use Rattle.places.specs.declared.place.Change.TheVariants as change
use Rattle.places.specs.declared.place.Place.TheVariants as place
use Rattle.places.specs.Touches.{change_head}
use Rattle.runs.specs.Runs.{RunInTime}
use Rattle.runs.specs.Views.{head_at, mark_at, LinkedAt}
use Rattle.runs.specs.Steps.{LinkStep, HeadSteps, HeadSteps.stays, HeadSteps.moves}
use Rattle.runs.specs.Times.{Before, LinkStepAtHead}
use Rattle.runs.specs.Known.{Dead, Living, KnownLink, LinkEvent, LinkedSince, HeadMoved, Known}
use Rattle.runs.specs.Reasons.{WorkerKnows, WorkerKnows.free, WorkerKnows.busy}
use Rattle.runs.proofs.Times.{kept_from}
use Rattle.runs.proofs.Kept.{stamped_later, dead_later}
use Rattle.runs.proofs.Steps.{runs_step as step}
use Rattle.runs.proofs.Times.{runs_last as last}
use Rattle.laws.proofs.Owned.{linked_row}

same_key : {i j : ℕ} → head.Vertex i ≡ head.Vertex j → change.Vertex i ≡ change.Vertex j
same_key e = cc

-- a change at the head of a key is of the key's vertex
pub key_change : (d : Change) (i : ℕ) → change_head d ≡ head.Vertex i → d ≡ change.Vertex i
key_change (change.Vertex x) i e = same_key e
key_change (change.Edge b) i e = absurd cc

pub row_pos : (R : RunInTime) (t r : ℕ) → LinkedAt R t Vertex r → 0 < r
row_pos R t r l = (linked_row (R.state t) Vertex r l).0

module _ (R : RunInTime) (N : ℕ) (knows : (j : ℕ) → j < N → (w : ℕ) → w < R.sizes.workers → WorkerKnows R j w) where
  pub link_event : (j : ℕ) → j < N → (d : Change) (r : ℕ) → LinkStep R j d r → (b : ℕ) × LinkEvent R j b d r
  link_event j l d r s = go (knows j l s.worker s.turn.within)
    where
      go : WorkerKnows R j s.worker → (b : ℕ) × LinkEvent R j b d r
      go (free e i) = let x : place.Link d (head_at R j (change_head d)) ≡ place.Idle = sym s.turn.place ∙ i in absurd cc
      go (busy b c e g i k) = (b, record { step = s; whose = e; why = subst (Known R j b) s.turn.place k })

  pub key_event : (j : ℕ) → j < N → (i r : ℕ) → LinkStepAtHead R j (head.Vertex i) r → (b : ℕ) × LinkEvent R j b (change.Vertex i) r
  key_event j l i r h = let e = link_event j l h.change r h.step in (e.0, subst (λ d. LinkEvent R j e.0 d r) (key_change h.change i h.head) e.1)

  module _ (i : ℕ) (n : i < R.sizes.keys) where
    over_dead : (j b r : ℕ) → head_at R j (head.Vertex i) ≡ r → 0 < r → KnownLink R j b (change.Vertex i) (head_at R j (head.Vertex i)) → Dead R j r
    over_dead j b r e p h = ⊎_elim (λ (z : head_at R j (head.Vertex i) ≡ 0). absurd (omega arith)) (λ (d : Dead R j (head_at R j (head.Vertex i))). subst (Dead R j) e d) h.1

    head_or_dead : (r j : ℕ) → j < N → 0 < r → (head_at R j (head.Vertex i) ≡ r) ⊎ Dead R j r → HeadSteps R j (head.Vertex i) (head_at R (suc j) (head.Vertex i)) → (head_at R (suc j) (head.Vertex i) ≡ r) ⊎ Dead R (suc j) r
    head_or_dead r j l p (inr d) h = inr (dead_later R j (suc j) (omega arith) ((last R).times j (suc j) (omega arith)) r d)
    head_or_dead r j l p (inl e) (stays q) = inl (q ∙ e)
    head_or_dead r j l p (inl e) (moves d q s) =
        let ev = key_event j l i _ (record { change = d; head = q; step = s }) in
        inr (dead_later R j (suc j) (omega arith) ((last R).times j (suc j) (omega arith)) r (over_dead j ev.0 r e p ev.1.why))

    pub stays_or_dead : (r t u : ℕ) → 0 < r → t ≤ u → u ≤ N → head_at R t (head.Vertex i) ≡ r → (head_at R u (head.Vertex i) ≡ r) ⊎ Dead R u r
    stays_or_dead r t u p l b e =
        kept_from (λ m. m ≤ N → (head_at R m (head.Vertex i) ≡ r) ⊎ Dead R m r) t (λ _. inl e)
        (λ j a h x. head_or_dead r j x p (h (omega arith)) ((step R j).heads (head.Vertex i) n)) u l b

    -- what was the head and has not ended is the head still
    pub still_head : (r t u : ℕ) → 0 < r → t ≤ u → u ≤ N → head_at R t (head.Vertex i) ≡ r → mark_at R u Vertex Del r ≡ NotEnded → head_at R u (head.Vertex i) ≡ r
    still_head r t u p l b e z =
        ⊎_elim (λ (h : head_at R u (head.Vertex i) ≡ r). h)
        (λ (d : Dead R u r). let x : NotEnded ≡ Stamp d.ended.number = sym z ∙ d.ended.is in absurd cc)
        (stays_or_dead r t u p l b e)

    pub still_living : (r t u : ℕ) → t ≤ u → u ≤ N → Living R t i r → mark_at R u Vertex Del r ≡ NotEnded → Living R u i r
    still_living r t u l b v z =
        let laws = (last R).times t u l in
        record { linked = laws.linked Vertex r v.linked; head = still_head r t u (row_pos R t r v.linked) l b v.head z; born = stamped_later R t u l laws Vertex Ins r v.linked v.born; alive = z }

    -- a head that moved was linked after the move
    pub moved_since : (k b : ℕ) → k ≤ N → HeadMoved R k b i → LinkedSince R k b i (head_at R k (head.Vertex i))
    moved_since k b l m = go (((last R).times m.held.time m.time (omega (arith, m.held.before))).head (head.Vertex i) n) (((last R).times m.time k (omega (arith, m.before))).head (head.Vertex i) n)
      where
        go : (head_at R m.time (head.Vertex i) ≡ head_at R m.held.time (head.Vertex i)) ⊎ Before m.time (λ p. (m.held.time ≤ p) × LinkStepAtHead R p (head.Vertex i) (head_at R m.time (head.Vertex i)))
            → (head_at R k (head.Vertex i) ≡ head_at R m.time (head.Vertex i)) ⊎ Before k (λ p. (m.time ≤ p) × LinkStepAtHead R p (head.Vertex i) (head_at R k (head.Vertex i))) → LinkedSince R k b i (head_at R k (head.Vertex i))
        go (inl e) d = absurd (m.held.held.1 (sym e))
        go (inr p) (inl e) =
            let ev = key_event p.time (omega (arith, p.before, m.before)) i _ (subst (LinkStepAtHead R p.time (head.Vertex i)) (sym e) p.held.1) in
            record { time = p.time; before = omega (arith, p.before, m.before); held = (ev.0, omega (arith, p.held.0, m.held.held.0.after), ev.1) }
        go (inr p) (inr q) =
            let ev = key_event q.time (omega (arith, q.before)) i _ q.held.1 in
            record { time = q.time; before = q.before; held = (ev.0, omega (arith, q.held.0, m.held.before, m.held.held.0.after), ev.1) }
