-- Links and ends: each row is linked once and ends once, its stamps lie between the clocks, and rows of one key or pair follow one another.
use Rattle.std.proofs.Common.{◌≡◌, ℕ, suc, ◌<◌, ◌≤◌, ◌⊎◌, Some, None, sym, refl, ap, ◌∙◌, subst, inl, inr, ⊎_elim, arith}
use Rattle.std.proofs.lemmas.Bool.{cases_lt}
use Rattle.layout.specs.declared.names.Kind.{Kind}
use Rattle.layout.specs.declared.names.Kind.TheVariants.{Vertex}
use Rattle.layout.specs.declared.names.Field.{Field}
use Rattle.layout.specs.declared.names.Field.TheVariants.{Ins, Del}
use Rattle.layout.specs.declared.names.Head.TheVariants as head
use Rattle.layout.specs.declared.names.Cell.{Cell}
use Rattle.layout.specs.declared.names.Cell.TheVariants as cell
use Rattle.layout.specs.declared.sizes.Sizes.{Sizes}
use Rattle.places.specs.declared.mark.Mark.TheVariants.{NotEnded, Pending, Stamp}
use Rattle.places.specs.declared.place.Bound.{Bound}
use Rattle.places.specs.declared.place.Change.{Change}
use Rattle.places.specs.declared.place.Change.TheVariants as change
use Rattle.places.specs.declared.place.Purpose.{Purpose}
use Rattle.places.specs.declared.place.Place.{Place}
use Rattle.places.specs.declared.place.Place.TheVariants as place
use Rattle.places.specs.declared.place.Stage.TheVariants.{Swap}
use Rattle.places.specs.Touches.{head_kind, change_kind, settled_field}
use Rattle.layout.specs.Layout.{Named}
use Rattle.layout.specs.declared.names.Head.{Head}
use Rattle.machine.specs.declared.request.Request.TheVariants.{Turn}
use Rattle.laws.specs.Fits.{FitChange, FitPlace}
use Rattle.runs.specs.Runs.{RunInTime, history_at}
use Rattle.runs.specs.Views.{clock_at, head_at, mark_at, place_at, LinkedAt}
use Rattle.runs.specs.Seen.{open_at}
use Rattle.runs.specs.Steps.{TurnAt, MarkSteps, MarkSteps.same, MarkSteps.settled, MarkSteps.ended}
use Rattle.runs.specs.Times.{Before, LinkStepAtHead}
use Rattle.runs.specs.Known.{StampedAt, Dead, FromClock, Living, LinkEvent, EndEvent, Known}
use Rattle.runs.specs.Reasons.{WorkerKnows, WorkerKnows.free, WorkerKnows.busy}
use Rattle.runs.proofs.Histories.{traced}
use Rattle.runs.proofs.Times.{kept_from}
use Rattle.runs.proofs.Opens.{open_start}
use Rattle.runs.proofs.Kept.{settled_is, stamped_later, dead_later}
use Rattle.runs.proofs.Heads.{key_event, row_pos, stays_or_dead}
use Rattle.runs.proofs.Knows.{fits_at}
use Rattle.laws.proofs.StampRuns.{runs_stamp as stamp}
use Rattle.runs.proofs.Steps.{runs_step as step}
use Rattle.runs.proofs.Times.{runs_last as last}
use Rattle.runs.proofs.Knows.{runs_know as know}

module _ (R : RunInTime) where
  pub worker_knows : (N j : ℕ) → j < N → (w : ℕ) → w < R.sizes.workers → WorkerKnows R j w
  worker_knows N j l w b = (know R).workers j w b

  -- what a worker in a call knows at its turn
  pub turn_known : {k w : ℕ} {p : Place} → TurnAt R k w p → ¬ (p ≡ place.Idle) → (b : ℕ) × (open_at R k w ≡ Some b) × Known R k b p
  turn_known {k} {w} {p} t n = go ((know R).workers k w t.within)
    where
      go : WorkerKnows R k w → (b : ℕ) × (open_at R k w ≡ Some b) × Known R k b p
      go (free e i) = absurd (n (sym t.place ∙ i))
      go (busy b c e g i h) = (b, e, subst (Known R k b) t.place h)

  -- the keys of a change that is linked
  pub link_fits : {k w : ℕ} {d : Change} {h : ℕ} → TurnAt R k w (place.Link d h) → FitChange (R.state k) d
  link_fits {k} {w} {d} {h} t = let f : FitPlace (R.state k) (place.Link d h) = subst (FitPlace (R.state k)) t.place (fits_at R k w t.within) in f.0

  pub key_in : (k i : ℕ) → i < (R.state k).sizes.keys → i < R.sizes.keys
  key_in k i l = subst (λ (z : Sizes). i < z.keys) ((stamp (R.state 0) R.clean (history_at R k) (R.state k) (traced R k)).sizes ∙ R.start) l

  pub vertex_key : {p b i r : ℕ} → LinkEvent R p b (change.Vertex i) r → i < R.sizes.keys
  vertex_key {p} {b} {i} {r} ev = key_in p i (link_fits ev.step.turn)

  pub edge_keys : {p b e : ℕ} {d : Bound} → LinkEvent R p b (change.Edge d) e → (d.pair.from < R.sizes.keys) × (d.pair.to < R.sizes.keys)
  edge_keys {p} {b} {e} {d} ev = let f = link_fits ev.step.turn in (key_in p d.pair.from f.keys.0, key_in p d.pair.to f.keys.1)

  -- the number that is put in for pending was the clock since the field was pending
  abbrev InHand : ℕ → ℕ → Cell → Type 0
  InHand k n (cell.Stamp c f r) = FromClock R k c f r n
  InHand k n c = ⊥

  hand_clock : {k w n : ℕ} {p : Purpose} {c : Kind} {f : Field} {r : ℕ} → TurnAt R k w (place.Settle (Swap n) p) → settled_field p ≡ cell.Stamp c f r → FromClock R k c f r n
  hand_clock {k} {w} {n} {p} {c} {f} {r} t e = let h = turn_known t (λ q. absurd cc) in subst (InHand k n) (sym (settled_is p) ∙ e) h.2.0.0

  -- the clock, and rows that stay linked
  pub clock_later : (t u : ℕ) → t ≤ u → clock_at R t ≤ clock_at R u
  clock_later t u l = ((last R).times t u l).clock

  pub linked_later : (t u : ℕ) (c : Kind) (r : ℕ) → t ≤ u → LinkedAt R t c r → LinkedAt R u c r
  linked_later t u c r l = ((last R).times t u l).linked c r

  pub stamp_kept : (t u : ℕ) (c : Kind) (f : Field) (r n : ℕ) → t ≤ u → LinkedAt R t c r → mark_at R t c f r ≡ Stamp n → mark_at R u c f r ≡ Stamp n
  stamp_kept t u c f r n l = ((last R).times t u l).stamp c f r n

  pub begun_kept : (t u : ℕ) (c : Kind) (f : Field) (r : ℕ) → t ≤ u → LinkedAt R t c r → ¬ (mark_at R t c f r ≡ NotEnded) → ¬ (mark_at R u c f r ≡ NotEnded)
  begun_kept t u c f r l = ((last R).times t u l).begun c f r

  pub stamped_kept : (t u : ℕ) (c : Kind) (f : Field) (r : ℕ) → t ≤ u → LinkedAt R t c r → StampedAt R t c f r → StampedAt R u c f r
  stamped_kept t u c f r l = stamped_later R t u l ((last R).times t u l) c f r

  pub dead_kept : (t u r : ℕ) → t ≤ u → Dead R t r → Dead R u r
  dead_kept t u r l = dead_later R t u l ((last R).times t u l) r

  pub dead_not : (t r : ℕ) → Dead R t r → mark_at R t Vertex Del r ≡ NotEnded → ⊥
  dead_not t r d e = let x : NotEnded ≡ Stamp d.ended.number = sym e ∙ d.ended.is in absurd cc

  -- the stamp of a field that became pending in turn p
  module _ (p : ℕ) (c : Kind) (f : Field) (r : ℕ) (early : (t : ℕ) → t ≤ p → LinkedAt R t c r → ¬ (mark_at R t c f r ≡ Pending)) (start : mark_at R (suc p) c f r ≡ Pending) (low : LinkedAt R (suc p) c r) where
    abbrev Ranged : ℕ → Type 0
    Ranged t = (n : ℕ) → mark_at R t c f r ≡ Stamp n → (clock_at R p ≤ n) × (n ≤ clock_at R t)

    range_step : (j : ℕ) → suc p ≤ j → Ranged j → Ranged (suc j)
    range_step j a h n e = go ((step R j).marks c f r (linked_later (suc p) j c r a low))
      where
        go : MarkSteps R j c f r (mark_at R j c f r) (mark_at R (suc j) c f r) → (clock_at R p ≤ n) × (n ≤ clock_at R (suc j))
        go (same q) = let g = h n (sym q ∙ e) in (g.0, omega (arith, g.1, clock_later j (suc j) (omega arith)))
        go (settled w m q t i s x y) =
            let same_number : m ≡ n = stamp_number (sym y ∙ e) in
            let num = hand_clock t i in
            let since : ¬ (num.held.1.time ≤ p) = λ v. early _ v num.held.1.held.0 num.held.1.held.1 in
            let u = clock_later p num.time (omega (arith, num.held.1.before)) in
            let v = clock_later num.time (suc j) (omega (arith, num.before)) in
            (omega (arith, num.held.0), omega (arith, num.held.0))
          where
            stamp_number : {m n : ℕ} → Stamp m ≡ Stamp n → m ≡ n
            stamp_number e = cc
        go (ended w d t i g x y) = let z : Pending ≡ Stamp n = sym y ∙ e in absurd cc

    pub range : (t : ℕ) → p < t → Ranged t
    range t l = kept_from Ranged (suc p) (λ n e. let z : Pending ≡ Stamp n = sym start ∙ e in absurd cc) range_step t l

  pub link_range : {p b : ℕ} {d : Change} {r : ℕ} → LinkEvent R p b d r → (t : ℕ) → p < t → (n : ℕ) → mark_at R t (change_kind d) Ins r ≡ Stamp n → (clock_at R p ≤ n) × (n ≤ clock_at R t)
  link_range {p} {b} {d} {r} ev = range p (change_kind d) Ins r (λ t a l e. ev.step.fresh (linked_later t p (change_kind d) r a l)) ev.step.ins ev.step.linked

  pub end_range : {p b : ℕ} {d : Change} {r : ℕ} → EndEvent R p b d r → (t : ℕ) → p < t → (n : ℕ) → mark_at R t (change_kind d) Del r ≡ Stamp n → (clock_at R p ≤ n) × (n ≤ clock_at R t)
  end_range {p} {b} {d} {r} ev =
      range p (change_kind d) Del r (λ t a l e. begun_kept t p (change_kind d) Del r a l (λ z. let x : NotEnded ≡ Pending = sym z ∙ e in absurd cc) ev.before) ev.after (linked_later p (suc p) (change_kind d) r (omega arith) ev.linked)

  -- one turn at a time
  pub same_turn : {p w v : ℕ} {x y : Place} → TurnAt R p w x → TurnAt R p v y → (w ≡ v) × (x ≡ y)
  same_turn {p} {w} {v} {x} {y} s t =
      let q : Turn w ≡ Turn v = sym s.asked ∙ t.asked in
      let e : w ≡ v = cc in
      (e, sym s.place ∙ ap (place_at R p) e ∙ t.place)

  same_begin : (p : ℕ) {w v b a : ℕ} → w ≡ v → open_at R p w ≡ Some b → open_at R p v ≡ Some a → b ≡ a
  same_begin p {w} {v} {b} {a} e f g = let x : Some b ≡ Some a = sym f ∙ ap (open_at R p) e ∙ g in cc

  pub linked_from : {p b : ℕ} {d : Change} {r : ℕ} → LinkEvent R p b d r → (k : ℕ) → LinkedAt R k (change_kind d) r → p < k
  linked_from {p} {b} {d} {r} ev k l = ⊎_elim (λ (z : p < k). z) (λ (z : k ≤ p). absurd (ev.step.fresh (linked_later k p (change_kind d) r z l))) (cases_lt p k)

  pub link_change : {c d : Change} {h g : ℕ} → place.Link c h ≡ place.Link d g → c ≡ d
  link_change e = cc

  pub end_change : {c d : Change} {h g : ℕ} → place.End c h ≡ place.End d g → c ≡ d
  end_change e = cc

  -- a row is linked once, and ends once
  pub link_once : {p b : ℕ} {c : Change} {r q a : ℕ} {d : Change} → LinkEvent R p b c r → LinkEvent R q a d r → change_kind c ≡ change_kind d → (p ≡ q) × (b ≡ a) × (c ≡ d)
  link_once {p} {b} {c} {r} {q} {a} {d} ev fv k =
      let x : q < suc p = linked_from fv (suc p) (subst (λ (y : Kind). LinkedAt R (suc p) y r) k ev.step.linked) in
      let y : p < suc q = linked_from ev (suc q) (subst (λ (y : Kind). LinkedAt R (suc q) y r) (sym k) fv.step.linked) in
      let e : q ≡ p = omega arith in
      let gv : LinkEvent R p a d r = subst (λ j. LinkEvent R j a d r) e fv in
      let s = same_turn ev.step.turn gv.step.turn in
      (sym e, same_begin p s.0 ev.whose gv.whose, link_change s.1)

  pub ended_from : {p b : ℕ} {d : Change} {r : ℕ} → EndEvent R p b d r → (k : ℕ) → mark_at R k (change_kind d) Del r ≡ NotEnded → k ≤ p
  ended_from {p} {b} {d} {r} ev k e =
      ⊎_elim
      (λ (z : p < k). absurd (begun_kept (suc p) k (change_kind d) Del r z (linked_later p (suc p) (change_kind d) r (omega arith) ev.linked) (λ y. let x : Pending ≡ NotEnded = sym ev.after ∙ y in absurd cc) e))
      (λ (z : k ≤ p). z) (cases_lt p k)

  pub end_once : {p b : ℕ} {c : Change} {r q a : ℕ} {d : Change} → EndEvent R p b c r → EndEvent R q a d r → change_kind c ≡ change_kind d → (p ≡ q) × (b ≡ a) × (c ≡ d)
  end_once {p} {b} {c} {r} {q} {a} {d} ev fv k =
      let x : q ≤ p = ended_from ev q (subst (λ (y : Kind). mark_at R q y Del r ≡ NotEnded) (sym k) fv.before) in
      let y : p ≤ q = ended_from fv p (subst (λ (y : Kind). mark_at R p y Del r ≡ NotEnded) k ev.before) in
      let e : q ≡ p = omega arith in
      let gv : EndEvent R p a d r = subst (λ j. EndEvent R j a d r) e fv in
      let s = same_turn ev.turn gv.turn in
      (sym e, same_begin p s.0 ev.whose gv.whose, end_change s.1)

  -- calls change something only after they began
  event_late : (p w b : ℕ) → open_at R p w ≡ Some b → 0 < p
  event_late p w b e = ⊎_elim (λ (z : 0 < p). z)
      (λ (z : p ≤ 0). let q : p ≡ 0 = omega arith in let x : None ≡ Some b = sym (open_start R w) ∙ subst (λ t. open_at R t w ≡ Some b) q e in absurd cc) (cases_lt 0 p)

  pub link_late : {p b r : ℕ} {d : Change} → LinkEvent R p b d r → 0 < p
  link_late {p} {b} {r} {d} ev = event_late p _ b ev.whose

  pub end_late : {p b r : ℕ} {d : Change} → EndEvent R p b d r → 0 < p
  end_late {p} {b} {r} {d} ev = event_late p _ b ev.whose

  -- rows from before the start
  pub old_linked : (i r : ℕ) → i < R.sizes.keys → head_at R 0 (head.Vertex i) ≡ r → 0 < r → LinkedAt R 0 Vertex r
  old_linked i r n e l = subst (LinkedAt R 0 Vertex) e ((last R).old_head (head.Vertex i) n (omega arith))

  pub old_living : (i r : ℕ) → i < R.sizes.keys → head_at R 0 (head.Vertex i) ≡ r → 0 < r → Living R 0 i r
  old_living i r n e l =
      let o = old_linked i r n e l in
      let x = (last R).old_row Vertex r o in
      record { linked = o; head = e; born = record { number = x.number; is = x.stamp }; alive = x.alive }

  pub old_not_linked : (c : Kind) (r : ℕ) → LinkedAt R 0 c r → {p b : ℕ} {d : Change} → change_kind d ≡ c → LinkEvent R p b d r → ⊥
  old_not_linked c r l {p} {b} {d} k ev = ev.step.fresh (linked_later 0 p (change_kind d) r (omega arith) (subst (λ (u : Kind). LinkedAt R 0 u r) (sym k) l))

  head_named : (h : Head) → Named R.sizes (cell.Head h) → Named (R.state 0).sizes (cell.Head h)
  head_named h n = subst (λ (z : Sizes). Named z (cell.Head h)) (sym R.start) n

  pub old_apart : (h g : Head) → Named R.sizes (cell.Head h) → Named R.sizes (cell.Head g) → head_kind h ≡ head_kind g → head_at R 0 h ≡ head_at R 0 g → 0 < head_at R 0 h → h ≡ g
  old_apart h g n m k e l = R.clean.apart h g (head_named h n) (head_named g m) k e l

  -- a living head was so at the start, or was linked at its key
  pub living_from : {t i s : ℕ} → i < R.sizes.keys → Living R t i s → (head_at R 0 (head.Vertex i) ≡ s) ⊎ Before t (λ p. (b : ℕ) × LinkEvent R p b (change.Vertex i) s)
  living_from {t} {i} {s} n v =
      ⊎_elim (λ (e : head_at R t (head.Vertex i) ≡ head_at R 0 (head.Vertex i)). inl (sym e ∙ v.head))
      (λ (p : Before t (λ p. LinkStepAtHead R p (head.Vertex i) (head_at R t (head.Vertex i)))).
      let ev = key_event R t (worker_knows t) p.time p.before i _ p.held in
      inr (record { time = p.time; before = p.before; held = (ev.0, subst (λ z. LinkEvent R p.time ev.0 (change.Vertex i) z) v.head ev.1) }))
      ((last R).head t (head.Vertex i) n (subst (λ h. 0 < h) (sym v.head) (row_pos R t s v.linked)))

  key_one : {i j : ℕ} → change.Vertex i ≡ change.Vertex j → i ≡ j
  key_one e = cc

  head_one : {i j : ℕ} → head.Vertex i ≡ head.Vertex j → i ≡ j
  head_one e = cc

  pub living_key : {t i s u j : ℕ} → i < R.sizes.keys → j < R.sizes.keys → Living R t i s → Living R u j s → i ≡ j
  living_key {t} {i} {s} {u} {j} n m v w = go (living_from n v) (living_from m w)
    where
      pos : 0 < s
      pos = row_pos R t s v.linked

      go : (head_at R 0 (head.Vertex i) ≡ s) ⊎ Before t (λ p. (b : ℕ) × LinkEvent R p b (change.Vertex i) s) → (head_at R 0 (head.Vertex j) ≡ s) ⊎ Before u (λ p. (b : ℕ) × LinkEvent R p b (change.Vertex j) s) → i ≡ j
      go (inl x) (inl y) = head_one (old_apart (head.Vertex i) (head.Vertex j) n m refl (x ∙ sym y) (omega (arith, pos)))
      go (inl x) (inr y) = absurd (old_not_linked Vertex s (old_linked i s n x pos) refl y.held.1)
      go (inr x) (inl y) = absurd (old_not_linked Vertex s (old_linked j s m y pos) refl x.held.1)
      go (inr x) (inr y) = key_one (link_once x.held.1 y.held.1 refl).2

  -- a head gives way to another only when it is dead
  pub outlived : (i r s t u : ℕ) → i < R.sizes.keys → t ≤ u → Living R t i r → Living R u i s → ¬ (r ≡ s) → Dead R u r
  outlived i r s t u n l v w a =
      ⊎_elim (λ (e : head_at R u (head.Vertex i) ≡ r). absurd (a (sym e ∙ w.head))) (λ (d : Dead R u r). d)
      (stays_or_dead R u (worker_knows u) i n r t u (row_pos R t r v.linked) l (omega arith) v.head)

  -- of two rows of one key, the older was dead before the newer was linked
  pub order_from : (i r u : ℕ) {q a s : ℕ} → i < R.sizes.keys → head_at R u (head.Vertex i) ≡ r → 0 < r → u ≤ q → LinkEvent R q a (change.Vertex i) s → Dead R q r
  order_from i r u {q} {a} {s} n h pos l fv =
      ⊎_elim
      (λ (e : head_at R q (head.Vertex i) ≡ r). ⊎_elim (λ (z : head_at R q (head.Vertex i) ≡ 0). absurd (omega arith)) (λ (d : Dead R q (head_at R q (head.Vertex i))). subst (Dead R q) e d) fv.why.1)
      (λ (d : Dead R q r). d)
      (stays_or_dead R q (worker_knows q) i n r u q pos l (omega arith) h)

  pub link_order : {p b i r q a s : ℕ} → LinkEvent R p b (change.Vertex i) r → LinkEvent R q a (change.Vertex i) s → p < q → Dead R q r
  link_order {p} {b} {i} {r} {q} {a} {s} ev fv l = order_from i r (suc p) (vertex_key ev) ev.step.head (row_pos R (suc p) r ev.step.linked) l fv
