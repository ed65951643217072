-- Links, ends and marks of a run, as the keys of its calls use them.
use Rattle.std.proofs.Common.{◌≡◌, ℕ, zero, suc, ◌+◌, ◌<◌, ◌≤◌, ◌⊎◌, Some, None, sym, refl, ap, ◌∙◌, subst, inl, inr, ⊎_elim, arith}
use Rattle.std.proofs.lemmas.Bool.{cases_lt}
use Rattle.layout.specs.declared.names.Kind.{Kind}
use Rattle.layout.specs.declared.names.Kind.TheVariants.{Vertex, Edge}
use Rattle.layout.specs.declared.names.Field.{Field}
use Rattle.layout.specs.declared.names.Field.TheVariants.{Ins, Del}
use Rattle.layout.specs.declared.names.Head.TheVariants as head
use Rattle.places.specs.declared.mark.Mark.TheVariants.{NotEnded, Pending, Stamp}
use Rattle.places.specs.declared.place.Change.{Change}
use Rattle.places.specs.declared.place.Call.{Call}
use Rattle.places.specs.Touches.{change_kind}
use Rattle.order.specs.Marks.{Mark, Earlier, Marks}
use Rattle.runs.specs.Runs.{RunInTime}
use Rattle.runs.specs.Views.{clock_at, head_at, mark_at, LinkedAt}
use Rattle.runs.specs.Seen.{open_at}
use Rattle.runs.specs.Steps.{LinkStep}
use Rattle.runs.specs.Times.{Before, LinkStepAtHead}
use Rattle.runs.specs.Known.{TurnOf, Living, LinkEvent, ChangeEvent}
use Rattle.runs.specs.Reasons.{BegunBy, WorkerKnows, WorkerKnows.free, WorkerKnows.busy}
use Rattle.runs.specs.Events.{LinkEventOfKind, EndEventOfKind}
use Rattle.runs.specs.Marking.{ins_of, del_of, old_mark}
use Rattle.runs.proofs.Heads.{link_event as event_of, key_change}
use Rattle.runs.proofs.Events.{clock_later, linked_later, stamp_kept}
use Rattle.runs.proofs.Births.{stamped_or, earlier}
use Rattle.runs.proofs.Once.{by_turn}
use Rattle.keys.proofs.Laws.{RunLaws}

pub same_some : {a b : ℕ} → Some a ≡ Some b → a ≡ b
same_some e = cc

pub none_some : {b : ℕ} → None ≡ Some b → ⊥
none_some e = cc

pub not_stamp : {n : ℕ} → NotEnded ≡ Stamp n → ⊥
not_stamp e = cc

module _ (R : RunInTime) (N : ℕ) (m : Marks) (g : RunLaws R N m) where
  pub record OpenCall (k w b : ℕ) : Type 0 where
    pub call : Call
    pub begun : BegunBy R k w b call

  pub open_call_of : (k w b : ℕ) → w < R.sizes.workers → open_at R k w ≡ Some b → OpenCall k w b
  open_call_of k w b l o = go (g.know.workers k w l)
    where
      go : WorkerKnows R k w → OpenCall k w b
      go (free e i) = absurd (none_some (sym e ∙ o))
      go (busy a c e h i n) = subst (OpenCall k w) (same_some (sym e ∙ o)) (record { call = c; begun = h })

  pub turn_of : (f : Field) (p b : ℕ) (d : Change) (r : ℕ) → ChangeEvent R f p b d r → TurnOf R p b
  turn_of f p b d r ev =
      let t = by_turn R f p b d r ev in
      record { after = (open_call_of p t.worker b t.within t.whose).begun.before; worker = t.worker; asked = t.asked; whose = t.whose }

  pub link_event : (p : ℕ) (d : Change) (r : ℕ) → LinkStep R p d r → (b : ℕ) × LinkEvent R p b d r
  link_event p d r s = event_of R (suc p) (λ j l. g.know.workers j) p (omega arith) d r s

  -- a head that is a row is a row of its key
  pub head_key : (t i r : ℕ) → i < R.sizes.keys → t ≤ N → head_at R t (head.Vertex i) ≡ r → 0 < r → m.key_of r ≡ i
  head_key t i r n l e z = go (g.last.head t (head.Vertex i) n (subst (λ h. 0 < h) (sym e) z))
    where
      go : (head_at R t (head.Vertex i) ≡ head_at R zero (head.Vertex i)) ⊎ Before t (λ p. LinkStepAtHead R p (head.Vertex i) (head_at R t (head.Vertex i))) → m.key_of r ≡ i
      go (inl q) = g.tell.old_key i r n (sym q ∙ e) z
      go (inr p) =
          let before = p.before in
          let y = link_event p.time p.held.change _ p.held.step in
          let ev : LinkEvent R p.time y.0 p.held.change r = subst (LinkEvent R p.time y.0 p.held.change) e y.1 in
          g.tell.key p.time y.0 i r (subst (λ d. LinkEvent R p.time y.0 d r) (key_change p.held.change i p.held.head) ev) (omega arith)

  pub living_key : (t i s : ℕ) → i < R.sizes.keys → t ≤ N → Living R t i s → m.key_of s ≡ i
  living_key t i s n l v = head_key t i s n l v.head (g.row t Vertex s v.linked).0

  -- the end of a row, seen at time k as stamp n
  pub record EndOf (c : Kind) (r k n : ℕ) : Type 0 where
    pub time : ℕ
    pub before : time < k
    pub ending : EndEventOfKind R c r time
    pub low : clock_at R time ≤ n
    pub high : n ≤ clock_at R k
    pub now : mark_at R N c Del r ≡ Stamp n
    pub is : del_of m c r ≡ record { stamp = n; time = time }

  pub end_of : (c : Kind) (r k n : ℕ) → k ≤ N → LinkedAt R k c r → mark_at R k c Del r ≡ Stamp n → EndOf c r k n
  end_of c r k n l w e =
      let p = g.events.ended k c r w (λ z. not_stamp (sym z ∙ e)) in
      let s = g.events.end_stamp c r p.time k n p.held p.before e in
      let q : mark_at R N c Del r ≡ Stamp n = stamp_kept R k N c Del r n l w e in
      record { time = p.time; before = p.before; ending = p.held; low = s.0; high = s.1; now = q; is = g.tell.ended c r p.time n (linked_later R k N c r l w) p.held q }

  -- what had not ended at a time ends from then on
  pub ends_later : (c : Kind) (r k p : ℕ) → EndEventOfKind R c r p → mark_at R k c Del r ≡ NotEnded → k ≤ p
  ends_later c r k p x e =
      ⊎_elim
      (λ (l : p < k).
      let w : LinkedAt R (suc p) c r = linked_later R p (suc p) c r (omega arith) (subst (λ (u : Kind). LinkedAt R p u r) x.kind x.event.linked) in
      let q : mark_at R (suc p) c Del r ≡ Pending = subst (λ (u : Kind). mark_at R (suc p) u Del r ≡ Pending) x.kind x.event.after in
      absurd ((g.last.times (suc p) k l).begun c Del r w (λ z. let y : Pending ≡ NotEnded = sym q ∙ z in absurd cc) e))
      (λ (l : k ≤ p). l)
      (cases_lt p k)

  -- a linked row has ended by now, or not
  pub end_or : (c : Kind) (r : ℕ) → LinkedAt R N c r → ((n : ℕ) × EndOf c r N n) ⊎ (del_of m c r ≡ record { stamp = clock_at R N + 1; time = 0 })
  end_or c r w =
      ⊎_elim (λ (x : (n : ℕ) × (mark_at R N c Del r ≡ Stamp n)). inl (x.0, end_of c r N x.0 (omega arith) w x.1))
      (λ (x : ¬ ((n : ℕ) × (mark_at R N c Del r ≡ Stamp n))). inr (g.tell.unended c r (λ y. x (y.1.number, y.1.is))))
      (stamped_or (mark_at R N c Del r))

  -- a mark that was there while a row had not ended comes before its end
  pub before_end : (c : Kind) (r n p k : ℕ) → n ≤ clock_at R k → p < k → k ≤ N → LinkedAt R k c r → mark_at R k c Del r ≡ NotEnded → Earlier (record { stamp = n; time = p }) (del_of m c r)
  before_end c r n p k l z b w e =
      let rises = clock_later R k N b in
      ⊎_elim
      (λ (h : (n : ℕ) × EndOf c r N n).
      let a = ends_later c r k h.1.time h.1.ending e in
      let s = clock_later R k h.1.time a in
      subst (Earlier (record { stamp = n; time = p })) (sym h.1.is) (earlier n p h.0 h.1.time (omega (arith, h.1.low)) (omega arith)))
      (λ (y : del_of m c r ≡ record { stamp = clock_at R N + 1; time = 0 }). subst (Earlier (record { stamp = n; time = p })) (sym y) (inl (omega arith)))
      (end_or c r (linked_later R k N c r b w))

  -- the row of a change is linked right after it
  pub event_linked : (f : Field) (p b : ℕ) (d : Change) (r : ℕ) → ChangeEvent R f p b d r → LinkedAt R (suc p) (change_kind d) r
  event_linked Ins p b d r ev = ev.step.linked
  event_linked Del p b d r ev = linked_later R p (suc p) (change_kind d) r (omega arith) ev.linked

  -- the mark of a field of a row
  abbrev pub mark_of_field : Field → Kind → ℕ → Mark
  mark_of_field Ins c r = ins_of m c r
  mark_of_field Del c r = del_of m c r

  pub mark_is : (f : Field) (p b : ℕ) (d : Change) (r n : ℕ) → p < N → ChangeEvent R f p b d r → mark_at R N (change_kind d) f r ≡ Stamp n → mark_of_field f (change_kind d) r ≡ record { stamp = n; time = p }
  mark_is Ins p b d r n l ev e = g.tell.born (change_kind d) r p n (linked_later R (suc p) N (change_kind d) r l ev.step.linked) (record { began = b; change = d; kind = refl; event = ev }) e
  mark_is Del p b d r n l ev e = g.tell.ended (change_kind d) r p n (linked_later R p N (change_kind d) r (omega arith) ev.linked) (record { began = b; change = d; kind = refl; event = ev }) e

  pub change_stamp : (f : Field) (p b : ℕ) (d : Change) (r n t : ℕ) → p < t → ChangeEvent R f p b d r → mark_at R t (change_kind d) f r ≡ Stamp n → (clock_at R p ≤ n) × (n ≤ clock_at R t)
  change_stamp Ins p b d r n t l ev e = g.events.link_stamp (change_kind d) r p t n (record { began = b; change = d; kind = refl; event = ev }) l e
  change_stamp Del p b d r n t l ev e = g.events.end_stamp (change_kind d) r p t n (record { began = b; change = d; kind = refl; event = ev }) l e

  -- a row is below the marks' number of rows
  pub vertex_in : (k r : ℕ) → LinkedAt R k Vertex r → r < m.vertices
  vertex_in k r l = omega (arith, g.tell.vertices, (g.row k Vertex r l).1)

  pub edge_in : (k r : ℕ) → LinkedAt R k Edge r → r < m.edges
  edge_in k r l = omega (arith, g.tell.edges, (g.row k Edge r l).1)

  -- a row that was seen with a stamped ins has a stamp up to the clock of now
  pub born_low : (c : Kind) (r t n : ℕ) → t ≤ N → LinkedAt R t c r → mark_at R t c Ins r ≡ Stamp n → (ins_of m c r).stamp ≤ clock_at R N
  born_low c r t n l w e = go (g.events.linked t c r w)
    where
      old : (c : Kind) → ins_of m c r ≡ old_mark R c → (ins_of m c r).stamp ≤ clock_at R N
      old Vertex q = omega (arith, ap (λ (v : Mark). v.stamp) q)
      old Edge q = omega (arith, ap (λ (v : Mark). v.stamp) q, clock_later R zero N (omega arith))

      go : LinkedAt R zero c r ⊎ Before t (LinkEventOfKind R c r) → (ins_of m c r).stamp ≤ clock_at R N
      go (inl o) = old c (g.tell.old c r o)
      go (inr p) =
          let s = g.events.link_stamp c r p.time t n p.held p.before e in
          let is = g.tell.born c r p.time n (linked_later R t N c r l w) p.held (stamp_kept R t N c Ins r n l w e) in
          omega (arith, ap (λ (q : Mark). q.stamp) is, s.1, clock_later R t N l)

  -- a change came before its stamp was seen, and the stamp is at most the clock then
  pub change_before : (f : Field) (p b : ℕ) (d : Change) (r n t : ℕ) → ChangeEvent R f p b d r → LinkedAt R t (change_kind d) r → mark_at R t (change_kind d) f r ≡ Stamp n → p < t
  change_before Ins p b d r n t ev w e = ⊎_elim (λ (l : p < t). l) (λ (l : t ≤ p). absurd (ev.step.fresh (linked_later R t p (change_kind d) r l w))) (cases_lt p t)
  change_before Del p b d r n t ev w e =
      ⊎_elim (λ (l : p < t). l)
      (λ (l : t ≤ p). absurd ((g.last.times t p l).begun (change_kind d) Del r w (λ z. not_stamp (sym z ∙ e)) ev.before))
      (cases_lt p t)

  pub change_below : (f : Field) (p b : ℕ) (d : Change) (r n t : ℕ) → ChangeEvent R f p b d r → LinkedAt R t (change_kind d) r → mark_at R t (change_kind d) f r ≡ Stamp n → n ≤ clock_at R t
  change_below f p b d r n t ev w e = (change_stamp f p b d r n t (change_before f p b d r n t ev w e) ev e).1
