-- Every answered call on vertices or edges has a key, and every unfinished one whose change bears its stamp.
use Rattle.std.proofs.Common.{◌≡◌, ℕ, suc, ◌+◌, ◌<◌, ◌≤◌, ◌⊎◌, true, false, Some, None, Option, sym, refl, ap, ◌∙◌, subst, inl, inr, ⊎_elim, arith}
use Rattle.std.proofs.lemmas.Bool.{cases_lt}
use Rattle.codes.specs.declared.answer.Answer.{Answer}
use Rattle.codes.specs.declared.answer.Answer.TheVariants.{VertexAdded, VertexAlready, VertexRemoved, VertexAbsent, VertexPresent, EdgeAdded, EdgeRemoved, EdgeAlready, EdgePresent}
use Rattle.layout.specs.declared.names.Kind.TheVariants.{Vertex, Edge}
use Rattle.layout.specs.declared.names.Field.{Field}
use Rattle.layout.specs.declared.names.Field.TheVariants.{Ins, Del}
use Rattle.places.specs.declared.mark.Mark.TheVariants.{Stamp}
use Rattle.places.specs.declared.place.Op.TheVariants.{Add, Remove, Contains}
use Rattle.places.specs.declared.place.Bound.{Bound}
use Rattle.places.specs.declared.place.Change.{Change}
use Rattle.places.specs.declared.place.Change.TheVariants as change
use Rattle.places.specs.declared.place.Call.{Call}
use Rattle.places.specs.declared.place.Call.TheVariants as call
use Rattle.places.specs.Touches.{change_kind}
use Rattle.places.specs.Rules.{edge_changed}
use Rattle.machine.specs.declared.request.Request.TheVariants as request
use Rattle.machine.specs.declared.request.Reply.TheVariants.{Answered}
use Rattle.machine.specs.Requests.{call_to_begin, reply_of}
use Rattle.order.specs.Graph.{Feed, asks}
use Rattle.order.specs.Past.{fed_until}
use Rattle.order.specs.Keys.{Key}
use Rattle.order.specs.Marks.{Mark, Marks, edge_effect}
use Rattle.order.specs.Finds.{RowChange, no_change, makes_change}
use Rattle.runs.specs.Runs.{RunInTime}
use Rattle.runs.specs.Views.{clock_at, mark_at, place_at, LinkedAt}
use Rattle.runs.specs.Seen.{open_at}
use Rattle.runs.specs.Purposes.{change_op, change_call, InCall, MadeChange, place_made}
use Rattle.runs.specs.Known.{Has, OwnChange, NotBelow, StampedChange, ChangeEvent}
use Rattle.runs.specs.Reasons.{vertex_changed, IsEnd, Why, Why.vertex_made, Why.vertex_here, Why.vertex_won, Why.vertex_gone, Why.vertex_ended, Why.ended_below, Why.edge_made, Why.edge_here, Why.edge_missed, Why.rows_spent, HasReason, BegunBy, WorkerKnows, WorkerKnows.free, WorkerKnows.busy}
use Rattle.runs.specs.VertexFinds.{MadeNone}
use Rattle.keys.specs.Standing.{OfRows, StampedBy, Stands, Makes, Placing}
use Rattle.keys.proofs.Laws.{KeysIn, RunLaws}
use Rattle.runs.proofs.Events.{clock_later, stamp_kept, linked_later}
use Rattle.keys.proofs.Base.{same_some, none_some, turn_of, end_of, EndOf, end_or, event_linked, mark_of_field, mark_is, change_below}
use Rattle.keys.proofs.Calls.{found_here, found_ended, found_gone, found_spent, found_won, added, removed, found_edge, found_no_edge}
use Rattle.keys.proofs.EdgeChanges.{saw_both, not_below, has_row, added_edge, removed_edge, no_effect}
use Rattle.runs.proofs.Sights.{one_call_of}

-- one call began at a time
pub same_call : (R : RunInTime) (k w j v b : ℕ) (c d : Call) → BegunBy R k w b c → BegunBy R j v b d → c ≡ d
same_call R k w j v b c d x y =
    let e : request.Begin x.begin ≡ request.Begin y.begin = sym x.asked ∙ y.asked in
    let same : x.begin ≡ y.begin = cc in
    one_call_of c d (sym x.call ∙ ap (call_to_begin (R.state b)) same ∙ y.call)

why_of : (R : RunInTime) (k b : ℕ) (c : Call) (m : Option MadeChange) (x : Answer) → OfRows c → HasReason R k b c m x → Why R k b c m x
why_of R k b (call.Vertex o i) m x r h = h
why_of R k b (call.Edge o p) m x r h = h
why_of R k b (call.Survey v) m x r h = absurd r

made_one : {x y : MadeChange} → Some x ≡ Some y → x ≡ y
made_one e = cc

none_made : {x : MadeChange} → None ≡ Some x → ⊥
none_made e = cc

false_true : false ≡ true → ⊥
false_true e = cc

module _ (R : RunInTime) (N : ℕ) (m : Marks) (g : RunLaws R N m) where
  -- a change is of the call that makes it
  pub in_call : (f : Field) (p b : ℕ) (d : Change) (r : ℕ) → ChangeEvent R f p b d r → (k w : ℕ) (c : Call) → BegunBy R k w b c → c ≡ change_call (change_op f) d
  in_call Ins p b d r ev k w c h = go (g.know.workers p ev.step.worker ev.step.turn.within)
    where
      go : WorkerKnows R p ev.step.worker → c ≡ change_call Add d
      go (free e i) = absurd (none_some (sym e ∙ ev.whose))
      go (busy a y e q i n) =
          let s : a ≡ b = same_some (sym e ∙ ev.whose) in
          same_call R k w p ev.step.worker b c y h (subst (λ z. BegunBy R p ev.step.worker z y) s q) ∙ sym (subst (λ z. InCall z y) ev.step.turn.place i)
  in_call Del p b d r ev k w c h = go (g.know.workers p ev.worker ev.turn.within)
    where
      go : WorkerKnows R p ev.worker → c ≡ change_call Remove d
      go (free e i) = absurd (none_some (sym e ∙ ev.whose))
      go (busy a y e q i n) =
          let s : a ≡ b = same_some (sym e ∙ ev.whose) in
          same_call R k w p ev.worker b c y h (subst (λ z. BegunBy R p ev.worker z y) s q) ∙ sym (subst (λ z. InCall z y) ev.turn.place i)

  -- an edge change without an effect makes nothing
  makes_none : (f : Field) (d : Bound) (e : ℕ) (q : Key) → edge_effect (clock_at R N) m e (mark_of_field R N m g f Edge e) ≡ false → Makes R N m f (change.Edge d) e q no_change
  makes_none Ins d e q h = inr (h, refl)
  makes_none Del d e q h = inr (h, refl)

  -- the change of a call bears its stamp
  stamped_by : (f : Field) (k b : ℕ) (d : Change) (r n s : ℕ) → k ≤ N → OwnChange R k b f d r → LinkedAt R k (change_kind d) r → mark_at R k (change_kind d) f r ≡ Stamp n →
      s ≡ (mark_of_field R N m g f (change_kind d) r).stamp → StampedBy R N b s
  stamped_by f k b d r n s kN o l e q =
      let z = o.before in
      let y = stamp_kept R k N (change_kind d) f r n kN l e in
      let is = mark_is R N m g f o.time b d r n (omega arith) o.held.1 y in
      record { field = f; change = d; row = r; made = record { time = o.time; before = omega arith; held = o.held.1 }; bears = y ∙ ap Stamp (sym (q ∙ ap (λ (v : Mark). v.stamp) is)) }

  module _ (b a : ℕ) where
    -- a call that made no change
    still_placing : (f : Feed) (x : Answer) → MadeNone R N b → (q : Key) × Stands R N m b a f no_change x q → Placing R N m b a f x
    still_placing f x none h = record {
      key = h.0;
      change = no_change;
      stands = h.1;
      makes = λ i p d r l ev. absurd (none i p d r l ev);
      bears = λ e. absurd (false_true e);
    }

  -- what is known of the call stands at time k; it was finished at a, and k is right after that, or it is unfinished, and both are now. Its one change is known
  module _ (b a k : ℕ) (bN : b < N) (aN : a ≤ N) (ka : k ≤ suc a) (kN : k ≤ N) (still : clock_at R k ≤ clock_at R a)
      (f : Field) (d : Change) (r n : ℕ) (own : OwnChange R k b f d r) (linked : LinkedAt R k (change_kind d) r) (stamped : mark_at R k (change_kind d) f r ≡ Stamp n)
      (one : (i : Field) (p : ℕ) (e : Change) (s : ℕ) → p < N → ChangeEvent R i p b e s → ◌≡◌ {A = MadeChange} (record { field = f; change = d; row = r }) (record { field = i; change = e; row = s })) where
    placing : (x : Feed) (y : Answer) (q : Key) (v : RowChange) → Stands R N m b a x v y q → Makes R N m f d r q v → (makes_change v ≡ true → q.stamp ≡ (mark_of_field R N m g f (change_kind d) r).stamp) → Placing R N m b a x y
    placing x y q v st h s = record {
      key = q;
      change = v;
      stands = st;
      makes = λ i p e j l ev. subst (λ (z : MadeChange). Makes R N m z.field z.change z.row q v) (one i p e j l ev) h;
      bears = λ e. stamped_by f k b d r n q.stamp kN own linked stamped (s e);
    }

  module _ (b a k : ℕ) (bN : b < N) (aN : a ≤ N) (ka : k ≤ suc a) (kN : k ≤ N) (still : clock_at R k ≤ clock_at R a) where
    abbrev Single : Field → Change → ℕ → Type 0
    Single f d r = (i : Field) (p : ℕ) (e : Change) (s : ℕ) → p < N → ChangeEvent R i p b e s → ◌≡◌ {A = MadeChange} (record { field = f; change = d; row = r }) (record { field = i; change = e; row = s })

    -- 10, 12
    vertex_placing : (f : Field) (i r n : ℕ) → i < R.sizes.keys → OwnChange R k b f (change.Vertex i) r → LinkedAt R k Vertex r → mark_at R k Vertex f r ≡ Stamp n → Single f (change.Vertex i) r →
        Placing R N m b a (asks (call.Vertex (change_op f) i)) (vertex_changed f)
    vertex_placing Ins i r n w o l e one = placing b a k bN aN ka kN still Ins (change.Vertex i) r n o l e one (asks (call.Vertex Add i)) VertexAdded _ _ (added R N m g b a k bN aN ka kN still i r n o l e) (refl, refl) (λ _. refl)
    vertex_placing Del i r n w o l e one = placing b a k bN aN ka kN still Del (change.Vertex i) r n o l e one (asks (call.Vertex Remove i)) VertexRemoved _ _ (removed R N m g b a k bN aN ka kN still i r n w o l e) (refl, refl) (λ _. refl)

    -- 20, 22
    edge_placing : (f : Field) (d : Bound) (e n : ℕ) → (d.pair.from < R.sizes.keys) × (d.pair.to < R.sizes.keys) → OwnChange R k b f (change.Edge d) e → LinkedAt R k Edge e → mark_at R k Edge f e ≡ Stamp n → Single f (change.Edge d) e →
        n ≤ (m.vertex_del d.source).stamp → n ≤ (m.vertex_del d.target).stamp → Placing R N m b a (asks (call.Edge (change_op f) d.pair)) (edge_changed f)
    edge_placing Ins d e n w o l q one s t =
        let h = added_edge R N m g b a k bN aN ka kN still d e n w.0 w.1 o l q s t in
        placing b a k bN aN ka kN still Ins (change.Edge d) e n o l q one (asks (call.Edge Add d.pair)) EdgeAdded _ _ h.1 (inl (h.0, refl, refl)) (λ _. refl)
    edge_placing Del d e n w o l q one s t =
        let h = removed_edge R N m g b a k bN aN ka kN still d e n w.0 w.1 o l q s t in
        placing b a k bN aN ka kN still Del (change.Edge d) e n o l q one (asks (call.Edge Remove d.pair)) EdgeRemoved _ _ h.1 (inl (h.0, refl, refl)) (λ _. refl)

    -- 13, where a vertex of the edge ended with a lower stamp
    below_placing : (f : Field) (d : Bound) (e n i r s : ℕ) → KeysIn R.sizes.keys (call.Edge (change_op f) d.pair) → OwnChange R k b f (change.Edge d) e → LinkedAt R k Edge e → mark_at R k Edge f e ≡ Stamp n → Single f (change.Edge d) e →
        IsEnd d i r → Has R k b i r → LinkedAt R k Vertex r → mark_at R k Vertex Del r ≡ Stamp s → s < n → Placing R N m b a (asks (call.Edge (change_op f) d.pair)) VertexAbsent
    below_placing f d e n i r s w o l q one at has lr es z =
        let y = end_of R N m g Vertex r k s kN lr es in
        let need : (d.pair.from ≡ i) ⊎ (d.pair.to ≡ i) = ⊎_elim (λ (h : (d.pair.from ≡ i) × (d.source ≡ r)). inl h.0) (λ (h : (d.pair.to ≡ i) × (d.target ≡ r)). inr h.0) at in
        let rows : (d.source ≡ r) ⊎ (d.target ≡ r) = ⊎_elim (λ (h : (d.pair.from ≡ i) × (d.source ≡ r)). inl h.1) (λ (h : (d.pair.to ≡ i) × (d.target ≡ r)). inr h.1) at in
        let h = found_ended R N m g b a k bN aN ka kN still (call.Edge (change_op f) d.pair) i r s need w has lr es in
        let p = o.before in
        let low : (m.vertex_del r).stamp < n = omega (arith, ap (λ (v : Mark). v.stamp) y.is) in
        let none = no_effect R N m g f o.time b d e n r (omega arith) o.held.1 (stamp_kept R k N Edge f e n kN l q) rows low in
        placing b a k bN aN ka kN still f (change.Edge d) e n o l q one (asks (call.Edge (change_op f) d.pair)) VertexAbsent h.0 no_change h.1 (makes_none f d e h.0 none) (λ z. absurd (false_true z))

  -- an answered call
  module _ (a w b : ℕ) (c : Call) (x : Answer) (l : a < N) (asked : R.request a ≡ request.Turn w) (reply : reply_of (R.state a) (request.Turn w) ≡ Answered x) (whose : open_at R a w ≡ Some b) (begun : BegunBy R a w b c) (rows : OfRows c) where
    abbrev made : Option MadeChange
    made = place_made (place_at R a w)

    bN : b < N
    bN = omega (arith, begun.before)

    still : clock_at R (suc a) ≤ clock_at R a
    still = g.still a w b c x asked reply whose begun rows

    keys_in : KeysIn R.sizes.keys c
    keys_in = g.keys a w b c begun

    all : (f : Field) (p : ℕ) (d : Change) (r : ℕ) → ChangeEvent R f p b d r → made ≡ Some (record { field = f; change = d; row = r })
    all f p d r ev = g.once a w b (g.worker a w b c begun) whose f p d r (g.over a w b x asked reply whose f p d r ev) ev

    none : made ≡ None → MadeNone R N b
    none e f p d r q ev = none_made (sym e ∙ all f p d r ev)

    -- at the call and the answer that the reason tells
    told : (c₀ : Call) (x₀ : Answer) → c ≡ c₀ → x ≡ x₀ → Placing R N m b a (fed_until c₀ x₀) x₀ → Placing R N m b a (fed_until c x) x
    told c₀ x₀ p q h = subst (λ z. Placing R N m b a (fed_until c z) z) (sym q) (subst (λ z. Placing R N m b a (fed_until z x₀) x₀) (sym p) h)

    single : (f : Field) (d : Change) (r : ℕ) → made ≡ Some (record { field = f; change = d; row = r }) → Single b a (suc a) bN (omega arith) (omega arith) l still f d r
    single f d r e i p y s q ev = made_one (sym e ∙ all i p y s ev)

    keys_as : (c₀ : Call) → c ≡ c₀ → KeysIn R.sizes.keys c₀
    keys_as c₀ e = subst (KeysIn R.sizes.keys) e keys_in

    vertex_case : (f : Field) (i r : ℕ) → made ≡ Some (record { field = f; change = change.Vertex i; row = r }) → c ≡ call.Vertex (change_op f) i → x ≡ vertex_changed f → (n : ℕ) → OwnChange R (suc a) b f (change.Vertex i) r → LinkedAt R (suc a) Vertex r → mark_at R (suc a) Vertex f r ≡ Stamp n → Placing R N m b a (fed_until c x) x
    vertex_case Ins i r e p q n o h s = told _ _ p q (vertex_placing b a (suc a) bN (omega arith) (omega arith) l still Ins i r n (keys_as _ p) o h s (single _ _ _ e))
    vertex_case Del i r e p q n o h s = told _ _ p q (vertex_placing b a (suc a) bN (omega arith) (omega arith) l still Del i r n (keys_as _ p) o h s (single _ _ _ e))

    edge_case : (f : Field) (d : Bound) (e n : ℕ) → made ≡ Some (record { field = f; change = change.Edge d; row = e }) → c ≡ call.Edge (change_op f) d.pair → x ≡ edge_changed f → StampedChange R (suc a) b d f e n → NotBelow R (suc a) b f e n d.source → NotBelow R (suc a) b f e n d.target → Placing R N m b a (fed_until c x) x
    edge_case f d e n y p q h s t = go f y p q h.made h.stamped source_late target_late
      where
        both : Has R (suc a) b d.pair.from d.source × Has R (suc a) b d.pair.to d.target
        both = saw_both R N m g (suc a) b f d e h.made

        top : n ≤ clock_at R N
        top = omega (arith, change_below R N m g f h.made.time b (change.Edge d) e n (suc a) h.made.held.1 h.linked h.stamped, clock_later R (suc a) N l)

        source_late : n ≤ (m.vertex_del d.source).stamp
        source_late = not_below R N m g (suc a) b f d e n d.source l h.made (has_row R N m g (suc a) b d.pair.from d.source both.0) s top

        target_late : n ≤ (m.vertex_del d.target).stamp
        target_late = not_below R N m g (suc a) b f d e n d.target l h.made (has_row R N m g (suc a) b d.pair.to d.target both.1) t top

        go : (f : Field) → made ≡ Some (record { field = f; change = change.Edge d; row = e }) → c ≡ call.Edge (change_op f) d.pair → x ≡ edge_changed f → OwnChange R (suc a) b f (change.Edge d) e → mark_at R (suc a) Edge f e ≡ Stamp n → n ≤ (m.vertex_del d.source).stamp → n ≤ (m.vertex_del d.target).stamp → Placing R N m b a (fed_until c x) x
        go Ins y p q o st s t = told _ _ p q (edge_placing b a (suc a) bN (omega arith) (omega arith) l still Ins d e n (keys_as _ p) o h.linked st (single _ _ _ y) s t)
        go Del y p q o st s t = told _ _ p q (edge_placing b a (suc a) bN (omega arith) (omega arith) l still Del d e n (keys_as _ p) o h.linked st (single _ _ _ y) s t)

    pub answer_placing : Why R (suc a) b c made x → Placing R N m b a (fed_until c x) x
    answer_placing (vertex_made f i r e p q o h s) = vertex_case f i r e p q s.number o h s.is
    answer_placing (vertex_here i r e z h) =
        let key : i < R.sizes.keys = ⊎_elim (λ (y : (c ≡ call.Vertex Add i) × (x ≡ VertexAlready)). keys_as _ y.0) (λ (y : (c ≡ call.Vertex Contains i) × (x ≡ VertexPresent)). keys_as _ y.0) z in
        let st = found_here R N m g b a (suc a) bN (omega arith) (omega arith) l still i r key (none e) h in
        ⊎_elim (λ (y : (c ≡ call.Vertex Add i) × (x ≡ VertexAlready)). told _ _ y.0 y.1 (still_placing b a _ _ (none e) st.0)) (λ (y : (c ≡ call.Vertex Contains i) × (x ≡ VertexPresent)). told _ _ y.0 y.1 (still_placing b a _ _ (none e) st.1)) z
    answer_placing (vertex_won i r e p q o h v s) = told _ _ p q (still_placing b a _ _ (none e) (found_won R N m g b a (suc a) bN (omega arith) (omega arith) l still i r s.number o v s.is))
    answer_placing (vertex_gone i r e n q h d) = told c _ refl q (still_placing b a _ _ (none e) (found_gone R N m g b a (suc a) bN (omega arith) (omega arith) l still c i r n keys_in (none e) h d))
    answer_placing (vertex_ended i r e n q h d) = told c _ refl q (still_placing b a _ _ (none e) (found_ended R N m g b a (suc a) bN (omega arith) (omega arith) l still c i r d.ended.number n keys_in h d.linked d.ended.is))
    answer_placing (ended_below f d e n i r s y p q h z has v u low) = told _ _ p q (below_placing b a (suc a) bN (omega arith) (omega arith) l still f d e n i r s (keys_as _ p) h.made h.linked h.stamped (single _ _ _ y) z has v u low)
    answer_placing (edge_made f d e n y p q h s t) = edge_case f d e n y p q h s t
    answer_placing (edge_here o d e y p z h) =
        let k = keys_as _ p in
        let st = found_edge R N m g b a (suc a) bN (omega arith) (omega arith) l still d e o k.0 k.1 (none y) h in
        ⊎_elim (λ (q : (o ≡ Add) × (x ≡ EdgeAlready)). told _ _ (p ∙ ap (λ u. call.Edge u d.pair) q.0) q.1 (still_placing b a _ _ (none y) st.0))
        (λ (q : (o ≡ Contains) × (x ≡ EdgePresent)). told _ _ (p ∙ ap (λ u. call.Edge u d.pair) q.0) q.1 (still_placing b a _ _ (none y) st.1)) z
    answer_placing (edge_missed o d h y p q z f) =
        let k = keys_as _ p in
        let st = found_no_edge R N m g b a (suc a) bN (omega arith) (omega arith) l still d h o k.0 k.1 (none y) f in
        ⊎_elim (λ (s : o ≡ Remove). told _ _ (p ∙ ap (λ u. call.Edge u d.pair) s) q (still_placing b a _ _ (none y) st.0))
        (λ (s : o ≡ Contains). told _ _ (p ∙ ap (λ u. call.Edge u d.pair) s) q (still_placing b a _ _ (none y) st.1)) z
    answer_placing (rows_spent d e p q u) = told c _ refl q (still_placing b a _ _ (none e) (found_spent R N m g b a (suc a) bN (omega arith) (omega arith) l still u))

    pub answered : Placing R N m b a (fed_until c x) x
    answered =
        let h = g.know.answers a w x asked reply in
        let s : h.began ≡ b = same_some (sym h.whose ∙ whose) in
        let by : BegunBy R a w b h.call = subst (λ z. BegunBy R a w z h.call) s h.begun in
        let same : h.call ≡ c = same_call R a w a w b h.call c by begun in
        answer_placing (why_of R (suc a) b c made x rows (subst (λ z. HasReason R (suc a) b z made x) same (subst (λ z. HasReason R (suc a) z h.call made x) s h.right)))

  -- an unfinished call whose change bears its stamp
  module _ (w b : ℕ) (c : Call) (within : w < R.sizes.workers) (whose : open_at R N w ≡ Some b) (begun : BegunBy R N w b c) where
    unfinished : (f : Field) (p : ℕ) (d : Change) (r n : ℕ) → p < N → ChangeEvent R f p b d r → mark_at R N (change_kind d) f r ≡ Stamp n → (x : Answer) × Placing R N m b N (asks c) x
    unfinished f p d r n l ev e =
        let h = go f d r ev e in
        (h.0, subst (λ z. Placing R N m b N (asks z) h.0) (sym (in_call f p b d r ev N w c begun)) h.1)
      where
        bN : b < N
        bN = begun.before

        one : (f : Field) (d : Change) (r : ℕ) → ChangeEvent R f p b d r → Single b N N bN (omega arith) (omega arith) (omega arith) (omega arith) f d r
        one f d r ev i q y s j fv = made_one (sym (g.once N w b within whose f p d r l ev) ∙ g.once N w b within whose i q y s j fv)

        own : (f : Field) (d : Change) (r : ℕ) → ChangeEvent R f p b d r → OwnChange R N b f d r
        own f d r ev = record { time = p; before = l; held = (turn_of R N m g f p b d r ev, ev) }

        keys_as : (f : Field) (d : Change) (r : ℕ) → ChangeEvent R f p b d r → KeysIn R.sizes.keys (change_call (change_op f) d)
        keys_as f d r ev = subst (KeysIn R.sizes.keys) (in_call f p b d r ev N w c begun) (g.keys N w b c begun)

        row : (f : Field) (d : Change) (r : ℕ) → ChangeEvent R f p b d r → LinkedAt R N (change_kind d) r
        row f d r ev = linked_later R (suc p) N (change_kind d) r l (event_linked R N m g f p b d r ev)

        below : (f : Field) (d : Bound) (r i s : ℕ) → (ev : ChangeEvent R f p b (change.Edge d) r) → mark_at R N Edge f r ≡ Stamp n → IsEnd d i s → Has R N b i s → (m.vertex_del s).stamp < n → (x : Answer) × Placing R N m b N (asks (call.Edge (change_op f) d.pair)) x
        below f d r i s ev e z has low =
            let top : n ≤ clock_at R N = change_below R N m g f p b (change.Edge d) r n N ev (row f (change.Edge d) r ev) e in
            ⊎_elim
            (λ (y : (k : ℕ) × EndOf R N m g Vertex s N k).
            let k : y.0 < n = omega (arith, ap (λ (v : Mark). v.stamp) y.1.is) in (
              VertexAbsent,
              below_placing b N N bN (omega arith) (omega arith) (omega arith) (omega arith) f d r n i s y.0 (keys_as f (change.Edge d) r ev) (own f (change.Edge d) r ev) (row f (change.Edge d) r ev) e (one f (change.Edge d) r ev) z has (has_row R N m g N b i s has) y.1.now k,
            ))
            (λ (y : m.vertex_del s ≡ record { stamp = clock_at R N + 1; time = 0 }). absurd (omega (arith, ap (λ (v : Mark). v.stamp) y)))
            (end_or R N m g Vertex s (has_row R N m g N b i s has))

        edge : (f : Field) (d : Bound) (r : ℕ) → ChangeEvent R f p b (change.Edge d) r → mark_at R N Edge f r ≡ Stamp n → (d.pair.from < R.sizes.keys) × (d.pair.to < R.sizes.keys) → (x : Answer) × Placing R N m b N (asks (call.Edge (change_op f) d.pair)) x
        edge f d r ev e k =
            let both = saw_both R N m g N b f d r (own f (change.Edge d) r ev) in
            ⊎_elim (λ (y : (m.vertex_del d.source).stamp < n). below f d r d.pair.from d.source ev e (inl (refl, refl)) both.0 y)
            (λ (y : n ≤ (m.vertex_del d.source).stamp).
            ⊎_elim (λ (z : (m.vertex_del d.target).stamp < n). below f d r d.pair.to d.target ev e (inr (refl, refl)) both.1 z)
            (λ (z : n ≤ (m.vertex_del d.target).stamp).
            (edge_changed f, edge_placing b N N bN (omega arith) (omega arith) (omega arith) (omega arith) f d r n k (own f (change.Edge d) r ev) (row f (change.Edge d) r ev) e (one f (change.Edge d) r ev) y z))
            (cases_lt (m.vertex_del d.target).stamp n))
            (cases_lt (m.vertex_del d.source).stamp n)

        go : (f : Field) (d : Change) (r : ℕ) → ChangeEvent R f p b d r → mark_at R N (change_kind d) f r ≡ Stamp n → (x : Answer) × Placing R N m b N (asks (change_call (change_op f) d)) x
        go f (change.Vertex i) r ev e = (vertex_changed f, vertex_placing b N N bN (omega arith) (omega arith) (omega arith) (omega arith) f i r n (keys_as f (change.Vertex i) r ev) (own f (change.Vertex i) r ev) (row f (change.Vertex i) r ev) e (one f (change.Vertex i) r ev))
        go f (change.Edge d) r ev e = edge f d r ev e (keys_as f (change.Edge d) r ev)

    pub changed_yet : (n : ℕ) → StampedBy R N b n → (x : Answer) × Placing R N m b N (asks c) x
    changed_yet n s = unfinished s.field s.made.time s.change s.row n s.made.before s.made.held s.bears
