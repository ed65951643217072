-- The keys of calls that changed an edge.
use Rattle.std.proofs.Common.{◌≡◌, ℕ, suc, ◌+◌, ◌<◌, ◌≤◌, ◌⊎◌, true, false, sym, refl, ap, ◌∙◌, subst, inl, inr, ⊎_elim, arith}
use Rattle.std.proofs.lemmas.Bool.{cases_lt}
use Rattle.std.proofs.lemmas.Bool.Decides.{nat_tests}
use Rattle.codes.specs.declared.answer.Answer.{Answer}
use Rattle.codes.specs.declared.answer.Answer.TheVariants.{EdgeAdded, EdgeRemoved}
use Rattle.layout.specs.declared.names.Kind.TheVariants.{Vertex, Edge}
use Rattle.layout.specs.declared.names.Field.{Field}
use Rattle.layout.specs.declared.names.Field.TheVariants.{Ins, Del}
use Rattle.places.specs.declared.mark.Mark.TheVariants.{Stamp}
use Rattle.places.specs.declared.place.Op.TheVariants.{Add, Remove}
use Rattle.places.specs.declared.place.Pair.{Pair}
use Rattle.places.specs.declared.place.Bound.{Bound}
use Rattle.places.specs.declared.place.Change.TheVariants as change
use Rattle.places.specs.declared.place.Call.TheVariants as call
use Rattle.order.specs.Graph.{Feed, asks}
use Rattle.order.specs.Keys.{Key}
use Rattle.order.specs.Marks.{Mark, Earlier, Marks, source_end, target_end, moved_time, moved_part, has_effect, edge_effect, edge_key}
use Rattle.order.specs.Finds.{RowChange, edge_born, edge_ends, pair_of, Finds, adds_edge, removes_edge}
use Rattle.order.proofs.Fitting.{moved_time_after, moved_key_fits}
use Rattle.order.proofs.Moves.{moved_part_is, bounded_moved}
use Rattle.runs.specs.Runs.{RunInTime}
use Rattle.runs.specs.Views.{clock_at, mark_at, LinkedAt}
use Rattle.runs.specs.Known.{TurnOf, Has, OwnChange, NotBelow, ChangeEvent}
use Rattle.runs.specs.Marking.{time_bound}
use Rattle.keys.specs.Standing.{Owner, Owner.at_change, Owner.moved_back, Stands}
use Rattle.keys.proofs.Laws.{RunLaws}
use Rattle.runs.proofs.Events.{clock_later, linked_later, stamp_kept}
use Rattle.keys.proofs.Base.{living_key, EndOf, end_of, end_or, ends_later, mark_of_field, mark_is, change_stamp, change_below, edge_in, born_low}

effect_true : (top : ℕ) (d f x : Mark) → x.stamp ≤ top → x.stamp ≤ d.stamp → x.stamp ≤ f.stamp → has_effect top d f x ≡ true
effect_true top d f x a b c = grind (arith, nat_tests)

effect_false : (top : ℕ) (d f x : Mark) → (d.stamp < x.stamp) ⊎ (f.stamp < x.stamp) → has_effect top d f x ≡ false
effect_false top d f x (inl a) = grind (arith, nat_tests)
effect_false top d f x (inr a) = grind (arith, nat_tests)

pub effect_parts_false : (top : ℕ) (d f x : Mark) → x.stamp ≤ top → has_effect top d f x ≡ false → (d.stamp < x.stamp) ⊎ (f.stamp < x.stamp)
effect_parts_false top d f x l e =
    ⊎_elim (λ (y : d.stamp < x.stamp). inl y)
    (λ (y : x.stamp ≤ d.stamp).
    ⊎_elim (λ (z : f.stamp < x.stamp). inr z) (λ (z : x.stamp ≤ f.stamp). let q : true ≡ false = sym (effect_true top d f x l y z) ∙ e in absurd cc) (cases_lt f.stamp x.stamp))
    (cases_lt d.stamp x.stamp)

module _ (R : RunInTime) (N : ℕ) (m : Marks) (g : RunLaws R N m) where
  -- the rows to which the row of a change is bound
  pub record Binds (d : Bound) (e : ℕ) : Type 0 where
    pub source : m.source e ≡ d.source
    pub target : m.target e ≡ d.target

  pub event_bound : (f : Field) (p b : ℕ) (d : Bound) (e : ℕ) → p < N → ChangeEvent R f p b (change.Edge d) e → Binds d e
  event_bound Ins p b d e l ev =
      let laws = g.last.times (suc p) N l in
      let x = ev.step.bound in
      record { source = g.tell.source e ∙ laws.source e ev.step.linked ∙ x.0; target = g.tell.target e ∙ laws.target e ev.step.linked ∙ x.1 }
  event_bound Del p b d e l ev =
      let h = ev.why in
      let laws = g.last.times h.time N (omega (arith, h.before)) in
      record { source = g.tell.source e ∙ laws.source e h.held.linked ∙ h.held.bound.0; target = g.tell.target e ∙ laws.target e h.held.linked ∙ h.held.bound.1 }

  event_weight : (p b : ℕ) (d : Bound) (e : ℕ) → p < N → ChangeEvent R Ins p b (change.Edge d) e → m.weight e ≡ d.pair.weight
  event_weight p b d e l ev = g.tell.weight e ∙ (g.last.times (suc p) N l).weight e ev.step.linked ∙ ev.step.bound.2

  -- the call of an edge change saw both vertices alive
  pub saw_both : (k b : ℕ) (f : Field) (d : Bound) (e : ℕ) → OwnChange R k b f (change.Edge d) e → Has R k b d.pair.from d.source × Has R k b d.pair.to d.target
  saw_both k b Ins d e n =
      let o = n.before in
      let y = n.held.1.why.0 in
      let h = y.held.2 in (
        record { time = h.time; before = omega (arith, h.before, y.before); held = (h.held.0, h.held.1) },
        record { time = y.time; before = omega (arith, y.before); held = (y.held.0, y.held.1) },
      )
  saw_both k b Del d e n =
      let o = n.before in
      let h = n.held.1.why in
      let y = h.held.saw in
      let s = y.held.2.0 in
      let t = y.held.2.1 in (
        record { time = s.time; before = omega (arith, s.before, y.before, h.before); held = s.held },
        record { time = t.time; before = omega (arith, t.before, y.before, h.before); held = t.held },
      )

  -- an end that is not below the stamp of the change
  pub not_below : (k b : ℕ) (f : Field) (d : Bound) (e x r : ℕ) → k ≤ N → OwnChange R k b f (change.Edge d) e → LinkedAt R k Vertex r → NotBelow R k b f e x r → x ≤ clock_at R N → x ≤ (m.vertex_del r).stamp
  not_below k b f d e x r kN o w (inr (n, q, l)) z =
      let y = end_of R N m g Vertex r k n kN w q in
      omega (arith, ap (λ (v : Mark). v.stamp) y.is)
  not_below k b f d e x r kN o w (inl v) z =
      let low = change_below R N m g f o.time b (change.Edge d) e x v.time o.held.1 v.held.1 v.held.2 in
      let here = v.before in
      ⊎_elim
      (λ (y : (n : ℕ) × EndOf R N m g Vertex r N n).
      let t = ends_later R N m g Vertex r v.time y.1.time y.1.ending v.held.3 in
      omega (arith, ap (λ (v : Mark). v.stamp) y.1.is, low, y.1.low, clock_later R v.time y.1.time t))
      (λ (y : m.vertex_del r ≡ record { stamp = clock_at R N + 1; time = 0 }). omega (arith, ap (λ (v : Mark). v.stamp) y))
      (end_or R N m g Vertex r (linked_later R k N Vertex r kN w))

  pub has_row : (k b i s : ℕ) → Has R k b i s → LinkedAt R k Vertex s
  has_row k b i s h = linked_later R h.time k Vertex s (omega (arith, h.before)) h.held.1.linked

  -- what is known of the call stands at time k; it was finished at a, and k is right after that, or it is unfinished, and both are now
  module _ (b a k : ℕ) (bN : b < N) (aN : a ≤ N) (ka : k ≤ suc a) (kN : k ≤ N) (still : clock_at R k ≤ clock_at R a) where
    abbrev At : Feed → RowChange → Answer → Key → Type 0
    At f v x q = Stands R N m b a f v x q

    -- a vertex that the call saw ends after the call began
    ends_since : (i r x : ℕ) → Has R k b i r → x ≤ clock_at R N → x ≤ (m.vertex_del r).stamp → Earlier (record { stamp = x; time = b }) (m.vertex_del r)
    ends_since i r x h top z =
        let turn = h.held.0.after in
        let here = h.before in
        ⊎_elim (λ (y : x < (m.vertex_del r).stamp). inl y)
        (λ (y : (m.vertex_del r).stamp ≤ x).
        ⊎_elim
        (λ (q : (n : ℕ) × EndOf R N m g Vertex r N n).
        let t = ends_later R N m g Vertex r h.time q.1.time q.1.ending h.held.1.alive in
        inr (omega arith, omega (arith, ap (λ (v : Mark). v.time) q.1.is)))
        (λ (q : m.vertex_del r ≡ record { stamp = clock_at R N + 1; time = 0 }). absurd (omega (arith, ap (λ (v : Mark). v.stamp) q)))
        (end_or R N m g Vertex r (linked_later R h.time N Vertex r (omega arith) h.held.1.linked)))
        (cases_lt x (m.vertex_del r).stamp)

    -- a change x of edge row e with an effect
    module _ (d : Bound) (e : ℕ) (binds : Binds d e) (x : Mark) (n p : ℕ) (is : x ≡ record { stamp = n; time = p }) (u : TurnOf R p b) (l : p < k) (low : clock_at R p ≤ n) (hi : n ≤ clock_at R k)
        (source_late : n ≤ (m.vertex_del d.source).stamp) (target_late : n ≤ (m.vertex_del d.target).stamp)
        (source_seen : Has R k b d.pair.from d.source) (target_seen : Has R k b d.pair.to d.target) where
      time_is : x.time ≡ p
      time_is = ap (λ (q : Mark). q.time) is

      stamp_is : x.stamp ≡ n
      stamp_is = ap (λ (q : Mark). q.stamp) is

      source_is : source_end m e ≡ m.vertex_del d.source
      source_is = ap m.vertex_del binds.source

      target_is : target_end m e ≡ m.vertex_del d.target
      target_is = ap m.vertex_del binds.target

      in_effect : edge_effect (clock_at R N) m e x ≡ true
      in_effect =
          effect_true (clock_at R N) (source_end m e) (target_end m e) x (omega (arith, stamp_is, hi, clock_later R k N kN))
          (omega (arith, stamp_is, source_late, ap (λ (q : Mark). q.stamp) source_is)) (omega (arith, stamp_is, target_late, ap (λ (q : Mark). q.stamp) target_is))

      since : (i r : ℕ) (y : Mark) → y ≡ m.vertex_del r → Has R k b i r → n ≤ (m.vertex_del r).stamp → Earlier (record { stamp = x.stamp; time = b }) y
      since i r y q h z =
          let v = ends_since i r n h (omega (arith, hi, clock_later R k N kN)) z in
          subst (λ s. Earlier (record { stamp = s; time = b }) y) (sym stamp_is) (subst (Earlier (record { stamp = n; time = b })) (sym q) v)

      at_edge_change : (f : Feed) (v : RowChange) (y : Answer) → Finds (time_bound N) (clock_at R N) m (edge_key (time_bound N) m e x) f v y → At f v y (edge_key (time_bound N) m e x)
      at_edge_change f v y h =
          let pending : clock_at R x.time ≤ x.stamp = subst (λ (q : Mark). clock_at R q.time ≤ q.stamp) (sym is) low in
          let turn = u.after in
          let begun : b < x.time = omega (arith, time_is) in
          let time : x.time ≤ a = omega (arith, time_is) in
          let stamp : x.stamp ≤ clock_at R a = omega (arith, stamp_is) in
          let s = since d.pair.from d.source (source_end m e) source_is source_seen source_late in
          let t = since d.pair.to d.target (target_end m e) target_is target_seen target_late in
          let after = moved_time_after (clock_at R) (clock_later R) b a x pending time stamp (source_end m e) (target_end m e) begun s t in
          record {
            bounded = bounded_moved (time_bound N) (source_end m e) (target_end m e) x (omega arith);
            time = omega arith;
            low = omega (arith, clock_later R 0 p (omega arith), stamp_is);
            high = omega (arith, clock_later R a N aN);
            fits = moved_key_fits (clock_at R) (clock_later R) b a x pending time stamp (time_bound N) (source_end m e) (target_end m e) begun s t;
            owner = owner (moved_part_is (time_bound N) (source_end m e) (target_end m e) x);
            finds = h;
          }
        where
          owner : ((moved_time (source_end m e) (target_end m e) x < x.time) × (moved_part (time_bound N) (source_end m e) (target_end m e) x ≡ x.time))
              ⊎ ((moved_time (source_end m e) (target_end m e) x ≡ x.time) × (moved_part (time_bound N) (source_end m e) (target_end m e) x ≡ time_bound N)) → Owner R N (edge_key (time_bound N) m e x) b
          owner (inl (q, r)) = let z = u.after in moved_back (omega (arith, time_is)) (omega (arith, time_is)) (subst (λ t. TurnOf R t b) (sym (r ∙ time_is)) u)
          owner (inr (q, r)) = at_change r (subst (λ t. TurnOf R t b) (sym (q ∙ time_is)) u)

    edge_changed_here : (d : Bound) (e : ℕ) → Binds d e → Has R k b d.pair.from d.source → Has R k b d.pair.to d.target → d.pair.from < R.sizes.keys → d.pair.to < R.sizes.keys →
        (w : ℕ) → w ≡ d.pair.weight → pair_of m e w ≡ d.pair
    edge_changed_here d e y s t i j w q =
        let from : m.key_of (m.source e) ≡ d.pair.from = ap m.key_of y.source ∙ living_key R N m g s.time d.pair.from d.source i (omega (arith, s.before)) s.held.1 in
        let to : m.key_of (m.target e) ≡ d.pair.to = ap m.key_of y.target ∙ living_key R N m g t.time d.pair.to d.target j (omega (arith, t.before)) t.held.1 in
        same_pair _ _ _ _ _ _ from to q
      where
        same_pair : (a b c x y z : ℕ) → a ≡ x → b ≡ y → c ≡ z → ◌≡◌ {A = Pair} (record { from = a; to = b; weight = c }) (record { from = x; to = y; weight = z })
        same_pair a b c x y z p q r = cc

    -- 20
    pub added_edge : (d : Bound) (e n : ℕ) → d.pair.from < R.sizes.keys → d.pair.to < R.sizes.keys → OwnChange R k b Ins (change.Edge d) e → LinkedAt R k Edge e → mark_at R k Edge Ins e ≡ Stamp n →
        n ≤ (m.vertex_del d.source).stamp → n ≤ (m.vertex_del d.target).stamp →
        (edge_effect (clock_at R N) m e (m.edge_ins e) ≡ true) × At (asks (call.Edge Add d.pair)) (edge_born e) EdgeAdded (edge_key (time_bound N) m e (m.edge_ins e))
    added_edge d e n i j o w q source_late target_late =
        let ev = o.held.1 in
        let z = o.before in
        let y = stamp_kept R k N Edge Ins e n kN w q in
        let is : m.edge_ins e ≡ record { stamp = n; time = o.time } = mark_is R N m g Ins o.time b (change.Edge d) e n (omega arith) ev y in
        let l = change_stamp R N m g Ins o.time b (change.Edge d) e n k o.before ev q in
        let both = saw_both k b Ins d e o in
        let binds = event_bound Ins o.time b d e (omega arith) ev in
        let same = edge_changed_here d e binds both.0 both.1 i j (m.weight e) (event_weight o.time b d e (omega arith) ev) in
        let effect = in_effect d e binds (m.edge_ins e) n o.time is o.held.0 o.before l.0 l.1 source_late target_late both.0 both.1 in (
          effect,
          at_edge_change d e binds (m.edge_ins e) n o.time is o.held.0 o.before l.0 l.1 source_late target_late both.0 both.1 (asks (call.Edge Add d.pair)) (edge_born e) EdgeAdded
              (subst (λ p. Finds (time_bound N) (clock_at R N) m (edge_key (time_bound N) m e (m.edge_ins e)) (asks (call.Edge Add p)) (edge_born e) EdgeAdded) same
              (adds_edge e (record { row = edge_in R N m g k e w; effect = effect; key = refl }))),
        )

    -- 22
    pub removed_edge : (d : Bound) (e n : ℕ) → d.pair.from < R.sizes.keys → d.pair.to < R.sizes.keys → OwnChange R k b Del (change.Edge d) e → LinkedAt R k Edge e → mark_at R k Edge Del e ≡ Stamp n →
        n ≤ (m.vertex_del d.source).stamp → n ≤ (m.vertex_del d.target).stamp →
        (edge_effect (clock_at R N) m e (m.edge_del e) ≡ true) × At (asks (call.Edge Remove d.pair)) (edge_ends e) EdgeRemoved (edge_key (time_bound N) m e (m.edge_del e))
    removed_edge d e n i j o w q source_late target_late =
        let ev = o.held.1 in
        let z = o.before in
        let h = ev.why in
        let y = stamp_kept R k N Edge Del e n kN w q in
        let is : m.edge_del e ≡ record { stamp = n; time = o.time } = mark_is R N m g Del o.time b (change.Edge d) e n (omega arith) ev y in
        let l = change_stamp R N m g Del o.time b (change.Edge d) e n k o.before ev q in
        let both = saw_both k b Del d e o in
        let binds = event_bound Del o.time b d e (omega arith) ev in
        let born = born_low R N m g Edge e h.time h.held.born.number (omega (arith, h.before)) h.held.linked h.held.born.is in
        let same = edge_changed_here d e binds both.0 both.1 i j d.pair.weight refl in
        let effect = in_effect d e binds (m.edge_del e) n o.time is o.held.0 o.before l.0 l.1 source_late target_late both.0 both.1 in (
          effect,
          at_edge_change d e binds (m.edge_del e) n o.time is o.held.0 o.before l.0 l.1 source_late target_late both.0 both.1 (asks (call.Edge Remove d.pair)) (edge_ends e) EdgeRemoved
              (subst (λ p. Finds (time_bound N) (clock_at R N) m (edge_key (time_bound N) m e (m.edge_del e)) (asks (call.Edge Remove p)) (edge_ends e) EdgeRemoved) same
              (removes_edge e d.pair.weight (record { row = edge_in R N m g k e w; stamped = born; effect = effect; key = refl }))),
        )

  -- an edge change above an end of one of its vertices has no effect
  pub no_effect : (f : Field) (p b : ℕ) (d : Bound) (e x r : ℕ) → p < N → ChangeEvent R f p b (change.Edge d) e → mark_at R N Edge f e ≡ Stamp x → (d.source ≡ r) ⊎ (d.target ≡ r) → (m.vertex_del r).stamp < x →
      edge_effect (clock_at R N) m e (mark_of_field R N m g f Edge e) ≡ false
  no_effect f p b d e x r l ev q at z =
      let y = event_bound f p b d e l ev in
      let is = mark_is R N m g f p b (change.Edge d) e x l ev q in
      let s : (mark_of_field R N m g f Edge e).stamp ≡ x = ap (λ (v : Mark). v.stamp) is in
      effect_false (clock_at R N) (source_end m e) (target_end m e) (mark_of_field R N m g f Edge e)
      (⊎_elim (λ (h : d.source ≡ r). inl (omega (arith, s, ap (λ i. (m.vertex_del i).stamp) (y.source ∙ h))))
      (λ (h : d.target ≡ r). inr (omega (arith, s, ap (λ i. (m.vertex_del i).stamp) (y.target ∙ h)))) at)
