-- Edge rows: what they are bound to, how long they are heads of their pairs, and that edge rows bound alike follow one another.
use Rattle.std.proofs.Common.{◌≡◌, ℕ, suc, ◌<◌, ◌≤◌, ◌⊎◌, sym, refl, ap, ap₂, ◌∙◌, subst, inl, inr, ⊎_elim, arith}
use Rattle.std.proofs.lemmas.Bool.{cases_lt, cases_eq}
use Rattle.layout.specs.declared.names.Kind.{Kind}
use Rattle.layout.specs.declared.names.Kind.TheVariants.{Vertex, Edge}
use Rattle.layout.specs.declared.names.Field.TheVariants.{Del}
use Rattle.layout.specs.declared.names.Head.{Head}
use Rattle.layout.specs.declared.names.Head.TheVariants as head
use Rattle.layout.specs.declared.names.Cell.TheVariants as cell
use Rattle.places.specs.declared.place.Bound.{Bound}
use Rattle.places.specs.declared.place.Change.{Change}
use Rattle.places.specs.declared.place.Change.TheVariants as change
use Rattle.layout.specs.Layout.{Named}
use Rattle.layout.specs.declared.sizes.Sizes.{Sizes}
use Rattle.places.specs.Touches.{head_kind, change_head, change_kind}
use Rattle.runs.specs.Runs.{RunInTime}
use Rattle.runs.specs.Views.{number_at, head_at, LinkedAt}
use Rattle.runs.specs.Steps.{HeadSteps, HeadSteps.stays, HeadSteps.moves}
use Rattle.runs.specs.Times.{Before, LinkStepAtHead}
use Rattle.runs.specs.Known.{StampedAt, Dead, Living, Has, BoundTo, Over, KnownLink, LinkEvent}
use Rattle.runs.proofs.Times.{kept_from}
use Rattle.runs.proofs.Heads.{link_event}
use Rattle.runs.proofs.Events.{worker_knows, edge_keys, linked_later, stamped_kept, dead_kept, dead_not, linked_from, living_key, outlived, old_living}
use Rattle.runs.proofs.Steps.{runs_step as step}
use Rattle.runs.proofs.Times.{runs_last as last}
use Rattle.laws.proofs.Owned.{linked_row}

module _ (R : RunInTime) where
  -- what an edge row is bound to
  pub edge_bound : {p b e : ℕ} {d : Bound} → LinkEvent R p b (change.Edge d) e → (k : ℕ) → p < k → BoundTo R k e d
  edge_bound {p} {b} {e} {d} ev k l =
      let laws = (last R).times (suc p) k l in
      (laws.source e ev.step.linked ∙ ev.step.bound.0, laws.target e ev.step.linked ∙ ev.step.bound.1)

  -- the rows that an edge row is bound to were alive before its link, after the read of the head that it was linked over
  pub record Binds (p : ℕ) (d : Bound) : Type 0 where
    pub began : ℕ
    pub first : ℕ
    pub second : ℕ
    pub third : ℕ
    pub before : first < second
    pub between : second < third
    pub after : third < p
    pub read : head_at R first (head.Edge d.pair.from d.pair.to) ≡ head_at R p (head.Edge d.pair.from d.pair.to)
    pub source : Living R second d.pair.from d.source
    pub target : Living R third d.pair.to d.target
    pub early : Has R first began d.pair.to d.target

  pub binds_why : (p b : ℕ) (d : Bound) → KnownLink R p b (change.Edge d) (head_at R p (head.Edge d.pair.from d.pair.to)) → Binds p d
  binds_why p b d w =
      let f = w.0 in
      let h = f.held.2 in
      let s = h.held.2.0 in
      record { began = b; first = s.time; second = h.time; third = f.time; before = s.before; between = h.before; after = f.before; read = s.held.1; source = h.held.1; target = f.held.1; early = s.held.2.1 }

  pub binds_of : {p b e : ℕ} {d : Bound} → LinkEvent R p b (change.Edge d) e → Binds p d
  binds_of {p} {b} {e} {d} ev = binds_why p b d ev.why

  -- a head of a pair that is a row is a linked row
  pub head_is_linked : (t : ℕ) (h : Head) → Named R.sizes (cell.Head h) → 0 < head_at R t h → LinkedAt R t (head_kind h) (head_at R t h)
  head_is_linked t h n l =
      ⊎_elim
      (λ (e : head_at R t h ≡ head_at R 0 h). subst (LinkedAt R t (head_kind h)) (sym e) (linked_later R 0 t (head_kind h) (head_at R 0 h) (omega arith) ((last R).old_head h n (omega arith))))
      (λ (p : Before t (λ p. LinkStepAtHead R p h (head_at R t h))).
      subst (λ (g : Head). LinkedAt R t (head_kind g) (head_at R t h)) p.held.head (linked_later R (suc p.time) t (change_kind p.held.change) (head_at R t h) p.before p.held.step.linked))
      ((last R).head t h n l)

  -- a change at the head of a pair is of an edge
  edge_change : (c : Change) (h : Head) → change_head c ≡ h → head_kind h ≡ Edge → (d : Bound) × (c ≡ change.Edge d)
  edge_change (change.Vertex i) h e k = let x : Vertex ≡ Edge = ap head_kind e ∙ k in absurd cc
  edge_change (change.Edge d) h e k = (d, refl)

  pair_from : {i j x y : ℕ} → head.Edge i j ≡ head.Edge x y → i ≡ x
  pair_from e = cc

  pair_to : {i j x y : ℕ} → head.Edge i j ≡ head.Edge x y → j ≡ y
  pair_to e = cc

  edge_pos : (t e : ℕ) → LinkedAt R t Edge e → 0 < e
  edge_pos t e l = (linked_row (R.state t) Edge e l).0

  -- while an edge row has neither ended nor is bound to a dead row, it stays the head of its pair
  pub data Still (t : ℕ) (h : Head) (e : ℕ) (d : Bound) : Type 0 where
    heads : head_at R t h ≡ e → Still t h e d
    ends : StampedAt R t Edge Del e → Still t h e d
    lone : Dead R t d.source ⊎ Dead R t d.target → Still t h e d

  -- an edge row that stands as head of its pair since time u, at which it is new; before that its vertices were alive
  pub record Since (u e : ℕ) (d : Bound) : Type 0 where
    pub keys : (d.pair.from < R.sizes.keys) × (d.pair.to < R.sizes.keys)
    pub row : LinkedAt R u Edge e
    pub head : head_at R u (head.Edge d.pair.from d.pair.to) ≡ e
    pub bound : BoundTo R u e d
    pub new : (k : ℕ) → LinkedAt R k Edge e → u ≤ k
    pub source_time : ℕ
    pub source_by : source_time ≤ u
    pub source : Living R source_time d.pair.from d.source
    pub target_time : ℕ
    pub target_by : target_time ≤ u
    pub target : Living R target_time d.pair.to d.target

  -- one that was linked
  pub since_link : {p b e : ℕ} {d : Bound} → LinkEvent R p b (change.Edge d) e → Since (suc p) e d
  since_link {p} {b} {e} {d} ev =
      let v = binds_of ev in
      record {
        keys = edge_keys R ev;
        row = ev.step.linked;
        head = ev.step.head;
        bound = edge_bound ev (suc p) (omega arith);
        new = λ k l. linked_from R ev k l;
        source_time = v.second;
        source_by = omega (arith, v.between, v.after);
        source = v.source;
        target_time = v.third;
        target_by = omega (arith, v.after);
        target = v.target;
      }

  -- one from before the start
  abbrev pub old_bound : ℕ → ℕ → ℕ → Bound
  old_bound i j e = record { pair = record { from = i; to = j; weight = number_at R 0 (cell.Weight e) }; source = number_at R 0 (cell.Source e); target = number_at R 0 (cell.Target e) }

  pub record OldEdge (e : ℕ) : Type 0 where
    pub from : ℕ
    pub to : ℕ
    pub since : Since 0 e (old_bound from to e)
    pub source_row : LinkedAt R 0 Vertex (number_at R 0 (cell.Source e))
    pub target_row : LinkedAt R 0 Vertex (number_at R 0 (cell.Target e))
    pub source_head : head_at R 0 (head.Vertex from) ≡ number_at R 0 (cell.Source e)
    pub target_head : head_at R 0 (head.Vertex to) ≡ number_at R 0 (cell.Target e)

  pub old_edge_of : (e : ℕ) → LinkedAt R 0 Edge e → OldEdge e
  old_edge_of e l = let x = (last R).old_row Edge e l in go x.head x.named x.kind x.is
    where
      pos : 0 < e
      pos = edge_pos 0 e l

      go : (h : Head) → Named R.sizes (cell.Head h) → head_kind h ≡ Edge → head_at R 0 h ≡ e → OldEdge e
      go (head.Vertex i) n k z = absurd cc
      go (head.Edge i j) n k z =
          let a = subst (λ (y : Sizes). (i < y.keys) × (j < y.keys)) (sym R.start) n in
          let x = R.clean.joined i j a.0 a.1 (omega (arith, pos)) in
          let s : number_at R 0 (cell.Source e) ≡ head_at R 0 (head.Vertex i) = subst (λ q. number_at R 0 (cell.Source q) ≡ head_at R 0 (head.Vertex i)) z x.source in
          let t : number_at R 0 (cell.Target e) ≡ head_at R 0 (head.Vertex j) = subst (λ q. number_at R 0 (cell.Target q) ≡ head_at R 0 (head.Vertex j)) z x.target in
          let from = old_living R i _ n.0 (sym s) (omega (arith, x.from)) in
          let to = old_living R j _ n.1 (sym t) (omega (arith, x.to)) in
          record {
            from = i;
            to = j;
            source_row = from.linked;
            target_row = to.linked;
            source_head = sym s;
            target_head = sym t;
            since = record {
              keys = n;
              row = l;
              head = z;
              bound = (refl, refl);
              new = λ k _. omega arith;
              source_time = 0;
              source_by = omega arith;
              source = from;
              target_time = 0;
              target_by = omega arith;
              target = to;
            };
          }

  module _ {s e : ℕ} {d : Bound} (v : Since s e d) where
    abbrev pair : Head
    pair = head.Edge d.pair.from d.pair.to

    keys : (d.pair.from < R.sizes.keys) × (d.pair.to < R.sizes.keys)
    keys = v.keys

    pos : 0 < e
    pos = edge_pos s e v.row

    linked_since : (j : ℕ) → s ≤ j → LinkedAt R j Edge e
    linked_since j a = linked_later R s j Edge e a v.row

    pub bound_since : (k : ℕ) → s ≤ k → BoundTo R k e d
    bound_since k l = let laws = (last R).times s k l in (laws.source e v.row ∙ v.bound.0, laws.target e v.row ∙ v.bound.1)

    -- another binding
    other : (j : ℕ) → s ≤ j → (c : Bound) → head.Edge c.pair.from c.pair.to ≡ pair → Binds j c → head_at R j pair ≡ e → ¬ ((d.source ≡ c.source) × (d.target ≡ c.target)) → Dead R j d.source ⊎ Dead R j d.target
    other j a c x u f n =
        let read : head_at R u.first pair ≡ e = ap (head_at R u.first) (sym x) ∙ u.read ∙ ap (head_at R j) x ∙ f in
        let l : LinkedAt R u.first Edge e = subst (LinkedAt R u.first Edge) read (head_is_linked u.first pair keys (subst (λ y. 0 < y) (sym read) pos)) in
        let o : s ≤ u.first = v.new u.first l in
        let source : Living R u.second d.pair.from c.source = subst (λ i. Living R u.second i c.source) (pair_from x) u.source in
        let target : Living R u.third d.pair.to c.target = subst (λ i. Living R u.third i c.target) (pair_to x) u.target in
        ⊎_elim
        (λ (q : d.source ≡ c.source). inr (dead_kept R u.third j d.target (omega (arith, u.after))
        (outlived R d.pair.to d.target c.target v.target_time u.third keys.1 (omega (arith, o, u.before, u.between, v.target_by)) v.target target (λ r. n (q, r)))))
        (λ (q : ¬ (d.source ≡ c.source)). inl (dead_kept R u.second j d.source (omega (arith, u.between, u.after))
        (outlived R d.pair.from d.source c.source v.source_time u.second keys.0 (omega (arith, o, u.before, v.source_by)) v.source source q)))
        (cases_eq d.source c.source)

    over : (j : ℕ) → s ≤ j → (c : Bound) (h : ℕ) → head.Edge c.pair.from c.pair.to ≡ pair → Binds j c → head_at R j pair ≡ e → h ≡ e → Over R j h c → Still (suc j) pair e d
    over j a c h x u f q (inl z) = absurd (omega (arith, pos))
    over j a c h x u f q (inr z) = go z.why
      where
        go : StampedAt R j Edge Del h ⊎ ¬ (BoundTo R j h c) → Still (suc j) pair e d
        go (inl y) = ends (stamped_kept R j (suc j) Edge Del e (omega arith) (linked_since j a) (subst (StampedAt R j Edge Del) q y))
        go (inr y) =
            let i = bound_since j a in
            let n : ¬ ((d.source ≡ c.source) × (d.target ≡ c.target)) = λ k. y (subst (λ g. BoundTo R j g c) (sym q) (i.0 ∙ k.0, i.1 ∙ k.1)) in
            ⊎_elim (λ (k : Dead R j d.source). lone (inl (dead_kept R j (suc j) d.source (omega arith) k))) (λ (k : Dead R j d.target). lone (inr (dead_kept R j (suc j) d.target (omega arith) k)))
            (other j a c x u f n)

    still_step : (j : ℕ) → s ≤ j → Still j pair e d → HeadSteps R j pair (head_at R (suc j) pair) → Still (suc j) pair e d
    still_step j a (ends z) h = ends (stamped_kept R j (suc j) Edge Del e (omega arith) (linked_since j a) z)
    still_step j a (lone (inl z)) h = lone (inl (dead_kept R j (suc j) d.source (omega arith) z))
    still_step j a (lone (inr z)) h = lone (inr (dead_kept R j (suc j) d.target (omega arith) z))
    still_step j a (heads f) (stays g) = heads (g ∙ f)
    still_step j a (heads f) (moves c x st) =
        let k = edge_change c pair x refl in
        let fv = link_event R (suc j) (worker_knows R (suc j)) j (omega arith) c _ st in
        let gv : LinkEvent R j fv.0 (change.Edge k.0) (head_at R (suc j) pair) = subst (λ y. LinkEvent R j fv.0 y (head_at R (suc j) pair)) k.1 fv.1 in
        let y : head.Edge k.0.pair.from k.0.pair.to ≡ pair = ap change_head (sym k.1) ∙ x in
        over j a k.0 _ y (binds_of gv) f (ap (head_at R j) y ∙ f) gv.why.1

    pub still : (t : ℕ) → s ≤ t → Still t pair e d
    still t l = kept_from (λ m. Still m pair e d) s (heads v.head) (λ j a h. still_step j a h ((step R j).heads pair keys)) t l

  -- of two edge rows bound alike, the older has ended before the newer was linked
  module _ {p e q a f : ℕ} {d c : Bound} (v : Since p e d) (fv : LinkEvent R q a (change.Edge c) f) (s : d.source ≡ c.source) (t : d.target ≡ c.target) (l : p ≤ q) where
    abbrev newer : Head
    newer = head.Edge c.pair.from c.pair.to

    u : Binds q c
    u = binds_of fv

    same_pair : head.Edge d.pair.from d.pair.to ≡ newer
    same_pair =
        let k = v.keys in
        let m = edge_keys R fv in
        ap₂ head.Edge (living_key R k.0 m.0 v.source (subst (Living R u.second c.pair.from) (sym s) u.source)) (living_key R k.1 m.1 v.target (subst (Living R u.third c.pair.to) (sym t) u.target))

    -- where the newer was linked over the older
    over_older : (h : ℕ) → h ≡ e → Over R q h c → StampedAt R q Edge Del e
    over_older h x (inl z) = absurd (omega (arith, edge_pos p e v.row))
    over_older h x (inr z) =
        let i = bound_since v q l in
        ⊎_elim (λ (y : StampedAt R q Edge Del h). subst (StampedAt R q Edge Del) x y) (λ (y : ¬ (BoundTo R q h c)). absurd (y (subst (λ g. BoundTo R q g c) (sym x) (i.0 ∙ s, i.1 ∙ t)))) z.why

    at_read : p ≤ u.first → Still u.first (head.Edge d.pair.from d.pair.to) e d → StampedAt R q Edge Del e
    at_read m (heads z) = over_older (head_at R q newer) (sym u.read ∙ ap (head_at R u.first) (sym same_pair) ∙ z) fv.why.1
    at_read m (ends z) = stamped_kept R u.first q Edge Del e (omega (arith, u.before, u.between, u.after)) (linked_since v u.first m) z
    at_read m (lone (inl z)) = absurd (dead_not R u.second c.source (dead_kept R u.first u.second c.source (omega (arith, u.before)) (subst (Dead R u.first) s z)) u.source.alive)
    at_read m (lone (inr z)) = absurd (dead_not R u.third c.target (dead_kept R u.first u.third c.target (omega (arith, u.before, u.between)) (subst (Dead R u.first) t z)) u.target.alive)

    -- where the head was read before the older was linked
    since : (head_at R q newer ≡ head_at R p newer) ⊎ Before q (λ j. (p ≤ j) × LinkStepAtHead R j newer (head_at R q newer)) → u.first < p → StampedAt R q Edge Del e
    since (inl z) m = over_older (head_at R q newer) (z ∙ ap (head_at R p) (sym same_pair) ∙ v.head) fv.why.1
    since (inr z) m =
        let k = edge_keys R fv in
        let st = z.held.1 in
        let row : LinkedAt R (suc z.time) (change_kind st.change) (head_at R q newer) = st.step.linked in
        let kind : change_kind st.change ≡ Edge = ap head_kind st.head in
        let high : 0 < head_at R q newer = edge_pos (suc z.time) _ (subst (λ (y : Kind). LinkedAt R (suc z.time) y (head_at R q newer)) kind row) in
        let first_row : LinkedAt R u.first Edge (head_at R q newer) = subst (LinkedAt R u.first Edge) u.read (head_is_linked u.first newer k (subst (λ y. 0 < y) (sym u.read) high)) in
        let low : LinkedAt R z.time Edge (head_at R q newer) = linked_later R u.first z.time Edge _ (omega (arith, z.held.0)) first_row in
        absurd (st.step.fresh (subst (λ (y : Kind). LinkedAt R z.time y (head_at R q newer)) (sym kind) low))

    pub edge_order : StampedAt R q Edge Del e
    edge_order =
        ⊎_elim (λ (m : u.first < p). since (((last R).times p q l).head newer (edge_keys R fv)) m)
        (λ (m : p ≤ u.first). at_read m (still v u.first m))
        (cases_lt u.first p)
