-- The marks of a run are sound.
use Rattle.std.proofs.Common.{◌≡◌, ℕ, suc, ◌<◌, ◌≤◌, ◌≢◌, ◌⊎◌, sym, ap, ap₂, ◌∙◌, subst, inl, arith}
use Rattle.layout.specs.declared.names.Kind.{Kind}
use Rattle.layout.specs.declared.names.Kind.TheVariants.{Vertex, Edge}
use Rattle.layout.specs.declared.names.Field.TheVariants.{Del}
use Rattle.layout.specs.declared.names.Cell.TheVariants as cell
use Rattle.layout.specs.declared.sizes.Sizes.{Sizes}
use Rattle.layout.specs.Rows.{rows_all}
use Rattle.places.specs.declared.mark.Mark.TheVariants.{NotEnded}
use Rattle.places.specs.declared.place.Change.{Change}
use Rattle.places.specs.declared.place.Place.TheVariants as place
use Rattle.places.specs.Touches.{change_head, change_kind}
use Rattle.order.specs.Marks.{Mark, Earlier, MarksSound}
use Rattle.runs.specs.Runs.{RunInTime}
use Rattle.runs.specs.Views.{number_at, clock_at, head_at, mark_at, LinkedAt}
use Rattle.runs.specs.Known.{Living, LinkEvent, EndEvent}
use Rattle.runs.specs.Marking.{time_bound, RunsMarked}
use Rattle.runs.proofs.Steps.{sizes_at}
use Rattle.runs.proofs.Events.{same_turn, clock_later, edge_keys, end_late}
use Rattle.runs.proofs.EdgeEvents.{binds_of, old_edge_of, bound_since}
use Rattle.runs.proofs.Births.{LinkBirth, Way, Way.from_start, Way.by_link, Birth, birth_told_is, ins_old, key_of_row, marks, marks_tell, link_now, link_way, living_birth}
use Rattle.runs.proofs.Events.{end_change}
use Rattle.runs.proofs.MarkLaws.{earlier_on, ins, del, Told, ins_small, del_small, del_low, born, over, before_end, mark_order, edge_link, apart_by, old_vertex_one, old_edge_one, vertex_older, edge_older}
use Rattle.laws.proofs.Runs.{runs_sound as sound}
use Rattle.runs.proofs.Times.{runs_last as last}
use Rattle.laws.proofs.Owned.{linked_row}

module _ (R : RunInTime) (N : ℕ) where
  abbrev ins_at : Kind → ℕ → Mark
  ins_at c r = ins R N c r

  abbrev del_at : Kind → ℕ → Mark
  del_at c r = del R N c r

  abbrev source_at : ℕ → ℕ
  source_at e = number_at R N (cell.Source e)

  abbrev target_at : ℕ → ℕ
  target_at e = number_at R N (cell.Target e)

  row_in : (k s : ℕ) → LinkedAt R k Vertex s → s < suc (rows_all R.sizes Vertex)
  row_in k s l = let e : rows_all (R.state k).sizes Vertex ≡ rows_all R.sizes Vertex = ap (λ (z : Sizes). rows_all z Vertex) (sizes_at R k) in omega (arith, (linked_row (R.state k) Vertex s l).1)

  -- what is known of the rows of an edge row that is born
  record Ends (e : ℕ) : Type 0 where
    pub source_row : source_at e < suc (rows_all R.sizes Vertex)
    pub target_row : target_at e < suc (rows_all R.sizes Vertex)
    pub source_first : Earlier (ins_at Vertex (source_at e)) (ins_at Edge e)
    pub target_first : Earlier (ins_at Vertex (target_at e)) (ins_at Edge e)
    pub source_meets : Earlier (ins_at Vertex (source_at e)) (del_at Vertex (target_at e))
    pub target_meets : Earlier (ins_at Vertex (target_at e)) (del_at Vertex (source_at e))

  birth_is : (r : ℕ) (h : Birth R N Vertex r) → ins_at Vertex r ≡ record { stamp = h.stamp; time = h.time }
  birth_is r h = birth_told_is R N Vertex r h

  -- a vertex row that was seen alive at t was born before any mark of a later time and stamp
  living_first : (t i s n p : ℕ) → i < R.sizes.keys → t ≤ N → Living R t i s → clock_at R t ≤ n → t ≤ p → Earlier (ins_at Vertex s) (record { stamp = n; time = p })
  living_first t i s n p k l v c a =
      let h = living_birth R N t i s k l v in
      rw (birth_is s h.0) (earlier_on (record { stamp = h.0.stamp; time = h.0.time }) (clock_at R t) t n p h.1 c a)

  -- and before the end of a row that had not ended at a later time
  living_meets : (t i s r u : ℕ) → i < R.sizes.keys → t ≤ N → Living R t i s → t ≤ u → u ≤ N → mark_at R u Vertex Del r ≡ NotEnded → Earlier (ins_at Vertex s) (del_at Vertex r)
  living_meets t i s r u k l v a b e =
      let h = living_birth R N t i s k l v in
      let x : Mark = record { stamp = h.0.stamp; time = h.0.time } in
      rw (birth_is s h.0) (before_end R N Vertex r u x (earlier_on x (clock_at R t) t (clock_at R u) u h.1 (clock_later R t u a) a) b e)

  -- of one that was linked
  ends_link : (e p n : ℕ) → LinkBirth R N Edge e p n → ins_at Edge e ≡ record { stamp = n; time = p } → Ends e
  ends_link e p n h is =
      let x = edge_link R N e p n h in
      let k = edge_keys R x.1 in
      let u = binds_of R x.1 in
      let o = h.before in
      let c = link_now R N Edge e p n h in
      let second = clock_later R u.second p (omega (arith, u.between, u.after)) in
      let third = clock_later R u.third p (omega (arith, u.after)) in
      let d = x.0 in
      record {
        source_row = subst (λ y. y < suc (rows_all R.sizes Vertex)) (sym x.2.0) (row_in u.second d.source u.source.linked);
        target_row = subst (λ y. y < suc (rows_all R.sizes Vertex)) (sym x.2.1) (row_in u.third d.target u.target.linked);
        source_first = subst (λ y. Earlier (ins_at Vertex y) (ins_at Edge e)) (sym x.2.0) (rw is (living_first u.second d.pair.from d.source n p k.0 (omega (arith, u.between, u.after)) u.source (omega (arith, c.0)) (omega (arith, u.between, u.after))));
        target_first = subst (λ y. Earlier (ins_at Vertex y) (ins_at Edge e)) (sym x.2.1) (rw is (living_first u.third d.pair.to d.target n p k.1 (omega (arith, u.after)) u.target (omega (arith, c.0)) (omega (arith, u.after))));
        source_meets = subst (λ y. Earlier (ins_at Vertex y) (del_at Vertex (target_at e))) (sym x.2.0) (subst (λ y. Earlier (ins_at Vertex d.source) (del_at Vertex y)) (sym x.2.1)
            (living_meets u.second d.pair.from d.source d.target u.third k.0 (omega (arith, u.between, u.after)) u.source (omega (arith, u.between)) (omega (arith, u.after)) u.target.alive));
        target_meets = subst (λ y. Earlier (ins_at Vertex y) (del_at Vertex (source_at e))) (sym x.2.1) (subst (λ y. Earlier (ins_at Vertex d.target) (del_at Vertex y)) (sym x.2.0)
            (living_meets u.early.time d.pair.to d.target d.source u.second k.1 (omega (arith, u.early.before, u.before, u.between, u.after)) u.early.held.1 (omega (arith, u.early.before, u.before)) (omega (arith, u.between, u.after)) u.source.alive));
      }

  -- of one from before the start
  ends_old : (e : ℕ) → LinkedAt R 0 Edge e → ins_at Edge e ≡ record { stamp = clock_at R 0; time = 0 } → Ends e
  ends_old e o is =
      let x = old_edge_of R e o in
      let v = x.since in
      let y = bound_since R v N (omega arith) in
      let s : LinkedAt R 0 Vertex (source_at e) = subst (LinkedAt R 0 Vertex) (sym y.0) x.source_row in
      let t : LinkedAt R 0 Vertex (target_at e) = subst (LinkedAt R 0 Vertex) (sym y.1) x.target_row in
      let a : ins_at Vertex (source_at e) ≡ record { stamp = 0; time = 0 } = ins_old R N Vertex (source_at e) s in
      let b : ins_at Vertex (target_at e) ≡ record { stamp = 0; time = 0 } = ins_old R N Vertex (target_at e) t in
      let one : 1 ≤ clock_at R 0 = ((last R).clock 0).0 in
      record {
        source_row = row_in 0 (source_at e) s;
        target_row = row_in 0 (target_at e) t;
        source_first = rw (a, is) (inl (omega arith));
        target_first = rw (b, is) (inl (omega arith));
        source_meets = rw a (inl (del_low R N Vertex (target_at e)));
        target_meets = rw b (inl (del_low R N Vertex (source_at e)));
      }

  ends_of : (e : ℕ) → Told R N Edge e → Ends e
  ends_of e h = go h.0.time h.0.stamp h.0.way h.1
    where
      go : (p n : ℕ) → Way R N Edge e p n → ins_at Edge e ≡ record { stamp = n; time = p } → Ends e
      go p n (from_start o a b) is = ends_old e o (is ∙ ap₂ (λ u v. record { stamp = u; time = v }) b a)
      go p n (by_link x) is = ends_link e p n x is

  -- two changes of one turn are one
  link_no_end : (p b e q a r : ℕ) (c d : Change) → LinkEvent R p b c e → EndEvent R q a d r → ¬ (q ≡ p)
  link_no_end p b e q a r c d ev fv y =
      let gv : EndEvent R p a d r = subst (λ j. EndEvent R j a d r) y fv in
      let t = same_turn R ev.step.turn gv.turn in
      let z : place.Link c (head_at R p (change_head c)) ≡ place.End d r = t.1 in
      absurd cc

  ends_apart : (p b e q a r : ℕ) (c d : Change) → EndEvent R p b c e → EndEvent R q a d r → change_kind c ≡ Edge → change_kind d ≡ Vertex → ¬ (q ≡ p)
  ends_apart p b e q a r c d ev fv k l y =
      let gv : EndEvent R p a d r = subst (λ j. EndEvent R j a d r) y fv in
      let t = same_turn R ev.turn gv.turn in
      let z : c ≡ d = end_change R t.1 in
      let w : Edge ≡ Vertex = sym k ∙ ap change_kind z ∙ l in
      absurd cc

  vertices_apart : (r s : ℕ) → key_of_row R N r ≡ key_of_row R N s → r ≢ s → Earlier (del_at Vertex r) (ins_at Vertex s) ⊎ Earlier (del_at Vertex s) (ins_at Vertex r)
  vertices_apart r s q n = apart_by R N Vertex r s n (old_vertex_one R N r s q) (vertex_older R N r s q) (vertex_older R N s r (sym q))

  edges_apart : (e f : ℕ) → source_at e ≡ source_at f → target_at e ≡ target_at f → e ≢ f → Earlier (del_at Edge e) (ins_at Edge f) ⊎ Earlier (del_at Edge f) (ins_at Edge e)
  edges_apart e f q r n = apart_by R N Edge e f n (old_edge_one R N e f q r) (edge_older R N e f q r) (edge_older R N f e (sym q) (sym r))

  pub marks_sound : MarksSound (time_bound N) (clock_at R N) (marks R N)
  marks_sound = record {
    vertex_ins = λ r. (ins_small R N Vertex r).0;
    vertex_del = λ r. (del_small R N Vertex r).0;
    edge_ins = λ e. (ins_small R N Edge e).0;
    edge_del = λ e. (del_small R N Edge e).0;
    births = λ r. (ins_small R N Vertex r).1;
    vertex_order = mark_order R N Vertex;
    edge_order = mark_order R N Edge;
    vertex_apart = vertices_apart;
    edge_apart = edges_apart;
    source_row = λ e l. (ends_of e (born R N Edge e l)).source_row;
    target_row = λ e l. (ends_of e (born R N Edge e l)).target_row;
    source_first = λ e l. (ends_of e (born R N Edge e l)).source_first;
    target_first = λ e l. (ends_of e (born R N Edge e l)).target_first;
    source_meets = λ e l. (ends_of e (born R N Edge e l)).source_meets;
    target_meets = λ e l. (ends_of e (born R N Edge e l)).target_meets;
    ins_distinct = λ e r l q z.
        let h = born R N Edge e l in
        let k = over R N Vertex r (omega arith) in
        let t : k.0.time ≡ h.0.time = ap (λ m. m.time) (sym k.1) ∙ z ∙ ap (λ m. m.time) h.1 in
        let late : 0 < k.0.time = end_late R k.0.ending.event in
        let o = link_way R N Edge e h.0 (omega arith) in
        link_no_end h.0.time o.linking.began e k.0.time k.0.ending.began r o.linking.change k.0.ending.change o.linking.event k.0.ending.event t;
    del_distinct = λ e r l q z.
        let h = over R N Edge e l in
        let k = over R N Vertex r (omega arith) in
        ends_apart h.0.time h.0.ending.began e k.0.time k.0.ending.began r h.0.ending.change k.0.ending.change h.0.ending.event k.0.ending.event h.0.ending.kind k.0.ending.kind (ap (λ m. m.time) (sym k.1) ∙ z ∙ ap (λ m. m.time) h.1);
  }

pub runs_marked : RunsMarked
runs_marked R N = record {
  marks = marks R N;
  tells = marks_tell R N;
  sound = marks_sound R N;
}
