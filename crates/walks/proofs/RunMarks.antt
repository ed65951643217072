-- The marks that a run gives to order are those of its course.
use Rattle.std.proofs.Common.{◌≡◌, ℕ, suc, ◌<◌, ◌≤◌, ◌⊎◌, sym, refl, ap, ◌∙◌, subst, subst₂, inl, inr, ⊎_elim, arith}
use Rattle.layout.specs.declared.sizes.Sizes.{Sizes}
use Rattle.layout.specs.declared.names.Kind.{Kind}
use Rattle.layout.specs.declared.names.Kind.TheVariants as kind
use Rattle.layout.specs.declared.names.Field.TheVariants.{Ins, Del}
use Rattle.layout.specs.declared.names.Head.{Head}
use Rattle.layout.specs.declared.names.Head.TheVariants as head
use Rattle.layout.specs.declared.names.Cell.TheVariants as cell
use Rattle.layout.specs.Layout.{Named}
use Rattle.layout.specs.Rows.{rows_all}
use Rattle.places.specs.Touches.{head_kind, change_head}
use Rattle.places.specs.declared.mark.Mark as places
use Rattle.places.specs.declared.mark.Mark.TheVariants.{NotEnded, Pending, Stamp}
use Rattle.places.specs.declared.place.Change.{Change}
use Rattle.places.specs.declared.place.Change.TheVariants as change
use Rattle.places.specs.declared.place.Place.TheVariants as place
use Rattle.laws.specs.Fits.{FitPlace}
use Rattle.order.specs.Marks.{Mark, Marks}
use Rattle.runs.specs.Runs.{RunInTime}
use Rattle.runs.specs.Views.{number_at, clock_at, head_at, mark_at, LinkedAt}
use Rattle.runs.specs.Steps.{LinkStep}
use Rattle.runs.specs.Times.{Before}
use Rattle.runs.specs.Known.{LinkEvent}
use Rattle.runs.specs.Events.{LinkEventOfKind}
use Rattle.runs.specs.Marking as runs
use Rattle.runs.specs.Marking.{old_mark, ins_of, del_of}
use Rattle.walks.specs.Memory.{mark_in, memory_of}
use Rattle.walks.specs.Courses.{Course, CourseBefore, CourseLinked, CourseLink, Laws}
use Rattle.walks.specs.Steps.{CourseLinkStep}
use Rattle.walks.specs.Told.{TellsMark, MarksTellCourse}
use Rattle.walks.specs.Histories.{run_course}
use Rattle.walks.specs.Marking.{RunsTellMarks}
use Rattle.walks.proofs.Times.{same_stamp}
use Rattle.walks.proofs.Steps.{steps_give_laws}
use Rattle.laws.proofs.Owned.{linked_row}
use Rattle.runs.proofs.Decides.{linked_or}
use Rattle.walks.proofs.Histories.{at_time, head_then, old_comes, Comes, comes, linked_by}
use Rattle.walks.proofs.RunSteps.{links_of}
use Rattle.walks.proofs.RunCourses.{runs_give_steps}
use Rattle.laws.proofs.Heads.{change_named}
use Rattle.runs.proofs.Heads.{link_event as event_of, key_change}
use Rattle.runs.proofs.Births.{vertex_change, edge_change_of as edge_change}
use Rattle.runs.proofs.Steps.{sound_at, sizes_at}
use Rattle.runs.proofs.Times.{runs_last as last}
use Rattle.runs.proofs.Knows.{runs_know as know}
use Rattle.runs.proofs.Ends.{runs_events as events}

module _ (R : RunInTime) (now : ℕ) where
  abbrev c : Course
  c = run_course R now

  abbrev n : ℕ
  n = R.sizes.keys

  law : Laws c n
  law = steps_give_laws c n (runs_give_steps R now)

  comes_of : (h : Head) (r : ℕ) (w : CourseBefore now (λ p. CourseLink c p h r)) → Comes R now w.time h r
  comes_of h r w = comes R now w.time h r w.was.row w.was.is w.was.moved

  linked_now : (h : Head) (r : ℕ) → CourseLinked c now h r → LinkedAt R now (head_kind h) r
  linked_now h r (inl o) = ((last R).times 0 now (omega arith)).linked (head_kind h) r (old_comes R now h r o).linked
  linked_now h r (inr w) = ((last R).times (suc w.time) now w.before).linked (head_kind h) r (linked_by R now w.time h r (comes_of h r w).by)

  link_event : (p : ℕ) (d : Change) (r : ℕ) → LinkStep R p d r → (b : ℕ) × LinkEvent R p b d r
  link_event p d r s = event_of R (suc p) (λ j l. (know R).workers j) p (omega arith) d r s

  -- the change of a link is of keys of the opening
  named : (p : ℕ) (d : Change) (r : ℕ) → LinkStep R p d r → Named R.sizes (cell.Head (change_head d))
  named p d r s =
      let fits = (sound_at R p).places s.worker (subst (λ (z : Sizes). s.worker < z.workers) (sym (sizes_at R p)) s.turn.within) in
      let fit : FitPlace (R.state p) (place.Link d (head_at R p (change_head d))) = subst (FitPlace (R.state p)) s.turn.place fits in
      subst (λ z. Named z (cell.Head (change_head d))) (sizes_at R p) (change_named (R.state p) d fit.0)

  -- a row that a step links is linked in the course
  linked_from : (p : ℕ) (d : Change) (r : ℕ) → p < now → LinkStep R p d r → CourseLinked c now (change_head d) r
  linked_from p d r l s = inr (record { time = p; before = l; was = ⊎_elim same (λ (x : CourseLink c p (change_head d) ((c.at (suc p)).head (change_head d))). subst (CourseLink c p (change_head d)) links.is x) (law.heads p (change_head d)) })
    where
      links : CourseLinkStep c n p (change_head d) r
      links = links_of R now p l d r s (named p d r s)

      same : (c.at (suc p)).head (change_head d) ≡ (c.at p).head (change_head d) → CourseLink c p (change_head d) r
      same e = absurd (links.fresh p (omega arith) (sym e ∙ links.is))

  -- a row from before the start, by its head in the course
  old_linked : (g : Kind) (r : ℕ) → LinkedAt R 0 g r → (h : Head) × (head_kind h ≡ g) × CourseLinked c now h r
  old_linked g r o =
      let x = (last R).old_row g r o in
      (x.head, x.kind, inl (record { row = (linked_row (R.state 0) g r o).0; is = head_then R now 0 x.head (omega arith) x.named ∙ x.is }))

  old_stamp_low : (g : Kind) (r : ℕ) → LinkedAt R 0 g r → (y : ℕ) → mark_at R now g Ins r ≡ Stamp y → y ≤ clock_at R 0
  old_stamp_low g r o y e =
      let row = (last R).old_row g r o in
      let then : mark_at R now g Ins r ≡ Stamp row.number = ((last R).times 0 now (omega arith)).stamp g Ins r row.number o row.stamp in
      let same : y ≡ row.number = same_stamp e then in
      omega (arith, same, row.low)

  -- the clock at the start, as the course has it
  first_is : clock_at R 0 ≡ (c.at 0).clock
  first_is = ap (clock_at R) (at_time R now 0 (omega arith))

  module _ (m : Marks) (tell : runs.MarksTellRun R now m) where
    key_is : (i r : ℕ) → CourseLinked c now (head.Vertex i) r → m.key_of r ≡ i
    key_is i r (inl o) = (let x = old_comes R now (head.Vertex i) r o in tell.old_key i r x.named x.is o.row)
    key_is i r (inr w) =
        let x = comes_of (head.Vertex i) r w in
        let e = link_event w.time x.by.change r x.by.step in
        tell.key w.time e.0 i r (subst (λ d. LinkEvent R w.time e.0 d r) (key_change x.by.change i x.by.head) e.1) w.before

    -- a row whose mark of ins is a number up to the clock is linked
    born : (g : Kind) (r : ℕ) → (ins_of m g r).stamp ≤ clock_at R now → LinkedAt R now g r
    born g r l = ⊎_elim (λ (x : LinkedAt R now g r). x) (λ (x : ¬ (LinkedAt R now g r)). absurd (none x)) (linked_or R now g r)
      where
        none : ¬ (LinkedAt R now g r) → ⊥
        none x = (let e = ap (λ (v : Mark). v.stamp) (tell.unborn g r (λ y. x y.0)) in omega arith)

    ins_told : (g : Kind) (r : ℕ) → LinkedAt R now g r → (v : places.Mark) → mark_at R now g Ins r ≡ v → TellsMark (clock_at R 0) (clock_at R now) v (ins_of m g r).stamp
    ins_told g r l (Stamp y) e = by_way ((events R).linked now g r l)
      where
        old_small : (g : Kind) → (old_mark R g).stamp ≤ clock_at R 0
        old_small kind.Vertex = omega arith
        old_small kind.Edge = omega arith

        by_way : LinkedAt R 0 g r ⊎ Before now (LinkEventOfKind R g r) → (((ins_of m g r).stamp ≡ y) ⊎ (((ins_of m g r).stamp ≤ clock_at R 0) × (y ≤ clock_at R 0))) × (y ≤ clock_at R now)
        by_way (inl o) =
            let z : y ≤ clock_at R 0 = old_stamp_low g r o y e in
            (inr (subst (λ (v : Mark). v.stamp ≤ clock_at R 0) (sym (tell.old g r o)) (old_small g), z), omega (arith, z, ((last R).times 0 now (omega arith)).clock))
        by_way (inr p) = (inl (ap (λ (v : Mark). v.stamp) (tell.born g r p.time y l p.held e)), ((events R).link_stamp g r p.time now y p.held p.before e).1)
    ins_told g r l NotEnded e = (let q = ap (λ (v : Mark). v.stamp) (tell.unborn g r (λ y. no_stamp y.1.number (sym e ∙ y.1.is))) in omega arith)
      where
        no_stamp : (x : ℕ) → ¬ (NotEnded ≡ Stamp x)
        no_stamp x z = absurd cc
    ins_told g r l Pending e = (let q = ap (λ (v : Mark). v.stamp) (tell.unborn g r (λ y. no_stamp y.1.number (sym e ∙ y.1.is))) in omega arith)
      where
        no_stamp : (x : ℕ) → ¬ (Pending ≡ Stamp x)
        no_stamp x z = absurd cc

    del_told : (g : Kind) (r : ℕ) → LinkedAt R now g r → (v : places.Mark) → mark_at R now g Del r ≡ v → TellsMark (clock_at R 0) (clock_at R now) v (del_of m g r).stamp
    del_told g r l (Stamp y) e =
        let p = (events R).ended now g r l (λ z. no_stamp (sym e ∙ z)) in
        (inl (ap (λ (v : Mark). v.stamp) (tell.ended g r p.time y l p.held e)), ((events R).end_stamp g r p.time now y p.held p.before e).1)
      where
        no_stamp : ¬ (Stamp y ≡ NotEnded)
        no_stamp z = absurd cc
    del_told g r l NotEnded e = (let q = ap (λ (v : Mark). v.stamp) (tell.unended g r (λ y. no_stamp y.1.number (sym e ∙ y.1.is))) in omega arith)
      where
        no_stamp : (x : ℕ) → ¬ (NotEnded ≡ Stamp x)
        no_stamp x z = absurd cc
    del_told g r l Pending e = (let q = ap (λ (v : Mark). v.stamp) (tell.unended g r (λ y. no_stamp y.1.number (sym e ∙ y.1.is))) in omega arith)
      where
        no_stamp : (x : ℕ) → ¬ (Pending ≡ Stamp x)
        no_stamp x z = absurd cc

    is_row : (h : Head) (r : ℕ) → CourseLinked c now h r → r < suc (rows_all R.sizes (head_kind h))
    is_row h r w =
        let most = (linked_row (R.state now) (head_kind h) r (linked_now h r w)).1 in
        let small : r ≤ rows_all R.sizes (head_kind h) = subst (λ (z : Sizes). r ≤ rows_all z (head_kind h)) (sizes_at R now) most in
        omega (arith, small)

    vertex_born : (r : ℕ) → (m.vertex_ins r).stamp ≤ clock_at R now → CourseLinked c now (head.Vertex (m.key_of r)) r
    vertex_born r l = by_way ((events R).linked now kind.Vertex r (born kind.Vertex r l))
      where
        by_way : LinkedAt R 0 kind.Vertex r ⊎ Before now (LinkEventOfKind R kind.Vertex r) → CourseLinked c now (head.Vertex (m.key_of r)) r
        by_way (inl o) = (let x = old_linked kind.Vertex r o in by_head x.0 x.1 x.2)
          where
            by_head : (h : Head) → head_kind h ≡ kind.Vertex → CourseLinked c now h r → CourseLinked c now (head.Vertex (m.key_of r)) r
            by_head (head.Edge i j) q w = absurd cc
            by_head (head.Vertex i) q w = subst (λ i. CourseLinked c now (head.Vertex i) r) (sym (key_is i r w)) w
        by_way (inr p) =
            let d = vertex_change p.held.change p.held.kind in
            let event : LinkEvent R p.time p.held.began (change.Vertex d.0) r = subst (λ e. LinkEvent R p.time p.held.began e r) d.1 p.held.event in
            let linked : CourseLinked c now (head.Vertex d.0) r = linked_from p.time (change.Vertex d.0) r p.before event.step in
            subst (λ i. CourseLinked c now (head.Vertex i) r) (sym (key_is d.0 r linked)) linked

    source_told : (e : ℕ) → m.source e ≡ c.source e
    source_told e = tell.source e ∙ ap (λ k. number_at R k (cell.Source e)) (at_time R now now (omega arith))

    target_told : (e : ℕ) → m.target e ≡ c.target e
    target_told e = tell.target e ∙ ap (λ k. number_at R k (cell.Target e)) (at_time R now now (omega arith))

    weight_told : (e : ℕ) → m.weight e ≡ c.weight e
    weight_told e = tell.weight e ∙ ap (λ k. number_at R k (cell.Weight e)) (at_time R now now (omega arith))

    edge_named : (i j e : ℕ) → CourseLinked c now (head.Edge i j) e → CourseLinked c now (head.Edge (m.key_of (m.source e)) (m.key_of (m.target e))) e
    edge_named i j e w =
        let binds = law.binds now i j e w in
        let from = ap m.key_of (source_told e) ∙ key_is i (c.source e) binds.source in
        let to = ap m.key_of (target_told e) ∙ key_is j (c.target e) binds.target in
        subst₂ (λ i j. CourseLinked c now (head.Edge i j) e) (sym from) (sym to) w

    edge_born : (e : ℕ) → (m.edge_ins e).stamp ≤ clock_at R now → CourseLinked c now (head.Edge (m.key_of (m.source e)) (m.key_of (m.target e))) e
    edge_born e l = by_way ((events R).linked now kind.Edge e (born kind.Edge e l))
      where
        by_way : LinkedAt R 0 kind.Edge e ⊎ Before now (LinkEventOfKind R kind.Edge e) → CourseLinked c now (head.Edge (m.key_of (m.source e)) (m.key_of (m.target e))) e
        by_way (inl o) = (let x = old_linked kind.Edge e o in by_head x.0 x.1 x.2)
          where
            by_head : (h : Head) → head_kind h ≡ kind.Edge → CourseLinked c now h e → CourseLinked c now (head.Edge (m.key_of (m.source e)) (m.key_of (m.target e))) e
            by_head (head.Vertex i) q w = absurd cc
            by_head (head.Edge i j) q w = edge_named i j e w
        by_way (inr p) =
            let d = edge_change p.held.change p.held.kind in
            let event : LinkEvent R p.time p.held.began (change.Edge d.0) e = subst (λ x. LinkEvent R p.time p.held.began x e) d.1 p.held.event in
            edge_named d.0.pair.from d.0.pair.to e (linked_from p.time (change.Edge d.0) e p.before event.step)

    ins_now : (h : Head) (r : ℕ) → CourseLinked c now h r → TellsMark (c.at 0).clock (clock_at R now) (mark_in (c.at now) (head_kind h) Ins r) (ins_of m (head_kind h) r).stamp
    ins_now h r w = subst (λ a. TellsMark a (clock_at R now) (mark_in (c.at now) (head_kind h) Ins r) (ins_of m (head_kind h) r).stamp) first_is (subst (λ k. TellsMark (clock_at R 0) (clock_at R now) (mark_in (memory_of (R.state k)) (head_kind h) Ins r) (ins_of m (head_kind h) r).stamp) (at_time R now now (omega arith))
        (ins_told (head_kind h) r (linked_now h r w) (mark_at R now (head_kind h) Ins r) refl))

    del_now : (h : Head) (r : ℕ) → CourseLinked c now h r → TellsMark (c.at 0).clock (clock_at R now) (mark_in (c.at now) (head_kind h) Del r) (del_of m (head_kind h) r).stamp
    del_now h r w = subst (λ a. TellsMark a (clock_at R now) (mark_in (c.at now) (head_kind h) Del r) (del_of m (head_kind h) r).stamp) first_is (subst (λ k. TellsMark (clock_at R 0) (clock_at R now) (mark_in (memory_of (R.state k)) (head_kind h) Del r) (del_of m (head_kind h) r).stamp) (at_time R now now (omega arith))
        (del_told (head_kind h) r (linked_now h r w) (mark_at R now (head_kind h) Del r) refl))

    marks_tell : MarksTellCourse c now (clock_at R now) m
    marks_tell = record {
      vertex_row = λ i r w. (omega (arith, tell.vertices, is_row (head.Vertex i) r w), key_is i r w);
      vertex_born = λ r l s. vertex_born r s;
      vertex_ins = λ i r w. ins_now (head.Vertex i) r w;
      vertex_del = λ i r w. del_now (head.Vertex i) r w;
      edge_row = λ i j e w. omega (arith, tell.edges, is_row (head.Edge i j) e w);
      edge_born = λ e l s. edge_born e s;
      edge_ins = λ i j e w. ins_now (head.Edge i j) e w;
      edge_del = λ i j e w. del_now (head.Edge i j) e w;
      source = λ i j e w. source_told e;
      target = λ i j e w. target_told e;
      weight = λ i j e w. weight_told e;
    }

pub runs_tell_marks : RunsTellMarks
runs_tell_marks R now m tell = marks_tell R now m tell
