-- What a call finds of an edge that it saw.
use Rattle.std.proofs.Common.{◌≡◌, ℕ, suc, ◌<◌, ◌≤◌, Ok, sym, ap, ◌∙◌, subst, inl, inr, ⊎_elim, arith}
use Rattle.layout.specs.declared.names.Kind.{Kind}
use Rattle.layout.specs.declared.names.Kind.TheVariants.{Vertex, Edge}
use Rattle.layout.specs.declared.names.Field.TheVariants.{Ins, Del}
use Rattle.layout.specs.declared.sizes.Sizes.{Sizes}
use Rattle.layout.specs.Rows.{rows_all}
use Rattle.places.specs.declared.mark.Mark.TheVariants.{NotEnded}
use Rattle.places.specs.declared.place.Op.{Op}
use Rattle.places.specs.declared.place.Bound.{Bound}
use Rattle.order.specs.Marks.{Mark, Earlier, Marks, MarksSound}
use Rattle.order.specs.Finds.{VertexThere, EdgeThere}
use Rattle.runs.specs.Runs.{RunInTime}
use Rattle.runs.specs.Views.{clock_at, mark_at, LinkedAt}
use Rattle.runs.specs.Known.{TurnOf, StampedAt, Living, Firm}
use Rattle.runs.specs.Marking.{time_bound, MarksTellRun}
use Rattle.runs.specs.VertexFinds.{turn_key, MadeNone}
use Rattle.runs.specs.EdgeFinds.{EdgeHere, RunsFindEdges}
use Rattle.runs.proofs.Steps.{sizes_at}
use Rattle.runs.proofs.Events.{stamp_kept, clock_later, linked_later}
use Rattle.runs.proofs.Births.{earlier, End, birth, ended_or, birth_by, ends_after, living_birth}
use Rattle.runs.proofs.MarkLaws.{earlier_on}
use Rattle.runs.proofs.VertexFinds.{birth_tells, living_tells, now_mark, other_time}
use Rattle.runs.proofs.Times.{runs_last as last}
use Rattle.laws.proofs.Owned.{linked_row}

module _ (R : RunInTime) (N : ℕ) (m : Marks) (tell : MarksTellRun R N m) (ok : MarksSound (time_bound N) (clock_at R N) m) where
  abbrev at : ℕ → Mark
  at t = now_mark R N m tell ok t

  pub row_in : (c : Kind) (t r : ℕ) → LinkedAt R t c r → r < suc (rows_all R.sizes c)
  row_in c t r l = let e : rows_all (R.state t).sizes c ≡ rows_all R.sizes c = ap (λ (z : Sizes). rows_all z c) (sizes_at R t) in omega (arith, (linked_row (R.state t) c r l).1)

  -- a vertex row that is seen alive at a later time u ends after t
  lives_on : (t u s : ℕ) → t < u → u ≤ N → mark_at R u Vertex Del s ≡ NotEnded → Earlier (at t) (m.vertex_del s)
  lives_on t u s l k e =
      let rises = clock_later R t u (omega arith) in
      ⊎_elim
      (λ (h : End R N Vertex s).
      let z = ends_after R N Vertex s h u e in
      subst (Earlier (at t)) (sym (tell.ended Vertex s h.time h.stamp h.linked h.ending h.is)) (earlier (clock_at R t) t h.stamp h.time (omega (arith, z.1)) (omega (arith, z.0))))
      (λ (n : ¬ (LinkedAt R N Vertex s × StampedAt R N Vertex Del s)). subst (Earlier (at t)) (sym (tell.unended Vertex s n)) (inl (omega (arith, clock_later R t N (omega arith)))))
      (ended_or R N Vertex s)

  -- a vertex row that was seen alive at an earlier time u and is at a later time is there at t
  vertex_there : (t u i s v : ℕ) → i < R.sizes.keys → u ≤ t → Living R u i s → t < v → v ≤ N → mark_at R v Vertex Del s ≡ NotEnded → VertexThere (time_bound N) m (turn_key R N t) s × (m.key_of s ≡ i)
  vertex_there t u i s v k a l c d e =
      let h = living_birth R N u i s k (omega arith) l in
      let rises = clock_later R u t a in
      let is = birth_tells R N m tell Vertex s h.0 in (
        record {
          row = omega (arith, tell.vertices, row_in Vertex u s l.linked);
          born = inl (subst (λ x. Earlier x (at t)) (sym is) (earlier_on (record { stamp = h.0.stamp; time = h.0.time }) (clock_at R u) u (clock_at R t) t h.1 rises a));
          ends = lives_on t v s c d e;
        },
        living_tells R N m tell u i s k (omega arith) l,
      )

  -- an edge row that was seen not ended is there at that turn
  edge_there : (b t e : ℕ) → MadeNone R N b → TurnOf R t b → t < N → LinkedAt R t Edge e → StampedAt R t Edge Ins e → mark_at R t Edge Del e ≡ NotEnded → EdgeThere (time_bound N) m (turn_key R N t) e
  edge_there b t e none u l k s a =
      let on = linked_later R t N Edge e (omega arith) k in
      let h = birth R N Edge e s.number on (stamp_kept R t N Edge Ins e s.number (omega arith) k s.is) in
      let x = birth_by R N Edge e h t (omega arith) (inr (omega (arith, u.after))) k s in
      record {
        row = omega (arith, tell.edges, row_in Edge t e k);
        born = inl (subst (λ y. Earlier y (at t)) (sym (birth_tells R N m tell Edge e h)) x);
        ends = ⊎_elim
            (λ (g : End R N Edge e).
            let z = ends_after R N Edge e g t a in
            let y = other_time R N m tell ok b t none u l Del g.time g.ending.began g.ending.change e g.ending.event in
            subst (Earlier (at t)) (sym (tell.ended Edge e g.time g.stamp g.linked g.ending g.is)) (earlier (clock_at R t) t g.stamp g.time z.1 (omega (arith, z.0, y))))
            (λ (n : ¬ (LinkedAt R N Edge e × StampedAt R N Edge Del e)). subst (Earlier (at t)) (sym (tell.unended Edge e n)) (inl (omega (arith, clock_later R t N (omega arith)))))
            (ended_or R N Edge e);
      }

  pub edge_here : (b k : ℕ) (o : Op) (d : Bound) (e : ℕ) → MadeNone R N b → k ≤ N → d.pair.from < R.sizes.keys → d.pair.to < R.sizes.keys → Firm R k b o d (Ok e) → EdgeHere R N m b k d
  edge_here b k o d e none l i j f =
      let half = f.held.2 in
      let hit = half.held.2 in
      let t = hit.time in
      let v = hit.held in
      let saw = v.saw in
      let source = saw.held.2.0 in
      let target = saw.held.2.1 in
      let from = vertex_there hit.time source.time d.pair.from d.source half.time i (omega (arith, source.before, saw.before)) source.held.1 hit.before (omega (arith, half.before, f.before)) half.held.1.alive in
      let to = vertex_there hit.time target.time d.pair.to d.target f.time j (omega (arith, target.before, saw.before)) target.held.1 (omega (arith, hit.before, half.before)) (omega (arith, f.before)) f.held.1.alive in
      let laws = (last R).times hit.time N (omega (arith, hit.before, half.before, f.before)) in
      record {
        time = hit.time;
        turn = v.turn;
        before = omega (arith, hit.before, half.before, f.before);
        pair = record { source = from.0; from = from.1; target = to.0; to = to.1 };
        found = (
          e,
          edge_there b hit.time e none v.turn (omega (arith, hit.before, half.before, f.before)) v.linked v.born v.alive,
          tell.source e ∙ laws.source e v.linked ∙ v.bound.0,
          tell.target e ∙ laws.target e v.linked ∙ v.bound.1,
        );
      }

pub runs_find_edges : RunsFindEdges
runs_find_edges R N m tell ok = edge_here R N m tell ok
