-- What a call finds of an edge that it did not see.
use Rattle.std.proofs.Common.{◌≡◌, ℕ, ◌<◌, ◌≤◌, false, ◌⊎◌, Err, sym, refl, ap, ap₂, ◌∙◌, subst, inl, inr, ⊎_elim, arith}
use Rattle.std.proofs.lemmas.Bool.{cases_lt, cases_eq}
use Rattle.layout.specs.declared.names.Kind.TheVariants.{Vertex, Edge}
use Rattle.layout.specs.declared.names.Field.TheVariants.{Ins, Del}
use Rattle.layout.specs.declared.names.Head.TheVariants as head
use Rattle.places.specs.declared.mark.Mark.TheVariants.{NotEnded}
use Rattle.places.specs.declared.place.Op.{Op}
use Rattle.places.specs.declared.place.Bound.{Bound}
use Rattle.order.specs.Keys.{Key}
use Rattle.order.specs.Marks.{Mark, Earlier, Marks, MarksSound}
use Rattle.order.specs.Finds.{key_mark, BeforeKey, AfterKey, VertexThere, PairThere, EdgeFound}
use Rattle.runs.specs.Runs.{RunInTime}
use Rattle.runs.specs.Views.{clock_at, head_at, mark_at, LinkedAt}
use Rattle.runs.specs.Known.{TurnOf, StampedAt, Dead, Living, Has, Shut, Over, BoundTo, Firm}
use Rattle.runs.specs.Marking.{time_bound, MarksTellRun}
use Rattle.runs.specs.VertexFinds.{turn_key, after_key, MadeNone}
use Rattle.runs.specs.EdgeMisses.{KeyBefore, KeyBefore.at_turn, KeyBefore.after_end, EdgeMissed, RunsMissEdges}
use Rattle.runs.proofs.Events.{stamp_kept, clock_later, linked_later, dead_kept, dead_not, living_key}
use Rattle.runs.proofs.EdgeEvents.{head_is_linked, Still, Still.heads, Still.ends, Still.lone, still}
use Rattle.runs.proofs.Births.{earlier, Birth, End, birth, born_or, ended_or, link_now, link_way, end_now, ended_by, ends_after, living_birth}
use Rattle.runs.proofs.MarkLaws.{earlier_on, Stood, stood, edge_over}
use Rattle.runs.proofs.VertexFinds.{birth_tells, living_tells, now_mark, other_time}
use Rattle.runs.proofs.EdgeFinds.{row_in}
use Rattle.runs.proofs.Times.{runs_last as last}
use Rattle.laws.proofs.Owned.{linked_row}

module _ (R : RunInTime) (N : ℕ) (m : Marks) (tell : MarksTellRun R N m) (ok : MarksSound (time_bound N) (clock_at R N) m)
    (b k : ℕ) (o : Op) (d : Bound) (h : ℕ) (none : MadeNone R N b) (kN : k ≤ N) (i : d.pair.from < R.sizes.keys) (j : d.pair.to < R.sizes.keys) (f : Firm R k b o d (Err h)) where
  abbrev Born : ℕ → Type 0
  Born e = Birth R N Edge e

  abbrev at : ℕ → Mark
  at t = now_mark R N m tell ok t

  -- the times of the read, of the look's end and first check, and of the second check
  abbrev read : ℕ
  read = f.held.2.held.2.0.time

  abbrev first : ℕ
  first = f.held.2.time

  abbrev second : ℕ
  second = f.time

  read_first : read < first
  read_first = f.held.2.held.2.0.before

  first_second : first < second
  first_second = f.held.2.before

  second_now : second < N
  second_now = omega (arith, f.before)

  source_seen : Living R first d.pair.from d.source
  source_seen = f.held.2.held.1

  target_seen : Living R second d.pair.to d.target
  target_seen = f.held.1

  read_is : head_at R read (head.Edge d.pair.from d.pair.to) ≡ h
  read_is = f.held.2.held.2.0.held.1

  read_turn : TurnOf R read b
  read_turn = f.held.2.held.2.0.held.0

  clocks : (t u : ℕ) → t ≤ u → clock_at R t ≤ clock_at R u
  clocks t u l = clock_later R t u l

  -- an edge row that is born, and since when it stands
  edge_stood : (e : ℕ) (x : Born e) → m.source e ≡ d.source → m.target e ≡ d.target → (v : Stood R N e x.time) × ((v.bound.source ≡ d.source) × (v.bound.target ≡ d.target))
  edge_stood e x p q = let v = stood R N e x in (v, (sym v.source ∙ sym (tell.source e) ∙ p, sym v.target ∙ sym (tell.target e) ∙ q))

  read_late : 0 < read
  read_late = omega (arith, read_turn.after)

  birth_is : (e : ℕ) (x : Born e) → m.edge_ins e ≡ record { stamp = x.stamp; time = x.time }
  birth_is e x = birth_tells R N m tell Edge e x

  end_mark_is : (e : ℕ) (x : End R N Edge e) → m.edge_del e ≡ record { stamp = x.stamp; time = x.time }
  end_mark_is e x = tell.ended Edge e x.time x.stamp x.linked x.ending x.is

  same_ends : (e : ℕ) (x y : End R N Edge e) → (x.stamp ≡ y.stamp) × (x.time ≡ y.time)
  same_ends e x y =
      let s : ◌≡◌ {A = Mark} (record { stamp = x.stamp; time = x.time }) (record { stamp = y.stamp; time = y.time }) = sym (end_mark_is e x) ∙ end_mark_is e y in
      (ap (λ (r : Mark). r.stamp) s, ap (λ (r : Mark). r.time) s)

  ends_read : (e : ℕ) (x : End R N Edge e) → x.stamp ≤ clock_at R read → x.time < read → Earlier (m.edge_del e) (at read)
  ends_read e x a t = subst (λ g. Earlier g (at read)) (sym (end_mark_is e x)) (earlier x.stamp x.time (clock_at R read) read a t)

  -- what stands at a key c from the read on and before the first check
  module _ (c : Key) (later : (clock_at R read < c.stamp) ⊎ ((clock_at R read ≡ c.stamp) × (read ≤ c.time))) (soon : c.stamp ≤ clock_at R first) (before : c.time < first)
      (mine : (e : ℕ) → e ≡ h → 0 < e → m.source e ≡ d.source → m.target e ≡ d.target → BeforeKey (time_bound N) c (m.edge_del e))
      (newer : (e : ℕ) (x : Born e) → m.source e ≡ d.source → m.target e ≡ d.target → read < x.time → AfterKey c (m.edge_ins e)) where
    weaken : (x : Mark) → Earlier x (at read) → Earlier x (key_mark c)
    weaken x (inl y) = ⊎_elim (λ (z : clock_at R read < c.stamp). inl (omega arith)) (λ (z : (clock_at R read ≡ c.stamp) × (read ≤ c.time)). inl (omega (arith, z.0))) later
    weaken x (inr y) = ⊎_elim (λ (z : clock_at R read < c.stamp). inl (omega (arith, y.0))) (λ (z : (clock_at R read ≡ c.stamp) × (read ≤ c.time)). inr (y.0 ∙ z.0, omega (arith, y.1, z.1))) later

    lives_on : (u s : ℕ) → first ≤ u → u ≤ N → mark_at R u Vertex Del s ≡ NotEnded → Earlier (key_mark c) (m.vertex_del s)
    lives_on u s l n e =
        let rises = clocks first u l in
        ⊎_elim
        (λ (x : End R N Vertex s).
        let y = ends_after R N Vertex s x u e in
        subst (Earlier (key_mark c)) (sym (tell.ended Vertex s x.time x.stamp x.linked x.ending x.is)) (earlier c.stamp c.time x.stamp x.time (omega (arith, y.1)) (omega (arith, y.0))))
        (λ (x : ¬ (LinkedAt R N Vertex s × StampedAt R N Vertex Del s)). subst (Earlier (key_mark c)) (sym (tell.unended Vertex s x)) (inl (omega (arith, clocks first N (omega (arith, first_second, second_now))))))
        (ended_or R N Vertex s)

    vertex_there : (n s u : ℕ) → n < R.sizes.keys → Has R read b n s → first ≤ u → u ≤ N → mark_at R u Vertex Del s ≡ NotEnded → VertexThere (time_bound N) m c s × (m.key_of s ≡ n)
    vertex_there n s u l x a g e =
        let t = x.time in
        let y = living_birth R N x.time n s l (omega (arith, x.before, read_first, first_second, second_now)) x.held.1 in
        let rises = clocks x.time read (omega (arith, x.before)) in (
          record {
            row = omega (arith, tell.vertices, row_in R N m tell ok Vertex x.time s x.held.1.linked);
            born = inl (weaken _ (subst (λ z. Earlier z (at read)) (sym (birth_tells R N m tell Vertex s y.0)) (earlier_on (record { stamp = y.0.stamp; time = y.0.time }) (clock_at R t) t (clock_at R read) read y.1 rises (omega (arith, x.before)))));
            ends = lives_on u s a g e;
          },
          living_tells R N m tell x.time n s l (omega (arith, x.before, read_first, first_second, second_now)) x.held.1,
        )

    pair_there : PairThere (time_bound N) m c d.pair d.source d.target
    pair_there =
        let have = f.held.2.held.2.0.held.2 in
        let x = vertex_there d.pair.from d.source first i have.0 (omega arith) (omega (arith, first_second, second_now)) source_seen.alive in
        let y = vertex_there d.pair.to d.target second j have.1 (omega (arith, first_second)) (omega (arith, second_now)) target_seen.alive in
        record { source = x.0; from = x.1; target = y.0; to = y.1 }

    older : (e : ℕ) (x : Born e) → m.source e ≡ d.source → m.target e ≡ d.target → (y : Stood R N e x.time) → y.bound.source ≡ d.source → y.bound.target ≡ d.target → y.time ≤ read
        → Still R read (head.Edge y.bound.pair.from y.bound.pair.to) e y.bound → AfterKey c (m.edge_ins e) ⊎ BeforeKey (time_bound N) c (m.edge_del e)
    older e x p q y s t l (heads z) =
        let v = y.since in
        let from : y.bound.pair.from ≡ d.pair.from = living_key R v.keys.0 i v.source (subst (Living R first d.pair.from) (sym s) source_seen) in
        let to : y.bound.pair.to ≡ d.pair.to = living_key R v.keys.1 j v.target (subst (Living R second d.pair.to) (sym t) target_seen) in
        let same : e ≡ h = sym z ∙ ap₂ (λ a g. head_at R read (head.Edge a g)) from to ∙ read_is in
        inr (mine e same (linked_row (R.state N) Edge e x.linked).0 p q)
    older e x p q y s t l (ends z) =
        let w : LinkedAt R read Edge e = linked_later R y.time read Edge e l y.since.row in
        let u = ended_by R N Edge e read (omega (arith, read_first, first_second, second_now)) w z in
        inr (inl (weaken (m.edge_del e) (ends_read e u.0 u.2 u.1)))
    older e x p q y s t l (lone (inl z)) = absurd (dead_not R first d.source (dead_kept R read first d.source (omega (arith, read_first)) (subst (Dead R read) s z)) source_seen.alive)
    older e x p q y s t l (lone (inr z)) = absurd (dead_not R second d.target (dead_kept R read second d.target (omega (arith, read_first, first_second)) (subst (Dead R read) t z)) target_seen.alive)

    edge_gone : EdgeFound (time_bound N) m c d.source d.target false
    edge_gone e _ p q = go (born_or R N Edge e)
      where
        go : Born e ⊎ ¬ (LinkedAt R N Edge e × StampedAt R N Edge Ins e) → AfterKey c (m.edge_ins e) ⊎ BeforeKey (time_bound N) c (m.edge_del e)
        go (inr n) = inl (subst (Earlier (key_mark c)) (sym (tell.unborn Edge e n)) (inl (omega (arith, soon, clocks first N (omega (arith, first_second, second_now))))))
        go (inl x) =
            let y = edge_stood e x p q in
            ⊎_elim (λ (l : x.time < read). let a : y.0.time ≤ read = omega (arith, y.0.early) in older e x p q y.0 y.1.0 y.1.1 a (still R y.0.since read a))
            (λ (l : read ≤ x.time).
            let o = link_way R N Edge e x (omega (arith, read_late)) in
            let n = other_time R N m tell ok b read none read_turn (omega (arith, read_first, first_second, second_now)) Ins x.time o.linking.began o.linking.change e o.linking.event in
            inl (newer e x p q (omega (arith, n))))
            (cases_lt x.time read)

    missed_at : KeyBefore R N b k c → EdgeMissed R N b k m d
    missed_at y = record { key = c; before = y; pair = pair_there; found = edge_gone }

  -- at the turn that read the head of the pair
  at_read : ((e : ℕ) → e ≡ h → 0 < e → m.source e ≡ d.source → m.target e ≡ d.target → BeforeKey (time_bound N) (turn_key R N read) (m.edge_del e)) → EdgeMissed R N b k m d
  at_read mine =
      missed_at (turn_key R N read) (inr (refl, omega arith)) (clocks read first (omega (arith, read_first))) read_first mine
      (λ e x p q l.
      let c = link_now R N Edge e x.time x.stamp (link_way R N Edge e x (omega (arith, read_late))) in
      let g = clocks read x.time (omega arith) in
      subst (Earlier (at read)) (sym (birth_is e x)) (earlier (clock_at R read) read x.stamp x.time (omega (arith, c.0)) l))
      (at_turn read read_turn (omega (arith, read_first, first_second, f.before)))

  -- right after the end of the row that was read
  module _ (x : Born h) (p : m.source h ≡ d.source) (q : m.target h ≡ d.target) (y : End R N Edge h) (soon : y.time < first) (low : y.stamp ≤ clock_at R first)
      (later : (clock_at R read < y.stamp) ⊎ ((clock_at R read ≡ y.stamp) × (read ≤ y.time))) where
    linked_read : LinkedAt R read Edge h
    linked_read = subst (LinkedAt R read Edge) read_is (head_is_linked R read (head.Edge d.pair.from d.pair.to) (i, j) (subst (λ z. 0 < z) (sym read_is) (linked_row (R.state N) Edge h x.linked).0))

    since : (b ≤ y.time) ⊎ (clock_at R b < y.stamp)
    since =
        let a = read_turn.after in
        let c = clocks b read (omega arith) in
        ⊎_elim (λ (z : clock_at R read < y.stamp). inr (omega arith)) (λ (z : (clock_at R read ≡ y.stamp) × (read ≤ y.time)). inl (omega (arith, z.1))) later

    newer_after : (e : ℕ) (g : Born e) → m.source e ≡ d.source → m.target e ≡ d.target → read < g.time → Earlier (record { stamp = y.stamp; time = y.time }) (m.edge_ins e)
    newer_after e g s t l =
        let v = edge_stood h x p q in
        let new = v.0.since.new read linked_read in
        let early : x.time < read = ⊎_elim (λ (a : x.time < read). a) (λ (a : read ≤ x.time). absurd (omega (arith, v.0.late (omega (arith, read_late)), new))) (cases_lt x.time read) in
        let o = link_way R N Edge e g (omega (arith, read_late)) in
        let st = edge_over R N h e (sym (tell.source h) ∙ p ∙ sym s ∙ tell.source e) (sym (tell.target h) ∙ q ∙ sym t ∙ tell.target e) x g.time g.stamp o (omega arith) in
        let z = ended_by R N Edge h g.time (omega (arith, o.before)) st.0 st.1 in
        let same = same_ends h y z.0 in
        let same_stamp : y.stamp ≡ z.0.stamp = same.0 in
        let same_time : y.time ≡ z.0.time = same.1 in
        let c = link_now R N Edge e g.time g.stamp o in
        subst (Earlier (record { stamp = y.stamp; time = y.time })) (sym (birth_is e g)) (earlier y.stamp y.time g.stamp g.time (omega (arith, z.2, c.0)) (omega (arith, z.1)))

    after_row : EdgeMissed R N b k m d
    after_row =
        let c = end_now R N Edge h y in
        missed_at (after_key R N y.stamp y.time b) later low soon
        (λ e r z s t. let del : m.edge_del e ≡ record { stamp = y.stamp; time = y.time } = ap m.edge_del r ∙ end_mark_is h y in inr (ap (λ (r : Mark). r.stamp) del, ap (λ (r : Mark). r.time) del, omega arith))
        newer_after
        (after_end Edge h y.time y.stamp y.ending (omega (arith, first_second, f.before)) c.0 (omega (arith, low, clocks first k (omega (arith, first_second, f.before)))) since)

  -- the row that was read has ended
  read_ended : m.source h ≡ d.source → m.target h ≡ d.target → Shut R first h d → StampedAt R first Edge Del h → EdgeMissed R N b k m d
  read_ended p q z st =
      let l : first ≤ N = omega (arith, first_second, second_now) in
      let x = birth R N Edge h z.born.number (linked_later R first N Edge h l z.linked) (stamp_kept R first N Edge Ins h z.born.number l z.linked z.born.is) in
      let y = ended_by R N Edge h first l z.linked st in
      let before : Earlier (record { stamp = y.0.stamp; time = y.0.time }) (at read) → EdgeMissed R N b k m d =
      λ a. at_read (λ e r u s t. inl (subst (λ g. Earlier g (at read)) (sym (ap m.edge_del r ∙ end_mark_is h y.0)) a)) in
      ⊎_elim (λ (a : y.0.stamp < clock_at R read). before (inl a))
      (λ (a : clock_at R read ≤ y.0.stamp).
      ⊎_elim (λ (c : clock_at R read < y.0.stamp). after_row x p q y.0 y.1 y.2 (inl c))
      (λ (c : y.0.stamp ≤ clock_at R read).
      ⊎_elim (λ (g : y.0.time < read). before (inr (omega arith, g))) (λ (g : read ≤ y.0.time). after_row x p q y.0 y.1 y.2 (inr (omega arith, g))) (cases_lt y.0.time read))
      (cases_lt (clock_at R read) y.0.stamp))
      (cases_lt y.0.stamp (clock_at R read))

  pub edge_missed : EdgeMissed R N b k m d
  edge_missed = go f.held.2.held.2.1
    where
      bound : Shut R first h d → (m.source h ≡ d.source) ⊎ ¬ (m.source h ≡ d.source) → (m.target h ≡ d.target) ⊎ ¬ (m.target h ≡ d.target) → EdgeMissed R N b k m d
      bound z (inr n) y = at_read (λ e r u s t. absurd (n (subst (λ w. m.source w ≡ d.source) r s)))
      bound z (inl x) (inr n) = at_read (λ e r u s t. absurd (n (subst (λ w. m.target w ≡ d.target) r t)))
      bound z (inl x) (inl y) =
          let laws = (last R).times first N (omega (arith, first_second, second_now)) in
          ⊎_elim (λ (st : StampedAt R first Edge Del h). read_ended x y z st)
          (λ (n : ¬ (BoundTo R first h d)). absurd (n (sym (laws.source h z.linked) ∙ sym (tell.source h) ∙ x, sym (laws.target h z.linked) ∙ sym (tell.target h) ∙ y)))
          z.why

      go : Over R first h d → EdgeMissed R N b k m d
      go (inl z) = at_read (λ e r u s t. absurd (omega arith))
      go (inr z) = bound z (cases_eq (m.source h) d.source) (cases_eq (m.target h) d.target)

pub runs_miss_edges : RunsMissEdges
runs_miss_edges R N m tell ok b k o d h none kN i j f = edge_missed R N m tell ok b k o d h none kN i j f
