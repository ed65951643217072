-- What a call finds of the vertex of a key.
use Rattle.std.proofs.Common.{◌≡◌, ℕ, suc, ◌<◌, ◌≤◌, true, false, ◌⊎◌, sym, refl, ap, ap₂, ◌∙◌, subst, inl, inr, ⊎_elim, arith}
use Rattle.std.proofs.lemmas.Bool.{cases_lt, cases_eq}
use Rattle.layout.specs.declared.names.Kind.{Kind}
use Rattle.layout.specs.declared.names.Kind.TheVariants.{Vertex}
use Rattle.layout.specs.declared.names.Field.{Field}
use Rattle.layout.specs.declared.names.Field.TheVariants.{Ins, Del}
use Rattle.layout.specs.declared.names.Head.{Head}
use Rattle.layout.specs.declared.names.Head.TheVariants as head
use Rattle.layout.specs.declared.names.Cell.TheVariants as cell
use Rattle.layout.specs.Layout.{Named}
use Rattle.places.specs.Touches.{head_kind}
use Rattle.layout.specs.declared.sizes.Sizes.{Sizes}
use Rattle.layout.specs.Rows.{rows_all}
use Rattle.places.specs.declared.mark.Mark.TheVariants.{NotEnded, Stamp}
use Rattle.places.specs.declared.place.Change.{Change}
use Rattle.places.specs.declared.place.Change.TheVariants as change
use Rattle.order.specs.Marks.{Mark, Earlier, Marks, MarksSound}
use Rattle.order.specs.Finds.{BeforeKey, AfterKey, VertexFound}
use Rattle.runs.specs.Runs.{RunInTime}
use Rattle.runs.specs.Views.{clock_at, head_at, mark_at, LinkedAt}
use Rattle.runs.specs.Seen.{open_at}
use Rattle.runs.specs.Times.{Before}
use Rattle.runs.specs.Known.{TurnOf, StampedAt, Dead, Living, LinkEvent, ChangeEvent}
use Rattle.runs.specs.Events.{LinkEventOfKind, EndEventOfKind}
use Rattle.runs.specs.Marking.{ins_of, time_bound, MarksTellRun}
use Rattle.runs.specs.VertexFinds.{turn_key, after_key, MadeNone, VertexFinds, RunsFindVertices}
use Rattle.runs.proofs.Steps.{sizes_at}
use Rattle.runs.proofs.Heads.{row_pos, stays_or_dead}
use Rattle.runs.proofs.Events.{worker_knows, stamp_kept, clock_later, linked_later, living_from}
use Rattle.runs.proofs.Births.{earlier, vertex_change, LinkBirth, Way, Way.from_start, Way.by_link, Birth, End, old_is, birth, born_or, ended_or, birth_now, link_now, ended_by, ends_after, living_birth}
use Rattle.runs.proofs.Once.{by_turn, same_turner, same_some}
use Rattle.runs.proofs.Times.{runs_last as last}
use Rattle.runs.proofs.Ends.{runs_events as events}
use Rattle.laws.proofs.Owned.{linked_row}

then_earlier : (x y z : Mark) → Earlier x y → Earlier y z → Earlier x z
then_earlier x y z (inl a) (inl b) = inl (omega arith)
then_earlier x y z (inl a) (inr b) = inl (omega (arith, b.0))
then_earlier x y z (inr a) (inl b) = inl (omega (arith, a.0))
then_earlier x y z (inr a) (inr b) = inr (a.0 ∙ b.0, omega (arith, a.1, b.1))

-- what the marks tell of a birth, and of a row that was a living head
module _ (R : RunInTime) (N : ℕ) (m : Marks) (tell : MarksTellRun R N m) where
  pub birth_tells : (c : Kind) (r : ℕ) (h : Birth R N c r) → ins_of m c r ≡ record { stamp = h.stamp; time = h.time }
  birth_tells c r h = go h.time h.stamp h.way
    where
      go : (p n : ℕ) → Way R N c r p n → ins_of m c r ≡ record { stamp = n; time = p }
      go p n (from_start o a b) = tell.old c r o ∙ sym (ap₂ (λ a b. record { stamp = a; time = b }) b a ∙ old_is R N c)
      go p n (by_link x) = tell.born c r p n h.linked x.linking x.is

  -- a vertex row from before the start was the head of its key
  pub old_head_tells : (r : ℕ) → LinkedAt R 0 Vertex r → head_at R 0 (head.Vertex (m.key_of r)) ≡ r
  old_head_tells r o = let x = (last R).old_row Vertex r o in go x.head x.named x.kind x.is
    where
      go : (h : Head) → Named R.sizes (cell.Head h) → head_kind h ≡ Vertex → head_at R 0 h ≡ r → head_at R 0 (head.Vertex (m.key_of r)) ≡ r
      go (head.Edge i j) n k e = absurd cc
      go (head.Vertex i) n k e = ap (λ j. head_at R 0 (head.Vertex j)) (tell.old_key i r n e (row_pos R 0 r o)) ∙ e

  pub living_tells : (t i r : ℕ) → i < R.sizes.keys → t ≤ N → Living R t i r → m.key_of r ≡ i
  living_tells t i r n l v =
      ⊎_elim (λ (e : head_at R 0 (head.Vertex i) ≡ r). tell.old_key i r n e (row_pos R t r v.linked))
      (λ (p : Before t (λ p. (b : ℕ) × LinkEvent R p b (change.Vertex i) r)). tell.key p.time p.held.0 i r p.held.1 (omega (arith, p.before)))
      (living_from R n v)

module _ (R : RunInTime) (N : ℕ) (m : Marks) (tell : MarksTellRun R N m) (ok : MarksSound (time_bound N) (clock_at R N) m) where
  abbrev Born : ℕ → Type 0
  Born r = Birth R N Vertex r

  abbrev Ended : ℕ → Type 0
  Ended r = End R N Vertex r

  birth_is : (r : ℕ) (h : Born r) → m.vertex_ins r ≡ record { stamp = h.stamp; time = h.time }
  birth_is r h = birth_tells R N m tell Vertex r h

  end_is : (r : ℕ) (h : Ended r) → m.vertex_del r ≡ record { stamp = h.stamp; time = h.time }
  end_is r h = tell.ended Vertex r h.time h.stamp h.linked h.ending h.is

  abbrev pub now_mark : ℕ → Mark
  now_mark t = record { stamp = clock_at R t; time = t }

  -- a change and a turn of a call that made none are at different times
  pub other_time : (b t : ℕ) → MadeNone R N b → TurnOf R t b → t < N → (f : Field) (p a : ℕ) (d : Change) (r : ℕ) → ChangeEvent R f p a d r → ¬ (p ≡ t)
  other_time b t none u l f p a d r ev e =
      let fv : ChangeEvent R f t a d r = subst (λ j. ChangeEvent R f j a d r) e ev in
      let x = by_turn R f t a d r fv in
      let w : x.worker ≡ u.worker = same_turner R x.asked u.asked in
      let q : a ≡ b = same_some R (sym x.whose ∙ ap (open_at R t) w ∙ u.whose) in
      none f t d r l (subst (λ j. ChangeEvent R f t j d r) q fv)

  -- what had not ended at a turn of such a call ends later
  ends_later : (b t r : ℕ) → MadeNone R N b → TurnOf R t b → t < N → mark_at R t Vertex Del r ≡ NotEnded → Earlier (now_mark t) (m.vertex_del r)
  ends_later b t r none u l e =
      ⊎_elim
      (λ (h : Ended r).
      let z = ends_after R N Vertex r h t e in
      let y = other_time b t none u l Del h.time h.ending.began h.ending.change r h.ending.event in
      subst (Earlier (now_mark t)) (sym (end_is r h)) (earlier (clock_at R t) t h.stamp h.time z.1 (omega (arith, z.0, y))))
      (λ (n : ¬ (LinkedAt R N Vertex r × StampedAt R N Vertex Del r)). subst (Earlier (now_mark t)) (sym (tell.unended Vertex r n)) (inl (omega (arith, clock_later R t N (omega arith)))))
      (ended_or R N Vertex r)

  found_here : (b t i r : ℕ) → MadeNone R N b → TurnOf R t b → t < N → i < R.sizes.keys → Living R t i r → VertexFound (time_bound N) m (turn_key R N t) i true
  found_here b t i r none u l k v =
      let h = living_birth R N t i r k (omega arith) v in
      let small : rows_all (R.state t).sizes Vertex ≡ rows_all R.sizes Vertex = ap (λ (z : Sizes). rows_all z Vertex) (sizes_at R t) in (
        r,
        record {
          row = omega (arith, tell.vertices, (linked_row (R.state t) Vertex r v.linked).1);
          born = inl (subst (λ x. Earlier x (now_mark t)) (sym (birth_is r h.0)) h.1);
          ends = ends_later b t r none u l v.alive;
        },
        living_tells R N m tell t i r k (omega arith) v,
      )

  -- a row of the key at a turn at which the head was no row, or one that had ended
  found_absent : (b t i r : ℕ) → MadeNone R N b → TurnOf R t b → t < N → i < R.sizes.keys → head_at R t (head.Vertex i) ≡ r → (r ≡ 0) ⊎ Earlier (m.vertex_del r) (now_mark t) → VertexFound (time_bound N) m (turn_key R N t) i false
  found_absent b t i r none u l k e d = λ s _ q. go s q (born_or R N Vertex s)
    where
      dead : (s : ℕ) → Dead R t s → AfterKey (turn_key R N t) (m.vertex_ins s) ⊎ BeforeKey (time_bound N) (turn_key R N t) (m.vertex_del s)
      dead s z =
          let x = ended_by R N Vertex s t (omega arith) z.linked z.ended in
          inr (inl (subst (λ y. Earlier y (now_mark t)) (sym (end_is s x.0)) (earlier x.0.stamp x.0.time (clock_at R t) t x.2 x.1)))

      head_ended : (s : ℕ) → s ≡ r → 0 < s → (r ≡ 0) ⊎ Earlier (m.vertex_del r) (now_mark t) → AfterKey (turn_key R N t) (m.vertex_ins s) ⊎ BeforeKey (time_bound N) (turn_key R N t) (m.vertex_del s)
      head_ended s x p (inl z) = absurd (omega arith)
      head_ended s x p (inr z) = inr (inl (subst (λ y. Earlier (m.vertex_del y) (now_mark t)) (sym x) z))

      older : (s v : ℕ) → head_at R v (head.Vertex i) ≡ s → 0 < s → v ≤ t → AfterKey (turn_key R N t) (m.vertex_ins s) ⊎ BeforeKey (time_bound N) (turn_key R N t) (m.vertex_del s)
      older s v x pos z =
          ⊎_elim (λ (y : head_at R t (head.Vertex i) ≡ s). head_ended s (sym y ∙ e) pos d) (λ (y : Dead R t s). dead s y)
          (stays_or_dead R t (worker_knows R t) i k s v t pos z (omega arith) x)

      newer : (s p n : ℕ) → LinkBirth R N Vertex s p n → m.vertex_ins s ≡ record { stamp = n; time = p } → t ≤ p → AfterKey (turn_key R N t) (m.vertex_ins s) ⊎ BeforeKey (time_bound N) (turn_key R N t) (m.vertex_del s)
      newer s p n h is z =
          let y = other_time b t none u l Ins p h.linking.began h.linking.change s h.linking.event in
          let c = link_now R N Vertex s p n h in
          let g = clock_later R t p z in
          inl (subst (Earlier (now_mark t)) (sym is) (earlier (clock_at R t) t n p (omega (arith, c.0)) (omega (arith, y))))

      by_way : (s p n : ℕ) → m.key_of s ≡ i → Way R N Vertex s p n → m.vertex_ins s ≡ record { stamp = n; time = p } → AfterKey (turn_key R N t) (m.vertex_ins s) ⊎ BeforeKey (time_bound N) (turn_key R N t) (m.vertex_del s)
      by_way s p n q (from_start o x y) is =
          let z = old_head_tells R N m tell s o in
          older s 0 (ap (λ j. head_at R 0 (head.Vertex j)) (sym q) ∙ z) (row_pos R 0 s o) (omega arith)
      by_way s p n q (by_link h) is =
          let x = vertex_change h.linking.change h.linking.kind in
          let ev : LinkEvent R p h.linking.began (change.Vertex x.0) s = subst (λ d. LinkEvent R p h.linking.began d s) x.1 h.linking.event in
          let j : x.0 ≡ i = sym (tell.key p h.linking.began x.0 s ev h.before) ∙ q in
          ⊎_elim (λ (z : p < t). older s (suc p) (ap (λ y. head_at R (suc p) (head.Vertex y)) (sym j) ∙ ev.step.head) (row_pos R (suc p) s ev.step.linked) z) (λ (z : t ≤ p). newer s p n h is z) (cases_lt p t)

      go : (s : ℕ) → m.key_of s ≡ i → Born s ⊎ ¬ (LinkedAt R N Vertex s × StampedAt R N Vertex Ins s) → AfterKey (turn_key R N t) (m.vertex_ins s) ⊎ BeforeKey (time_bound N) (turn_key R N t) (m.vertex_del s)
      go s q (inr n) = inl (subst (Earlier (now_mark t)) (sym (tell.unborn Vertex s n)) (inl (omega (arith, clock_later R t N (omega arith)))))
      go s q (inl h) = by_way s h.time h.stamp q h.way (birth_is s h)

  -- right after the birth of a row of the key
  found_born : (b i r a q n : ℕ) → LinkEvent R q a (change.Vertex i) r → q < N → mark_at R N Vertex Ins r ≡ Stamp n → VertexFound (time_bound N) m (after_key R N n q b) i true
  found_born b i r a q n ev l e =
      let on : LinkedAt R N Vertex r = linked_later R (suc q) N Vertex r l ev.step.linked in
      let y : LinkEventOfKind R Vertex r q = record { began = a; change = change.Vertex i; kind = refl; event = ev } in
      let is : m.vertex_ins r ≡ record { stamp = n; time = q } = tell.born Vertex r q n on y e in
      let small : rows_all (R.state N).sizes Vertex ≡ rows_all R.sizes Vertex = ap (λ (z : Sizes). rows_all z Vertex) (sizes_at R N) in
      let low : (m.vertex_ins r).stamp ≤ clock_at R N = subst (λ (w : Mark). w.stamp ≤ clock_at R N) (sym is) ((events R).link_stamp Vertex r q N n y l e).1 in (
        r,
        record {
          row = omega (arith, tell.vertices, (linked_row (R.state N) Vertex r on).1);
          born = inr (ap (λ (z : Mark). z.stamp) is, ap (λ (z : Mark). z.time) is, omega arith);
          ends = subst (λ (w : Mark). Earlier w (m.vertex_del r)) is (ok.vertex_order r low);
        },
        tell.key q a i r ev l,
      )

  -- right after the end of a row of the key
  found_ended : (b i r p n : ℕ) → m.key_of r ≡ i → EndEventOfKind R Vertex r p → p < N → mark_at R N Vertex Del r ≡ Stamp n → VertexFound (time_bound N) m (after_key R N n p b) i false
  found_ended b i r p n of x l e = λ s _ k. go s k (cases_eq s r)
    where
      at_end : LinkedAt R p Vertex r
      at_end = subst (λ (u : Kind). LinkedAt R p u r) x.kind x.event.linked

      on : LinkedAt R N Vertex r
      on = linked_later R p N Vertex r (omega arith) at_end

      del_is : m.vertex_del r ≡ record { stamp = n; time = p }
      del_is = tell.ended Vertex r p n on x e

      born_stamp : (m.vertex_ins r).stamp ≤ clock_at R N
      born_stamp =
          let s = x.event.born in
          let t : mark_at R N Vertex Ins r ≡ Stamp s.number = stamp_kept R p N Vertex Ins r s.number (omega arith) at_end (subst (λ (u : Kind). mark_at R p u Ins r ≡ Stamp s.number) x.kind s.is) in
          let h : Born r = birth R N Vertex r s.number on t in
          subst (λ (w : Mark). w.stamp ≤ clock_at R N) (sym (birth_is r h)) (birth_now R N Vertex r h).1

      go : (s : ℕ) → m.key_of s ≡ i → (s ≡ r) ⊎ ¬ (s ≡ r) → AfterKey (after_key R N n p b) (m.vertex_ins s) ⊎ BeforeKey (time_bound N) (after_key R N n p b) (m.vertex_del s)
      go s k (inl y) = inr (inr (ap (λ z. (m.vertex_del z).stamp) y ∙ ap (λ z. z.stamp) del_is, ap (λ z. (m.vertex_del z).time) y ∙ ap (λ z. z.time) del_is, omega arith))
      go s k (inr y) =
          let same_key : m.key_of r ≡ m.key_of s = of ∙ sym k in
          ⊎_elim
          (λ (z : Earlier (m.vertex_del r) (m.vertex_ins s)). inl (subst (λ w. Earlier w (m.vertex_ins s)) del_is z))
          (λ (z : Earlier (m.vertex_del s) (m.vertex_ins r)). inr (inl (subst (Earlier (m.vertex_del s)) del_is (then_earlier _ _ _ z (ok.vertex_order r born_stamp)))))
          (ok.vertex_apart r s same_key (λ z. y (sym z)))

  pub vertex_finds : VertexFinds R N m
  vertex_finds = record { here = found_here; absent = found_absent; born = found_born; ended = found_ended }

pub runs_find_vertices : RunsFindVertices
runs_find_vertices R N m tell ok = vertex_finds R N m tell ok
