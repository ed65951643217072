-- The lives that marks give to rows keep the laws of rows, and a row is there from its birth to its end.
use Rattle.std.proofs.Common.{◌≡◌, ℕ, suc, ◌<◌, ◌≤◌, true, false, sym, subst₂, inl, inr, arith}
use Rattle.std.proofs.lemmas.Bool.{cases_Bool}
use Rattle.std.proofs.lemmas.Bool.Decides.{nat_tests}
use Rattle.order.specs.Keys.{Bounded, number}
use Rattle.order.specs.Marks.{Mark, Earlier, Distinct, Marks, source_end, target_end, change_key, moved_key, has_effect, edge_effect, MarksSound}
use Rattle.order.specs.Rows.{Rows, edge_lives, far_key, unborn, edge_number, rows_of}
use Rattle.order.proofs.Keys.{number_by_stamp}
use Rattle.order.proofs.Rows.{Lawful}
use Rattle.order.proofs.Moves.{bounded_change, change_rises, bounded_moved, moved_rises, change_before_moved, moved_before_source, moved_before_target}

module _ (bound top : ℕ) where
  pub edge_number_effect : (n : ℕ) (d f x : Mark) → has_effect top d f x ≡ true → edge_number bound top n d f x ≡ number bound (moved_key bound d f x)
  unfolding edge_number
  edge_number_effect n d f x h = cc

  pub edge_number_far : (n : ℕ) (d f x : Mark) → has_effect top d f x ≡ false → edge_number bound top n d f x ≡ number bound (far_key bound n)
  unfolding edge_number
  edge_number_far n d f x h = cc

  pub effect_parts : (d f x : Mark) → has_effect top d f x ≡ true → (x.stamp ≤ top) × (x.stamp ≤ d.stamp) × (x.stamp ≤ f.stamp)
  effect_parts d f x h = grind (arith, nat_tests)

  bounded_far : (n : ℕ) → 0 < bound → Bounded bound (far_key bound n)
  bounded_far n h = omega arith

  -- with an effect or without, an end stands before a later birth
  edge_ends_before_born : (d f x y : Mark) → x.time < bound → y.time < bound → Earlier x y → (x.stamp ≤ top → Distinct d x) → (x.stamp ≤ top → Distinct f x) →
      edge_number bound top (suc top) d f x < edge_number bound top (unborn top) d f y
  edge_ends_before_born d f x y p q h a b = elim (cases_Bool (has_effect top d f y)) [
    | inl later ↦
        (let u = effect_parts d f y later in
        let effect : has_effect top d f x ≡ true = grind (arith, nat_tests) in
        let v = effect_parts d f x effect in
        rw (edge_number_effect (suc top) d f x effect, edge_number_effect (unborn top) d f y later) (moved_rises bound d f x y p q h (a v.0) (b v.0)))
    | inr later ↦ elim (cases_Bool (has_effect top d f x)) [
      | inl effect ↦
          (let v = effect_parts d f x effect in
          rw (edge_number_effect (suc top) d f x effect, edge_number_far (unborn top) d f y later)
          (number_by_stamp bound (moved_key bound d f x) (far_key bound (unborn top)) (bounded_moved bound d f x p) (omega arith)))
      | inr none ↦
          rw (edge_number_far (suc top) d f x none, edge_number_far (unborn top) d f y later)
          (number_by_stamp bound (far_key bound (suc top)) (far_key bound (unborn top)) (bounded_far (suc top) (omega arith)) (omega arith))
    ]
  ]

  -- a birth with an effect stands before the end
  edge_born_before_ends : (d f x y : Mark) → x.time < bound → y.time < bound → has_effect top d f x ≡ true → Earlier x y → Distinct d x → Distinct f x →
      number bound (moved_key bound d f x) < edge_number bound top (suc top) d f y
  edge_born_before_ends d f x y p q effect h a b = elim (cases_Bool (has_effect top d f y)) [
    | inl later ↦ rw (edge_number_effect (suc top) d f y later) (moved_rises bound d f x y p q h a b)
    | inr later ↦
        (let v = effect_parts d f x effect in
        rw (edge_number_far (suc top) d f y later)
        (number_by_stamp bound (moved_key bound d f x) (far_key bound (suc top)) (bounded_moved bound d f x p) (omega arith)))
  ]

  -- a vertex row that is born before the edge row and before both ends stands before the edge row
  vertex_born_before_edge : (b d f x : Mark) → b.time < bound → b.stamp ≤ suc (suc top) → (x.stamp ≤ top → Earlier b x × Earlier b d × Earlier b f) →
      number bound (change_key bound b) < edge_number bound top (unborn top) d f x
  vertex_born_before_edge b d f x p h first = elim (cases_Bool (has_effect top d f x)) [
    | inl effect ↦
        (let (stamped, _, _) = effect_parts d f x effect in
        let (g, i, j) = first stamped in
        rw (edge_number_effect (unborn top) d f x effect) (change_before_moved bound b d f x p g i j))
    | inr none ↦
        rw (edge_number_far (unborn top) d f x none)
        (number_by_stamp bound (change_key bound b) (far_key bound (unborn top)) (bounded_change bound b p) (omega arith))
  ]

module _ (bound top : ℕ) (m : Marks) (s : MarksSound bound top m) where
  abbrev rows : Rows
  rows = rows_of bound top m

  edges_apart : (e f : ℕ) → m.source e ≡ m.source f → m.target e ≡ m.target f → Earlier (m.edge_del e) (m.edge_ins f) → rows.edge_ends e ≤ rows.edge_born f
  edges_apart e f p q h =
      let less = edge_ends_before_born bound top (source_end m e) (target_end m e) (m.edge_del e) (m.edge_ins f) (s.edge_del e) (s.edge_ins f) h
      (s.del_distinct e (m.source e)) (s.del_distinct e (m.target e)) in
      subst₂ (λ r t. rows.edge_ends e ≤ edge_number bound top (unborn top) (m.vertex_del r) (m.vertex_del t) (m.edge_ins f)) p q (omega (arith, less))

  pub lawful : Lawful rows
  lawful = record {
    vertex_apart = λ r t q n. elim (s.vertex_apart r t q n) [
      | inl h ↦ inl (omega (arith, change_rises bound (m.vertex_del r) (m.vertex_ins t) (s.vertex_del r) h))
      | inr h ↦ inr (omega (arith, change_rises bound (m.vertex_del t) (m.vertex_ins r) (s.vertex_del t) h))
    ];
    edge_apart = λ e f p q n. elim (s.edge_apart e f p q n) [ inl h ↦ inl (edges_apart e f p q h) | inr h ↦ inr (edges_apart f e (sym p) (sym q) h) ];
    after_source = λ e. (let r = m.source e in
        vertex_born_before_edge bound top (m.vertex_ins r) (source_end m e) (target_end m e) (m.edge_ins e) (s.vertex_ins r) (s.births r)
        (λ h. (s.source_first e h, s.vertex_order r (omega (arith, s.source_first e h)), s.source_meets e h)));
    after_target = λ e. (let r = m.target e in
        vertex_born_before_edge bound top (m.vertex_ins r) (source_end m e) (target_end m e) (m.edge_ins e) (s.vertex_ins r) (s.births r)
        (λ h. (s.target_first e h, s.target_meets e h, s.vertex_order r (omega (arith, s.target_first e h)))));
  }

  -- a vertex row that is born is there at the key of its birth
  pub vertex_life : (r : ℕ) → (m.vertex_ins r).stamp ≤ top → rows.vertex_born r < rows.vertex_ends r
  vertex_life r h = change_rises bound (m.vertex_ins r) (m.vertex_del r) (s.vertex_ins r) (s.vertex_order r h)

  -- an edge row whose birth has an effect is there at the key of its birth
  pub edge_life : (e k : ℕ) → edge_effect top m e (m.edge_ins e) ≡ true → rows.edge_born e ≡ k → edge_lives rows k e ≡ true
  edge_life e k h q =
      let d = source_end m e in let f = target_end m e in let x = m.edge_ins e in
      let (stamped, l, r) = effect_parts bound top d f x h in
      let a = s.ins_distinct e (m.source e) stamped in
      let b = s.ins_distinct e (m.target e) stamped in
      let born = edge_number_effect bound top (unborn top) d f x h in
      let source = moved_before_source bound d f x (s.edge_ins e) (s.vertex_del (m.source e)) l a in
      let target = moved_before_target bound d f x (s.edge_ins e) (s.vertex_del (m.target e)) r b in
      let ends : number bound (moved_key bound d f x) < edge_number bound top (suc top) d f (m.edge_del e) =
      edge_born_before_ends bound top d f x (m.edge_del e) (s.edge_ins e) (s.edge_del e) h (s.edge_order e stamped) a b in
      grind (arith, nat_tests)

  -- an edge row whose end has an effect is there just before the key of its end
  pub edge_end : (e k : ℕ) → (m.edge_ins e).stamp ≤ top → edge_effect top m e (m.edge_del e) ≡ true → rows.edge_ends e ≡ suc k → edge_lives rows k e ≡ true
  edge_end e k born_stamped h q =
      let d = source_end m e in let f = target_end m e in let x = m.edge_ins e in let y = m.edge_del e in
      let (stamped, l, r) = effect_parts bound top d f y h in
      let before = s.edge_order e born_stamped in
      let effect : has_effect top d f x ≡ true = grind (arith, nat_tests) in
      let born = edge_number_effect bound top (unborn top) d f x effect in
      let ends = edge_number_effect bound top (suc top) d f y h in
      let source = moved_before_source bound d f y (s.edge_del e) (s.vertex_del (m.source e)) l (s.del_distinct e (m.source e) stamped) in
      let target = moved_before_target bound d f y (s.edge_del e) (s.vertex_del (m.target e)) r (s.del_distinct e (m.target e) stamped) in
      let a = s.ins_distinct e (m.source e) born_stamped in let b = s.ins_distinct e (m.target e) born_stamped in
      let rises = moved_rises bound d f x y (s.edge_ins e) (s.edge_del e) before a b in
      grind (arith, nat_tests)
