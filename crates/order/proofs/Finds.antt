-- What the marks say of a key holds of the graph just before it.
use Rattle.std.proofs.Common.{◌≡◌, ℕ, suc, ◌<◌, ◌≤◌, Bool, true, false, Some, is_some, ◌⊎◌, sym, ap, subst, subst₂, inl, inr, arith}
use Rattle.std.proofs.lemmas.Bool.{cases_Bool}
use Rattle.std.proofs.lemmas.Bool.Decides.{nat_tests}
use Rattle.order.specs.Keys.{Key, Bounded, number}
use Rattle.order.specs.Marks.{source_end, target_end, Mark, Marks, change_key, moved_key, has_effect, MarksSound}
use Rattle.order.specs.Rows.{Rows, edge_lives, has_at, edge_at, far_key, unborn, edge_number, rows_of}
use Rattle.order.specs.Finds.{key_mark, BeforeKey, AfterKey, VertexThere, EdgeThere, VertexFound, EdgeFound}
use Rattle.order.proofs.Keys.{compared, number_by_stamp, number_by_time}
use Rattle.order.proofs.Rows.{Lawful, one_vertex_row, vertex_present, vertex_absent, edge_present, edge_absent}
use Rattle.order.proofs.Moves.{moved_for_le, moved_for_after, moved_part_is, bounded_change, bounded_moved}
use Rattle.order.proofs.Lives.{edge_number_effect, edge_number_far, lawful}

module _ (bound top : ℕ) (c : Key) (bounded : Bounded bound c) where
  change_before : (x : Mark) → x.time < bound → BeforeKey bound c x → number bound (change_key bound x) < number bound c
  change_before x t h = omega (arith, compared bound (change_key bound x) c (bounded_change bound x t) bounded, h)

  change_after : (x : Mark) → x.time < bound → AfterKey c x → number bound c < number bound (change_key bound x)
  change_after x t h = omega (arith, compared bound (change_key bound x) c (bounded_change bound x t) bounded, h)

  moved_before : (d f x : Mark) → x.time < bound → BeforeKey bound c x → number bound (moved_key bound d f x) < number bound c
  moved_before d f x t h =
      let order = compared bound (moved_key bound d f x) c (bounded_moved bound d f x t) bounded in
      omega (arith, order, h, moved_for_le d x, moved_part_is bound d f x)

  moved_after : (d f x : Mark) → AfterKey c x → AfterKey c d → AfterKey c f → number bound c < number bound (moved_key bound d f x)
  moved_after d f x (inl h) a b = number_by_stamp bound c (moved_key bound d f x) bounded h
  moved_after d f x (inr (h, k)) a b =
      number_by_time bound c (moved_key bound d f x) bounded h
      (omega (arith, moved_for_after (key_mark c) d x a (inr (h, k)) h, moved_for_after (key_mark c) f x b (inr (h, k)) h))

  -- an edge change that comes after the key stands after it, with an effect or without
  edge_after : (n : ℕ) (d f x : Mark) → top < n → AfterKey c x → AfterKey c d → AfterKey c f → c.stamp ≤ top → number bound c < edge_number bound top n d f x
  edge_after n d f x far g a b l = elim (cases_Bool (has_effect top d f x)) [
    | inl h ↦ rw (edge_number_effect bound top n d f x h) (moved_after d f x g a b)
    | inr h ↦ rw (edge_number_far bound top n d f x h) (number_by_stamp bound c (far_key bound n) bounded (omega arith))
  ]

module _ (bound top : ℕ) (m : Marks) (s : MarksSound bound top m) (c : Key) (bounded : Bounded bound c) (k : ℕ) (at : number bound c ≡ suc k) where
  abbrev rows : Rows
  rows = rows_of bound top m

  abbrev laws : Lawful rows
  laws = lawful bound top m s

  -- what comes before the key c stands at k at the latest, and what comes after it stands later
  vertex_born_by : (r : ℕ) → BeforeKey bound c (m.vertex_ins r) → rows.vertex_born r ≤ k
  vertex_born_by r h = omega (arith, change_before bound top c bounded (m.vertex_ins r) (s.vertex_ins r) h)

  pub vertex_born_late : (r : ℕ) → AfterKey c (m.vertex_ins r) → k < rows.vertex_born r
  vertex_born_late r h = omega (arith, change_after bound top c bounded (m.vertex_ins r) (s.vertex_ins r) h)

  pub vertex_ends_by : (r : ℕ) → BeforeKey bound c (m.vertex_del r) → rows.vertex_ends r ≤ k
  vertex_ends_by r h = omega (arith, change_before bound top c bounded (m.vertex_del r) (s.vertex_del r) h)

  vertex_ends_late : (r : ℕ) → AfterKey c (m.vertex_del r) → k < rows.vertex_ends r
  vertex_ends_late r h = omega (arith, change_after bound top c bounded (m.vertex_del r) (s.vertex_del r) h)

  vertex_there : (r : ℕ) → VertexThere bound m c r → has_at rows k (m.key_of r) ≡ true
  vertex_there r t = vertex_present rows laws k r t.row (vertex_born_by r t.born) (vertex_ends_late r t.ends)

  pub vertex_found : (i : ℕ) (there : Bool) → VertexFound bound m c i there → has_at rows k i ≡ there
  vertex_found i true (r, t, q) = subst (λ i. has_at rows k i ≡ true) q (vertex_there r t)
  vertex_found i false h = vertex_absent rows laws k i (λ r l q. elim (h r l q) [ inl f ↦ inl (vertex_born_late r f) | inr f ↦ inr (vertex_ends_by r f) ])

  -- an edge row that is there, and whose vertex rows end later
  pub edge_there : (e : ℕ) → EdgeThere bound m c e → AfterKey c (source_end m e) → AfterKey c (target_end m e) → c.stamp ≤ top →
      edge_at rows k (m.key_of (m.source e)) (m.key_of (m.target e)) ≡ Some (m.weight e)
  edge_there e t a b l =
      let d = source_end m e in let f = target_end m e in let x = m.edge_ins e in
      let born : BeforeKey bound c x = t.born in
      let effect : has_effect top d f x ≡ true = grind (arith, nat_tests) in
      let birth = edge_number_effect bound top (unborn top) d f x effect in
      let low = moved_before bound top c bounded d f x (s.edge_ins e) born in
      let high = edge_after bound top c bounded (suc top) d f (m.edge_del e) (omega arith) t.ends a b l in
      let source = vertex_ends_late (m.source e) a in let target = vertex_ends_late (m.target e) b in
      edge_present rows laws k e t.row (grind (arith, nat_tests))

  -- an edge row that is not born yet, or has ended
  pub edge_not_there : (e : ℕ) → c.stamp ≤ top → AfterKey c (source_end m e) → AfterKey c (target_end m e) →
      AfterKey c (m.edge_ins e) ⊎ BeforeKey bound c (m.edge_del e) → edge_lives rows k e ≡ false
  edge_not_there e l a b (inl h) =
      let d = source_end m e in let f = target_end m e in
      let birth = edge_after bound top c bounded (unborn top) d f (m.edge_ins e) (omega arith) h a b l in
      grind (arith, nat_tests)
  edge_not_there e l a b (inr h) =
      let d = source_end m e in let f = target_end m e in
      let effect : has_effect top d f (m.edge_del e) ≡ true = grind (arith, nat_tests) in
      let ends = edge_number_effect bound top (suc top) d f (m.edge_del e) effect in
      let low = moved_before bound top c bounded d f (m.edge_del e) (s.edge_del e) h in
      grind (arith, nat_tests)

  -- an edge row of the keys of the rows r and t that is there is bound to r and t
  bound_to : (e r t : ℕ) → VertexThere bound m c r → VertexThere bound m c t → m.key_of (m.source e) ≡ m.key_of r → m.key_of (m.target e) ≡ m.key_of t →
      edge_lives rows k e ≡ true → (m.source e ≡ r) × (m.target e ≡ t)
  bound_to e r t a b p q z =
      let source = laws.after_source e in let target = laws.after_target e in
      let r_born = vertex_born_by r a.born in let r_ends = vertex_ends_late r a.ends in
      let t_born = vertex_born_by t b.born in let t_ends = vertex_ends_late t b.ends in (
        one_vertex_row rows laws k (m.key_of r) r (m.source e) (grind (arith, nat_tests)) (grind (arith, nat_tests)),
        one_vertex_row rows laws k (m.key_of t) t (m.target e) (grind (arith, nat_tests)) (grind (arith, nat_tests)),
      )

  ends_later : {q r : ℕ} → q ≡ r → AfterKey c (m.vertex_del r) → AfterKey c (m.vertex_del q)
  ends_later e h = subst (λ i. AfterKey c (m.vertex_del i)) (sym e) h

  pub edge_found : (r t : ℕ) (there : Bool) → VertexThere bound m c r → VertexThere bound m c t → c.stamp ≤ top → EdgeFound bound m c r t there →
      is_some (edge_at rows k (m.key_of r) (m.key_of t)) ≡ there
  edge_found r t true a b l (e, h, p, q) =
      let found = edge_there e h (ends_later p a.ends) (ends_later q b.ends) l in
      subst₂ (λ r t. is_some (edge_at rows k (m.key_of r) (m.key_of t)) ≡ true) p q (ap is_some found)
  edge_found r t false a b l h = ap is_some (edge_absent rows laws k (m.key_of r) (m.key_of t) (λ e i f g. elim (cases_Bool (edge_lives rows k e)) [
    | inr z ↦ z
    | inl z ↦ (let (p, q) = bound_to e r t a b f g z in edge_not_there e l (ends_later p a.ends) (ends_later q b.ends) (h e i p q))
  ]))
