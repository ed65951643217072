-- Which rows are there at a key, and what the graph at a key shows of them.
use Rattle.std.proofs.Common.{◌≡◌, ℕ, suc, ◌<◌, ◌≤◌, true, false, Some, None, Option, is_some, ◌≢◌, ◌⊎◌, refl, sym, inl, inr, arith}
use Rattle.std.proofs.lemmas.Bool.{cases_eq}
use Rattle.std.proofs.lemmas.Bool.Decides.{nat_tests}
use Rattle.order.specs.Rows.{Rows, edge_lives, shows_vertex, shows_edge, weight_of, has_at, edge_at, last_below}
use Rattle.order.proofs.LastBelow.{last_below_same, last_below_none, last_below_only, last_below_passes}

-- of two rows of a key, or two edge rows bound alike, one has ended when the other is born; an edge row is born after its vertex rows
pub record Lawful (rows : Rows) : Type 0 where
  pub vertex_apart : (r s : ℕ) → rows.key_of r ≡ rows.key_of s → r ≢ s → (rows.vertex_ends r ≤ rows.vertex_born s) ⊎ (rows.vertex_ends s ≤ rows.vertex_born r)
  pub edge_apart : (e f : ℕ) → rows.source e ≡ rows.source f → rows.target e ≡ rows.target f → e ≢ f →
      (rows.edge_ends e ≤ rows.edge_born f) ⊎ (rows.edge_ends f ≤ rows.edge_born e)
  pub after_source : (e : ℕ) → rows.vertex_born (rows.source e) < rows.edge_born e
  pub after_target : (e : ℕ) → rows.vertex_born (rows.target e) < rows.edge_born e

-- an edge row that is neither born nor ends at the next key, and whose vertex rows do not end there
abbrev pub EdgeStays : Rows → ℕ → ℕ → Type 0
EdgeStays rows k e =
    (rows.edge_born e ≢ suc k) × (rows.edge_ends e ≢ suc k) × (rows.vertex_ends (rows.source e) ≢ suc k) × (rows.vertex_ends (rows.target e) ≢ suc k)

module _ (rows : Rows) (k : ℕ) where
  -- the row that shows a vertex, and the one that shows an edge
  pub vertex_row : (i : ℕ) → has_at rows k i ≡ true → (r : ℕ) × (r < rows.vertices) × (shows_vertex rows k i r ≡ true)
  unfolding has_at
  vertex_row i h = go (last_below (shows_vertex rows k i) rows.vertices) refl h
    where
      go : (o : Option ℕ) → last_below (shows_vertex rows k i) rows.vertices ≡ o → is_some o ≡ true →
          (r : ℕ) × (r < rows.vertices) × (shows_vertex rows k i r ≡ true)
      go None e h = absurd (grind arith)
      go (Some r) e h = let (l, p) = last_below_passes (shows_vertex rows k i) rows.vertices r e in (r, l, p)

  pub edge_row : (i j x : ℕ) → edge_at rows k i j ≡ Some x → (e : ℕ) × (e < rows.edges) × (shows_edge rows k i j e ≡ true) × (rows.weight e ≡ x)
  unfolding edge_at
  edge_row i j x h = go (last_below (shows_edge rows k i j) rows.edges) refl h
    where
      go : (o : Option ℕ) → last_below (shows_edge rows k i j) rows.edges ≡ o → weight_of rows k o ≡ Some x →
          (e : ℕ) × (e < rows.edges) × (shows_edge rows k i j e ≡ true) × (rows.weight e ≡ x)
      go None q h = absurd (grind arith)
      go (Some e) q h = let (l, p) = last_below_passes (shows_edge rows k i j) rows.edges e q in (e, l, p, cc)

module _ (rows : Rows) (l : Lawful rows) where
  -- of one key at most one row is there
  pub one_vertex_row : (k i r s : ℕ) → shows_vertex rows k i r ≡ true → shows_vertex rows k i s ≡ true → s ≡ r
  one_vertex_row k i r s a b = elim (cases_eq r s) [ inl q ↦ sym q | inr q ↦ (let z = l.vertex_apart r s (grind (arith, nat_tests)) q in grind (arith, nat_tests)) ]

  -- of one pair at most one edge row is there
  pub one_edge_row : (k e f : ℕ) → rows.key_of (rows.source f) ≡ rows.key_of (rows.source e) → rows.key_of (rows.target f) ≡ rows.key_of (rows.target e) →
      edge_lives rows k e ≡ true → edge_lives rows k f ≡ true → f ≡ e
  one_edge_row k e f p q a b =
      let se = l.after_source e in let te = l.after_target e in let sf = l.after_source f in let tf = l.after_target f in
      elim (cases_eq f e) [
        | inl y ↦ y
        | inr y ↦ elim (cases_eq (rows.source f) (rows.source e)) [
          | inr n ↦ (let z = l.vertex_apart (rows.source f) (rows.source e) p n in grind (arith, nat_tests))
          | inl s ↦ elim (cases_eq (rows.target f) (rows.target e)) [
            | inr n ↦ (let z = l.vertex_apart (rows.target f) (rows.target e) q n in grind (arith, nat_tests))
            | inl t ↦ (let z = l.edge_apart f e s t y in grind (arith, nat_tests))
          ]
        ]
      ]

  pub vertex_present : (k r : ℕ) → r < rows.vertices → rows.vertex_born r ≤ k → k < rows.vertex_ends r → has_at rows k (rows.key_of r) ≡ true
  unfolding has_at
  vertex_present k r m b d =
      let s : shows_vertex rows k (rows.key_of r) r ≡ true = grind (arith, nat_tests) in
      let f = last_below_only (shows_vertex rows k (rows.key_of r)) rows.vertices r m s (λ t u c. one_vertex_row k (rows.key_of r) r t s c) in
      cc

  pub vertex_absent : (k i : ℕ) → ((r : ℕ) → r < rows.vertices → rows.key_of r ≡ i → (k < rows.vertex_born r) ⊎ (rows.vertex_ends r ≤ k)) →
      has_at rows k i ≡ false
  unfolding has_at
  vertex_absent k i h =
      let none : (r : ℕ) → r < rows.vertices → shows_vertex rows k i r ≡ false = λ r m.
      elim (cases_eq (rows.key_of r) i) [ inl q ↦ (let z = h r m q in grind (arith, nat_tests)) | inr q ↦ grind (arith, nat_tests) ] in
      let f = last_below_none (shows_vertex rows k i) rows.vertices none in
      cc

  -- no row of key i is born or ends at the next key
  pub vertex_same : (k i : ℕ) → ((r : ℕ) → rows.key_of r ≡ i → (rows.vertex_born r ≢ suc k) × (rows.vertex_ends r ≢ suc k)) →
      has_at rows (suc k) i ≡ has_at rows k i
  unfolding has_at
  vertex_same k i h =
      let same : (r : ℕ) → r < rows.vertices → shows_vertex rows (suc k) i r ≡ shows_vertex rows k i r = λ r m.
      elim (cases_eq (rows.key_of r) i) [ inl q ↦ (let z = h r q in grind (arith, nat_tests)) | inr q ↦ grind (arith, nat_tests) ] in
      let f = last_below_same (shows_vertex rows (suc k) i) (shows_vertex rows k i) rows.vertices same in
      cc

  pub edge_present : (k e : ℕ) → e < rows.edges → edge_lives rows k e ≡ true →
      edge_at rows k (rows.key_of (rows.source e)) (rows.key_of (rows.target e)) ≡ Some (rows.weight e)
  unfolding edge_at
  edge_present k e m b =
      let t = shows_edge rows k (rows.key_of (rows.source e)) (rows.key_of (rows.target e)) in
      let s : t e ≡ true = grind (arith, nat_tests) in
      let f = last_below_only t rows.edges e m s (λ f u c. one_edge_row k e f (grind (arith, nat_tests)) (grind (arith, nat_tests)) b (grind (arith, nat_tests))) in
      cc

  pub edge_absent : (k i j : ℕ) →
      ((e : ℕ) → e < rows.edges → rows.key_of (rows.source e) ≡ i → rows.key_of (rows.target e) ≡ j → edge_lives rows k e ≡ false) → edge_at rows k i j ≡ None
  unfolding edge_at
  edge_absent k i j h =
      let none : (e : ℕ) → e < rows.edges → shows_edge rows k i j e ≡ false = λ e m.
      elim (cases_eq (rows.key_of (rows.source e)) i) [
        | inl q ↦ elim (cases_eq (rows.key_of (rows.target e)) j) [
          | inl p ↦ (let z = h e m q p in grind (arith, nat_tests))
          | inr p ↦ grind (arith, nat_tests)
        ]
        | inr q ↦ grind (arith, nat_tests)
      ] in
      let f = last_below_none (shows_edge rows k i j) rows.edges none in
      cc

  pub edge_same : (k i j : ℕ) → ((e : ℕ) → rows.key_of (rows.source e) ≡ i → rows.key_of (rows.target e) ≡ j → EdgeStays rows k e) →
      edge_at rows (suc k) i j ≡ edge_at rows k i j
  unfolding edge_at
  edge_same k i j h =
      let same : (e : ℕ) → e < rows.edges → shows_edge rows (suc k) i j e ≡ shows_edge rows k i j e = λ e m.
      elim (cases_eq (rows.key_of (rows.source e)) i) [
        | inl q ↦ elim (cases_eq (rows.key_of (rows.target e)) j) [
          | inl p ↦ (let z = h e q p in grind (arith, nat_tests))
          | inr p ↦ grind (arith, nat_tests)
        ]
        | inr q ↦ grind (arith, nat_tests)
      ] in
      let f = last_below_same (shows_edge rows (suc k) i j) (shows_edge rows k i j) rows.edges same in
      cc
