-- How the graph goes from one key to the next, where one thing happens to the rows, or none.
use Rattle.std.proofs.Common.{◌≡◌, ℕ, suc, ◌<◌, ◌≤◌, true, false, Some, None, Option, ◌≢◌, ◌⊎◌, ap, inl, inr, arith}
use Rattle.std.proofs.lemmas.Bool.{cases_Bool, cases_eq}
use Rattle.std.proofs.lemmas.Bool.Decides.{nat_tests}
use Rattle.questions.specs.Graph.{Graph}
use Rattle.order.specs.Graph.{empty, with_vertex, without_vertex, with_edge}
use Rattle.order.specs.Rows.{Rows, edge_lives, has_at, edge_at, graph_at}
use Rattle.order.specs.Finds.{RowChange, no_change, vertex_born, vertex_ends, edge_born, edge_ends}
use Rattle.order.proofs.Rows.{Lawful, one_edge_row, vertex_present, vertex_absent, vertex_same, edge_present, edge_absent, EdgeStays, edge_same}

-- at the key after k nothing but the event v happens
pub record Only (rows : Rows) (k : ℕ) (v : RowChange) : Type 0 where
  pub vertex_birth : (r : ℕ) → rows.vertex_born r ≡ suc k → v ≡ vertex_born r
  pub vertex_end : (r : ℕ) → rows.vertex_ends r ≡ suc k → v ≡ vertex_ends r
  pub edge_birth : (e : ℕ) → rows.edge_born e ≡ suc k → v ≡ edge_born e
  pub edge_end : (e : ℕ) → rows.edge_ends e ≡ suc k → v ≡ edge_ends e

-- rows that the event is not about stay
vertex_stays : {rows : Rows} {k : ℕ} {v : RowChange} → Only rows k v → (r : ℕ) → v ≢ vertex_born r → v ≢ vertex_ends r →
    (rows.vertex_born r ≢ suc k) × (rows.vertex_ends r ≢ suc k)
vertex_stays o r a b = (λ u. a (o.vertex_birth r u), λ u. b (o.vertex_end r u))

edge_stays : {rows : Rows} {k : ℕ} {v : RowChange} → Only rows k v → (e : ℕ) → v ≢ edge_born e → v ≢ edge_ends e → v ≢ vertex_ends (rows.source e) →
    v ≢ vertex_ends (rows.target e) →
    EdgeStays rows k e
edge_stays {rows} o e a b c d =
    (λ u. a (o.edge_birth e u), λ u. b (o.edge_end e u), λ u. c (o.vertex_end (rows.source e) u), λ u. d (o.vertex_end (rows.target e) u))

pub graph_equal : (g h : Graph) → ((k : ℕ) → g.has k ≡ h.has k) → ((k j : ℕ) → g.edge k j ≡ h.edge k j) → g ≡ h
graph_equal g h a b = λ i. record { has = λ k. a k i; edge = λ k j. b k j i }

module _ (rows : Rows) (l : Lawful rows) where
  -- before all births
  pub graph_empty : (k : ℕ) → ((r : ℕ) → k < rows.vertex_born r) → ((e : ℕ) → k < rows.edge_born e) → graph_at rows k ≡ empty
  graph_empty k v e = graph_equal (graph_at rows k) empty (λ i. vertex_absent rows l k i (λ r m q. inl (v r)))
      (λ i j. edge_absent rows l k i j (λ f m p q. let x = e f in grind (arith, nat_tests)))

  -- nothing happens
  pub graph_still : (k : ℕ) → Only rows k no_change → graph_at rows (suc k) ≡ graph_at rows k
  graph_still k o = graph_equal (graph_at rows (suc k)) (graph_at rows k)
      (λ i. vertex_same rows l k i (λ r q. vertex_stays o r (λ z. grind arith) (λ z. grind arith)))
      (λ i j. edge_same rows l k i j (λ e q p. edge_stays o e (λ z. grind arith) (λ z. grind arith) (λ z. grind arith) (λ z. grind arith)))

  pub vertex_added : (k r : ℕ) → Only rows k (vertex_born r) → r < rows.vertices → rows.vertex_born r ≡ suc k → suc k < rows.vertex_ends r →
      (has_at rows k (rows.key_of r) ≡ false) × (graph_at rows (suc k) ≡ with_vertex (graph_at rows k) (rows.key_of r))
  vertex_added k r o m b d = (
    vertex_absent rows l k (rows.key_of r) (λ s n q. elim (cases_eq s r) [
      | inl p ↦ inl (rw p (omega arith))
      | inr p ↦ elim (l.vertex_apart s r q p) [
        | inl h ↦ (let z = vertex_stays o s (λ z. p (cc)) (λ z. grind arith) in inr (omega (arith, z)))
        | inr h ↦ inl (omega arith)
      ]
    ]),
    graph_equal (graph_at rows (suc k)) (with_vertex (graph_at rows k) (rows.key_of r))
        (λ i. elim (cases_eq i (rows.key_of r)) [
          | inl q ↦ (let p = vertex_present rows l (suc k) r m (omega arith) d in grind (arith, nat_tests))
          | inr q ↦ (let p = vertex_same rows l k i (λ s e. vertex_stays o s (λ z. q (cc)) (λ z. grind arith)) in grind (arith, nat_tests))
        ])
        (λ i j. edge_same rows l k i j (λ e q p. edge_stays o e (λ z. grind arith) (λ z. grind arith) (λ z. grind arith) (λ z. grind arith))),
  )

  -- where the row r ends, no row of its key goes on
  no_heir : (k r : ℕ) → Only rows k (vertex_ends r) → rows.vertex_ends r ≡ suc k → rows.vertex_born r ≤ k →
      (s : ℕ) → rows.key_of s ≡ rows.key_of r → (suc k < rows.vertex_born s) ⊎ (rows.vertex_ends s ≤ suc k)
  no_heir k r o d b s q = elim (cases_eq s r) [
    | inl p ↦ inr (rw p (omega arith))
    | inr p ↦ elim (l.vertex_apart s r q p) [
      | inl h ↦ inr (omega arith)
      | inr h ↦ (let z = vertex_stays o s (λ z. grind arith) (λ z. p (cc)) in inl (omega (arith, z)))
    ]
  ]

  -- no edge of the key of the row goes on either
  no_edge_heir : (k r : ℕ) → Only rows k (vertex_ends r) → rows.vertex_ends r ≡ suc k → rows.vertex_born r ≤ k → (i j : ℕ) →
      (i ≡ rows.key_of r) ⊎ (j ≡ rows.key_of r) → edge_at rows (suc k) i j ≡ None
  no_edge_heir k r o d b i j (inl q) = edge_absent rows l (suc k) i j
      (λ e n f g. let x = no_heir k r o d b (rows.source e) (cc) in let y = l.after_source e in grind (arith, nat_tests))
  no_edge_heir k r o d b i j (inr q) = edge_absent rows l (suc k) i j
      (λ e n f g. let x = no_heir k r o d b (rows.target e) (cc) in let y = l.after_target e in grind (arith, nat_tests))

  pub vertex_removed : (k r : ℕ) → Only rows k (vertex_ends r) → r < rows.vertices → rows.vertex_ends r ≡ suc k → rows.vertex_born r ≤ k →
      (has_at rows k (rows.key_of r) ≡ true) × (graph_at rows (suc k) ≡ without_vertex (graph_at rows k) (rows.key_of r))
  vertex_removed k r o m d b = (
    vertex_present rows l k r m b (omega arith),
    graph_equal (graph_at rows (suc k)) (without_vertex (graph_at rows k) (rows.key_of r))
        (λ i. elim (cases_eq i (rows.key_of r)) [
          | inl q ↦ (let p = vertex_absent rows l (suc k) i (λ s n e. no_heir k r o d b s (cc)) in grind (arith, nat_tests))
          | inr q ↦ (let p = vertex_same rows l k i (λ s e. vertex_stays o s (λ z. grind arith) (λ z. q (cc))) in grind (arith, nat_tests))
        ])
        (λ i j. elim (cases_eq i (rows.key_of r)) [
          | inl q ↦ (let p = no_edge_heir k r o d b i j (inl q) in grind (arith, nat_tests))
          | inr q ↦ elim (cases_eq j (rows.key_of r)) [
            | inl h ↦ (let p = no_edge_heir k r o d b i j (inr h) in grind (arith, nat_tests))
            | inr h ↦
                (let p = edge_same rows l k i j (λ e f g. edge_stays o e (λ z. grind arith) (λ z. grind arith) (λ z. q (cc)) (λ z. h (cc))) in
                grind (arith, nat_tests))
          ]
        ]),
  )

  -- the vertices of an edge row that is born, or is there, are there
  pub vertices_present : (k e : ℕ) → rows.source e < rows.vertices → rows.target e < rows.vertices → rows.edge_born e ≤ suc k →
      k < rows.vertex_ends (rows.source e) → k < rows.vertex_ends (rows.target e) →
      (has_at rows k (rows.key_of (rows.source e)) ≡ true) × (has_at rows k (rows.key_of (rows.target e)) ≡ true)
  vertices_present k e s t b x y =
      (vertex_present rows l k (rows.source e) s (omega (arith, l.after_source e)) x, vertex_present rows l k (rows.target e) t (omega (arith, l.after_target e)) y)

  -- one pair alone changes
  pair_changed : (k i j : ℕ) (v : Option ℕ) → edge_at rows (suc k) i j ≡ v → ((a b : ℕ) → (a ≡ i → b ≡ j → ⊥) → edge_at rows (suc k) a b ≡ edge_at rows k a b) →
      ((a : ℕ) → has_at rows (suc k) a ≡ has_at rows k a) → graph_at rows (suc k) ≡ with_edge (graph_at rows k) i j v
  pair_changed k i j v p q h = graph_equal (graph_at rows (suc k)) (with_edge (graph_at rows k) i j v) h (λ a b. elim (cases_eq a i) [
    | inl x ↦ elim (cases_eq b j) [ inl y ↦ grind (arith, nat_tests) | inr y ↦ (let z = q a b (λ _ c. y c) in grind (arith, nat_tests)) ]
    | inr x ↦ (let z = q a b (λ c _. x c) in grind (arith, nat_tests))
  ])

  pub edge_added : (k e : ℕ) → Only rows k (edge_born e) → e < rows.edges → rows.edge_born e ≡ suc k → edge_lives rows (suc k) e ≡ true →
      (edge_at rows k (rows.key_of (rows.source e)) (rows.key_of (rows.target e)) ≡ None) ×
      (graph_at rows (suc k) ≡ with_edge (graph_at rows k) (rows.key_of (rows.source e)) (rows.key_of (rows.target e)) (Some (rows.weight e)))
  edge_added k e o m b live = (
    edge_absent rows l k (rows.key_of (rows.source e)) (rows.key_of (rows.target e)) (λ f n p q. elim (cases_Bool (edge_lives rows k f)) [
      | inr c ↦ c
      | inl c ↦
          (let x : rows.edge_ends f ≢ suc k = λ u. (let z = o.edge_end f u in grind arith) in
          let y : rows.vertex_ends (rows.source f) ≢ suc k = λ u. (let z = o.vertex_end (rows.source f) u in grind arith) in
          let z : rows.vertex_ends (rows.target f) ≢ suc k = λ u. (let z = o.vertex_end (rows.target f) u in grind arith) in
          let same = one_edge_row rows l (suc k) e f p q live (grind (arith, nat_tests)) in
          let back = ap rows.edge_born same in grind (arith, nat_tests))
    ]),
    pair_changed k (rows.key_of (rows.source e)) (rows.key_of (rows.target e)) (Some (rows.weight e)) (edge_present rows l (suc k) e m live)
        (λ i j apart. edge_same rows l k i j (λ f p q. edge_stays o f (λ z. apart (cc) (cc)) (λ z. grind arith) (λ z. grind arith) (λ z. grind arith)))
        (λ i. vertex_same rows l k i (λ r _. vertex_stays o r (λ z. grind arith) (λ z. grind arith))),
  )

  pub edge_removed : (k e : ℕ) → Only rows k (edge_ends e) → e < rows.edges → rows.edge_ends e ≡ suc k → edge_lives rows k e ≡ true →
      (edge_at rows k (rows.key_of (rows.source e)) (rows.key_of (rows.target e)) ≡ Some (rows.weight e)) ×
      (graph_at rows (suc k) ≡ with_edge (graph_at rows k) (rows.key_of (rows.source e)) (rows.key_of (rows.target e)) None)
  edge_removed k e o m b live = (
    edge_present rows l k e m live,
    pair_changed k (rows.key_of (rows.source e)) (rows.key_of (rows.target e)) None
        (edge_absent rows l (suc k) (rows.key_of (rows.source e)) (rows.key_of (rows.target e)) (λ f n p q. elim (cases_Bool (edge_lives rows (suc k) f)) [
          | inr c ↦ c
          | inl c ↦
              (let x : rows.edge_born f ≢ suc k = λ u. (let z = o.edge_birth f u in grind arith) in
              let same = one_edge_row rows l k e f p q live (grind (arith, nat_tests)) in
              let back = ap rows.edge_ends same in grind (arith, nat_tests))
        ]))
        (λ i j apart. edge_same rows l k i j (λ f p q. edge_stays o f (λ z. grind arith) (λ z. apart (cc) (cc)) (λ z. grind arith) (λ z. grind arith)))
        (λ i. vertex_same rows l k i (λ r _. vertex_stays o r (λ z. grind arith) (λ z. grind arith))),
  )
