-- The first of several numbers for which there is something, and the deed that changed cells tell.
use Rattle.std.proofs.Common.{◌≡◌, ℕ, zero, suc, ◌+◌, ◌-◌, ◌<◌, cond, ◌&&◌, List, Some, None, Option, ◌==◌, ◌⊎◌, refl, sym, subst, inl, inr, arith}
use Rattle.std.specs.Option.{option_or}
use Rattle.std.proofs.lemmas.Bool.{cases_eq, eq-eqb, ne_eqb}
use Rattle.layout.specs.declared.sizes.Sizes.{Sizes}
use Rattle.layout.specs.declared.names.Kind.{Kind}
use Rattle.layout.specs.declared.names.Kind.TheVariants.{Vertex, Edge}
use Rattle.layout.specs.declared.names.Field.TheVariants.{Del}
use Rattle.layout.specs.declared.names.Head.{Head}
use Rattle.layout.specs.declared.names.Head.TheVariants as head
use Rattle.layout.specs.declared.names.Cell.TheVariants as cell
use Rattle.layout.specs.Layout.{Named, IsRow}
use Rattle.layout.specs.Rows.{rows_all}
use Rattle.places.specs.Marks.{pending}
use Rattle.machine.specs.Turns.{cell_at}
use Rattle.promise.specs.Sights.{Deed, Deed.links, Deed.ends, Deed.raises, first_below, head_moved, del_begun, clock_moved, some_head_moved, some_del_begun, deed_in}

module _ {X : Type 0} where
  pub or_found : (a b : Option X) (x : X) → option_or a b ≡ Some x → (a ≡ Some x) ⊎ ((a ≡ None) × (b ≡ Some x))
  or_found None b x e = inr (refl, e)
  or_found (Some y) b x e = inl e

  or_none : (a b : Option X) → a ≡ None → b ≡ None → option_or a b ≡ None
  or_none a b e f = rw e f

  pub or_first : (a b : Option X) (x : X) → a ≡ Some x → option_or a b ≡ Some x
  or_first a b x e = rw e refl

  pub or_second : (a b : Option X) (x : X) → a ≡ None → b ≡ Some x → option_or a b ≡ Some x
  or_second a b x e f = rw e f

  none_some : {P : Type 0} (x : X) → None ≡ Some x → P
  none_some x e = absurd cc

  found_below : (f : ℕ → Option X) (n : ℕ) (x : X) → first_below f n ≡ Some x → (m : ℕ) × (m < n) × (f m ≡ Some x)
  found_below f zero x e = none_some x e
  found_below f (suc n) x e = elim (or_found (first_below f n) (f n) x e) [
    | inl a ↦ (let (m, l, q) = found_below f n x a in (m, omega arith, q))
    | inr (a, b) ↦ (n, omega arith, b)
  ]

  none_below : (f : ℕ → Option X) (n : ℕ) → ((m : ℕ) → m < n → f m ≡ None) → first_below f n ≡ None
  none_below f zero h = refl
  none_below f (suc n) h = or_none (first_below f n) (f n) (none_below f n (λ m l. h m (omega arith))) (h n (omega arith))

  finds_below : (f : ℕ → Option X) (n m : ℕ) (x : X) → m < n → f m ≡ Some x → ((l : ℕ) → l < n → ¬ (l ≡ m) → f l ≡ None) → first_below f n ≡ Some x
  finds_below f zero m x l e h = absurd (omega arith)
  finds_below f (suc n) m x l e h = elim (cases_eq m n) [
    | inl q ↦ or_second (first_below f n) (f n) x (none_below f n (λ k b. h k (omega arith) (λ z. omega arith))) (subst (λ j. f j ≡ Some x) q e)
    | inr q ↦ or_first (first_below f n) (f n) x (finds_below f n m x (omega arith) e (λ k b. h k (omega arith)))
  ]

  unless_same : (m n : ℕ) (x y : X) → cond (m == n) None (Some x) ≡ Some y → ¬ (m ≡ n) × (x ≡ y)
  unless_same m n x y e = elim (cases_eq m n) [
    | inl q ↦ (let f : None ≡ Some y = rw (eq-eqb m n q) at e in none_some y f)
    | inr q ↦ (let f : Some x ≡ Some y = rw (ne_eqb m n q) at e in (q, cc))
  ]

  pub only_both : (m k n l : ℕ) (x y : X) → cond ((m == k) && (n == l)) (Some x) None ≡ Some y → (m ≡ k) × (n ≡ l) × (x ≡ y)
  only_both m k n l x y e = elim (cases_eq m k) [
    | inl q ↦ (let d : cond (n == l) (Some x) None ≡ Some y = rw (eq-eqb m k q) at e in elim (cases_eq n l) [
      | inl p ↦ (let f : Some x ≡ Some y = rw (eq-eqb n l p) at d in (q, p, cc))
      | inr p ↦ (let f : None ≡ Some y = rw (ne_eqb n l p) at d in none_some y f)
    ])
    | inr q ↦ (let f : None ≡ Some y = rw (ne_eqb m k q) at e in none_some y f)
  ]

  pub some_or_none : (o : Option X) → ((x : X) → ¬ (o ≡ Some x)) → o ≡ None
  some_or_none None h = refl
  some_or_none (Some x) h = absurd (h x refl)

module _ (z : Sizes) (a b : List ℕ) where
  -- a head that moved, and the deed that this is
  pub moved_is : (h : Head) (x : Deed) → head_moved z a b h ≡ Some x → ¬ (cell_at z a (cell.Head h) ≡ cell_at z b (cell.Head h)) × (x ≡ links h (cell_at z b (cell.Head h)))
  moved_is h x e = let (n, q) = unless_same (cell_at z a (cell.Head h)) (cell_at z b (cell.Head h)) (links h (cell_at z b (cell.Head h))) x e in (n, sym q)

  pub is_moved : (h : Head) → ¬ (cell_at z a (cell.Head h) ≡ cell_at z b (cell.Head h)) → head_moved z a b h ≡ Some (links h (cell_at z b (cell.Head h)))
  is_moved h n = rw (ne_eqb (cell_at z a (cell.Head h)) (cell_at z b (cell.Head h)) n) refl

  pub begun_is : (k : Kind) (r : ℕ) (x : Deed) → del_begun z a b k r ≡ Some x → (cell_at z a (cell.Stamp k Del r) ≡ 0) × (cell_at z b (cell.Stamp k Del r) ≡ pending) × (x ≡ ends k r)
  begun_is k r x e = let (m, n, q) = only_both (cell_at z a (cell.Stamp k Del r)) 0 (cell_at z b (cell.Stamp k Del r)) pending (ends k r) x e in (m, n, sym q)

  pub is_begun : (k : Kind) (r : ℕ) → cell_at z a (cell.Stamp k Del r) ≡ 0 → cell_at z b (cell.Stamp k Del r) ≡ pending → del_begun z a b k r ≡ Some (ends k r)
  is_begun k r e f = rw (eq-eqb (cell_at z a (cell.Stamp k Del r)) 0 e, eq-eqb (cell_at z b (cell.Stamp k Del r)) pending f) refl

  pub clock_is : (x : Deed) → clock_moved z a b ≡ Some x → ¬ (cell_at z a cell.Clock ≡ cell_at z b cell.Clock) × (x ≡ raises (cell_at z a cell.Clock))
  clock_is x e = let (n, q) = unless_same (cell_at z a cell.Clock) (cell_at z b cell.Clock) (raises (cell_at z a cell.Clock)) x e in (n, sym q)

  pub is_clock : ¬ (cell_at z a cell.Clock ≡ cell_at z b cell.Clock) → clock_moved z a b ≡ Some (raises (cell_at z a cell.Clock))
  is_clock n = rw (ne_eqb (cell_at z a cell.Clock) (cell_at z b cell.Clock) n) refl

  abbrev of_key : ℕ → Option Deed
  of_key i = head_moved z a b (head.Vertex i)

  abbrev of_pair : ℕ → ℕ → Option Deed
  of_pair i j = head_moved z a b (head.Edge i j)

  abbrev from_key : ℕ → Option Deed
  from_key i = first_below (of_pair i) z.keys

  -- what the changed heads tell
  pub record SomeHead (x : Deed) : Type 0 where
    pub it : Head
    pub named : Named z (cell.Head it)
    pub moved : head_moved z a b it ≡ Some x

  pub head_from : (x : Deed) → some_head_moved z a b ≡ Some x → SomeHead x
  head_from x e = elim (or_found (first_below of_key z.keys) (first_below from_key z.keys) x e) [
    | inl f ↦ (let (i, l, q) = found_below of_key z.keys x f in record { it = head.Vertex i; named = l; moved = q })
    | inr (n, f) ↦ (let (i, l, q) = found_below from_key z.keys x f in let (j, m, p) = found_below (of_pair i) z.keys x q in record { it = head.Edge i j; named = (l, m); moved = p })
  ]

  abbrev Others : Head → Type 0
  Others h = (g : Head) → Named z (cell.Head g) → ¬ (g ≡ h) → head_moved z a b g ≡ None

  pub head_found : (h : Head) (x : Deed) → Named z (cell.Head h) → head_moved z a b h ≡ Some x → Others h → some_head_moved z a b ≡ Some x
  head_found (head.Vertex i) x n e o = or_first (first_below of_key z.keys) (first_below from_key z.keys) x (finds_below of_key z.keys i x n e (λ l b m. o (head.Vertex l) b (λ q. m (let p : head.Vertex l ≡ head.Vertex i = q in cc))))
  head_found (head.Edge i j) x n e o =
      or_second (first_below of_key z.keys) (first_below from_key z.keys) x
      (none_below of_key z.keys (λ l b. o (head.Vertex l) b (λ q. absurd cc)))
      (finds_below from_key z.keys i x n.0
      (finds_below (of_pair i) z.keys j x n.1 e (λ l b m. o (head.Edge i l) (n.0, b) (λ q. m (let p : head.Edge i l ≡ head.Edge i j = q in cc))))
      (λ l b m. none_below (of_pair l) z.keys (λ k c. o (head.Edge l k) (b, c) (λ q. m (let p : head.Edge l k ≡ head.Edge i j = q in cc)))))

  pub heads_none : ((x : Deed) → ¬ (SomeHead x)) → some_head_moved z a b ≡ None
  heads_none h = some_or_none (some_head_moved z a b) (λ x e. h x (head_from x e))

  -- what the changed dels of a kind tell
  pub record SomeDel (k : Kind) (x : Deed) : Type 0 where
    pub row : ℕ
    pub named : IsRow z k row
    pub begun : del_begun z a b k row ≡ Some x

  abbrev of_row : Kind → ℕ → Option Deed
  of_row k n = del_begun z a b k (n + 1)

  pub del_from : (k : Kind) (x : Deed) → some_del_begun z a b k ≡ Some x → SomeDel k x
  del_from k x e = let (n, l, q) = found_below (of_row k) (rows_all z k) x e in record { row = n + 1; named = (omega arith, omega arith); begun = q }

  pub del_found : (k : Kind) (r : ℕ) (x : Deed) → IsRow z k r → del_begun z a b k r ≡ Some x → ((q : ℕ) → IsRow z k q → ¬ (q ≡ r) → del_begun z a b k q ≡ None) → some_del_begun z a b k ≡ Some x
  del_found k r x n e o =
      finds_below (of_row k) (rows_all z k) (r - 1) x (omega (arith, n.0, n.1)) (subst (λ q. del_begun z a b k q ≡ Some x) (omega (arith, n.0)) e)
      (λ l b m. o (l + 1) (omega arith, omega arith) (λ q. m (omega arith)))

  pub dels_none : (k : Kind) → ((x : Deed) → ¬ (SomeDel k x)) → some_del_begun z a b k ≡ None
  dels_none k h = some_or_none (some_del_begun z a b k) (λ x e. h x (del_from k x e))

  abbrev of_vertices : Option Deed
  of_vertices = some_del_begun z a b Vertex

  abbrev of_edges : Option Deed
  of_edges = some_del_begun z a b Edge

  -- what a deed comes from
  pub data DeedFrom (x : Deed) : Type 0 where
    from_head : SomeHead x → DeedFrom x
    from_del : (k : Kind) → SomeDel k x → DeedFrom x
    from_clock : clock_moved z a b ≡ Some x → DeedFrom x

  pub deed_from : (x : Deed) → deed_in z a b ≡ Some x → DeedFrom x
  deed_from x e = elim (or_found (some_head_moved z a b) (option_or of_vertices (option_or of_edges (clock_moved z a b))) x e) [
    | inl f ↦ from_head (head_from x f)
    | inr (n, f) ↦ elim (or_found of_vertices (option_or of_edges (clock_moved z a b)) x f) [
      | inl g ↦ from_del Vertex (del_from Vertex x g)
      | inr (m, g) ↦ elim (or_found of_edges (clock_moved z a b) x g) [
        | inl y ↦ from_del Edge (del_from Edge x y)
        | inr (l, y) ↦ from_clock y
      ]
    ]
  ]

  pub deed_of_head : (x : Deed) → some_head_moved z a b ≡ Some x → deed_in z a b ≡ Some x
  deed_of_head x e = or_first (some_head_moved z a b) (option_or of_vertices (option_or of_edges (clock_moved z a b))) x e

  pub deed_of_vertex : (x : Deed) → some_head_moved z a b ≡ None → of_vertices ≡ Some x → deed_in z a b ≡ Some x
  deed_of_vertex x n e = or_second (some_head_moved z a b) (option_or of_vertices (option_or of_edges (clock_moved z a b))) x n (or_first of_vertices (option_or of_edges (clock_moved z a b)) x e)

  pub deed_of_edge : (x : Deed) → some_head_moved z a b ≡ None → of_vertices ≡ None → of_edges ≡ Some x → deed_in z a b ≡ Some x
  deed_of_edge x n m e =
      or_second (some_head_moved z a b) (option_or of_vertices (option_or of_edges (clock_moved z a b))) x n
      (or_second of_vertices (option_or of_edges (clock_moved z a b)) x m (or_first of_edges (clock_moved z a b) x e))

  pub deed_of_clock : (x : Deed) → some_head_moved z a b ≡ None → of_vertices ≡ None → of_edges ≡ None → clock_moved z a b ≡ Some x → deed_in z a b ≡ Some x
  deed_of_clock x n m l e =
      or_second (some_head_moved z a b) (option_or of_vertices (option_or of_edges (clock_moved z a b))) x n
      (or_second of_vertices (option_or of_edges (clock_moved z a b)) x m (or_second of_edges (clock_moved z a b) x l e))
