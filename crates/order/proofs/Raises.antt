-- The graph just before a raise is that of the rows that are visible at its number.
use Rattle.std.proofs.Common.{◌≡◌, ℕ, zero, suc, pred, ◌<◌, ◌≤◌, Bool, true, false, Some, None, Option, ◌≢◌, ◌↔◌, refl, sym, ◌∙◌, ap, subst₂, inl, inr, arith}
use Rattle.std.proofs.lemmas.Bool.{cases_lt}
use Rattle.std.proofs.lemmas.Bool.Decides.{nat_tests}
use Rattle.questions.specs.Graph.{Graph}
use Rattle.order.specs.Keys.{Key, Bounded, number}
use Rattle.order.specs.Marks.{Mark, Marks, source_end, target_end, MarksSound}
use Rattle.order.specs.Rows.{Rows, edge_lives, has_at, edge_at, graph_at, rows_of}
use Rattle.order.specs.Finds.{BeforeKey, AfterKey, VertexThere, EdgeThere, VertexFound}
use Rattle.order.specs.Raises.{Raise, Settled, AllSettled, VertexVisibleByMarks, EdgeVisibleByMarks, Joins, ShowsVisible, raise_key, RaiseMeets, RaisesShowVisible}
use Rattle.order.proofs.Keys.{number_by_part}
use Rattle.order.proofs.Rows.{vertex_row, edge_row}
use Rattle.order.proofs.Changes.{graph_equal}
use Rattle.order.proofs.Lives.{lawful}
use Rattle.order.proofs.Finds.{vertex_born_late, vertex_ends_by, vertex_found, edge_there, edge_not_there}

bool_equal : (a b : Bool) → (a ≡ true → b ≡ true) → (b ≡ true → a ≡ true) → a ≡ b
bool_equal true b f g = sym (f refl)
bool_equal false true f g = g refl
bool_equal false false f g = refl

option_equal : (a b : Option ℕ) → ((x : ℕ) → a ≡ Some x → b ≡ Some x) → ((x : ℕ) → b ≡ Some x → a ≡ Some x) → a ≡ b
option_equal (Some x) b f g = sym (f x refl)
option_equal None (Some x) f g = g x refl
option_equal None None f g = refl

-- two graphs with the same vertices and edges are one
pub shown_equal : (V : ℕ → Type 0) (E : ℕ → ℕ → ℕ → Type 0) (g h : Graph) →
    ((i : ℕ) → (g.has i ≡ true) ↔ V i) → ((i j x : ℕ) → (g.edge i j ≡ Some x) ↔ E i j x) →
    ((i : ℕ) → (h.has i ≡ true) ↔ V i) → ((i j x : ℕ) → (h.edge i j ≡ Some x) ↔ E i j x) → g ≡ h
shown_equal V E g h a b c d = graph_equal g h
    (λ i. bool_equal (g.has i) (h.has i) (λ e. (c i).1 ((a i).0 e)) (λ e. (a i).1 ((c i).0 e)))
    (λ i j. option_equal (g.edge i j) (h.edge i j) (λ x e. (d i j x).1 ((b i j x).0 e)) (λ x e. (b i j x).1 ((d i j x).0 e)))

suc_pred : (n : ℕ) → 0 < n → n ≡ suc (pred n)
suc_pred zero l = absurd (omega arith)
suc_pred (suc n) l = refl

module _ (clock : ℕ → ℕ) (bound top : ℕ) (m : Marks) (s : MarksSound bound top m)
    (r t : ℕ) (time : r < bound) (low : t ≤ top) (raise : Raise clock r t) (all : AllSettled clock r top m) where
  abbrev key : Key
  key = raise_key bound r t

  bounded : Bounded bound key
  bounded = omega arith

  abbrev k : ℕ
  k = pred (number bound key)

  at : number bound key ≡ suc k
  at = suc_pred (number bound key) (omega (arith, number_by_part bound (record { stamp = t; time = r; part = 0 }) key refl refl (omega arith)))

  abbrev rows : Rows
  rows = rows_of bound top m

  -- a change stamped by then comes before the raise
  before : (x : Mark) → Settled clock r top x → x.stamp ≤ t → BeforeKey bound key x
  before x settled h = elim (cases_lt r x.time) [
    | inl l ↦ absurd (omega (arith, settled (omega arith), raise.rises (suc r) x.time l, raise.rises 0 r (omega arith), raise.next))
    | inr l ↦ elim (cases_lt x.stamp t) [ inl q ↦ inl (inl q) | inr q ↦ inl (inr (omega arith, omega (arith, settled (omega arith)))) ]
  ]

  after : (x : Mark) → t < x.stamp → AfterKey key x
  after x h = inl h

  vertex_there : (v : ℕ) → VertexVisibleByMarks m t v → VertexThere bound m key v
  vertex_there v h = record { row = h.row; born = before (m.vertex_ins v) (all.vertex_ins v) h.born; ends = after (m.vertex_del v) h.ends }

  -- what the keys of a vertex row say of its stamps
  born_by : (v : ℕ) → rows.vertex_born v ≤ k → (m.vertex_ins v).stamp ≤ t
  born_by v h = elim (cases_lt t (m.vertex_ins v).stamp) [
    | inr l ↦ l
    | inl l ↦ absurd (omega (arith, vertex_born_late bound top m s key bounded k at v (after (m.vertex_ins v) l)))
  ]

  ends_later : (v : ℕ) → k < rows.vertex_ends v → t < (m.vertex_del v).stamp
  ends_later v h = elim (cases_lt t (m.vertex_del v).stamp) [
    | inl l ↦ l
    | inr l ↦ absurd (omega (arith, vertex_ends_by bound top m s key bounded k at v (before (m.vertex_del v) (all.vertex_del v) l)))
  ]

  -- an edge row that is there at the key is visible, with its vertex rows
  edge_visible : (e : ℕ) → e < m.edges → edge_lives rows k e ≡ true → EdgeVisibleByMarks m t e
  edge_visible e l lives =
      let birth : rows.edge_born e ≤ k = grind (arith, nat_tests) in
      let source = ends_later (m.source e) (grind (arith, nat_tests)) in
      let target = ends_later (m.target e) (grind (arith, nat_tests)) in
      let gone = edge_not_there bound top m s key bounded k at e low (after (source_end m e) source) (after (target_end m e) target) in
      let born : (m.edge_ins e).stamp ≤ t =
      elim (cases_lt t (m.edge_ins e).stamp) [ inr h ↦ h | inl h ↦ absurd (let z = gone (inl (after (m.edge_ins e) h)) in grind arith) ] in
      let ends : t < (m.edge_del e).stamp =
      elim (cases_lt t (m.edge_del e).stamp) [ inl h ↦ h | inr h ↦ absurd (let z = gone (inr (before (m.edge_del e) (all.edge_del e) h)) in grind arith) ] in
      let laws = lawful bound top m s in
      record {
        row = l;
        born = born;
        ends = ends;
        source = record { row = s.source_row e (omega arith); born = born_by (m.source e) (omega (arith, laws.after_source e)); ends = source };
        target = record { row = s.target_row e (omega arith); born = born_by (m.target e) (omega (arith, laws.after_target e)); ends = target };
      }

  vertex_shown : (i : ℕ) → has_at rows k i ≡ true → (v : ℕ) × VertexVisibleByMarks m t v × (m.key_of v ≡ i)
  vertex_shown i h =
      let (v, l, shows) = vertex_row rows k i h in
      (v, record { row = l; born = born_by v (grind (arith, nat_tests)); ends = ends_later v (grind (arith, nat_tests)) }, grind (arith, nat_tests))

  edge_shown : (i j x : ℕ) → edge_at rows k i j ≡ Some x → (e : ℕ) × EdgeVisibleByMarks m t e × Joins m e i j x
  edge_shown i j x h =
      let (e, l, shows, weight) = edge_row rows k i j x h in
      (e, edge_visible e l (grind (arith, nat_tests)), record { from = grind (arith, nat_tests); to = grind (arith, nat_tests); weight = weight })

  edge_joins : (i j x e : ℕ) → EdgeVisibleByMarks m t e → Joins m e i j x → edge_at rows k i j ≡ Some x
  edge_joins i j x e v o =
      let there : EdgeThere bound m key e = record { row = v.row; born = before (m.edge_ins e) (all.edge_ins e) v.born; ends = after (m.edge_del e) v.ends } in
      let shown = edge_there bound top m s key bounded k at e there (after (source_end m e) v.source.ends) (after (target_end m e) v.target.ends) low in
      subst₂ (λ i j. edge_at rows k i j ≡ Some x) o.from o.to (shown ∙ ap Some o.weight)

  -- where no row of key i is visible, each is born later or ended before
  none_found : (i : ℕ) → ((v : ℕ) → VertexVisibleByMarks m t v → m.key_of v ≢ i) → VertexFound bound m key i false
  none_found i none v l q = elim (cases_lt t (m.vertex_ins v).stamp) [
    | inl b ↦ inl (after (m.vertex_ins v) b)
    | inr b ↦ elim (cases_lt t (m.vertex_del v).stamp) [
      | inl e ↦ absurd (none v (record { row = l; born = b; ends = e }) q)
      | inr e ↦ inr (before (m.vertex_del v) (all.vertex_del v) e)
    ]
  ]

  shows_visible : ShowsVisible m t (graph_at rows k)
  shows_visible = record {
    vertices = λ i. (vertex_shown i, λ h. vertex_found bound top m s key bounded k at i true (h.0, vertex_there h.0 h.1, h.2));
    edges = λ i j x. (edge_shown i j x, λ h. edge_joins i j x h.0 h.1 h.2);
  }

  pub raise_meets : RaiseMeets bound top m key t
  raise_meets = record {
    shows = shows_visible;
    only = λ g visible. shown_equal _ _ g (graph_at rows k) visible.vertices visible.edges shows_visible.vertices shows_visible.edges;
    finds = λ v h. (v, vertex_there v h, refl);
    finds_none = none_found;
  }

pub raises_show_visible : RaisesShowVisible
raises_show_visible = raise_meets
