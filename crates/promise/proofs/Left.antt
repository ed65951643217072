-- What cells show where there are no heads, and of two keys.
use Rattle.std.proofs.Common.{◌≡◌, ℕ, zero, suc, ◌≤◌, false, ◌&&◌, List, length, None, nat_lt, refl, sym, ◌∙◌, ap, inl, inr, arith}
use Rattle.std.proofs.lemmas.Bool.{cases_Bool, and_right}
use Rattle.std.proofs.lemmas.Bool.Decides.{nat_tests}
use Rattle.layout.specs.declared.sizes.Sizes.{Sizes}
use Rattle.layout.specs.declared.names.Kind.TheVariants.{Vertex}
use Rattle.layout.specs.declared.names.Head.{Head}
use Rattle.layout.specs.declared.names.Head.TheVariants as head
use Rattle.layout.specs.declared.names.Cell.TheVariants as cell
use Rattle.layout.specs.Layout.{needed, Named}
use Rattle.machine.specs.Turns.{cell_at}
use Rattle.walks.specs.Budgets.{sum_below}
use Rattle.walks.proofs.Sums.{sum_le}
use Rattle.machine.specs.Opening.{opened_state}
use Rattle.questions.specs.Graph.{Graph}
use Rattle.order.specs.Graph.{empty}
use Rattle.laws.proofs.Clean.{head_none}
use Rattle.promise.specs.Bounds.{one_row, rows_held}
use Rattle.promise.specs.Left.{head_row, is_there, has_in, graph_in}

module _ (z : Sizes) (cells : List ℕ) where
  -- a key that is no vertex has no edges
  pub none_from : (i j : ℕ) → has_in z cells i ≡ false → (graph_in z cells).edge i j ≡ None
  none_from i j e = rw e refl

  pub none_to : (i j : ℕ) → has_in z cells j ≡ false → (graph_in z cells).edge i j ≡ None
  none_to i j e = let x : has_in z cells i && has_in z cells j ≡ false = and_right (has_in z cells i) (has_in z cells j) e in rw x refl

  pub beyond : (i : ℕ) → nat_lt i z.keys ≡ false → has_in z cells i ≡ false
  beyond i e = rw e refl

module _ (z : Sizes) (cs : List ℕ) (room : needed z ≤ length cs) where
  opened_none : (i : ℕ) → has_in z (opened_state cs z).cells i ≡ false
  opened_none i = elim (cases_Bool (nat_lt i z.keys)) [
    | inl y ↦ (let e = head_none z cs room (head.Vertex i) (grind (arith, nat_tests)) in let x : head_row z (opened_state cs z).cells (head.Vertex i) ≡ 0 = e in no_vertex x)
    | inr n ↦ beyond z (opened_state cs z).cells i n
  ]
    where
      no_vertex : head_row z (opened_state cs z).cells (head.Vertex i) ≡ 0 → has_in z (opened_state cs z).cells i ≡ false
      no_vertex x = and_right (nat_lt i z.keys) (is_there z (opened_state cs z).cells Vertex (head_row z (opened_state cs z).cells (head.Vertex i))) (ap (is_there z (opened_state cs z).cells Vertex) x)

  -- an opening shows the empty graph
  pub opened_shows : empty ≡ graph_in z (opened_state cs z).cells
  opened_shows = λ k. record {
    has = λ i. sym (opened_none i) k;
    edge = λ i j. sym (none_from z (opened_state cs z).cells i j (opened_none i)) k;
  }

  -- and no head holds a row
  none_held : (h : Head) → Named z (cell.Head h) → one_row z (opened_state cs z).cells h ≤ 0
  none_held h n = (let e : cell_at z (opened_state cs z).cells (cell.Head h) ≡ 0 = head_none z cs room h n in rw e (omega arith))

  nothing : (n : ℕ) → sum_below n (λ i. 0) ≡ 0
  unfolding sum_below
  nothing zero = refl
  nothing (suc n) = omega (arith, nothing n)

  pub opened_rows : rows_held z (opened_state cs z).cells ≡ 0
  unfolding rows_held
  opened_rows = omega (
    arith,
    sum_le z.keys (λ i. one_row z (opened_state cs z).cells (head.Vertex i)) (λ i. 0) (λ i l. none_held (head.Vertex i) l),
    sum_le z.keys (λ i. sum_below z.keys (λ j. one_row z (opened_state cs z).cells (head.Edge i j))) (λ i. 0)
        (λ i l. omega (arith, sum_le z.keys (λ j. one_row z (opened_state cs z).cells (head.Edge i j)) (λ j. 0) (λ j m. none_held (head.Edge i j) (l, m)), nothing z.keys)),
    nothing z.keys,
  )

-- a graph of two keys is the one that cells show, if both have the same vertices and edges
pub record Alike (g : Graph) (z : Sizes) (cells : List ℕ) : Type 0 where
  pub zero : g.has 0 ≡ has_in z cells 0
  pub one : g.has 1 ≡ has_in z cells 1
  pub more : (k : ℕ) → g.has (suc (suc k)) ≡ false
  pub zero_zero : g.edge 0 0 ≡ (graph_in z cells).edge 0 0
  pub zero_one : g.edge 0 1 ≡ (graph_in z cells).edge 0 1
  pub one_zero : g.edge 1 0 ≡ (graph_in z cells).edge 1 0
  pub one_one : g.edge 1 1 ≡ (graph_in z cells).edge 1 1
  pub from_more : (k j : ℕ) → g.edge (suc (suc k)) j ≡ None
  pub to_more : (k j : ℕ) → g.edge k (suc (suc j)) ≡ None

module _ (g : Graph) (z : Sizes) (cells : List ℕ) (two : z.keys ≡ 2) (a : Alike g z cells) where
  none_more : (k : ℕ) → has_in z cells (suc (suc k)) ≡ false
  none_more k = beyond z cells (suc (suc k)) (rw two (grind (arith, nat_tests)))

  same_keys : (k : ℕ) → g.has k ≡ has_in z cells k
  same_keys zero = a.zero
  same_keys (suc zero) = a.one
  same_keys (suc (suc k)) = a.more k ∙ sym (none_more k)

  same_edges : (k j : ℕ) → g.edge k j ≡ (graph_in z cells).edge k j
  same_edges zero zero = a.zero_zero
  same_edges zero (suc zero) = a.zero_one
  same_edges (suc zero) zero = a.one_zero
  same_edges (suc zero) (suc zero) = a.one_one
  same_edges (suc (suc k)) j = a.from_more k j ∙ sym (none_from z cells (suc (suc k)) j (none_more k))
  same_edges k (suc (suc j)) = a.to_more k j ∙ sym (none_to z cells k (suc (suc j)) (none_more j))

  pub two_alike : g ≡ graph_in z cells
  two_alike = λ i. record { has = λ k. same_keys k i; edge = λ k j. same_edges k j i }
