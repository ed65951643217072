-- The rows in chains before a time are the rows of heads at the start, and those that are linked where heads move.
use Rattle.std.proofs.Common.{◌≡◌, ℕ, zero, suc, ◌<◌, ◌≤◌, ◌≢◌, ◌+◌, cond, min, Bool, true, false, not, ◌||◌, eqb, sym, refl, ap, ◌∙◌, subst, subst₂, ⊎_elim, arith}
use Rattle.std.proofs.lemmas.Bool.{eqb-true, cases_lt}
use Rattle.std.proofs.lemmas.Bool.Decides.{nat_tests}
use Rattle.layout.specs.Rows.{no_row}
use Rattle.layout.specs.declared.names.Head.{Head}
use Rattle.layout.specs.declared.names.Head.TheVariants as head
use Rattle.layout.specs.declared.names.Cell.TheVariants as cell
use Rattle.layout.specs.Layout.{Named}
use Rattle.places.specs.Touches.{change_head}
use Rattle.places.specs.declared.place.Change.{Change}
use Rattle.runs.specs.Runs.{RunInTime}
use Rattle.runs.specs.Views.{head_at}
use Rattle.runs.specs.Steps.{LinkStep}
use Rattle.walks.specs.Memory.{head_inside, memory_of}
use Rattle.walks.specs.Courses.{Course}
use Rattle.walks.specs.Budgets.{sum_below, links_over, rows_in}
use Rattle.walks.proofs.Sums.{sum_le, sum_bump}
use Rattle.walks.specs.Histories.{run_course}
use Rattle.walks.proofs.Histories.{inside_or, head_outside, at_time, head_then, still}
use Rattle.bounds.proofs.Moves.{step_head, LinkStepOver, stays_or}
use Rattle.bounds.specs.Bounds.{count_before, any_below, links_row, rows_held_at_start}
use Rattle.bounds.proofs.Counts.{count_is, count_more}

or_false : (a b : Bool) → (a || b) ≡ false → (a ≡ false) × (b ≡ false)
or_false false b e = (refl, e)
or_false true b e = absurd cc

-- where no number passes, each does not
any_false : (n : ℕ) (test : ℕ → Bool) → any_below n test ≡ false → (i : ℕ) → i < n → test i ≡ false
unfolding any_below
any_false zero test e i l = absurd (omega arith)
any_false (suc n) test e i l =
    let p = or_false (any_below n test) (test n) e in
    ⊎_elim (λ (a : i < n). any_false n test p.0 i a) (λ (a : n ≤ i). let q : n ≡ i = omega arith in subst (λ x. test x ≡ false) q p.1) (cases_lt i n)

stays_head : (x y : ℕ) → not (eqb x y) ≡ false → x ≡ y
stays_head x y e = by_test (eqb x y) refl e
  where
    by_test : (t : Bool) → eqb x y ≡ t → not t ≡ false → x ≡ y
    by_test true q f = eqb-true x y q
    by_test false q f = absurd cc

-- where no row is linked, all heads stay
heads_stay : (R : RunInTime) (k : ℕ) → links_row R k ≡ false → (h : Head) → Named R.sizes (cell.Head h) → head_at R (suc k) h ≡ head_at R k h
heads_stay R k e (head.Vertex i) n = stays_head _ _ (or_false _ _ (any_false R.sizes.keys _ e i n)).0
heads_stay R k e (head.Edge i j) n = stays_head _ _ (any_false R.sizes.keys _ (or_false _ _ (any_false R.sizes.keys _ e i n.0)).1 j n.1)

-- in the step from time k no head moves, or one does and one more row is linked
pub data RowsGrow (c : Course) (rows : ℕ → ℕ) (k : ℕ) : Type 0 where
  none_linked : ((h : Head) → (c.at (suc k)).head h ≡ (c.at k).head h) → rows k ≤ rows (suc k) → RowsGrow c rows k
  one_linked : (g : Head) → ((h : Head) → h ≢ g → (c.at (suc k)).head h ≡ (c.at k).head h) → suc (rows k) ≤ rows (suc k) → RowsGrow c rows k

pub other_vertex : {i j : ℕ} → i ≢ j → head.Vertex i ≢ head.Vertex j
other_vertex d q = d (cc)

pub other_from : {i j a o : ℕ} → i ≢ a → head.Edge i j ≢ head.Edge a o
other_from d q = d (cc)

pub other_to : {i j a o : ℕ} → j ≢ o → head.Edge i j ≢ head.Edge a o
other_to d q = d (cc)

pub edge_vertex : {i j a : ℕ} → head.Edge i j ≢ head.Vertex a
edge_vertex q = grind arith

pub vertex_edge : {i j a : ℕ} → head.Vertex a ≢ head.Edge i j
vertex_edge q = grind arith

-- the rows of all chains are those of the start and those that were linked
module _ (c : Course) (n : ℕ) (rows : ℕ → ℕ) (grow : (k : ℕ) → RowsGrow c rows k) where
  links_same : (k : ℕ) (h : Head) → (c.at (suc k)).head h ≡ (c.at k).head h → links_over c (suc k) h ≤ links_over c k h
  unfolding links_over
  links_same k h e = by_test (eqb ((c.at (suc k)).head h) ((c.at k).head h)) refl
    where
      by_test : (q : Bool) → eqb ((c.at (suc k)).head h) ((c.at k).head h) ≡ q → links_over c k h + cond q 0 1 ≤ links_over c k h
      by_test true q = omega arith
      by_test false q = absurd (grind (arith, nat_tests))

  links_next : (k : ℕ) (h : Head) → links_over c (suc k) h ≤ suc (links_over c k h)
  unfolding links_over
  links_next k h = by_test (eqb ((c.at (suc k)).head h) ((c.at k).head h))
    where
      by_test : (q : Bool) → links_over c k h + cond q 0 1 ≤ suc (links_over c k h)
      by_test true = omega arith
      by_test false = omega arith

  abbrev vertices : ℕ → ℕ → ℕ
  vertices k i = links_over c k (head.Vertex i)

  abbrev edges : ℕ → ℕ → ℕ → ℕ
  edges k a j = links_over c k (head.Edge a j)

  abbrev edges_from : ℕ → ℕ → ℕ
  edges_from k a = sum_below n (edges k a)

  vertices_same : (k : ℕ) → ((i : ℕ) → (c.at (suc k)).head (head.Vertex i) ≡ (c.at k).head (head.Vertex i)) → sum_below n (vertices (suc k)) ≤ sum_below n (vertices k)
  vertices_same k h = sum_le n (vertices (suc k)) (vertices k) (λ i a. links_same k (head.Vertex i) (h i))

  from_same : (k a : ℕ) → ((j : ℕ) → (c.at (suc k)).head (head.Edge a j) ≡ (c.at k).head (head.Edge a j)) → edges_from (suc k) a ≤ edges_from k a
  from_same k a h = sum_le n (edges (suc k) a) (edges k a) (λ j o. links_same k (head.Edge a j) (h j))

  edges_same : (k : ℕ) → ((a j : ℕ) → (c.at (suc k)).head (head.Edge a j) ≡ (c.at k).head (head.Edge a j)) → sum_below n (edges_from (suc k)) ≤ sum_below n (edges_from k)
  edges_same k h = sum_le n (edges_from (suc k)) (edges_from k) (λ a m. from_same k a (h a))

  rows_step : (k : ℕ) → rows_in c n k ≤ rows k → RowsGrow c rows k → rows_in c n (suc k) ≤ rows (suc k)
  unfolding rows_in
  rows_step k l (none_linked h u) = omega (arith, vertices_same k (λ i. h (head.Vertex i)), edges_same k (λ a j. h (head.Edge a j)))
  rows_step k l (one_linked (head.Vertex i) h u) = omega (
    arith,
    sum_bump n i (vertices k) (vertices (suc k)) (λ y d. links_same k (head.Vertex y) (h (head.Vertex y) (other_vertex d))) (links_next k (head.Vertex i)),
    edges_same k (λ a j. h (head.Edge a j) edge_vertex),
  )
  rows_step k l (one_linked (head.Edge i j) h u) = omega (
    arith,
    vertices_same k (λ y. h (head.Vertex y) vertex_edge),
    sum_bump n i (edges_from k) (edges_from (suc k)) (λ a d. from_same k a (λ y. h (head.Edge a y) (other_from d)))
        (sum_bump n j (edges k i) (edges (suc k) i) (λ y d. links_same k (head.Edge i y) (h (head.Edge i y) (other_to d))) (links_next k (head.Edge i j))),
  )

  pub rows_fit : rows_in c n 0 ≤ rows 0 → (k : ℕ) → rows_in c n k ≤ rows k
  rows_fit a zero = a
  rows_fit a (suc k) = rows_step k (rows_fit a k) (grow k)

module _ (R : RunInTime) (now : ℕ) where
  abbrev c : Course
  c = run_course R now

  abbrev pub rows : ℕ → ℕ
  rows j = rows_held_at_start R + count_before (min j now) (links_row R)

  module _ (k : ℕ) (l : k < now) where
    rows_are : (P : ℕ → ℕ → Type 0) → P (rows_held_at_start R + count_before k (links_row R)) (rows_held_at_start R + count_before (suc k) (links_row R)) → P (rows k) (rows (suc k))
    rows_are P p = subst₂ (λ i j. P (rows_held_at_start R + count_before i (links_row R)) (rows_held_at_start R + count_before j (links_row R))) (at_time R now k (omega arith)) (at_time R now (suc k) l) p

    all_stay : links_row R k ≡ false → (h : Head) → (c.at (suc k)).head h ≡ (c.at k).head h
    all_stay e h = ⊎_elim
        (λ (m : Named R.sizes (cell.Head h) × (head_inside R.sizes h ≡ true)). head_then R now (suc k) h l m.0 ∙ heads_stay R k e h m.0 ∙ sym (head_then R now k h (omega arith) m.0))
        (λ (m : head_inside R.sizes h ≡ false). head_outside R (min (suc k) now) h m ∙ sym (head_outside R (min k now) h m))
        (inside_or R.sizes h)

    others_stay : (g : Head) → ((d : Change) (r : ℕ) → LinkStep R k d r → g ≡ change_head d) → (h : Head) → h ≢ g → (c.at (suc k)).head h ≡ (c.at k).head h
    others_stay g only h f = ⊎_elim (λ (e : (c.at (suc k)).head h ≡ (c.at k).head h). e) (λ (m : LinkStepOver R now k l h). absurd (f (sym m.1 ∙ sym (only m.0 _ m.2)))) (stays_or R now k l h)

    grows : (t : Bool) → links_row R k ≡ t → RowsGrow c rows k
    grows false e = none_linked (all_stay e) (rows_are (λ x y. x ≤ y) (omega (arith, count_more k (links_row R))))
    grows true e =
        let h = step_head R k (R.request k) refl in
        one_linked h.0 (others_stay h.0 h.1) (rows_are (λ x y. suc x ≤ y) (omega (arith, count_is k (links_row R) true e)))

  rows_grow : (k : ℕ) → RowsGrow c rows k
  rows_grow k = ⊎_elim (λ (l : k < now). grows k l (links_row R k) refl)
      (λ (l : now ≤ k).
      let e : min (suc k) now ≡ min k now = still R now k l in
      none_linked (λ h. ap (λ m. (memory_of (R.state m)).head h) e) (subst (λ m. rows k ≤ rows_held_at_start R + count_before m (links_row R)) (sym e) (omega arith))) (cases_lt k now)

  first_same : (h : Head) → Named R.sizes (cell.Head h) → links_over c 0 h ≤ cond (eqb (head_at R 0 h) no_row) 0 1
  unfolding links_over
  first_same h n = rw (head_then R now 0 h (omega arith) n) (omega arith)

  first_rows : rows_in c R.sizes.keys 0 ≤ rows 0
  unfolding rows_in rows_held_at_start count_before
  first_rows = omega (
    arith,
    sum_le R.sizes.keys (λ i. links_over c 0 (head.Vertex i)) (λ i. cond (eqb (head_at R 0 (head.Vertex i)) no_row) 0 1) (λ i l. first_same (head.Vertex i) l),
    sum_le R.sizes.keys (λ a. sum_below R.sizes.keys (λ j. links_over c 0 (head.Edge a j))) (λ a. sum_below R.sizes.keys (λ j. cond (eqb (head_at R 0 (head.Edge a j)) no_row) 0 1))
        (λ a l. sum_le R.sizes.keys (λ j. links_over c 0 (head.Edge a j)) (λ j. cond (eqb (head_at R 0 (head.Edge a j)) no_row) 0 1) (λ j m. first_same (head.Edge a j) (l, m))),
  )

  -- the rows in chains at a time
  pub rows_met_fit : (k : ℕ) → rows_in c R.sizes.keys k ≤ rows k
  rows_met_fit = rows_fit c R.sizes.keys rows rows_grow first_rows
