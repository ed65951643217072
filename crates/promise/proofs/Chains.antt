-- The rows that stand in chains are those of the heads at the start and those that were linked.
use Rattle.std.proofs.Common.{◌≡◌, ℕ, zero, suc, ◌+◌, ◌<◌, ◌≤◌, ◌≢◌, ◌⊎◌, cond, eqb, length, sym, ◌∙◌, subst, subst₂, inl, inr, ⊎_elim, arith}
use Rattle.std.proofs.lemmas.Bool.{cases_eq, eq-eqb, ne_eqb}
use Rattle.layout.specs.declared.sizes.Sizes.{Sizes}
use Rattle.layout.specs.declared.names.Kind.{Kind}
use Rattle.layout.specs.declared.names.Head.{Head}
use Rattle.layout.specs.declared.names.Head.TheVariants as head
use Rattle.layout.specs.declared.names.Cell.TheVariants as cell
use Rattle.layout.specs.Layout.{Named}
use Rattle.layout.specs.Rows.{no_row}
use Rattle.places.specs.Touches.{head_kind}
use Rattle.machine.specs.States.{State}
use Rattle.machine.specs.Turns.{cell_at}
use Rattle.laws.specs.Clean.{Stands}
use Rattle.runs.specs.Runs.{RunInTime, history_at}
use Rattle.runs.specs.Views.{number_at, head_at, LinkedAt}
use Rattle.runs.specs.Steps.{HeadSteps, HeadSteps.stays, HeadSteps.moves}
use Rattle.runs.proofs.Histories.{histories_are_runs as histories}
use Rattle.runs.proofs.Steps.{sound_at, sizes_at, runs_step as step}
use Rattle.walks.specs.Budgets.{sum_below}
use Rattle.walks.proofs.Sums.{sum_same, sum_next}
use Rattle.bounds.proofs.Rows.{other_vertex, other_from, other_to, edge_vertex, vertex_edge}
use Rattle.laws.proofs.Owned.{linked_row}
use Rattle.promise.specs.Bounds.{one_row, rows_held, rows_linked}
use Rattle.promise.specs.Bridges.{shown_at}
use Rattle.promise.specs.Chains.{ChainOf, over_heads, ChainsHold, RowsStandInChains}
use Rattle.promise.specs.Counts.{RowsStep, RowsStep.none_linked, RowsStep.one_linked}
use Rattle.promise.specs.Histories.{shown_by}
use Rattle.promise.proofs.Bridges.{shown_state}
use Rattle.promise.proofs.CountRuns.{runs_count, none_yet}

module _ (z : Sizes) (f g : Head → ℕ) where
  heads_same : ((h : Head) → Named z (cell.Head h) → g h ≡ f h) → over_heads z.keys g ≡ over_heads z.keys f
  unfolding over_heads
  heads_same s =
      let a : sum_below z.keys (λ i. g (head.Vertex i)) ≡ sum_below z.keys (λ i. f (head.Vertex i)) = sum_same z.keys _ _ (λ i l. s (head.Vertex i) l) in
      let b : sum_below z.keys (λ i. sum_below z.keys (λ j. g (head.Edge i j))) ≡ sum_below z.keys (λ i. sum_below z.keys (λ j. f (head.Edge i j))) =
      sum_same z.keys _ _ (λ i l. sum_same z.keys _ _ (λ j m. s (head.Edge i j) (l, m))) in
      omega arith

  heads_next : (h : Head) → Named z (cell.Head h) → ((x : Head) → Named z (cell.Head x) → ¬ (x ≡ h) → g x ≡ f x) → g h ≡ suc (f h) → over_heads z.keys g ≡ suc (over_heads z.keys f)
  unfolding over_heads
  heads_next (head.Vertex a) n s u =
      let v : sum_below z.keys (λ i. g (head.Vertex i)) ≡ suc (sum_below z.keys (λ i. f (head.Vertex i))) = sum_next z.keys a _ _ n (λ i l d. s (head.Vertex i) l (other_vertex d)) u in
      let e : sum_below z.keys (λ i. sum_below z.keys (λ j. g (head.Edge i j))) ≡ sum_below z.keys (λ i. sum_below z.keys (λ j. f (head.Edge i j))) =
      sum_same z.keys _ _ (λ i l. sum_same z.keys _ _ (λ j m. s (head.Edge i j) (l, m) edge_vertex)) in
      omega arith
  heads_next (head.Edge a b) n s u =
      let v : sum_below z.keys (λ i. g (head.Vertex i)) ≡ sum_below z.keys (λ i. f (head.Vertex i)) = sum_same z.keys _ _ (λ i l. s (head.Vertex i) l vertex_edge) in
      let e : sum_below z.keys (λ i. sum_below z.keys (λ j. g (head.Edge i j))) ≡ suc (sum_below z.keys (λ i. sum_below z.keys (λ j. f (head.Edge i j)))) =
      sum_next z.keys a _ _ n.0 (λ i l d. sum_same z.keys _ _ (λ j m. s (head.Edge i j) (l, m) (other_from d)))
      (sum_next z.keys b _ _ n.1 (λ j m d. s (head.Edge a j) (n.0, m) (other_to d)) u) in
      omega arith

module _ (R : RunInTime) where
  -- the rows in the chain of a head: one if it holds a row at the start, and one for each time that it moved
  unfoldable rows_at : ℕ → Head → ℕ
  rows_at zero h = one_row R.sizes (R.state 0).cells h
  rows_at (suc k) h = rows_at k h + cond (eqb (head_at R (suc k) h) (head_at R k h)) 0 1

  rows_stay : (k : ℕ) (h : Head) → head_at R (suc k) h ≡ head_at R k h → rows_at (suc k) h ≡ rows_at k h
  unfolding rows_at
  rows_stay k h e = rw (eq-eqb (head_at R (suc k) h) (head_at R k h) e) (omega arith)

  rows_grow : (k : ℕ) (h : Head) → ¬ (head_at R (suc k) h ≡ head_at R k h) → rows_at (suc k) h ≡ suc (rows_at k h)
  unfolding rows_at
  rows_grow k h d = rw (ne_eqb (head_at R (suc k) h) (head_at R k h) d) (omega arith)

  abbrev Chain : ℕ → Kind → ℕ → ℕ → Type 0
  Chain k c r n = ChainOf (R.state k).sizes (R.state k).cells c r n

  -- a chain stays, since older of a linked row does
  chain_later : (k : ℕ) (c : Kind) (r n : ℕ) → (r ≡ no_row) ⊎ LinkedAt R k c r → Chain k c r n → Chain (suc k) c r n
  chain_later k c r zero o e = e
  chain_later k c r (suc n) (inl q) (d, x) = absurd (d q)
  chain_later k c r (suc n) (inr l) (d, x) =
      (d, subst (λ q. Chain (suc k) c q n) (sym ((step R k).older c r l)) (chain_later k c (number_at R k (cell.Older c r)) n ((sound_at R k).olders c r l) x))

  named_then : (k : ℕ) (h : Head) → Named R.sizes (cell.Head h) → Named (R.state k).sizes (cell.Head h)
  named_then k h m = subst (λ (z : Sizes). Named z (cell.Head h)) (sym (sizes_at R k)) m

  chain_next : (k : ℕ) (h : Head) → Named R.sizes (cell.Head h) → Chain k (head_kind h) (head_at R k h) (rows_at k h) → Chain (suc k) (head_kind h) (head_at R (suc k) h) (rows_at (suc k) h)
  chain_next k h m x = ⊎_elim
      (λ (e : head_at R (suc k) h ≡ head_at R k h). subst₂ (λ r n. Chain (suc k) (head_kind h) r n) (sym e) (sym (rows_stay k h e)) still)
      (λ (d : ¬ (head_at R (suc k) h ≡ head_at R k h)). subst (λ n. Chain (suc k) (head_kind h) (head_at R (suc k) h) n) (sym (rows_grow k h d)) (by_step d ((step R k).heads h m)))
      (cases_eq (head_at R (suc k) h) (head_at R k h))
    where
      still : Chain (suc k) (head_kind h) (head_at R k h) (rows_at k h)
      still = chain_later k (head_kind h) (head_at R k h) (rows_at k h) ((sound_at R k).heads h (named_then k h m)) x

      by_step : ¬ (head_at R (suc k) h ≡ head_at R k h) → HeadSteps R k h (head_at R (suc k) h) → Chain (suc k) (head_kind h) (head_at R (suc k) h) (suc (rows_at k h))
      by_step d (stays e) = absurd (d e)
      by_step d (moves a e s) =
          let l : LinkedAt R (suc k) (head_kind h) (head_at R (suc k) h) = subst (λ g. LinkedAt R (suc k) (head_kind g) (head_at R (suc k) h)) e s.linked in
          let o : number_at R (suc k) (cell.Older (head_kind h) (head_at R (suc k) h)) ≡ head_at R k h =
          subst (λ g. number_at R (suc k) (cell.Older (head_kind g) (head_at R (suc k) h)) ≡ head_at R k g) e s.older in
          let low = (linked_row (R.state (suc k)) (head_kind h) (head_at R (suc k) h) l).0 in
          (λ q. omega arith, subst (λ r. Chain (suc k) (head_kind h) r (rows_at k h)) (sym o) still)

  abbrev Here : Head → ℕ → Type 0
  Here h n = Chain 0 (head_kind h) (head_at R 0 h) n

  -- at the start the row of a head is alone
  chain_first : (h : Head) → Named R.sizes (cell.Head h) → Chain 0 (head_kind h) (head_at R 0 h) (rows_at 0 h)
  unfolding rows_at
  chain_first h m = subst (λ (z : Sizes). Chain 0 (head_kind h) (head_at R 0 h) (one_row z (R.state 0).cells h)) R.start (⊎_elim none one (R.clean.heads h (named_then 0 h m)))
    where
      none : head_at R 0 h ≡ no_row → Here h (one_row (R.state 0).sizes (R.state 0).cells h)
      none e = subst (λ t. Here h (cond t 0 1)) (sym (eq-eqb (head_at R 0 h) no_row e)) e

      one : Stands (R.state 0) h → Here h (one_row (R.state 0).sizes (R.state 0).cells h)
      one s = ⊎_elim none (λ (d : ¬ (head_at R 0 h ≡ no_row)). subst (λ t. Here h (cond t 0 1)) (sym (ne_eqb (head_at R 0 h) no_row d)) (d, s.alone)) (cases_eq (head_at R 0 h) no_row)

  chain_at : (k : ℕ) (h : Head) → Named R.sizes (cell.Head h) → Chain k (head_kind h) (head_at R k h) (rows_at k h)
  chain_at zero h m = chain_first h m
  chain_at (suc k) h m = chain_next k h m (chain_at k h m)

  total_at : (k : ℕ) → over_heads R.sizes.keys (rows_at k) ≡ rows_held R.sizes (R.state 0).cells + rows_linked (shown_at R k).sights
  unfolding rows_held over_heads rows_at
  total_at zero = omega (arith, none_yet R)
  total_at (suc k) = by_step ((runs_count R k).rows) (total_at k)
    where
      by_step : RowsStep R k → over_heads R.sizes.keys (rows_at k) ≡ rows_held R.sizes (R.state 0).cells + rows_linked (shown_at R k).sights →
          over_heads R.sizes.keys (rows_at (suc k)) ≡ rows_held R.sizes (R.state 0).cells + rows_linked (shown_at R (suc k)).sights
      by_step (none_linked s q) i = omega (arith, heads_same R.sizes (rows_at k) (rows_at (suc k)) (λ h m. rows_stay k h (s h m)), q, i)
      by_step (one_linked g m d s q) i = omega (arith, heads_next R.sizes (rows_at k) (rows_at (suc k)) g m (λ h n a. rows_stay k h (s h n a)) (rows_grow k g d), q, i)

  chains_hold : (k : ℕ) → ChainsHold R.sizes (shown_at R k).state.cells (rows_held R.sizes (R.state 0).cells + rows_linked (shown_at R k).sights)
  chains_hold k =
      subst (λ (s : State). ChainsHold R.sizes s.cells (rows_held R.sizes (R.state 0).cells + rows_linked (shown_at R k).sights)) (sym (shown_state R k)) (record {
        rows = rows_at k;
        chains = λ h m. subst (λ (z : Sizes). ChainOf z (R.state k).cells (head_kind h) (cell_at z (R.state k).cells (cell.Head h)) (rows_at k h)) (sizes_at R k) (chain_at k h m);
        all = total_at k;
      })

pub rows_stand_in_chains : RowsStandInChains
rows_stand_in_chains start h s clean t =
    let f = histories start clean h s t in
    let c : ChainsHold f.run.sizes (shown_by (f.run.state 0) (history_at f.run (length h))).state.cells (rows_held f.run.sizes (f.run.state 0).cells + rows_linked (shown_by (f.run.state 0) (history_at f.run (length h))).sights) = chains_hold f.run (length h) in
    let d = subst (λ (z : Sizes). ChainsHold z (shown_by (f.run.state 0) (history_at f.run (length h))).state.cells (rows_held z (f.run.state 0).cells + rows_linked (shown_by (f.run.state 0) (history_at f.run (length h))).sights)) f.sizes c in
    subst₂ (λ (u : State) g. ChainsHold start.sizes (shown_by u g).state.cells (rows_held start.sizes u.cells + rows_linked (shown_by u g).sights)) f.starts f.history d
