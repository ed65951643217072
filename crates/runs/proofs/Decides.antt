-- Whether a row is linked can be told.
use Rattle.std.proofs.Common.{◌≡◌, ℕ, zero, suc, ◌<◌, ◌≤◌, ◌⊎◌, sym, refl, subst, inl, inr, ⊎_elim, arith}
use Rattle.std.proofs.lemmas.Bool.{cases_lt, cases_eq}
use Rattle.layout.specs.declared.names.Kind.{Kind}
use Rattle.layout.specs.declared.names.Kind.TheVariants.{Vertex, Edge}
use Rattle.layout.specs.declared.names.Head.{Head}
use Rattle.layout.specs.declared.names.Head.TheVariants as head
use Rattle.layout.specs.declared.names.Cell.TheVariants as cell
use Rattle.layout.specs.Layout.{Named}
use Rattle.places.specs.declared.place.Change.{Change}
use Rattle.places.specs.declared.place.Change.TheVariants as change
use Rattle.places.specs.Touches.{head_kind, change_head}
use Rattle.laws.specs.Fits.{FitChange}
use Rattle.runs.specs.Runs.{RunInTime}
use Rattle.runs.specs.Views.{head_at, LinkedAt}
use Rattle.runs.specs.Steps.{LinkStepOfKind}
use Rattle.runs.proofs.Events.{link_fits, key_in}
use Rattle.runs.proofs.EdgeEvents.{head_is_linked}
use Rattle.runs.proofs.Steps.{runs_step as step}
use Rattle.runs.proofs.Times.{runs_last as last}
use Rattle.laws.proofs.Owned.{linked_row}

-- some number below n has a property, or none has
abbrev Below : ℕ → (ℕ → Type 0) → Type 0
Below n P = (i : ℕ) × (i < n) × P i

below_or : (P : ℕ → Type 0) → ((i : ℕ) → P i ⊎ ¬ (P i)) → (n : ℕ) → Below n P ⊎ ¬ (Below n P)
below_or P d zero = inr (λ x. omega (arith, x.1))
below_or P d (suc n) =
    ⊎_elim (λ (x : P n). inl (n, omega arith, x))
    (λ (x : ¬ (P n)). ⊎_elim (λ (y : Below n P). inl (y.0, omega (arith, y.1), y.2))
    (λ (y : ¬ (Below n P)). inr (λ z. ⊎_elim (λ (a : z.0 < n). y (z.0, a, z.2)) (λ (a : n ≤ z.0). let e : z.0 ≡ n = omega (arith, z.1) in x (subst P e z.2)) (cases_lt z.0 n)))
    (below_or P d n))
    (d n)

module _ (R : RunInTime) (k : ℕ) (r : ℕ) where
  -- a row is the row of a head, or of none
  abbrev IsHead : Kind → Type 0
  IsHead c = (h : Head) × Named R.sizes (cell.Head h) × (head_kind h ≡ c) × (head_at R k h ≡ r)

  abbrev At : ℕ → Type 0
  At i = head_at R k (head.Vertex i) ≡ r

  abbrev Pairs : ℕ → Type 0
  Pairs i = Below R.sizes.keys (λ j. head_at R k (head.Edge i j) ≡ r)

  vertex_at : (h : Head) → Named R.sizes (cell.Head h) → head_kind h ≡ Vertex → head_at R k h ≡ r → Below R.sizes.keys At
  vertex_at (head.Vertex i) n e x = (i, n, x)
  vertex_at (head.Edge i j) n e x = absurd cc

  edge_at : (h : Head) → Named R.sizes (cell.Head h) → head_kind h ≡ Edge → head_at R k h ≡ r → Below R.sizes.keys Pairs
  edge_at (head.Vertex i) n e x = absurd cc
  edge_at (head.Edge i j) n e x = (i, n.0, (j, n.1, x))

  is_head_or : (c : Kind) → IsHead c ⊎ ¬ (IsHead c)
  is_head_or Vertex =
      ⊎_elim (λ (x : Below R.sizes.keys At). inl (head.Vertex x.0, x.1, refl, x.2)) (λ (x : ¬ (Below R.sizes.keys At)). inr (λ y. x (vertex_at y.0 y.1 y.2 y.3)))
      (below_or At (λ i. cases_eq (head_at R k (head.Vertex i)) r) R.sizes.keys)
  is_head_or Edge =
      ⊎_elim (λ (x : Below R.sizes.keys Pairs). inl (head.Edge x.0 x.2.0, (x.1, x.2.1), refl, x.2.2)) (λ (x : ¬ (Below R.sizes.keys Pairs)). inr (λ y. x (edge_at y.0 y.1 y.2 y.3)))
      (below_or Pairs (λ i. below_or (λ j. head_at R k (head.Edge i j) ≡ r) (λ j. cases_eq (head_at R k (head.Edge i j)) r) R.sizes.keys) R.sizes.keys)

module _ (R : RunInTime) where
  -- the row of a head is linked
  at_head_linked : (k : ℕ) (c : Kind) (r : ℕ) → 0 < r → IsHead R k r c → LinkedAt R k c r
  at_head_linked k c r l x =
      subst (λ (u : Kind). LinkedAt R k u r) x.2 (subst (LinkedAt R k (head_kind x.0)) x.3 (head_is_linked R k x.0 x.1 (subst (λ n. 0 < n) (sym x.3) l)))

  change_in : (k : ℕ) (d : Change) → FitChange (R.state k) d → Named R.sizes (cell.Head (change_head d))
  change_in k (change.Vertex i) f = key_in R k i f
  change_in k (change.Edge b) f = (key_in R k b.pair.from f.keys.0, key_in R k b.pair.to f.keys.1)

  new_is_head : (k : ℕ) (c : Kind) (r : ℕ) → LinkStepOfKind R k c r → IsHead R (suc k) r c
  new_is_head k c r m = (change_head m.change, change_in k m.change (link_fits R m.step.turn), m.kind, m.step.head)

  rows_or : (k : ℕ) (c : Kind) (r : ℕ) → 0 < r → LinkedAt R k c r ⊎ ¬ (LinkedAt R k c r)
  rows_or zero c r l =
      ⊎_elim (λ (x : IsHead R zero r c). inl (at_head_linked zero c r l x)) (λ (x : ¬ (IsHead R zero r c)). inr (λ o. let y = (last R).old_row c r o in x (y.head, y.named, y.kind, y.is))) (is_head_or R zero r c)
  rows_or (suc k) c r l =
      ⊎_elim (λ (o : LinkedAt R k c r). inl ((step R k).linked c r o))
      (λ (n : ¬ (LinkedAt R k c r)).
      ⊎_elim (λ (x : IsHead R (suc k) r c). inl (at_head_linked (suc k) c r l x))
      (λ (x : ¬ (IsHead R (suc k) r c)). inr (λ o. ⊎_elim (λ (y : LinkedAt R k c r). n y) (λ (y : LinkStepOfKind R k c r). x (new_is_head k c r y)) ((step R k).news c r o)))
      (is_head_or R (suc k) r c))
      (rows_or k c r l)

  pub linked_or : (k : ℕ) (c : Kind) (r : ℕ) → LinkedAt R k c r ⊎ ¬ (LinkedAt R k c r)
  linked_or k c r = ⊎_elim (λ (l : 0 < r). rows_or k c r l) (λ (l : r ≤ 0). inr (λ o. omega (arith, (linked_row (R.state k) c r o).0))) (cases_lt 0 r)
