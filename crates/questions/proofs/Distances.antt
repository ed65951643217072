-- Along a breadth-first list the distances from the start never fall.
use Rattle.std.proofs.Common.{◌≡◌, ℕ, ◌<◌, ◌≤◌, Some, sym, refl, ap, ◌∙◌, subst, inl, inr, arith}
use Rattle.std.proofs.lemmas.Bool.{cases_eq, cases_lt}
use Rattle.questions.specs.Graph.{Graph, Walk, here, on}
use Rattle.questions.specs.Order.{BreadthFirst}
use Rattle.questions.specs.Laws.{edges, DistancesNeverFall}

module _ {g : Graph} {s : ℕ} {xs : ℕ → ℕ} {c : ℕ} (b : BreadthFirst g s xs c) where
  no_edges : (k : ℕ) → k ≡ s → (v : Walk g s k) × (edges v ≡ 0)
  no_edges k e =
      let P : ℕ → Type 0 = λ j. (v : Walk g s j) × (edges v ≡ 0) in
      subst P (sym e) (here, refl)

  to_first : (p : ℕ) → p ≡ 0 → (v : Walk g s (xs p)) × (edges v ≡ 0)
  to_first p z = no_edges (xs p) (ap xs z ∙ b.start.1)

  from_rises : (p q : ℕ) → 0 < p → p ≤ q → q < c → b.from p ≤ b.from q
  from_rises p q a h l = elim (cases_eq p q) [
    | inl e ↦ (let f = ap b.from e in omega arith)
    | inr e ↦ elim (b.ordered p q a (omega arith) l) [ inl o ↦ omega arith | inr o ↦ omega (arith, o.0) ]
  ]

  -- a key at p has a walk of no more edges than any walk to a key at q, which stands there or later
  no_longer : {k : ℕ} (w : Walk g s k) (q : ℕ) → xs q ≡ k → q < c → (p : ℕ) → p ≤ q → (v : Walk g s (xs p)) × (edges v ≤ edges w)
  no_longer here q e l p h = elim (cases_eq p 0) [
    | inl z ↦ (let (v, n) = to_first p z in (v, omega arith))
    | inr z ↦ absurd (b.once 0 q (omega arith) l (b.start.1 ∙ sym e))
  ]
  no_longer (on {k} {j} w walk f) q e l p h = elim (cases_eq p 0) [
    | inl z ↦ (let (v, n) = to_first p z in (v, omega arith))
    | inr z ↦ (
        let (r, in_list, at-r) = b.all k walk in
        let over : g.edge (xs r) (xs q) ≡ Some w = cc in
        let early : b.from p ≤ r = elim (cases_lt r (b.from q)) [
          | inl a ↦ absurd ((b.earliest q (omega arith) l).1.1 r a (w, over))
          | inr a ↦ omega (arith, from_rises p q (omega arith) h l)
        ] in
        let (v, n) = no_longer walk r at-r in_list (b.from p) early in
        let (x, last) = (b.earliest p (omega arith) (omega arith)).1.0 in
        (on x v last, omega arith))
  ]

pub distances_never_fall : DistancesNeverFall
distances_never_fall g s xs c b p q d e h l near far =
    let (v, n) = no_longer b far.walk q refl l p (omega arith) in
    omega (arith, near.least v, far.count)
