-- There is one breadth-first list.
use Rattle.std.proofs.Common.{◌≡◌, ℕ, zero, suc, ◌<◌, ◌≤◌, sym, ap, ◌∙◌, inl, inr, arith}
use Rattle.std.proofs.lemmas.Bool.{cases_eq, cases_lt}
use Rattle.questions.specs.Graph.{Graph}
use Rattle.questions.specs.Order.{BreadthFirst}
use Rattle.questions.specs.Laws.{OrderFixed}

abbrev Same : (ℕ → ℕ) → (ℕ → ℕ) → ℕ → Type 0
Same xs ys p = (q : ℕ) → q < p → xs q ≡ ys q

module _ {g : Graph} {s : ℕ} where
  -- the key at p stands, in the other list, at b, no earlier than p
  elsewhere : {xs ys : ℕ → ℕ} {c d : ℕ} → BreadthFirst g s xs c → BreadthFirst g s ys d → (p : ℕ) → p < c → Same xs ys p →
      (b : ℕ) × (b < d) × (ys b ≡ xs p) × (p ≤ b)
  elsewhere {xs} {ys} a o p l same =
      let (b, lb, e) = o.all (xs p) (a.reached p l) in
      (b, lb, e, elim (cases_lt b p) [ inl h ↦ absurd (a.once b p h l (same b h ∙ e)) | inr h ↦ h ])

  -- and its earliest neighbour stands in both at one place
  same_from : {xs ys : ℕ → ℕ} {c d : ℕ} (a : BreadthFirst g s xs c) (o : BreadthFirst g s ys d) (p : ℕ) → 0 < p → p < c → Same xs ys p →
      (b : ℕ) → b < d → ys b ≡ xs p → p ≤ b → a.from p ≡ o.from b
  same_from {xs} {ys} a o p z l same b lb e h =
      let (low, ((w, edge), none)) = a.earliest p z l in
      let (low', ((w', edge'), none')) = o.earliest b (omega arith) lb in
      let f = a.from p in let f' = o.from b in
      elim (cases_lt f f') [
        | inl u ↦ absurd (none' f u (w, (let t = same f low in cc)))
        | inr u ↦ elim (cases_lt f' f) [
          | inl v ↦ absurd (none f' v (w', (let t = same f' (omega arith) in cc)))
          | inr v ↦ omega arith
        ]
      ]

  -- so the lists agree at p where they agree before it
  agrees : {xs ys : ℕ → ℕ} {c d : ℕ} (a : BreadthFirst g s xs c) (o : BreadthFirst g s ys d) (p : ℕ) → p < c → p < d → Same xs ys p → xs p ≡ ys p
  agrees {xs} {ys} a o p l m same = elim (cases_eq p 0) [
    | inl z ↦ (let t = a.start.1 in let u = o.start.1 in cc)
    | inr z ↦ (
        let back : Same ys xs p = λ q h. sym (same q h) in
        let (b, lb, e, h) = elsewhere a o p l same in
        let (b', lb', e', h') = elsewhere o a p m back in
        let f = same_from a o p (omega arith) l same b lb e h in
        let f' = same_from o a p (omega arith) m back b' lb' e' h' in
        elim (cases_eq b p) [
          | inl x ↦ (let t = ap ys x in cc)
          | inr x ↦ elim (cases_eq b' p) [
            | inl y ↦ (let t = ap xs y in cc)
            | inr y ↦ absurd (elim (a.ordered p b' (omega arith) (omega arith) lb') [
              | inl u ↦ elim (o.ordered p b (omega arith) (omega arith) lb) [ inl v ↦ omega arith | inr v ↦ omega (arith, v.0) ]
              | inr u ↦ elim (o.ordered p b (omega arith) (omega arith) lb) [ inl v ↦ omega (arith, u.0) | inr v ↦ omega (arith, u.1, v.1) ]
            ])
          ]
        ])
  ]

  same_below : {xs ys : ℕ → ℕ} {c d : ℕ} → BreadthFirst g s xs c → BreadthFirst g s ys d → (n : ℕ) → n ≤ c → n ≤ d → Same xs ys n
  same_below a o zero l m q h = absurd (omega arith)
  same_below {xs} {ys} a o (suc n) l m q h =
      let before = same_below a o n (omega arith) (omega arith) in
      elim (cases_lt q n) [
        | inl t ↦ before q t
        | inr t ↦ (let z : q ≡ n = omega arith in let e = agrees a o n (omega arith) (omega arith) before in ap xs z ∙ e ∙ sym (ap ys z))
      ]

  no_longer_list : {xs ys : ℕ → ℕ} {c d : ℕ} → BreadthFirst g s xs c → BreadthFirst g s ys d → d ≤ c
  no_longer_list {xs} {ys} {c} {d} a o = elim (cases_lt c d) [
    | inl l ↦ absurd (
        let (p, lp, e) = a.all (ys c) (o.reached c l) in
        o.once p c lp l (sym (same_below a o c (omega arith) (omega arith) p lp) ∙ e))
    | inr l ↦ l
  ]

pub order_fixed : OrderFixed
order_fixed g s xs ys c d a o =
    let h = no_longer_list a o in let k = no_longer_list o a in
    (omega arith, same_below a o c (omega arith) k)
