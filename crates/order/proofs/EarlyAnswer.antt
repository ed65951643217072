-- The worked case of a lost link that is answered before the row that won it has its stamp: no call can stand first.
use Rattle.std.proofs.Common.{◌≡◌, ℕ, false, [], ◌∷◌, List, Contains, ◌⊎◌, refl, sym, inl, inr, arith}
use Rattle.std.proofs.lemmas.Bool.{cases_eq}
use Rattle.std.proofs.lemmas.Bool.Decides.{nat_tests}
use Rattle.codes.specs.declared.answer.Answer.TheVariants.{VertexAlready}
use Rattle.questions.specs.Graph.{Graph}
use Rattle.order.specs.Graph.{empty}
use Rattle.order.specs.Past.{Belongs}
use Rattle.order.specs.Order.{OneOrder}
use Rattle.order.specs.Mistakes.{Tells, lost_link}
use Rattle.order.proofs.Short.{short_order}
use Rattle.order.proofs.Lists.{contains_none, contains_rest}
use Rattle.order.proofs.Through.{Through, through_same, no_order}

one_of_three : (t b : ℕ) → Belongs (lost_link t) b → (b ≡ 1) ⊎ ((b ≡ 2) ⊎ (b ≡ 7))
one_of_three t b h = elim (cases_eq b 1) [
  | inl q ↦ inl q
  | inr q ↦ elim (cases_eq b 2) [
    | inl p ↦ inr (inl p)
    | inr p ↦ elim (cases_eq b 7) [ inl o ↦ inr (inr o) | inr o ↦ absurd (let x = h.began in grind (arith, nat_tests)) ]
  ]
]

belongs : (t b : ℕ) → (b ≡ 1) ⊎ ((b ≡ 2) ⊎ (b ≡ 7)) → Belongs (lost_link t) b
belongs t b (inl q) = record { began = grind (arith, nat_tests); done = inl (grind (arith, nat_tests)) }
belongs t b (inr (inl q)) = record { began = grind (arith, nat_tests); done = inl (grind (arith, nat_tests)) }
belongs t b (inr (inr q)) = record { began = grind (arith, nat_tests); done = inl (grind (arith, nat_tests)) }

-- the snapshot and the second add are yet to come, and the vertex is not there
abbrev Q : Graph → List ℕ → Type 0
Q g bs = Contains bs 7 × Contains bs 2 × (g.has 0 ≡ false)

adds : Through (lost_link 5) Q 1
adds g bs n (z, w, absent) = absurd (let s = n.stamps 7 (contains_rest 1 7 bs (λ e. omega (arith, e)) z) in omega (arith, s))

adds_again : Through (lost_link 5) Q 2
adds_again g bs n (z, w, absent) = absurd (let a = n.explained.answer in grind arith)

takes_snapshot : Through (lost_link 5) Q 7
takes_snapshot g bs n (z, w, absent) =
    absurd (n.not_after 2 (contains_rest 7 2 bs (λ e. omega (arith, e)) w) (record { time = 5; answer = VertexAlready; page = empty }, refl, omega arith))

step : (b : ℕ) → Belongs (lost_link 5) b → Through (lost_link 5) Q b
step b h = elim (one_of_three 5 b h) [
  | inl q ↦ through_same (lost_link 5) Q b 1 q adds
  | inr (inl q) ↦ through_same (lost_link 5) Q b 2 q adds_again
  | inr (inr q) ↦ through_same (lost_link 5) Q b 7 q takes_snapshot
]

order : OneOrder (lost_link 11) empty (7 ∷ 1 ∷ 2 ∷ [])
order = short_order (lost_link 11) empty (7 ∷ 1 ∷ 2 ∷ [])
    (λ b h. elim (one_of_three 11 b h) [ inl q ↦ (1, omega arith, sym q) | inr (inl q) ↦ (2, omega arith, sym q) | inr (inr q) ↦ (0, omega arith, sym q) ])
    (belongs 11 7 (inr (inr refl)), (belongs 11 1 (inl refl), (belongs 11 2 (inr (inl refl)), tt)))
    (((refl, omega arith, omega arith), ((refl, omega arith, tt), tt)), (((refl, omega arith, tt), tt), (tt, tt)))
    (record { answer = refl; page = refl }, (record { answer = refl; page = tt }, (record { answer = refl; page = tt }, tt)))

pub early_answer : Tells lost_link empty 11 5
early_answer = record {
  right = (7 ∷ 1 ∷ 2 ∷ [], order);
  wrong = no_order (lost_link 5) Q step (λ g q. contains_none 7 q.0) empty
      (λ order o. ((o.members 7).1 (belongs 5 7 (inr (inr refl))), (o.members 2).1 (belongs 5 2 (inr (inl refl))), refl));
}
