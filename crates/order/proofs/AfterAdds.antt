-- The worked case of a stretch that adds two vertices and an edge, and of the stretch that starts with them.
use Rattle.std.proofs.Common.{◌≡◌, ℕ, [], ◌∷◌, None, ◌⊎◌, refl, sym, inl, inr, arith}
use Rattle.std.proofs.lemmas.Bool.{cases_eq}
use Rattle.std.proofs.lemmas.Bool.Decides.{nat_tests}
use Rattle.order.specs.Graph.{empty, with_edge}
use Rattle.order.specs.Past.{Belongs}
use Rattle.order.specs.Order.{left_by, OneOrder, Ordered}
use Rattle.order.specs.Joined.{continued, Over}
use Rattle.order.specs.Started.{two_joined, started, run, adds}
use Rattle.order.proofs.Changes.{graph_equal}
use Rattle.order.proofs.Short.{short_order}
use Rattle.order.proofs.Started.{order, leaves, marked}
use Rattle.order.proofs.Stretches.{from_start, over_both}
use Rattle.order.proofs.Joined.{pasts_join}

one_of_three : (b : ℕ) → Belongs adds b → (b ≡ 1) ⊎ ((b ≡ 10) ⊎ (b ≡ 20))
one_of_three b h = elim (cases_eq b 1) [
  | inl q ↦ inl q
  | inr q ↦ elim (cases_eq b 10) [
    | inl p ↦ inr (inl p)
    | inr p ↦ elim (cases_eq b 20) [ inl o ↦ inr (inr o) | inr o ↦ absurd (let x = h.began in grind (arith, nat_tests)) ]
  ]
]

adds_order : OneOrder adds empty (1 ∷ 10 ∷ 20 ∷ [])
adds_order = short_order adds empty (1 ∷ 10 ∷ 20 ∷ [])
    (λ b h. elim (one_of_three b h) [ inl q ↦ (0, omega arith, sym q) | inr (inl q) ↦ (1, omega arith, sym q) | inr (inr q) ↦ (2, omega arith, sym q) ])
    (record { began = refl; done = inl refl }, (record { began = refl; done = inl refl }, (record { began = refl; done = inl refl }, tt)))
    (((refl, omega arith, omega arith), ((refl, omega arith, omega arith), tt)), (((refl, omega arith, omega arith), tt), (tt, tt)))
    (record { answer = refl; page = tt }, (record { answer = refl; page = tt }, (record { answer = refl; page = tt }, tt)))

adds_leave : left_by adds empty (1 ∷ 10 ∷ 20 ∷ []) ≡ two_joined
adds_leave = graph_equal (left_by adds empty (1 ∷ 10 ∷ 20 ∷ [])) two_joined (λ k. grind (arith, nat_tests)) (λ i j. refl)

adds_over : Over 40 7 adds
adds_over = record {
  began = λ b h. omega (arith, one_of_three b h);
  stamps = λ b h. elim (one_of_three b h) [
    | inl q ↦ rw q (omega arith)
    | inr (inl q) ↦ rw q (omega arith)
    | inr (inr q) ↦ rw q (omega arith)
  ];
}

pub after_adds : Ordered (continued 40 adds started) empty (with_edge two_joined 0 1 None)
after_adds = pasts_join 40 7 adds started empty two_joined (with_edge two_joined 0 1 None) adds_over (from_start marked 7 (omega arith))
    (1 ∷ 10 ∷ 20 ∷ [], adds_order, adds_leave) (1 ∷ 13 ∷ [], order, leaves)

pub over : Over 67 8 (continued 40 adds started)
over = over_both 40 7 adds started run adds_over marked (omega arith)
