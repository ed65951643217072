-- The worked case of an edge row that is linked over a newer one: once the newer edge is added, it stays.
use Rattle.std.proofs.Common.{◌≡◌, ℕ, true, [], ◌∷◌, List, Contains, ◌⊎◌, refl, sym, inl, inr, arith}
use Rattle.std.proofs.lemmas.Bool.{cases_eq}
use Rattle.std.proofs.lemmas.Bool.Decides.{nat_tests}
use Rattle.codes.specs.declared.answer.Answer.{Answer}
use Rattle.codes.specs.declared.answer.Answer.TheVariants.{VertexRemoved, EdgeAdded, EdgeAbsent, EdgePresent}
use Rattle.places.specs.declared.place.Pair.{Pair}
use Rattle.questions.specs.Graph.{Graph}
use Rattle.order.specs.Graph.{empty, both, joined}
use Rattle.order.specs.Past.{Past, Belongs}
use Rattle.order.specs.Order.{OneOrder}
use Rattle.order.specs.Mistakes.{Tells, two_apart, linked_over}
use Rattle.order.proofs.Short.{short_order}
use Rattle.order.proofs.Lists.{contains_none, contains_rest}
use Rattle.order.proofs.Through.{Through, through_same, no_order}

one_of_five : (a : Answer) (b : ℕ) → Belongs (linked_over a) b → (b ≡ 1) ⊎ ((b ≡ 11) ⊎ ((b ≡ 21) ⊎ ((b ≡ 31) ⊎ (b ≡ 61))))
one_of_five a b h = elim (cases_eq b 1) [
  | inl q ↦ inl q
  | inr q ↦ elim (cases_eq b 11) [
    | inl p ↦ inr (inl p)
    | inr p ↦ elim (cases_eq b 21) [
      | inl o ↦ inr (inr (inl o))
      | inr o ↦ elim (cases_eq b 31) [
        | inl n ↦ inr (inr (inr (inl n)))
        | inr n ↦ elim (cases_eq b 61) [ inl l ↦ inr (inr (inr (inr l))) | inr l ↦ absurd (let x = h.began in grind (arith, nat_tests)) ]
      ]
    ]
  ]
]

-- with the answer that the edge is absent
abbrev past : Past
past = linked_over EdgeAbsent

abbrev pair : Pair
pair = record { from = 0; to = 1; weight = 0 }

-- the remove of the vertex is done, and the edge is there
abbrev Added : Graph → List ℕ → Type 0
Added g bs = ¬ (Contains bs 11) × (both g pair ≡ true) × (joined g pair ≡ true)

-- the contains is yet to come, and so is the newer add, or its edge is there
abbrev Q : Graph → List ℕ → Type 0
Q g bs = Contains bs 61 × (Contains bs 31 ⊎ Added g bs)

adds_older : Through past Q 1
adds_older g bs n (z, inl w) = (contains_rest 1 61 bs (λ e. omega (arith, e)) z, inl (contains_rest 1 31 bs (λ e. omega (arith, e)) w))
adds_older g bs n (z, inr (none, b, j)) = absurd (let a = n.explained.answer in grind arith)

removes_vertex : Through past Q 11
removes_vertex g bs n (z, inl w) = (contains_rest 11 61 bs (λ e. omega (arith, e)) z, inl (contains_rest 11 31 bs (λ e. omega (arith, e)) w))
removes_vertex g bs n (z, inr (none, b, j)) = absurd (none (0, omega arith, refl))

adds_vertex : Through past Q 21
adds_vertex g bs n (z, inl w) = (contains_rest 21 61 bs (λ e. omega (arith, e)) z, inl (contains_rest 21 31 bs (λ e. omega (arith, e)) w))
adds_vertex g bs n (z, inr (none, b, j)) = absurd (let a = n.explained.answer in grind arith)

adds_newer : Through past Q 31
adds_newer g bs n (z, w) =
    let a = n.explained.answer in (
      contains_rest 31 61 bs (λ e. omega (arith, e)) z,
      inr (
        λ x. n.not_after 11 x (record { time = 20; answer = VertexRemoved; page = empty }, refl, omega arith),
        grind (arith, nat_tests),
        grind (arith, nat_tests),
      ),
    )

contains : Through past Q 61
contains g bs n (z, inl w) =
    absurd (n.not_after 31 (contains_rest 61 31 bs (λ e. omega (arith, e)) w) (record { time = 50; answer = EdgeAdded; page = empty }, refl, omega arith))
contains g bs n (z, inr (none, b, j)) = absurd (let a = n.explained.answer in grind arith)

step : (b : ℕ) → Belongs past b → Through past Q b
step b h = elim (one_of_five EdgeAbsent b h) [
  | inl q ↦ through_same past Q b 1 q adds_older
  | inr (inl q) ↦ through_same past Q b 11 q removes_vertex
  | inr (inr (inl q)) ↦ through_same past Q b 21 q adds_vertex
  | inr (inr (inr (inl q))) ↦ through_same past Q b 31 q adds_newer
  | inr (inr (inr (inr q))) ↦ through_same past Q b 61 q contains
]

-- the first add stands before the remove of the vertex
order : OneOrder (linked_over EdgePresent) two_apart (1 ∷ 11 ∷ 21 ∷ 31 ∷ 61 ∷ [])
order = short_order (linked_over EdgePresent) two_apart (1 ∷ 11 ∷ 21 ∷ 31 ∷ 61 ∷ [])
    (λ b h. elim (one_of_five EdgePresent b h) [
      | inl q ↦ (0, omega arith, sym q)
      | inr (inl q) ↦ (1, omega arith, sym q)
      | inr (inr (inl q)) ↦ (2, omega arith, sym q)
      | inr (inr (inr (inl q))) ↦ (3, omega arith, sym q)
      | inr (inr (inr (inr q))) ↦ (4, omega arith, sym q)
    ]) (
      record { began = refl; done = inl refl },
      (
        record { began = refl; done = inl refl },
        (record { began = refl; done = inl refl }, (record { began = refl; done = inl refl }, (record { began = refl; done = inl refl }, tt))),
      ),
    ) (
      ((refl, omega arith, omega arith), ((refl, omega arith, omega arith), ((refl, omega arith, omega arith), ((refl, omega arith, tt), tt)))),
      (
        ((refl, omega arith, omega arith), ((refl, omega arith, omega arith), ((refl, omega arith, tt), tt))),
        (((refl, omega arith, omega arith), ((refl, omega arith, tt), tt)), (((refl, omega arith, tt), tt), (tt, tt))),
      ),
    ) (
      record { answer = refl; page = tt },
      (
        record { answer = refl; page = tt },
        (record { answer = refl; page = tt }, (record { answer = refl; page = tt }, (record { answer = refl; page = tt }, tt))),
      ),
    )

pub hidden_edge : Tells linked_over two_apart EdgePresent EdgeAbsent
hidden_edge = record {
  right = (1 ∷ 11 ∷ 21 ∷ 31 ∷ 61 ∷ [], order);
  wrong = no_order past Q step (λ g q. contains_none 61 q.0) two_apart
      (λ order o. ((o.members 61).1 (record { began = refl; done = inl refl }), inl ((o.members 31).1 (record { began = refl; done = inl refl }))));
}
