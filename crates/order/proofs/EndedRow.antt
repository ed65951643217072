-- The worked case of a contains that meets an edge row that has ended: the edge is there while both vertices are.
use Rattle.std.proofs.Common.{◌≡◌, ℕ, true, [], ◌∷◌, List, Contains, ◌⊎◌, refl, sym, subst, inl, inr, arith}
use Rattle.std.proofs.lemmas.Bool.{cases_eq, cases_Bool}
use Rattle.std.proofs.lemmas.Bool.Decides.{nat_tests}
use Rattle.codes.specs.declared.answer.Answer.{Answer}
use Rattle.codes.specs.declared.answer.Answer.TheVariants.{VertexAbsent, EdgeAbsent}
use Rattle.places.specs.declared.place.Pair.{Pair}
use Rattle.questions.specs.Graph.{Graph}
use Rattle.order.specs.Graph.{both, joined, after}
use Rattle.order.specs.Past.{Past, Belongs, fed}
use Rattle.order.specs.Order.{OneOrder}
use Rattle.order.specs.Started.{two_joined}
use Rattle.order.specs.Mistakes.{Tells, ended_row}
use Rattle.order.proofs.Short.{short_order}
use Rattle.order.proofs.Lists.{contains_none, contains_rest}
use Rattle.order.proofs.Through.{Through, through_same, no_order}

one_of_four : (a : Answer) (b : ℕ) → Belongs (ended_row a) b → (b ≡ 1) ⊎ ((b ≡ 2) ⊎ ((b ≡ 3) ⊎ (b ≡ 20)))
one_of_four a b h = elim (cases_eq b 1) [
  | inl q ↦ inl q
  | inr q ↦ elim (cases_eq b 2) [
    | inl p ↦ inr (inl p)
    | inr p ↦ elim (cases_eq b 3) [
      | inl o ↦ inr (inr (inl o))
      | inr o ↦ elim (cases_eq b 20) [ inl n ↦ inr (inr (inr n)) | inr n ↦ absurd (let x = h.began in grind (arith, nat_tests)) ]
    ]
  ]
]

-- with the answer that the edge is absent
abbrev past : Past
past = ended_row EdgeAbsent

abbrev pair : Pair
pair = record { from = 0; to = 1; weight = 0 }

-- the edge is there while both vertices are
abbrev Kept : Graph → Type 0
Kept g = both g pair ≡ true → joined g pair ≡ true

-- the contains is yet to come
abbrev Q : Graph → List ℕ → Type 0
Q g bs = Contains bs 1 × Kept g

contains : Through past Q 1
contains g bs n (z, keeps) = absurd (let a = n.explained.answer in elim (cases_Bool (both g pair)) [
  | inl c ↦ (let j = keeps c in grind arith)
  | inr c ↦ grind arith
])

removes_vertex : Through past Q 2
removes_vertex g bs n (z, keeps) = (contains_rest 2 1 bs (λ e. omega (arith, e)) z, λ c. absurd (let a = n.explained.answer in grind (arith, nat_tests)))

removes_edge : Through past Q 3
removes_edge g bs n (z, keeps) =
    let a = n.explained.answer in
    let still : after g (fed past 3) ≡ g = cc in
    (contains_rest 3 1 bs (λ e. omega (arith, e)) z, subst Kept (sym still) keeps)

takes_snapshot : Through past Q 20
takes_snapshot g bs n (z, keeps) = (contains_rest 20 1 bs (λ e. omega (arith, e)) z, keeps)

step : (b : ℕ) → Belongs past b → Through past Q b
step b h = elim (one_of_four EdgeAbsent b h) [
  | inl q ↦ through_same past Q b 1 q contains
  | inr (inl q) ↦ through_same past Q b 2 q removes_vertex
  | inr (inr (inl q)) ↦ through_same past Q b 3 q removes_edge
  | inr (inr (inr q)) ↦ through_same past Q b 20 q takes_snapshot
]

-- the vertex is removed, the snapshot shows it, and then the edge calls meet no vertex
order : OneOrder (ended_row VertexAbsent) two_joined (2 ∷ 20 ∷ 3 ∷ 1 ∷ [])
order = short_order (ended_row VertexAbsent) two_joined (2 ∷ 20 ∷ 3 ∷ 1 ∷ [])
    (λ b h. elim (one_of_four VertexAbsent b h) [
      | inl q ↦ (3, omega arith, sym q)
      | inr (inl q) ↦ (0, omega arith, sym q)
      | inr (inr (inl q)) ↦ (2, omega arith, sym q)
      | inr (inr (inr q)) ↦ (1, omega arith, sym q)
    ]) (
      record { began = refl; done = inl refl },
      (record { began = refl; done = inl refl }, (record { began = refl; done = inl refl }, (record { began = refl; done = inl refl }, tt))),
    ) (
      ((refl, omega arith, omega arith), ((refl, omega arith, tt), ((refl, omega arith, tt), tt))),
      (((refl, omega arith, tt), ((refl, omega arith, tt), tt)), (((refl, omega arith, tt), tt), (tt, tt))),
    ) (
      record { answer = refl; page = tt },
      (record { answer = refl; page = refl }, (record { answer = refl; page = tt }, (record { answer = refl; page = tt }, tt))),
    )

pub second_check : Tells ended_row two_joined VertexAbsent EdgeAbsent
second_check = record {
  right = (2 ∷ 20 ∷ 3 ∷ 1 ∷ [], order);
  wrong = no_order past Q step (λ g q. contains_none 1 q.0) two_joined
      (λ order o. ((o.members 1).1 (record { began = refl; done = inl refl }), λ c. refl));
}
