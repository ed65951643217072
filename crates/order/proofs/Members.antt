-- The worked cases of a change that is pending, of a finished call, and of a change that a lower end has overtaken.
use Rattle.std.proofs.Common.{◌≡◌, ℕ, Bool, true, false, [], ◌∷◌, List, Contains, ◌⊎◌, refl, sym, ap, inl, inr, arith}
use Rattle.std.proofs.lemmas.Bool.{cases_eq}
use Rattle.std.proofs.lemmas.Bool.Decides.{nat_tests}
use Rattle.codes.specs.declared.answer.Answer.{Answer}
use Rattle.codes.specs.declared.answer.Answer.TheVariants.{VertexAdded, VertexAbsent, VertexPresent}
use Rattle.places.specs.declared.place.Pair.{Pair}
use Rattle.questions.specs.Graph.{Graph}
use Rattle.order.specs.Graph.{empty, with_vertex, both}
use Rattle.order.specs.Past.{Belongs}
use Rattle.order.specs.Mistakes.{Tells, two_apart, pending_change, finished_add, seen_early, late_birth}
use Rattle.order.proofs.Short.{short_order}
use Rattle.order.proofs.Lists.{contains_none, contains_rest}
use Rattle.order.proofs.Through.{Through, through_same, no_order}

-- the contains is yet to come, and the vertex is not there
abbrev Unseen : Graph → List ℕ → Type 0
Unseen g bs = Contains bs 5 × (g.has 0 ≡ false)

contains : Through (pending_change VertexPresent) Unseen 5
contains g bs n (z, absent) = absurd (let a = n.explained.answer in grind arith)

-- the add does not belong to the order
contains_only : (a : Answer) (b : ℕ) → Belongs (pending_change a) b → b ≡ 5
contains_only a b h = elim (cases_eq b 5) [
  | inl q ↦ q
  | inr q ↦ absurd (elim h.done [ inl d ↦ grind (arith, nat_tests) | inr d ↦ grind arith ])
]

pub pending_member : Tells pending_change empty VertexAbsent VertexPresent
pending_member = record {
  right = (
    5 ∷ [],
    short_order (pending_change VertexAbsent) empty (5 ∷ []) (λ b h. (0, omega arith, sym (contains_only VertexAbsent b h)))
        (record { began = refl; done = inl refl }, tt) (tt, tt) (record { answer = refl; page = tt }, tt),
  );
  wrong = no_order (pending_change VertexPresent) Unseen
      (λ b h. through_same (pending_change VertexPresent) Unseen b 5 (contains_only VertexPresent b h) contains) (λ g q. contains_none 5 q.0) empty
      (λ order o. ((o.members 5).1 (record { began = refl; done = inl refl }), refl));
}

one_of_two : (p : Graph) (b : ℕ) → Belongs (finished_add p) b → (b ≡ 1) ⊎ (b ≡ 10)
one_of_two p b h = elim (cases_eq b 1) [
  | inl q ↦ inl q
  | inr q ↦ elim (cases_eq b 10) [ inl o ↦ inr o | inr o ↦ absurd (let x = h.began in grind (arith, nat_tests)) ]
]

-- the snapshot is yet to come, and so is the add, or the vertex is there
abbrev Added : Graph → List ℕ → Type 0
Added g bs = Contains bs 10 × (Contains bs 1 ⊎ (g.has 0 ≡ true))

adds : Through (finished_add empty) Added 1
adds g bs n (z, w) = (contains_rest 1 10 bs (λ e. omega (arith, e)) z, inr (let a = n.explained.answer in grind (arith, nat_tests)))

takes_snapshot : Through (finished_add empty) Added 10
takes_snapshot g bs n (z, inl w) =
    absurd (n.not_after 1 (contains_rest 10 1 bs (λ e. omega (arith, e)) w) (record { time = 8; answer = VertexAdded; page = empty }, refl, omega arith))
takes_snapshot g bs n (z, inr there) = absurd (let e : false ≡ g.has 0 = ap (λ (p : Graph). p.has 0) n.explained.page in grind arith)

pub left_out : Tells finished_add empty (with_vertex empty 0) empty
left_out = record {
  right = (
    1 ∷ 10 ∷ [],
    short_order (finished_add (with_vertex empty 0)) empty (1 ∷ 10 ∷ [])
        (λ b h. elim (one_of_two (with_vertex empty 0) b h) [ inl q ↦ (0, omega arith, sym q) | inr q ↦ (1, omega arith, sym q) ])
        (record { began = refl; done = inl refl }, (record { began = refl; done = inl refl }, tt))
        (((refl, omega arith, omega arith), tt), (tt, tt))
        (record { answer = refl; page = tt }, (record { answer = refl; page = refl }, tt)),
  );
  wrong = no_order (finished_add empty) Added
      (λ b h. elim (one_of_two empty b h) [
        | inl q ↦ through_same (finished_add empty) Added b 1 q adds
        | inr q ↦ through_same (finished_add empty) Added b 10 q takes_snapshot
      ])
      (λ g q. contains_none 10 q.0) empty
      (λ order o. ((o.members 10).1 (record { began = refl; done = inl refl }), inl ((o.members 1).1 (record { began = refl; done = inl refl }))));
}

one_or_ten : (a : Answer) (b : ℕ) → Belongs (seen_early a) b → (b ≡ 1) ⊎ (b ≡ 10)
one_or_ten a b h = elim (cases_eq b 1) [
  | inl q ↦ inl q
  | inr q ↦ elim (cases_eq b 10) [ inl o ↦ inr o | inr o ↦ absurd (let x = h.began in grind (arith, nat_tests)) ]
]

looks_early : Through (seen_early VertexPresent) (λ g bs. Contains bs 1 × (g.has 0 ≡ false)) 1
looks_early g bs n (z, absent) = absurd (let a = n.explained.answer in grind arith)

adds_late : Through (seen_early VertexPresent) (λ g bs. Contains bs 1 × (g.has 0 ≡ false)) 10
adds_late g bs n (z, absent) =
    absurd (n.not_after 1 (contains_rest 10 1 bs (λ e. omega (arith, e)) z) (record { time = 3; answer = VertexPresent; page = empty }, refl, omega arith))

pub turned_round : Tells seen_early empty VertexAbsent VertexPresent
turned_round = record {
  right = (
    1 ∷ 10 ∷ [],
    short_order (seen_early VertexAbsent) empty (1 ∷ 10 ∷ [])
        (λ b h. elim (one_or_ten VertexAbsent b h) [ inl q ↦ (0, omega arith, sym q) | inr q ↦ (1, omega arith, sym q) ])
        (record { began = refl; done = inl refl }, (record { began = refl; done = inl refl }, tt))
        (((refl, omega arith, tt), tt), (tt, tt))
        (record { answer = refl; page = tt }, (record { answer = refl; page = tt }, tt)),
  );
  wrong = no_order (seen_early VertexPresent) (λ g bs. Contains bs 1 × (g.has 0 ≡ false))
      (λ b h. elim (one_or_ten VertexPresent b h) [
        | inl q ↦ through_same (seen_early VertexPresent) (λ g bs. Contains bs 1 × (g.has 0 ≡ false)) b 1 q looks_early
        | inr q ↦ through_same (seen_early VertexPresent) (λ g bs. Contains bs 1 × (g.has 0 ≡ false)) b 10 q adds_late
      ])
      (λ g q. contains_none 1 q.0) empty
      (λ order o. ((o.members 1).1 (record { began = refl; done = inl refl }), refl));
}

one_of_three : (l : Bool) (b : ℕ) → Belongs (late_birth l) b → (b ≡ 1) ⊎ ((b ≡ 2) ⊎ (b ≡ 20))
one_of_three l b h = elim (cases_eq b 1) [
  | inl q ↦ inl q
  | inr q ↦ elim (cases_eq b 2) [
    | inl p ↦ inr (inl p)
    | inr p ↦ elim (cases_eq b 20) [ inl o ↦ inr (inr o) | inr o ↦ absurd (let x = h.began in grind (arith, nat_tests)) ]
  ]
]

abbrev pair : Pair
pair = record { from = 0; to = 1; weight = 5 }

-- the add is yet to come, and so is the remove of the vertex, or the vertex is not there
abbrev Late : Graph → List ℕ → Type 0
Late g bs = Contains bs 1 × (Contains bs 2 ⊎ (both g pair ≡ false))

adds_edge : Through (late_birth false) Late 1
adds_edge g bs n (z, inl w) = absurd (let s = n.stamps 2 (contains_rest 1 2 bs (λ e. omega (arith, e)) w) in omega (arith, s))
adds_edge g bs n (z, inr absent) = absurd (let a = n.explained in grind arith)

removes_vertex : Through (late_birth false) Late 2
removes_vertex g bs n (z, w) = (contains_rest 2 1 bs (λ e. omega (arith, e)) z, inr (let a = n.explained.answer in grind (arith, nat_tests)))

shows_vertex : Through (late_birth false) Late 20
shows_vertex g bs n (z, inl w) = (contains_rest 20 1 bs (λ e. omega (arith, e)) z, inl (contains_rest 20 2 bs (λ e. omega (arith, e)) w))
shows_vertex g bs n (z, inr absent) = (contains_rest 20 1 bs (λ e. omega (arith, e)) z, inr absent)

pub overtaken : Tells late_birth two_apart true false
overtaken = record {
  right = (
    2 ∷ 20 ∷ 1 ∷ [],
    short_order (late_birth true) two_apart (2 ∷ 20 ∷ 1 ∷ [])
        (λ b h. elim (one_of_three true b h) [
          | inl q ↦ (2, omega arith, sym q)
          | inr (inl q) ↦ (0, omega arith, sym q)
          | inr (inr q) ↦ (1, omega arith, sym q)
        ])
        (record { began = refl; done = inl refl }, (record { began = refl; done = inl refl }, (record { began = refl; done = inr refl }, tt)))
        (((refl, omega arith, omega arith), ((refl, tt, tt), tt)), (((refl, tt, tt), tt), (tt, tt)))
        (record { answer = refl; page = tt }, (record { answer = refl; page = refl }, (refl, tt))),
  );
  wrong = no_order (late_birth false) Late
      (λ b h. elim (one_of_three false b h) [
        | inl q ↦ through_same (late_birth false) Late b 1 q adds_edge
        | inr (inl q) ↦ through_same (late_birth false) Late b 2 q removes_vertex
        | inr (inr q) ↦ through_same (late_birth false) Late b 20 q shows_vertex
      ])
      (λ g q. contains_none 1 q.0) two_apart
      (λ order o. ((o.members 1).1 (record { began = refl; done = inr refl }), inl ((o.members 2).1 (record { began = refl; done = inl refl }))));
}
