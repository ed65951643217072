-- The worked case of two calls: their order, and what a run can give for them.
use Rattle.std.proofs.Common.{◌≡◌, ℕ, true, cond, [], ◌∷◌, Some, None, Option, ◌==◌, ◌⊎◌, refl, sym, subst, subst₂, inl, inr, arith}
use Rattle.std.proofs.lemmas.Bool.{cases_eq}
use Rattle.std.proofs.lemmas.Bool.Decides.{nat_tests}
use Rattle.order.specs.Graph.{empty}
use Rattle.order.specs.Past.{Belongs}
use Rattle.order.specs.Order.{OneOrder}
use Rattle.order.specs.Keys.{Key}
use Rattle.order.specs.Marks.{Marks, MarksSound}
use Rattle.order.specs.Finds.{vertex_born, no_change, VertexThere, adds_vertex, finds_vertex}
use Rattle.codes.specs.declared.answer.Answer.TheVariants.{VertexAdded, VertexPresent}
use Rattle.places.specs.declared.place.Op.TheVariants as op
use Rattle.order.specs.Marked.{Marking, CallMarked, by_call, Marked, Fresh}
use Rattle.order.specs.Worked.{two_calls}
use Rattle.order.proofs.Short.{short_order}

-- a call of the past is one of the two
one_of_two : (b : ℕ) → Belongs two_calls b → (b ≡ 1) ⊎ (b ≡ 7)
one_of_two b h = elim (cases_eq b 1) [
  | inl q ↦ inl q
  | inr q ↦ elim (cases_eq b 7) [ inl p ↦ inr p | inr p ↦ absurd (let x = h.began in grind (arith, nat_tests)) ]
]

belongs_add : Belongs two_calls 1
belongs_add = record { began = refl; done = inl refl }

belongs_contains : Belongs two_calls 7
belongs_contains = record { began = refl; done = inl refl }

pub order : OneOrder two_calls empty (1 ∷ 7 ∷ [])
order = short_order two_calls empty (1 ∷ 7 ∷ [])
    (λ b h. elim (one_of_two b h) [ inl q ↦ (0, omega arith, sym q) | inr q ↦ (1, omega arith, sym q) ])
    (belongs_add, (belongs_contains, tt))
    (((refl, omega arith, tt), tt), (tt, tt))
    (record { answer = refl; page = tt }, (record { answer = refl; page = tt }, tt))

-- one vertex row, of key 0, which became pending at time 3 and has stamp 1
abbrev rows : Marks
rows = record {
  vertices = 1;
  key_of = λ r. r;
  vertex_ins = λ r. cond (r == 0) (record { stamp = 1; time = 3 }) (record { stamp = 11; time = 0 });
  vertex_del = λ r. record { stamp = 10; time = 0 };
  edges = 0;
  source = λ e. 0;
  target = λ e. 0;
  weight = λ e. 0;
  edge_ins = λ e. record { stamp = 11; time = 0 };
  edge_del = λ e. record { stamp = 10; time = 0 };
}

sound : MarksSound 20 9 rows
sound = record {
  vertex_ins = λ r. grind (arith, nat_tests);
  vertex_del = λ r. omega arith;
  edge_ins = λ e. omega arith;
  edge_del = λ e. omega arith;
  births = λ r. grind (arith, nat_tests);
  vertex_order = λ r h. inl (grind (arith, nat_tests));
  edge_order = λ e h. absurd (omega arith);
  vertex_apart = λ r s q n. absurd (n q);
  edge_apart = λ e f p q n. inl (inl (omega arith));
  source_row = λ e h. absurd (omega arith);
  target_row = λ e h. absurd (omega arith);
  source_first = λ e h. absurd (omega arith);
  target_first = λ e h. absurd (omega arith);
  source_meets = λ e h. absurd (omega arith);
  target_meets = λ e h. absurd (omega arith);
  ins_distinct = λ e r h. absurd (omega arith);
  del_distinct = λ e r h. absurd (omega arith);
}

-- the add stands at its change, the contains at the time at which it read del
abbrev add_key : Key
add_key = record { stamp = 1; time = 3; part = 20 }

abbrev contains_key : Key
contains_key = record { stamp = 1; time = 8; part = 0 }

abbrev key : ℕ → Option Key
key b = cond (b == 1) (Some add_key) (cond (b == 7) (Some contains_key) None)

-- what holds of the add at its key, and of the contains at its key, holds of each call at its key
each_key : (P : ℕ → Key → Type 0) → P 1 add_key → P 7 contains_key → (b : ℕ) (k : Key) → key b ≡ Some k → P b k
each_key P p q b k e = elim (cases_eq b 1) [
  | inl x ↦ (let f : Some add_key ≡ Some k = grind (arith, nat_tests) in let g : add_key ≡ k = cc in subst₂ P (sym x) g p)
  | inr x ↦ elim (cases_eq b 7) [
    | inl y ↦ (let f : Some contains_key ≡ Some k = grind (arith, nat_tests) in let g : contains_key ≡ k = cc in subst₂ P (sym y) g q)
    | inr y ↦ absurd (grind (arith, nat_tests))
  ]
]

times : (b : ℕ) (k : Key) → key b ≡ Some k → ((b ≡ 1) × (k.time ≡ 3)) ⊎ ((b ≡ 7) × (k.time ≡ 8))
times = each_key (λ b k. ((b ≡ 1) × (k.time ≡ 3)) ⊎ ((b ≡ 7) × (k.time ≡ 8))) (inl (refl, refl)) (inr (refl, refl))

row_there : VertexThere 20 rows contains_key 0
row_there = record { row = omega arith; born = inl (inr (refl, omega arith)); ends = inl (omega arith) }

abbrev pub run : Marking
run = record {
  now = 10;
  clock = λ t. 1;
  bound = 20;
  top = 9;
  marks = rows;
  key = key;
  change = λ b. cond (b == 1) (vertex_born 0) no_change;
}

add_marked : CallMarked two_calls run 1 add_key
add_marked = record {
  belongs = belongs_add;
  early = omega arith;
  bounded = omega arith;
  time = omega arith;
  low = omega arith;
  high = omega arith;
  fits = record { time = omega arith; stamp = omega arith; since = inl (omega arith); fair = omega arith };
  stamp = λ e. refl;
  counts = λ e. absurd (grind arith);
  raise = λ t e. absurd (grind arith);
  answer = VertexAdded;
  finds = adds_vertex 0 (record { row = omega arith; stamped = omega arith; key = refl });
  told = record { answer = refl; page = tt };
}

contains_marked : CallMarked two_calls run 7 contains_key
contains_marked = record {
  belongs = belongs_contains;
  early = omega arith;
  bounded = omega arith;
  time = omega arith;
  low = omega arith;
  high = omega arith;
  fits = record { time = omega arith; stamp = omega arith; since = inl (omega arith); fair = omega arith };
  stamp = λ e. absurd (grind arith);
  counts = λ e. absurd (grind arith);
  raise = λ t e. absurd (grind arith);
  answer = VertexPresent;
  finds = finds_vertex op.Contains 0 true (0, row_there, refl) refl;
  told = record { answer = refl; page = tt };
}

pub marked : Marked two_calls run
marked = record {
  rises = λ s t h. omega arith;
  start_stamp = omega arith;
  some_time = omega arith;
  keyed = λ b h. elim (one_of_two b h) [
    | inl q ↦ (add_key, subst (λ b. key b ≡ Some add_key) (sym q) refl)
    | inr q ↦ (contains_key, subst (λ b. key b ≡ Some contains_key) (sym q) refl)
  ];
  calls = each_key (CallMarked two_calls run) add_marked contains_marked;
  apart = λ b c k l e f t q. omega (arith, times b k e, times c l f);
  sound = sound;
  vertex_births = λ r h. (let q : r ≡ 0 = grind (arith, nat_tests) in rw q (by_call 1 refl refl));
  vertex_endings = λ r h. absurd (omega arith);
  edge_births = λ e h. absurd (grind arith);
  edge_endings = λ e h. absurd (grind arith);
}

pub fresh : Fresh run
fresh = record { vertices = λ r h. grind (arith, nat_tests); edges = λ e h. omega arith }
