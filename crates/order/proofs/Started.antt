-- The worked case of a run that starts with two vertices and an edge: its order, its marks and its keys.
use Rattle.std.proofs.Common.{◌≡◌, ℕ, suc, [], ◌∷◌, Some, None, ◌⊎◌, refl, sym, ap, subst, subst₂, inl, inr, arith}
use Rattle.std.proofs.lemmas.Bool.{cases_eq}
use Rattle.std.proofs.lemmas.Bool.Decides.{nat_tests}
use Rattle.codes.specs.declared.answer.Answer.TheVariants.{EdgeRemoved, SnapshotTaken}
use Rattle.order.specs.Graph.{with_edge}
use Rattle.order.specs.Past.{Belongs}
use Rattle.order.specs.Order.{left_by, OneOrder}
use Rattle.order.specs.Keys.{Key}
use Rattle.order.specs.Marks.{MarksSound, moved_for, moved_part, edge_key}
use Rattle.order.specs.Raises.{Raise, AllSettled, ShowsVisible, RaiseMeets}
use Rattle.order.specs.Finds.{removes_edge, takes_snapshot}
use Rattle.order.specs.Marked.{CallMarked, before_start, by_call, Marked}
use Rattle.order.specs.Ends.{ShowsOld, NoneEnded}
use Rattle.order.specs.Started.{two_joined, started, old_rows, snapshot_key, remove_key, run}
use Rattle.order.proofs.Raises.{raise_meets}
use Rattle.order.proofs.Short.{short_order}

one_of_two : (b : ℕ) → Belongs started b → (b ≡ 1) ⊎ (b ≡ 13)
one_of_two b h = elim (cases_eq b 1) [
  | inl q ↦ inl q
  | inr q ↦ elim (cases_eq b 13) [ inl p ↦ inr p | inr p ↦ absurd (let x = h.began in grind (arith, nat_tests)) ]
]

belongs_snapshot : Belongs started 1
belongs_snapshot = record { began = refl; done = inl refl }

belongs_remove : Belongs started 13
belongs_remove = record { began = refl; done = inl refl }

pub order : OneOrder started two_joined (1 ∷ 13 ∷ [])
order = short_order started two_joined (1 ∷ 13 ∷ [])
    (λ b h. elim (one_of_two b h) [ inl q ↦ (0, omega arith, sym q) | inr q ↦ (1, omega arith, sym q) ])
    (belongs_snapshot, (belongs_remove, tt))
    (((refl, omega arith, omega arith), tt), (tt, tt))
    (record { answer = refl; page = refl }, (record { answer = refl; page = tt }, tt))

pub leaves : left_by started two_joined (1 ∷ 13 ∷ []) ≡ with_edge two_joined 0 1 None
leaves = refl

pub shows : ShowsOld run two_joined
shows = record {
  vertices = λ i. (
    λ h. (i, grind (arith, nat_tests), (grind (arith, nat_tests), grind (arith, nat_tests)), refl),
    λ (v, l, old, q). grind (arith, nat_tests),
  );
  edges = λ i j x. (
    λ h. elim (cases_eq i 0) [
      | inl q ↦ elim (cases_eq j 1) [
        | inl p ↦ (0, omega arith, (refl, omega arith), record { from = sym q; to = sym p; weight = grind (arith, nat_tests) })
        | inr p ↦ absurd (grind (arith, nat_tests))
      ]
      | inr q ↦ absurd (grind (arith, nat_tests))
    ],
    λ (e, l, old, o). (let a = o.from in let b = o.to in let c = o.weight in grind (arith, nat_tests)),
  );
}

pub none_ended : NoneEnded run
none_ended = record { vertices = λ v h. omega (arith, h); edges = λ e h. grind (arith, nat_tests) }

sound : MarksSound 30 8 old_rows
sound = record {
  vertex_ins = λ r. grind (arith, nat_tests);
  vertex_del = λ r. omega arith;
  edge_ins = λ e. grind (arith, nat_tests);
  edge_del = λ e. grind (arith, nat_tests);
  births = λ r. grind (arith, nat_tests);
  vertex_order = λ r h. inl (grind (arith, nat_tests));
  edge_order = λ e h. inl (grind (arith, nat_tests));
  vertex_apart = λ r s q n. absurd (n q);
  edge_apart = λ e f p q n. elim (cases_eq f 0) [ inl z ↦ inr (inl (grind (arith, nat_tests))) | inr z ↦ inl (inl (grind (arith, nat_tests))) ];
  source_row = λ e h. omega arith;
  target_row = λ e h. omega arith;
  source_first = λ e h. inl (grind (arith, nat_tests));
  target_first = λ e h. inl (grind (arith, nat_tests));
  source_meets = λ e h. inl (omega arith);
  target_meets = λ e h. inl (omega arith);
  ins_distinct = λ e r h q. absurd (omega arith);
  del_distinct = λ e r h q. absurd (omega arith);
}

pub raised : Raise run.clock 2 7
raised = record { rises = λ i j h. grind (arith, nat_tests); from = refl; next = refl }

pub settled : AllSettled run.clock 2 run.top run.marks
settled = record {
  vertex_ins = λ v h. (inl (grind (arith, nat_tests), grind (arith, nat_tests)), grind (arith, nat_tests));
  vertex_del = λ v h. absurd (omega arith);
  edge_ins = λ e h. (inl (grind (arith, nat_tests), grind (arith, nat_tests)), grind (arith, nat_tests));
  edge_del = λ e h. (inr (grind (arith, nat_tests)), grind (arith, nat_tests));
}

-- the graph that the snapshot meets
visible : ShowsVisible old_rows 7 two_joined
visible = record {
  vertices = λ i. (
    λ h. (i, record { row = grind (arith, nat_tests); born = grind (arith, nat_tests); ends = omega arith }, refl),
    λ (v, h, q). (let l = h.row in grind (arith, nat_tests)),
  );
  edges = λ i j x. (
    λ h. (let (e, l, old, o) = (shows.edges i j x).0 h in (
      e,
      record {
        row = l;
        born = old.1;
        ends = grind (arith, nat_tests);
        source = record { row = omega arith; born = omega arith; ends = omega arith };
        target = record { row = omega arith; born = omega arith; ends = omega arith };
      },
      o,
    )),
    λ (e, h, o). (let a = o.from in let b = o.to in let c = o.weight in grind (arith, nat_tests)),
  );
}

meets : RaiseMeets 30 8 old_rows snapshot_key 7
meets = raise_meets run.clock 30 8 old_rows sound 2 7 (omega arith) (omega arith) raised settled

remove_stands : remove_key ≡ edge_key 30 old_rows 0 (old_rows.edge_del 0)
unfolding moved_for moved_part
remove_stands = refl

-- what holds of the snapshot at its key, and of the remove at its key, holds of each call at its key
each_key : (P : ℕ → Key → Type 0) → P 1 snapshot_key → P 13 remove_key → (b : ℕ) (k : Key) → run.key b ≡ Some k → P b k
each_key P p q b k e = elim (cases_eq b 1) [
  | inl x ↦ (let f : Some snapshot_key ≡ Some k = grind (arith, nat_tests) in let g : snapshot_key ≡ k = cc in subst₂ P (sym x) g p)
  | inr x ↦ elim (cases_eq b 13) [
    | inl y ↦ (let f : Some remove_key ≡ Some k = grind (arith, nat_tests) in let g : remove_key ≡ k = cc in subst₂ P (sym y) g q)
    | inr y ↦ absurd (grind (arith, nat_tests))
  ]
]

times : (b : ℕ) (k : Key) → run.key b ≡ Some k → ((b ≡ 1) × (k.time ≡ 2)) ⊎ ((b ≡ 13) × (k.time ≡ 20))
times = each_key (λ b k. ((b ≡ 1) × (k.time ≡ 2)) ⊎ ((b ≡ 13) × (k.time ≡ 20))) (inl (refl, refl)) (inr (refl, refl))

snapshot_marked : CallMarked started run 1 snapshot_key
snapshot_marked = record {
  belongs = belongs_snapshot;
  early = omega arith;
  bounded = omega arith;
  time = omega arith;
  low = omega arith;
  high = omega arith;
  fits = record { time = omega arith; stamp = omega arith; since = inl (omega arith); fair = omega arith };
  stamp = λ e. absurd (grind arith);
  counts = λ e. absurd (grind arith);
  raise = λ t e. (let q : 7 ≡ t = cc in record { stamp = q; part = refl; raised = ap suc q; high = omega arith });
  answer = SnapshotTaken;
  finds = takes_snapshot;
  told = record { answer = refl; page = meets.only two_joined visible };
}

remove_marked : CallMarked started run 13 remove_key
remove_marked = record {
  belongs = belongs_remove;
  early = omega arith;
  bounded = omega arith;
  time = omega arith;
  low = omega arith;
  high = omega arith;
  fits = record { time = omega arith; stamp = omega arith; since = inl (omega arith); fair = omega arith };
  stamp = λ e. refl;
  counts = λ e. absurd (grind arith);
  raise = λ t e. absurd (grind arith);
  answer = EdgeRemoved;
  finds = removes_edge 0 0 (record { row = omega arith; stamped = omega arith; effect = refl; key = remove_stands });
  told = record { answer = refl; page = tt };
}

pub marked : Marked started run
marked = record {
  rises = λ s t h. grind (arith, nat_tests);
  start_stamp = omega arith;
  some_time = omega arith;
  keyed = λ b h. elim (one_of_two b h) [
    | inl q ↦ (snapshot_key, subst (λ b. run.key b ≡ Some snapshot_key) (sym q) refl)
    | inr q ↦ (remove_key, subst (λ b. run.key b ≡ Some remove_key) (sym q) refl)
  ];
  calls = each_key (CallMarked started run) snapshot_marked remove_marked;
  apart = λ b c k l e f t q. omega (arith, times b k e, times c l f);
  sound = sound;
  vertex_births = λ r h. before_start (grind (arith, nat_tests), grind (arith, nat_tests));
  vertex_endings = λ r h. absurd (omega arith);
  edge_births = λ e h. before_start (grind (arith, nat_tests), grind (arith, nat_tests));
  edge_endings = λ e h. (let q : e ≡ 0 = grind (arith, nat_tests) in rw q (by_call 13 (ap Some remove_stands) refl));
}
