-- Every clean start gives what a run owes at its first moment.
use Rattle.std.proofs.Common.{◌≡◌, ℕ, ◌+◌, ◌<◌, ◌≤◌, true, ◌⊎◌, inl, inr, arith}
use Rattle.std.proofs.lemmas.Bool.{cases_Bool}
use Rattle.std.proofs.lemmas.Bool.Decides.{nat_tests}
use Rattle.questions.specs.Graph.{Graph}
use Rattle.order.specs.Marks.{Old, Marks, MarksSound}
use Rattle.order.specs.Raises.{AllSettled}
use Rattle.order.specs.Marked.{Marking, before_start, Marked}
use Rattle.order.specs.Ends.{ShowsOld}
use Rattle.order.specs.Clean.{Start, CleanStart, ShowsStart, no_calls, started_run, CleanStarts}

module _ (first : ℕ) (high : 0 < first) (s : Start) (clean : CleanStart s) where
  abbrev run : Marking
  run = started_run first s

  abbrev m : Marks
  m = run.marks

  -- a row has a stamp exactly if it is there, and is from before the start then
  vertex_there : (v : ℕ) → (m.vertex_ins v).stamp ≤ first → s.vertex_there v ≡ true
  vertex_there v h = elim (cases_Bool (s.vertex_there v)) [ inl q ↦ q | inr q ↦ absurd (grind arith) ]

  edge_there : (e : ℕ) → (m.edge_ins e).stamp ≤ first → s.edge_there e ≡ true
  edge_there e h = elim (cases_Bool (s.edge_there e)) [ inl q ↦ q | inr q ↦ absurd (grind arith) ]

  old_vertices : (v : ℕ) → s.vertex_there v ≡ true → Old run.clock (m.vertex_ins v)
  old_vertices v h = (grind arith, grind arith)

  old_edges : (e : ℕ) → s.edge_there e ≡ true → Old run.clock (m.edge_ins e)
  old_edges e h = (grind arith, grind arith)

  vertices_apart : (r t : ℕ) → s.key_of r ≡ s.key_of t → ¬ (r ≡ t) →
      ((m.vertex_del r).stamp < (m.vertex_ins t).stamp) ⊎ ((m.vertex_del t).stamp < (m.vertex_ins r).stamp)
  vertices_apart r t q n = elim (cases_Bool (s.vertex_there t)) [
    | inr b ↦ inl (grind arith)
    | inl b ↦ elim (cases_Bool (s.vertex_there r)) [ inr a ↦ inr (grind arith) | inl a ↦ absurd (n (clean.one_vertex r t a b q)) ]
  ]

  edges_apart : (e f : ℕ) → s.source e ≡ s.source f → s.target e ≡ s.target f → ¬ (e ≡ f) →
      ((m.edge_del e).stamp < (m.edge_ins f).stamp) ⊎ ((m.edge_del f).stamp < (m.edge_ins e).stamp)
  edges_apart e f p q n = elim (cases_Bool (s.edge_there f)) [
    | inr b ↦ inl (grind arith)
    | inl b ↦ elim (cases_Bool (s.edge_there e)) [ inr a ↦ inr (grind arith) | inl a ↦ absurd (n (clean.one_edge e f a b p q)) ]
  ]

  vertex_small : (v : ℕ) → ((m.vertex_ins v).time ≡ 0) × ((m.vertex_ins v).stamp ≤ first + 2)
  vertex_small v = elim (cases_Bool (s.vertex_there v)) [ inl q ↦ (grind arith, grind arith) | inr q ↦ (grind arith, grind arith) ]

  edge_time : (e : ℕ) → (m.edge_ins e).time ≡ 0
  edge_time e = elim (cases_Bool (s.edge_there e)) [ inl q ↦ grind arith | inr q ↦ grind arith ]

  -- a vertex row that is there was born with the stamp 0
  born_first : (v : ℕ) → s.vertex_there v ≡ true → (m.vertex_ins v).stamp ≡ 0
  born_first v h = grind arith

  edge_born : (e : ℕ) → s.edge_there e ≡ true → (m.edge_ins e).stamp ≡ first
  edge_born e h = grind arith

  sound : MarksSound 1 first m
  sound = record {
    vertex_ins = λ r. omega (arith, vertex_small r);
    vertex_del = λ r. omega arith;
    edge_ins = λ e. omega (arith, edge_time e);
    edge_del = λ e. omega arith;
    births = λ r. omega (arith, vertex_small r);
    vertex_order = λ r h. inl (omega (arith, h));
    edge_order = λ e h. inl (omega (arith, h));
    vertex_apart = λ r t q n. elim (vertices_apart r t q n) [ inl h ↦ inl (inl h) | inr h ↦ inr (inl h) ];
    edge_apart = λ e f p q n. elim (edges_apart e f p q n) [ inl h ↦ inl (inl h) | inr h ↦ inr (inl h) ];
    source_row = λ e h. (clean.source e (edge_there e h)).0;
    target_row = λ e h. (clean.target e (edge_there e h)).0;
    source_first = λ e h. inl (omega (arith, high, born_first (s.source e) (clean.source e (edge_there e h)).1, edge_born e (edge_there e h)));
    target_first = λ e h. inl (omega (arith, high, born_first (s.target e) (clean.target e (edge_there e h)).1, edge_born e (edge_there e h)));
    source_meets = λ e h. inl (omega (arith, born_first (s.source e) (clean.source e (edge_there e h)).1));
    target_meets = λ e h. inl (omega (arith, born_first (s.target e) (clean.target e (edge_there e h)).1));
    ins_distinct = λ e r h q. absurd (omega (arith, h, q));
    del_distinct = λ e r h q. absurd (omega (arith, h));
  }

  marked : Marked no_calls run
  marked = record {
    rises = λ i j h. omega arith;
    start_stamp = omega arith;
    some_time = omega arith;
    keyed = λ b h. absurd (let x = h.began in grind arith);
    calls = λ b k e. absurd (grind arith);
    apart = λ b c k l e f t q. absurd (grind arith);
    sound = sound;
    vertex_births = λ v h. before_start (old_vertices v (vertex_there v h));
    vertex_endings = λ v h. absurd (omega (arith, h));
    edge_births = λ e h. before_start (old_edges e (edge_there e (grind (arith, nat_tests))));
    edge_endings = λ e h. absurd (grind (arith, nat_tests));
  }

  settled : (r : ℕ) → 0 < r → AllSettled run.clock r first m
  settled r h = record {
    vertex_ins = λ v x. (inl (old_vertices v (vertex_there v x)), λ q. omega (arith, h, q, vertex_small v));
    vertex_del = λ v x. absurd (omega (arith, x));
    edge_ins = λ e x. (inl (old_edges e (edge_there e x)), λ q. omega (arith, h, q, edge_time e));
    edge_del = λ e x. absurd (omega (arith, x));
  }

  shows : (g : Graph) → ShowsStart s g → ShowsOld run g
  shows g start = record {
    vertices = λ i. (let (to, from) = start.vertices i in (
      λ h. (let (v, l, there, q) = to h in (v, l, old_vertices v there, q)),
      λ (v, l, old, q). from (v, l, vertex_there v old.1, q),
    ));
    edges = λ i j x. (let (to, from) = start.edges i j x in (
      λ h. (let (e, l, there, a, b, c) = to h in (e, l, old_edges e there, record { from = a; to = b; weight = c })),
      λ (e, l, old, o). from (e, l, edge_there e old.1, o.from, o.to, o.weight),
    ));
  }

pub clean_starts : CleanStarts
clean_starts first high s clean g start = record {
  marked = marked first high s clean;
  shows = shows first high s clean g start;
  none_ended = record { vertices = λ v h. omega (arith, h); edges = λ e h. omega (arith, h) };
  settled = settled first high s clean;
}
