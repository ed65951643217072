-- The worked histories: what they show, and one order, the bounds and the pages of each.
use Rattle.std.proofs.Common.{◌≡◌, ℕ, zero, suc, ◌<◌, Bool, true, cond, List, [], ◌∷◌, ◌++◌, length, drop, Some, None, Option, nat_le, nat_lt, refl, sym, ap, subst, inl, inr, arith}
use Rattle.std.specs.List.{list_all}
use Rattle.std.proofs.lemmas.Bool.{cases_eq, and_parts}
use Rattle.std.proofs.lemmas.Bool.Decides.{nat_tests}
use Rattle.layout.specs.declared.sizes.Sizes.{Sizes}
use Rattle.layout.specs.declared.names.Head.TheVariants as head
use Rattle.places.specs.declared.place.Op.TheVariants.{Contains}
use Rattle.places.specs.declared.place.Call.TheVariants as call
use Rattle.questions.specs.Graph.{Graph, Walk, Walk.here, Walk.on}
use Rattle.order.specs.Graph.{empty, with_vertex, without_vertex, with_edge, Reached}
use Rattle.order.specs.Order.{Explained, OneOrder}
use Rattle.promise.specs.Left.{graph_in}
use Rattle.promise.specs.Sights.{Deed.links, Sight, Sight.begins, Sight.turns, Sight.rests, page_graph}
use Rattle.promise.specs.Calls.{Begun, call_begun, past_of}
use Rattle.walks.specs.Budgets.{sum_below}
use Rattle.promise.specs.Bounds.{turns_had, until_turn, rows_held, turn_limit, KeepsBound}
use Rattle.promise.specs.Promise.{page_after, finished_page, PagesStay, Kept}
use Rattle.promise.specs.Sessions.{two, small, opened_with, session, equal_stamps, lost_link, least, shown_edge, edge_removed, clock_spent}
use Rattle.promise.specs.Expected.{session_sights, session_cells, equal_sights, equal_cells, lost_sights, lost_cells, edge_page, shown_sights, shown_cells, spent_sights, spent_cells, quiet, does}
use Rattle.order.specs.Started.{two_joined}
use Rattle.runs.specs.Worked.{tiny, joined_state}
use Rattle.promise.specs.Histories.{shown_by}
use Rattle.promise.specs.Worked.{Worked, add_edge, hidden_weight}
use Rattle.promise.proofs.Firsts.{only_both}
use Rattle.promise.proofs.Checks.{all_below, passes_below, one_order}
use Rattle.promise.proofs.Seen.{begun_below, call_below}
use Rattle.promise.proofs.Traced.{traces_told}
use Rattle.promise.proofs.Left.{two_alike, beyond, none_from}

abbrev within_limit : Sizes → ℕ → List Sight → ℕ → Option Begun → Bool
within_limit z held ss b None = true
within_limit z held ss b (Some x) = nat_le (turns_had ss b) (turn_limit z held (until_turn ss b) b x.worker x.call)

abbrev bounds_pass : Sizes → ℕ → List Sight → ℕ → Bool
bounds_pass z held ss b = within_limit z held ss b (call_begun ss b)

bounds_hold : (z : Sizes) (held : ℕ) (ss : List Sight) → all_below (bounds_pass z held ss) (length ss) ≡ true → KeepsBound z held ss
bounds_hold z held ss h b x e =
    let p = passes_below (bounds_pass z held ss) (length ss) b h (begun_below ss b x e) in
    let q : within_limit z held ss b (Some x) ≡ true = subst (λ o. within_limit z held ss b o ≡ true) e p in
    grind (arith, nat_tests)

abbrev by_one_of : ℕ → Sight → Bool
by_one_of n (begins v c) = nat_lt v n
by_one_of n (turns v d e) = nat_lt v n
by_one_of n rests = true

-- a finished page is that of a worker that was seen
page_by_one : (n w : ℕ) (before : Option (List ℕ)) (page : List ℕ) → (before ≡ Some page → w < n) → (s : Sight) → by_one_of n s ≡ true → page_after s w before ≡ Some page → w < n
page_by_one n w before page rest (begins v c) l e = elim (cases_eq v w) [ inl q ↦ grind (arith, nat_tests) | inr q ↦ rest (grind (arith, nat_tests)) ]
page_by_one n w before page rest (turns v d (Some x)) l e = elim (cases_eq v w) [ inl q ↦ grind (arith, nat_tests) | inr q ↦ rest (grind (arith, nat_tests)) ]
page_by_one n w before page rest (turns v d None) l e = rest e
page_by_one n w before page rest rests l e = rest e

page_of_one : (n : ℕ) (ss : List Sight) (w : ℕ) (page : List ℕ) → list_all (by_one_of n) ss ≡ true → finished_page ss w ≡ Some page → w < n
page_of_one n [] w page h e = absurd (let f : None ≡ Some page = e in cc)
page_of_one n (s ∷ ss) w page h e =
    let (newest, earlier) = and_parts (by_one_of n s) (list_all (by_one_of n) ss) h in
    page_by_one n w (finished_page ss w) page (page_of_one n ss w page earlier) s newest e

-- the page of the snapshot: key 0 alone, no edges
abbrev zero_alone : Graph
zero_alone = without_vertex (with_vertex (with_vertex empty 0) 1) 1

shows_has : (k : ℕ) → (page_graph 2 (1 ∷ 0 ∷ 0 ∷ 0 ∷ 0 ∷ 0 ∷ [])).has k ≡ zero_alone.has k
shows_has zero = refl
shows_has (suc zero) = refl
shows_has (suc (suc k)) = grind (arith, nat_tests)

shows_edge : (k j : ℕ) → (page_graph 2 (1 ∷ 0 ∷ 0 ∷ 0 ∷ 0 ∷ 0 ∷ [])).edge k j ≡ zero_alone.edge k j
shows_edge zero zero = refl
shows_edge zero (suc zero) = refl
shows_edge (suc zero) zero = refl
shows_edge (suc zero) (suc zero) = refl
shows_edge zero (suc (suc j)) = grind (arith, nat_tests)
shows_edge (suc zero) (suc (suc j)) = grind (arith, nat_tests)
shows_edge (suc (suc k)) j = grind (arith, nat_tests)

snapshot_page : page_graph 2 (1 ∷ 0 ∷ 0 ∷ 0 ∷ 0 ∷ 0 ∷ []) ≡ zero_alone
snapshot_page = λ i. record { has = λ k. shows_has k i; edge = λ k j. shows_edge k j i }

session_pages : PagesStay two session_sights session_cells
session_pages zero page e = absurd (let f : None ≡ Some page = e in cc)
session_pages (suc zero) page e = (let f : Some (1 ∷ 0 ∷ 0 ∷ 0 ∷ 0 ∷ 0 ∷ []) ≡ Some page = e in let g : 1 ∷ 0 ∷ 0 ∷ 0 ∷ 0 ∷ 0 ∷ [] ≡ page = cc in g)
session_pages (suc (suc w)) page e = absurd (omega (arith, page_of_one 2 session_sights (suc (suc w)) page refl e))

session_left : zero_alone ≡ graph_in two session_cells
session_left = two_alike (zero_alone) two session_cells refl (record {
  zero = refl;
  one = refl;
  more = λ k. grind (arith, nat_tests);
  zero_zero = refl;
  zero_one = refl;
  one_zero = refl;
  one_one = refl;
  from_more = λ k j. grind (arith, nat_tests);
  to_more = λ k j. grind (arith, nat_tests);
})

session_kept : Kept two 0 empty session_sights session_cells
session_kept = record {
  order = (
    0 ∷ 7 ∷ 25 ∷ 14 ∷ 34 ∷ [],
    one_order (past_of two session_sights session_cells) empty (0 ∷ 7 ∷ 25 ∷ 14 ∷ 34 ∷ []) 49 (call_below session_sights) (record {
      members = refl;
      once = refl;
      precedence = refl;
      stamps = refl;
      explains = (
        record { answer = refl; page = tt },
        (record { answer = refl; page = tt }, (record { answer = refl; page = tt }, (record { answer = refl; page = tt }, (record { answer = refl; page = snapshot_page }, tt)))),
      );
    }),
    session_left,
  );
  bounds = bounds_hold two 0 session_sights refl;
  pages = session_pages;
}

no_page : {P : Type 0} (page : List ℕ) → None ≡ Some page → P
no_page page e = absurd (let f : None ≡ Some page = e in cc)

overtaken_pages : PagesStay two (drop 1 session_sights) session_cells
overtaken_pages zero page e = no_page page e
overtaken_pages (suc zero) page e = (let f : Some (1 ∷ 0 ∷ 0 ∷ 0 ∷ 0 ∷ 0 ∷ []) ≡ Some page = e in let g : 1 ∷ 0 ∷ 0 ∷ 0 ∷ 0 ∷ 0 ∷ [] ≡ page = cc in g)
overtaken_pages (suc (suc w)) page e = absurd (omega (arith, page_of_one 2 (drop 1 session_sights) (suc (suc w)) page refl e))

-- before its last turn the add is not finished, and its change does not count, since the vertex has a lower end
overtaken_kept : Kept two 0 empty (drop 1 session_sights) session_cells
overtaken_kept = record {
  order = (
    0 ∷ 7 ∷ 25 ∷ 14 ∷ 34 ∷ [],
    one_order (past_of two (drop 1 session_sights) session_cells) empty (0 ∷ 7 ∷ 25 ∷ 14 ∷ 34 ∷ []) 48 (call_below (drop 1 session_sights)) (record {
      members = refl;
      once = refl;
      precedence = refl;
      stamps = refl;
      explains = (
        record { answer = refl; page = tt },
        (record { answer = refl; page = tt }, (record { answer = refl; page = tt }, (refl, (record { answer = refl; page = snapshot_page }, tt)))),
      );
    }),
    session_left,
  );
  bounds = bounds_hold two 0 (drop 1 session_sights) refl;
  pages = overtaken_pages;
}

equal_pages : PagesStay two equal_sights equal_cells
equal_pages zero page e = no_page page e
equal_pages (suc zero) page e = no_page page e
equal_pages (suc (suc w)) page e = absurd (omega (arith, page_of_one 2 equal_sights (suc (suc w)) page refl e))

-- the edge is in, and goes with its vertex
abbrev edge_gone : Graph
edge_gone = without_vertex (with_edge (with_vertex (with_vertex empty 0) 1) 0 1 (Some 5)) 1

equal_left : edge_gone ≡ graph_in two equal_cells
equal_left = two_alike (edge_gone) two equal_cells refl (record {
  zero = refl;
  one = refl;
  more = λ k. grind (arith, nat_tests);
  zero_zero = refl;
  zero_one = refl;
  one_zero = refl;
  one_one = refl;
  from_more = λ k j. grind (arith, nat_tests);
  to_more = λ k j. grind (arith, nat_tests);
})

equal_kept : Kept two 0 empty equal_sights equal_cells
equal_kept = record {
  order = (
    0 ∷ 7 ∷ 14 ∷ 25 ∷ [],
    one_order (past_of two equal_sights equal_cells) empty (0 ∷ 7 ∷ 14 ∷ 25 ∷ []) 41 (call_below equal_sights) (record {
      members = refl;
      once = refl;
      precedence = refl;
      stamps = refl;
      explains = (
        record { answer = refl; page = tt },
        (record { answer = refl; page = tt }, (record { answer = refl; page = tt }, (record { answer = refl; page = tt }, tt))),
      );
    }),
    equal_left,
  );
  bounds = bounds_hold two 0 equal_sights refl;
  pages = equal_pages;
}

counted_pages : PagesStay two (drop 1 equal_sights) equal_cells
counted_pages zero page e = no_page page e
counted_pages (suc zero) page e = no_page page e
counted_pages (suc (suc w)) page e = absurd (omega (arith, page_of_one 2 (drop 1 equal_sights) (suc (suc w)) page refl e))

-- before its last turn the add is not finished, and its change counts
counted_kept : Kept two 0 empty (drop 1 equal_sights) equal_cells
counted_kept = record {
  order = (
    0 ∷ 7 ∷ 14 ∷ 25 ∷ [],
    one_order (past_of two (drop 1 equal_sights) equal_cells) empty (0 ∷ 7 ∷ 14 ∷ 25 ∷ []) 40 (call_below (drop 1 equal_sights)) (record {
      members = refl;
      once = refl;
      precedence = refl;
      stamps = refl;
      explains = (record { answer = refl; page = tt }, (record { answer = refl; page = tt }, (refl, (record { answer = refl; page = tt }, tt))));
    }),
    equal_left,
  );
  bounds = bounds_hold two 0 (drop 1 equal_sights) refl;
  pages = counted_pages;
}

lost_pages : PagesStay small lost_sights lost_cells
lost_pages zero page e = no_page page e
lost_pages (suc zero) page e = no_page page e
lost_pages (suc (suc w)) page e = absurd (omega (arith, page_of_one 2 lost_sights (suc (suc w)) page refl e))

abbrev other_edge : Graph
other_edge = with_edge (with_vertex (with_vertex empty 0) 1) 0 1 (Some 7)

lost_left : other_edge ≡ graph_in small lost_cells
lost_left = two_alike (other_edge) small lost_cells refl (record {
  zero = refl;
  one = refl;
  more = λ k. grind (arith, nat_tests);
  zero_zero = refl;
  zero_one = refl;
  one_zero = refl;
  one_one = refl;
  from_more = λ k j. grind (arith, nat_tests);
  to_more = λ k j. grind (arith, nat_tests);
})

-- the add that won is not finished, and its change counts
lost_kept : Kept small 0 empty lost_sights lost_cells
lost_kept = record {
  order = (
    0 ∷ 7 ∷ 15 ∷ 14 ∷ [],
    one_order (past_of small lost_sights lost_cells) empty (0 ∷ 7 ∷ 15 ∷ 14 ∷ []) 53 (call_below lost_sights) (record {
      members = refl;
      once = refl;
      precedence = refl;
      stamps = refl;
      explains = (
        record { answer = refl; page = tt },
        (record { answer = refl; page = tt }, (refl, (record { answer = refl; page = tt }, tt))),
      );
    }),
    lost_left,
  );
  bounds = bounds_hold small 0 lost_sights refl;
  pages = lost_pages;
}

-- the page of the snapshot and of the reach: both keys, and the edge from 0 to 1
abbrev one_edge : Graph
one_edge = with_edge (with_vertex (with_vertex empty 0) 1) 0 1 (Some 5)

edge_has : (k : ℕ) → (page_graph 2 edge_page).has k ≡ one_edge.has k
edge_has zero = refl
edge_has (suc zero) = refl
edge_has (suc (suc k)) = grind (arith, nat_tests)

edge_edge : (k j : ℕ) → (page_graph 2 edge_page).edge k j ≡ one_edge.edge k j
edge_edge zero zero = refl
edge_edge zero (suc zero) = refl
edge_edge (suc zero) zero = refl
edge_edge (suc zero) (suc zero) = refl
edge_edge zero (suc (suc j)) = grind (arith, nat_tests)
edge_edge (suc zero) (suc (suc j)) = grind (arith, nat_tests)
edge_edge (suc (suc k)) j = grind (arith, nat_tests)

edge_snapshot : page_graph 2 edge_page ≡ one_edge
edge_snapshot = λ i. record { has = λ k. edge_has k i; edge = λ k j. edge_edge k j i }

-- walks from 0 come to 0 and 1
walk_to : (k : ℕ) → one_edge.has k ≡ true → Walk one_edge 0 k
walk_to zero e = here
walk_to (suc zero) e = on 5 here refl
walk_to (suc (suc k)) e = absurd (grind (arith, nat_tests))

edge_ends : (k j w : ℕ) → one_edge.edge k j ≡ Some w → one_edge.has j ≡ true
edge_ends k j w e = let (p, q, x) = only_both k 0 j 1 5 w e in rw q refl

walk_from : (k : ℕ) → Walk one_edge 0 k → one_edge.has k ≡ true
walk_from k here = refl
walk_from k (on w s e) = edge_ends _ k w e

edge_leaving : (k j : ℕ) → one_edge.edge k j ≡ cond (one_edge.has k) (one_edge.edge k j) None
edge_leaving zero j = refl
edge_leaving (suc zero) j = refl
edge_leaving (suc (suc k)) j = grind (arith, nat_tests)

edge_reached : Reached one_edge 0 one_edge
edge_reached = record { keys = λ k. (walk_to k, walk_from k); leaving = edge_leaving }

edge_reach : Reached one_edge 0 (page_graph 2 edge_page)
edge_reach = subst (Reached one_edge 0) (sym edge_snapshot) edge_reached

edge_pages : PagesStay small shown_sights shown_cells
edge_pages zero page e = no_page page e
edge_pages (suc zero) page e = (let f : Some edge_page ≡ Some page = e in let g : edge_page ≡ page = cc in g)
edge_pages (suc (suc w)) page e = absurd (omega (arith, page_of_one 2 shown_sights (suc (suc w)) page refl e))

edge_left : one_edge ≡ graph_in small shown_cells
edge_left = two_alike (one_edge) small shown_cells refl (record {
  zero = refl;
  one = refl;
  more = λ k. grind (arith, nat_tests);
  zero_zero = refl;
  zero_one = refl;
  one_zero = refl;
  one_one = refl;
  from_more = λ k j. grind (arith, nat_tests);
  to_more = λ k j. grind (arith, nat_tests);
})

edge_kept : Kept small 0 empty shown_sights shown_cells
edge_kept = record {
  order = (
    0 ∷ 7 ∷ 14 ∷ 34 ∷ 46 ∷ [],
    one_order (past_of small shown_sights shown_cells) empty (0 ∷ 7 ∷ 14 ∷ 34 ∷ 46 ∷ []) 58 (call_below shown_sights) (record {
      members = refl;
      once = refl;
      precedence = refl;
      stamps = refl;
      explains = (
        record { answer = refl; page = tt },
        (record { answer = refl; page = tt }, (record { answer = refl; page = tt }, (record { answer = refl; page = edge_snapshot }, (record { answer = refl; page = λ h. edge_reach }, tt)))),
      );
    }),
    edge_left,
  );
  bounds = bounds_hold small 0 shown_sights refl;
  pages = edge_pages;
}

spent_pages : PagesStay least spent_sights spent_cells
spent_pages zero page e = no_page page e
spent_pages (suc w) page e = absurd (omega (arith, page_of_one 1 spent_sights (suc w) page refl e))

spent_has : (k : ℕ) → empty.has k ≡ (graph_in least spent_cells).has k
spent_has zero = refl
spent_has (suc k) = sym (beyond least spent_cells (suc k) (grind (arith, nat_tests)))

spent_left : empty ≡ graph_in least spent_cells
spent_left = λ i. record { has = λ k. spent_has k i; edge = λ k j. sym (none_from least spent_cells k j (sym (spent_has k))) i }

spent_kept : Kept least 0 empty spent_sights spent_cells
spent_kept = record {
  order = (
    0 ∷ [],
    one_order (past_of least spent_sights spent_cells) empty (0 ∷ []) 2 (call_below spent_sights) (record {
      members = refl;
      once = refl;
      precedence = refl;
      stamps = refl;
      explains = (record { answer = refl; page = tt }, tt);
    }),
    spent_left,
  );
  bounds = bounds_hold least 0 spent_sights refl;
  pages = spent_pages;
}

-- from a start with an edge
abbrev start_sights : List Sight
start_sights = (shown_by joined_state edge_removed).sights

abbrev start_cells : List ℕ
start_cells = (shown_by joined_state edge_removed).state.cells

start_left : with_edge two_joined 0 1 None ≡ graph_in tiny start_cells
start_left = two_alike (with_edge two_joined 0 1 None) tiny start_cells refl (record {
  zero = refl;
  one = refl;
  more = λ k. grind (arith, nat_tests);
  zero_zero = refl;
  zero_one = refl;
  one_zero = refl;
  one_one = refl;
  from_more = λ k j. grind (arith, nat_tests);
  to_more = λ k j. grind (arith, nat_tests);
})

start_pages : PagesStay tiny start_sights start_cells
start_pages zero page e = no_page page e
start_pages (suc w) page e = absurd (omega (arith, page_of_one 1 start_sights (suc w) page refl e))

start_kept : Kept tiny 3 two_joined start_sights start_cells
start_kept = record {
  order = (
    0 ∷ [],
    one_order (past_of tiny start_sights start_cells) two_joined (0 ∷ []) 18 (call_below start_sights) (record {
      members = refl;
      once = refl;
      precedence = refl;
      stamps = refl;
      explains = (record { answer = refl; page = tt }, tt);
    }),
    start_left,
  );
  bounds = bounds_hold tiny 3 start_sights refl;
  pages = start_pages;
}

-- the graph has no such edge
hidden : (order : List ℕ) → ¬ (OneOrder hidden_weight empty order)
hidden [] o = let c = (o.members 0).1 (record { began = refl; done = inl refl }) in omega (arith, c.1)
hidden (b ∷ bs) o = elim (cases_eq b 0) [
  | inl q ↦ (
      let e = o.explains 0 (record { call = b; before = empty }) (omega arith) in
      let known : Explained hidden_weight (record { call = 0; before = empty }) = subst (λ x. Explained hidden_weight (record { call = x; before = empty })) q e in
      absurd (let f = ap (λ (g : Graph). g.edge 0 1) known.page in cc))
  | inr q ↦ absurd (let m = (o.members b).0 (0, omega arith, refl) in let x = m.began in grind (arith, nat_tests))
]

pub worked : Worked
unfolding rows_held sum_below
worked = record {
  session_shows = record { traces = traces_told (opened_with two) session refl; seen = refl; left = refl };
  session_lines = refl;
  session_promised = session_kept;
  overtaken_line = refl;
  overtaken_promised = overtaken_kept;
  prelude_line = refl;
  equal_shows = record { traces = traces_told (opened_with two) equal_stamps refl; seen = refl; left = refl };
  equal_lines = refl;
  equal_promised = equal_kept;
  counted_line = refl;
  counted_promised = counted_kept;
  lost_shows = record { traces = traces_told (opened_with small) lost_link refl; seen = refl; left = refl };
  lost_lines = refl;
  lost_links = refl;
  lost_promised = lost_kept;
  linked_lines = refl;
  linked_links = refl;
  edge_shows = record { traces = traces_told (opened_with small) shown_edge refl; seen = refl; left = refl };
  edge_lines = refl;
  edge_rows = refl;
  edge_promised = edge_kept;
  spent_shows = record { traces = traces_told (opened_with least) clock_spent refl; seen = refl; left = refl };
  spent_line = refl;
  spent_promised = spent_kept;
  start_shows = traces_told joined_state edge_removed refl;
  start_line = refl;
  start_rows = refl;
  start_promised = start_kept;
  look_bound = λ h. omega (arith, h 0 (record { worker = 0; call = call.Vertex Contains 0 }) refl);
  add_bound = λ h. omega (arith, h 0 (record { worker = 0; call = add_edge 5 }) refl);
  own_link = λ h. omega (arith, h 0 (record { worker = 0; call = add_edge 5 }) refl);
  far_link = λ h. omega (arith, h 0 (record { worker = 0; call = add_edge 5 }) refl);
  late_link = λ h. omega (arith, h 0 (record { worker = 0; call = add_edge 5 }) refl);
  early_link = λ h. omega (arith, h 1 (record { worker = 0; call = add_edge 5 }) refl);
  other_link = bounds_hold two 0 (quiet 0 53 ++ (does 1 (links (head.Edge 0 1) 5) ∷ (begins 0 (add_edge 5) ∷ []))) refl;
  page_moved = λ h. (let e = h 1 edge_page refl in absurd cc);
  hidden_refused = hidden;
}
