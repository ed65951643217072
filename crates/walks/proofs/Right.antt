-- The answers of a snapshot or reach are right of the graph at the number of its raise.
use Rattle.std.proofs.Common.{◌≡◌, ℕ, suc, ◌+◌, ◌*◌, ◌<◌, ◌≤◌, Bool, true, false, cond, not, ◌&&◌, eqb, ltb, Option, Some, None, refl, sym, ◌∙◌, subst₂, ◌⊎◌, inl, inr, arith, mul_comm}
use Rattle.std.proofs.lemmas.Nat.{mul-add-lt, div-mul-add, mod-mul-add}
use Rattle.std.proofs.lemmas.Bool.{lt-ltb, cases_lt, cases_Bool}
use Rattle.std.proofs.lemmas.Bool.Decides.{nat_tests}
use Rattle.codes.specs.declared.answer.Answer.{Answer}
use Rattle.layout.specs.Rows.{no_row}
use Rattle.layout.specs.declared.names.Head.TheVariants as head
use Rattle.places.specs.declared.place.Survey.{Survey}
use Rattle.places.specs.declared.place.Survey.TheVariants.{Snapshot, Reach}
use Rattle.books.specs.declared.book.Book.{Book}
use Rattle.questions.specs.Graph.{Graph, Walk, here, on}
use Rattle.questions.specs.Pages.{weight_of}
use Rattle.order.specs.Graph.{Reached}
use Rattle.walks.specs.Courses.{Course, Laws}
use Rattle.walks.specs.Visible.{Visible, EdgeVisible, StaysVisible, Stands}
use Rattle.walks.specs.Pages.{Page, has_key, graph_of}
use Rattle.walks.specs.Surveys.{Going, turn_of, Says, RightSurvey, PagesStand}
use Rattle.walks.proofs.Times.{linked_some}
use Rattle.walks.proofs.Drafts.{Draft, draft_of, Kept}
use Rattle.walks.proofs.Known.{StaysEdge, Way, stay, go_on, Shown, nothing, weighs, Served, Serving}
use Rattle.walks.proofs.Serves.{Ended, all_shown, part_shown, start_absent}
use Rattle.walks.proofs.Surveys.{Answered, with_page, clock_spent, raised_for, answered}

weight_some : (w : ℕ) → 0 < w → weight_of w ≡ Some w
weight_some w l = grind (arith, nat_tests)

module _ (c : Course) (n : ℕ) (law : Laws c n) (k l : ℕ) (u : k ≤ l) (b : Book) (p : Page) (kept : Kept b p) (g : Graph) (stands : Stands c b.t l g) where
  abbrev d : Draft
  d = draft_of b p

  has_row : (i r : ℕ) → Visible c b.t l (head.Vertex i) r → g.has i ≡ true
  has_row i r v = (stands.vertices i).1 (r, v)

  has_none : (i : ℕ) → ((r : ℕ) → Visible c b.t l (head.Vertex i) r → ⊥) → g.has i ≡ false
  has_none i f = elim (cases_Bool (g.has i)) [ inl e ↦ (let (r, v) = (stands.vertices i).0 e in absurd (f r v)) | inr e ↦ e ]

  edge_row : (i j e : ℕ) → EdgeVisible c b.t l i j e → g.edge i j ≡ Some (c.weight e)
  edge_row i j e v = (stands.edges i j (c.weight e)).1 (e, v, refl)

  edge_none : (i j : ℕ) → ((e : ℕ) → EdgeVisible c b.t l i j e → ⊥) → g.edge i j ≡ None
  edge_none i j f = by_edge (g.edge i j) refl
    where
      by_edge : (o : Option ℕ) → g.edge i j ≡ o → g.edge i j ≡ None
      by_edge None e = e
      by_edge (Some w) e = let (x, v, q) = (stands.edges i j w).0 e in absurd (f x v)

  -- what the page shows of a key
  key_is : (i : ℕ) → has_key n p i ≡ (ltb i n && not (eqb (d.key i) no_row))
  key_is i = rw (kept.page i) refl

  has_shown : (i : ℕ) → i < n → 0 < d.key i → has_key n p i ≡ true
  has_shown i s z = key_is i ∙ grind (arith, nat_tests)

  has_not : (i : ℕ) → (i < n → d.key i ≡ no_row) → has_key n p i ≡ false
  has_not i f = key_is i ∙ elim (cases_lt i n) [ inl s ↦ (let e = f s in grind (arith, nat_tests)) | inr s ↦ grind (arith, nat_tests) ]

  is_shown : (i : ℕ) → has_key n p i ≡ true → (i < n) × (0 < d.key i)
  is_shown i e = elim (cases_lt i n) [
    | inl s ↦ elim (cases_lt 0 (d.key i)) [ inl z ↦ (s, z) | inr z ↦ absurd (true_false (sym e ∙ has_not i (λ m. omega arith))) ]
    | inr s ↦ absurd (true_false (sym e ∙ has_not i (λ m. absurd (omega arith))))
  ]
    where
      true_false : true ≡ false → ⊥
      true_false q = grind arith

  both_none : (q : Bool) (o : Option ℕ) → o ≡ None → cond q o None ≡ None
  both_none true o e = e
  both_none false o e = refl

  -- a cell that shows the pair shows the edge of the graph
  no_edge : (i j : ℕ) → p.pair i j ≡ 0 → (graph_of n p).edge i j ≡ None
  no_edge i j e = both_none (ltb i n && ltb j n) (weight_of (p.pair i j)) (rw e refl)

  page_edge : (i j : ℕ) → Shown c b.t k i j (p.pair i j) → (graph_of n p).edge i j ≡ g.edge i j
  page_edge i j (nothing e f) = no_edge i j e ∙ sym (edge_none i j (λ x v. f l x u v))
  page_edge i j (weighs e q x f) =
      let bound = law.binds _ i j e (x l u).row.linked in
      let z : 0 < c.weight e = law.heavy _ i j e (x l u).row.linked in
      rw (lt-ltb i n bound.from, lt-ltb j n bound.to) (rw q (weight_some (c.weight e) z ∙ sym (edge_row i j e (x l u))))

  module _ (v : Survey) (s : Serving c n k v d (n * b.len)) where
    row_here : (i : ℕ) → 0 < d.key i → g.has i ≡ true
    row_here i z = let m = s.joined i z in by_row m.row (s.rows i m.small m.seen).stays
      where
        by_row : d.key i ≡ d.row i → (d.row i ≡ no_row) ⊎ StaysVisible c b.t k (head.Vertex i) (d.row i) → g.has i ≡ true
        by_row e (inl q) = absurd (omega arith)
        by_row e (inr w) = has_row i (d.row i) (w l u)

    -- the pairs of a key that was served
    at_place : (m j : ℕ) → m < b.len → j < n → Served c n k d (d.queue m) j
    at_place m j a o =
        subst₂ (λ x y. Served c n k d (d.queue x) y) (div-mul-add m n j o) (mod-mul-add m n j o)
        (s.served (m * n + j) (omega (arith, mul-add-lt m n j b.len a o, mul_comm n b.len)) (omega (arith, mul-add-lt m n j b.len a o, mul_comm n b.len)))

    from_key : (i j : ℕ) → 0 < d.key i → j < n → Served c n k d i j
    from_key i j z m = let o = s.joined i z in rw o.queued at (at_place o.nth j o.within m)

    -- outside there is no edge
    outside : (i j : ℕ) → (i < n → j < n → ⊥) → Shown c b.t k i j (p.pair i j)
    outside i j f = by_cell (s.cells i j)
      where
        by_cell : (p.pair i j ≡ 0) ⊎ ((0 < d.key i) × Shown c b.t k i j (p.pair i j)) → Shown c b.t k i j (p.pair i j)
        by_cell (inl e) = nothing e (λ m x a w. let o = law.binds _ i j x w.row.linked in f o.from o.to)
        by_cell (inr (z, h)) = h

    key_shown : (i j : ℕ) → 0 < d.key i → Shown c b.t k i j (p.pair i j)
    key_shown i j z = elim (cases_lt j n) [ inl m ↦ (from_key i j z m).shown | inr m ↦ outside i j (λ a o. omega arith) ]

  -- a snapshot's page is the graph
  snapshot_right : Serving c n k Snapshot d (n * b.len) → graph_of n p ≡ g
  snapshot_right s = λ x. record { has = λ i. has_path i x; edge = λ i j. edge_path i j x }
    where
      key_of : (i r m : ℕ) → k ≤ m → Visible c b.t m (head.Vertex i) r → (i < n) × (0 < d.key i)
      key_of i r m a w =
          let small = law.keys _ i r w.linked in
          let (seen, same) = s.mode.2 i small in
          (small, omega (arith, (s.rows i small seen).only m r a w tt, same, (linked_some w.linked)))

      has_path : (i : ℕ) → has_key n p i ≡ g.has i
      has_path i = elim (cases_lt 0 (d.key i)) [
        | inl z ↦ has_shown i (s.joined i z).small z ∙ sym (row_here Snapshot s i z)
        | inr z ↦ has_not i (λ m. omega arith) ∙ sym (has_none i (λ r w. omega (arith, (key_of i r l u w).1)))
      ]

      shown : (i j : ℕ) → Shown c b.t k i j (p.pair i j)
      shown i j = elim (cases_lt i n) [
        | inl a ↦ elim (cases_lt j n) [
          | inl o ↦ rw (s.mode.1 i a) at (at_place Snapshot s i j (omega (arith, s.mode.0)) o).shown
          | inr o ↦ outside Snapshot s i j (λ x y. omega arith)
        ]
        | inr a ↦ outside Snapshot s i j (λ x y. omega arith)
      ]

      edge_path : (i j : ℕ) → (graph_of n p).edge i j ≡ g.edge i j
      edge_path i j = page_edge i j (shown i j)

  -- a reach's page is the part that its key reaches
  module _ (i : ℕ) (s : Serving c n k (Reach i) d (n * b.len)) where
    way_walk : {j : ℕ} → Way c b.t k i j → Walk g i j
    way_walk stay = here
    way_walk (go_on {a} {b = j} e w x) = on (c.weight e) (way_walk w) (edge_row a j e (x l u))

    shown_key : (j : ℕ) → 0 < d.key j → has_key n p j ≡ true
    shown_key j z = has_shown j (s.joined j z).small z

    leads : (a j e : ℕ) → 0 < d.key a → StaysEdge c b.t k a j e → 0 < d.key j
    leads a j e z x = (from_key (Reach i) s a j z (law.binds _ a j e (x l u).row.linked).to).leads l e u (x l u)

    leads_on : (a j w : ℕ) → 0 < d.key a → g.edge a j ≡ Some w → 0 < d.key j
    leads_on a j w z q = by_cell (key_shown (Reach i) s a j z)
      where
        by_cell : Shown c b.t k a j (p.pair a j) → 0 < d.key j
        by_cell (nothing e f) = let (x, v, o) = (stands.edges a j w).0 q in absurd (f l x u v)
        by_cell (weighs e y x f) = leads a j e z x

    walk_key : {j : ℕ} → Walk g i j → 0 < d.key j
    walk_key here = s.mode.1
    walk_key (on {k = a} {j = j} w o q) = leads_on a j w (walk_key o) q

    leaving : (a j : ℕ) → (graph_of n p).edge a j ≡ cond (has_key n p a) (g.edge a j) None
    leaving a j = elim (cases_lt 0 (d.key a)) [
      | inl z ↦ rw (shown_key a z) (page_edge a j (key_shown (Reach i) s a j z))
      | inr z ↦ (let none = has_not a (λ m. omega arith) in rw none (no_edge a j (bare (s.cells a j) z)))
    ]
      where
        bare : (p.pair a j ≡ 0) ⊎ ((0 < d.key a) × Shown c b.t k a j (p.pair a j)) → d.key a ≤ 0 → p.pair a j ≡ 0
        bare (inl e) z = e
        bare (inr (o, h)) z = absurd (omega arith)

    reach_right : (g.has i ≡ true) × Reached g i (graph_of n p)
    reach_right = (
      row_here (Reach i) s i s.mode.1,
      record {
        keys = λ j. ((λ e. way_walk (s.joined j (is_shown j e).1).reached), (λ w. shown_key j (walk_key w)));
        leaving = leaving;
      },
    )

-- what an answer says
pub says : (c : Course) (n : ℕ) → Laws c n → (k l : ℕ) → k ≤ l → (v : Survey) (a : Answer) (b : Book) (p : Page) → Kept b p → (g : Graph) → Stands c b.t l g → Ended c n k v b p a →
    Says a v g (graph_of n p)
says c n law k l u v a b p kept g st (all_shown e s) = rw e (snapshot_right c n law k l u b p kept g st (rw e at s))
says c n law k l u v a b p kept g st (part_shown i e s) = rw e (reach_right c n law k l u b p kept g st i (rw e at s))
says c n law k l u v a b p kept g st (start_absent i e f) =
    rw e (has_none c n law k l u b p kept g st i (λ r w. omega (arith, f.only l r u w tt, (linked_some w.linked))))

right_as : (c : Course) (n : ℕ) → Laws c n → (v : Survey) (began k : ℕ) (a : Answer) (g : Going) → Answered c n v began k g.book g.page a → RightSurvey c n v began k a g
right_as c n law v began k a g (with_page e h r) = record {
  raised = raised_for c n k v g.book g.page a began e r;
  says = λ l graph u st. says c n law k l u v a g.book g.page h graph st e;
}
right_as c n law v began k a g clock_spent = record { raised = tt; says = λ l graph u st. tt }

pub pages_stand : PagesStand
pages_stand c n law top v began now at run l a d e = right_as c n law v began (suc now) a (turn_of n top (c.at now) (at now)) (answered c n law top v began now at run l a d e)
