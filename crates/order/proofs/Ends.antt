-- Which rows show the graphs with which the calls of a run begin and end.
use Rattle.std.proofs.Common.{◌≡◌, ℕ, suc, ◌<◌, ◌≤◌, true, false, Some, ◌↔◌, refl, ◌∙◌, ap, subst, subst₂, inl, inr, arith}
use Rattle.std.proofs.lemmas.Bool.{cases_Bool, cases_lt}
use Rattle.std.proofs.lemmas.Bool.Decides.{nat_tests}
use Rattle.questions.specs.Graph.{Graph}
use Rattle.order.specs.Past.{Past}
use Rattle.order.specs.Order.{Ordered}
use Rattle.order.specs.Keys.{number}
use Rattle.order.specs.Marks.{Mark, Old, source_end, target_end, change_key, moved_key, has_effect}
use Rattle.order.specs.Rows.{Rows, vertex_lives, edge_lives, has_at, edge_at, far_key, unborn}
use Rattle.order.specs.Raises.{VertexVisibleByMarks, EdgeVisibleByMarks, ShowsVisible}
use Rattle.order.specs.Marked.{Marking, before_start, by_call, Marked, start_key, end_key, start_graph, end_graph}
use Rattle.order.specs.Ends.{ShowsOld, NoneEnded, RunsShowEnds, OldRowsStand}
use Rattle.order.proofs.Keys.{compared, number_by_stamp, number_by_part}
use Rattle.order.proofs.Rows.{Lawful, vertex_row, edge_row, vertex_present, edge_present}
use Rattle.order.proofs.Moves.{moved_for_le, moved_part_is, bounded_change, bounded_moved}
use Rattle.order.proofs.Lives.{edge_number_effect, edge_number_far, lawful}
use Rattle.order.proofs.Numbered.{rows, bounded_start, bounded_end, bottom, after_start}
use Rattle.order.proofs.Marked.{marked_order}
use Rattle.order.proofs.Raises.{shown_equal}

-- the rows that live at a key show the graph at it
module _ (rows : Rows) (l : Lawful rows) (k : ℕ) where
  pub vertices_at : (i : ℕ) → (has_at rows k i ≡ true) ↔ ((v : ℕ) × (v < rows.vertices) × (vertex_lives rows k v ≡ true) × (rows.key_of v ≡ i))
  vertices_at i = (
    λ h. (let (v, m, shows) = vertex_row rows k i h in (v, m, grind (arith, nat_tests), grind (arith, nat_tests))),
    λ (v, m, lives, q). subst (λ i. has_at rows k i ≡ true) q (vertex_present rows l k v m (grind (arith, nat_tests)) (grind (arith, nat_tests))),
  )

  pub edges_at : (i j x : ℕ) → (edge_at rows k i j ≡ Some x) ↔ ((e : ℕ) × (e < rows.edges) × (edge_lives rows k e ≡ true) ×
      (rows.key_of (rows.source e) ≡ i) × (rows.key_of (rows.target e) ≡ j) × (rows.weight e ≡ x))
  edges_at i j x = (
    λ h. (let (e, m, shows, w) = edge_row rows k i j x h in (e, m, grind (arith, nat_tests), grind (arith, nat_tests), grind (arith, nat_tests), w)),
    λ (e, m, lives, p, q, w). subst₂ (λ i j. edge_at rows k i j ≡ Some x) p q (edge_present rows l k e m lives ∙ ap Some w),
  )

module _ {h : Past} {run : Marking} (p : Marked h run) where
  abbrev laws : Lawful (rows p)
  laws = lawful run.bound run.top run.marks p.sound

  -- at the start
  module _ (none : NoneEnded run) where
    old_born : (x : Mark) → x.time < run.bound → Old run.clock x → number run.bound (change_key run.bound x) ≤ bottom p
    old_born x t old = omega (arith, old, compared run.bound (change_key run.bound x) (start_key run) (bounded_change run.bound x t) (bounded_start p))

    vertex_ends_later : (v : ℕ) → bottom p < (rows p).vertex_ends v
    vertex_ends_later v = elim (cases_lt run.top (run.marks.vertex_del v).stamp) [
      | inl z ↦ number_by_stamp run.bound (start_key run) (change_key run.bound (run.marks.vertex_del v)) (bounded_start p) (omega (arith, p.start_stamp))
      | inr z ↦ elim (p.vertex_endings v z) [
        | before_start old ↦ absurd (none.vertices v old)
        | by_call b e _ ↦ after_start p b (change_key run.bound (run.marks.vertex_del v)) e
      ]
    ]

    -- a vertex ends with the stamp of the start, or later
    vertex_ends_from : (v : ℕ) → run.clock 0 ≤ (run.marks.vertex_del v).stamp
    vertex_ends_from v = elim (cases_lt run.top (run.marks.vertex_del v).stamp) [
      | inl z ↦ omega (arith, p.start_stamp)
      | inr z ↦ elim (p.vertex_endings v z) [
        | before_start old ↦ absurd (none.vertices v old)
        | by_call b e _ ↦ (p.calls b (change_key run.bound (run.marks.vertex_del v)) e).low
      ]
    ]

    old_vertex_lives : (v : ℕ) → Old run.clock (run.marks.vertex_ins v) → vertex_lives (rows p) (bottom p) v ≡ true
    old_vertex_lives v old =
        let born = old_born (run.marks.vertex_ins v) (p.sound.vertex_ins v) old in let ends = vertex_ends_later v in
        grind (arith, nat_tests)

    living_vertex_old : (v : ℕ) → vertex_lives (rows p) (bottom p) v ≡ true → Old run.clock (run.marks.vertex_ins v)
    living_vertex_old v lives =
        let x = run.marks.vertex_ins v in
        let born : (rows p).vertex_born v ≤ bottom p = grind (arith, nat_tests) in
        elim (cases_lt run.top x.stamp) [
          | inl z ↦ absurd (omega (arith, p.start_stamp, number_by_stamp run.bound (start_key run) (change_key run.bound x) (bounded_start p) (omega (arith, p.start_stamp))))
          | inr z ↦ elim (p.vertex_births v z) [
            | before_start old ↦ old
            | by_call b e _ ↦ absurd (omega (arith, after_start p b (change_key run.bound x) e))
          ]
        ]

    edge_ends_later : (e : ℕ) → bottom p < (rows p).edge_ends e
    edge_ends_later e =
        let d = source_end run.marks e in let f = target_end run.marks e in let y = run.marks.edge_del e in
        elim (cases_Bool (has_effect run.top d f y)) [
          | inr z ↦ rw (edge_number_far run.bound run.top (suc run.top) d f y z)
              (number_by_stamp run.bound (start_key run) (far_key run.bound (suc run.top)) (bounded_start p) (omega (arith, p.start_stamp)))
          | inl z ↦ elim (p.edge_endings e z) [
            | before_start old ↦ absurd (none.edges e old)
            | by_call b g _ ↦ rw (edge_number_effect run.bound run.top (suc run.top) d f y z) (after_start p b (moved_key run.bound d f y) g)
          ]
        ]

    old_edge_lives : (e : ℕ) → Old run.clock (run.marks.edge_ins e) → edge_lives (rows p) (bottom p) e ≡ true
    old_edge_lives e old =
        let d = source_end run.marks e in let f = target_end run.marks e in let x = run.marks.edge_ins e in
        let from = vertex_ends_from (run.marks.source e) in let to = vertex_ends_from (run.marks.target e) in let start = p.start_stamp in
        let effect : has_effect run.top d f x ≡ true = grind (arith, nat_tests) in
        let birth = edge_number_effect run.bound run.top (unborn run.top) d f x effect in
        let order = compared run.bound (moved_key run.bound d f x) (start_key run) (bounded_moved run.bound d f x (p.sound.edge_ins e)) (bounded_start p) in
        let born : number run.bound (moved_key run.bound d f x) ≤ bottom p = omega (arith, old, order, moved_for_le d x, moved_part_is run.bound d f x) in
        let ends = edge_ends_later e in let source = vertex_ends_later (run.marks.source e) in let target = vertex_ends_later (run.marks.target e) in
        grind (arith, nat_tests)

    living_edge_old : (e : ℕ) → edge_lives (rows p) (bottom p) e ≡ true → Old run.clock (run.marks.edge_ins e)
    living_edge_old e lives =
        let d = source_end run.marks e in let f = target_end run.marks e in let x = run.marks.edge_ins e in
        let born : (rows p).edge_born e ≤ bottom p = grind (arith, nat_tests) in
        elim (cases_Bool (has_effect run.top d f x)) [
          | inr z ↦ absurd (let far = edge_number_far run.bound run.top (unborn run.top) d f x z in
              omega (arith, far, number_by_stamp run.bound (start_key run) (far_key run.bound (unborn run.top)) (bounded_start p) (omega (arith, p.start_stamp))))
          | inl z ↦ elim (p.edge_births e z) [
            | before_start old ↦ old
            | by_call b g _ ↦ absurd (let near = edge_number_effect run.bound run.top (unborn run.top) d f x z in omega (arith, near, after_start p b (moved_key run.bound d f x) g))
          ]
        ]

    pub start_shows : ShowsOld run (start_graph run)
    start_shows = record {
      vertices = λ i. (let (to, from) = vertices_at (rows p) laws (bottom p) i in (
        λ g. (let (v, m, lives, q) = to g in (v, m, living_vertex_old v lives, q)),
        λ (v, m, old, q). from (v, m, old_vertex_lives v old, q),
      ));
      edges = λ i j x. (let (to, from) = edges_at (rows p) laws (bottom p) i j x in (
        λ g. (let (e, m, lives, a, b, c) = to g in (e, m, living_edge_old e lives, record { from = a; to = b; weight = c })),
        λ (e, m, old, o). from (e, m, old_edge_lives e old, o.from, o.to, o.weight),
      ));
    }

  -- at the end
  abbrev last : ℕ
  last = number run.bound (end_key run)

  stamped_by : (x : Mark) → x.time < run.bound → number run.bound (change_key run.bound x) ≤ last → x.stamp ≤ run.top
  stamped_by x t h = omega (arith, compared run.bound (change_key run.bound x) (end_key run) (bounded_change run.bound x t) (bounded_end p))

  stamped_later : (x : Mark) → x.time < run.bound → last < number run.bound (change_key run.bound x) → run.top < x.stamp
  stamped_later x t h = omega (arith, compared run.bound (change_key run.bound x) (end_key run) (bounded_change run.bound x t) (bounded_end p))

  by_last : (x : Mark) → x.time < run.bound → x.stamp ≤ run.top → number run.bound (change_key run.bound x) < last
  by_last x t h = number_by_stamp run.bound (change_key run.bound x) (end_key run) (bounded_change run.bound x t) (omega arith)

  after_last : (x : Mark) → x.time < run.bound → run.top < x.stamp → last < number run.bound (change_key run.bound x)
  after_last x t h = omega (arith, p.some_time, compared run.bound (change_key run.bound x) (end_key run) (bounded_change run.bound x t) (bounded_end p))

  visible_lives : (v : ℕ) → VertexVisibleByMarks run.marks run.top v → vertex_lives (rows p) last v ≡ true
  visible_lives v h =
      let born = by_last (run.marks.vertex_ins v) (p.sound.vertex_ins v) h.born in
      let ends = after_last (run.marks.vertex_del v) (p.sound.vertex_del v) h.ends in
      grind (arith, nat_tests)

  living_visible : (v : ℕ) → v < run.marks.vertices → vertex_lives (rows p) last v ≡ true → VertexVisibleByMarks run.marks run.top v
  living_visible v m lives = record {
    row = m;
    born = stamped_by (run.marks.vertex_ins v) (p.sound.vertex_ins v) (grind (arith, nat_tests));
    ends = stamped_later (run.marks.vertex_del v) (p.sound.vertex_del v) (grind (arith, nat_tests));
  }

  visible_edge_lives : (e : ℕ) → EdgeVisibleByMarks run.marks run.top e → edge_lives (rows p) last e ≡ true
  visible_edge_lives e h =
      let d = source_end run.marks e in let f = target_end run.marks e in let x = run.marks.edge_ins e in let y = run.marks.edge_del e in
      let from = h.source.ends in let to = h.target.ends in let stamped = h.born in let unstamped = h.ends in
      let effect : has_effect run.top d f x ≡ true = grind (arith, nat_tests) in
      let without : has_effect run.top d f y ≡ false = grind (arith, nat_tests) in
      let birth = edge_number_effect run.bound run.top (unborn run.top) d f x effect in
      let end = edge_number_far run.bound run.top (suc run.top) d f y without in
      let born = number_by_stamp run.bound (moved_key run.bound d f x) (end_key run) (bounded_moved run.bound d f x (p.sound.edge_ins e)) (omega arith) in
      let ends = number_by_part run.bound (end_key run) (far_key run.bound (suc run.top)) refl refl p.some_time in
      let source = after_last d (p.sound.vertex_del (run.marks.source e)) from in
      let target = after_last f (p.sound.vertex_del (run.marks.target e)) to in
      grind (arith, nat_tests)

  living_edge_visible : (e : ℕ) → e < run.marks.edges → edge_lives (rows p) last e ≡ true → EdgeVisibleByMarks run.marks run.top e
  living_edge_visible e m lives =
      let d = source_end run.marks e in let f = target_end run.marks e in let x = run.marks.edge_ins e in let y = run.marks.edge_del e in
      let birth : (rows p).edge_born e ≤ last = grind (arith, nat_tests) in
      let end : last < (rows p).edge_ends e = grind (arith, nat_tests) in
      let source = stamped_later d (p.sound.vertex_del (run.marks.source e)) (grind (arith, nat_tests)) in
      let target = stamped_later f (p.sound.vertex_del (run.marks.target e)) (grind (arith, nat_tests)) in
      let born : x.stamp ≤ run.top = elim (cases_lt run.top x.stamp) [
        | inr z ↦ z
        | inl z ↦ absurd (let without : has_effect run.top d f x ≡ false = grind (arith, nat_tests) in
            let far = edge_number_far run.bound run.top (unborn run.top) d f x without in
            omega (arith, far, number_by_stamp run.bound (end_key run) (far_key run.bound (unborn run.top)) (bounded_end p) (omega arith)))
      ] in
      let ends : run.top < y.stamp = elim (cases_lt run.top y.stamp) [
        | inl z ↦ z
        | inr z ↦ absurd (let effect : has_effect run.top d f y ≡ true = grind (arith, nat_tests) in
            let near = edge_number_effect run.bound run.top (suc run.top) d f y effect in
            omega (arith, near, number_by_stamp run.bound (moved_key run.bound d f y) (end_key run) (bounded_moved run.bound d f y (p.sound.edge_del e)) (omega arith)))
      ] in
      record {
        row = m;
        born = born;
        ends = ends;
        source = record {
          row = p.sound.source_row e born;
          born = stamped_by (run.marks.vertex_ins (run.marks.source e)) (p.sound.vertex_ins (run.marks.source e)) (omega (arith, laws.after_source e));
          ends = source;
        };
        target = record {
          row = p.sound.target_row e born;
          born = stamped_by (run.marks.vertex_ins (run.marks.target e)) (p.sound.vertex_ins (run.marks.target e)) (omega (arith, laws.after_target e));
          ends = target;
        };
      }

  pub end_shows : ShowsVisible run.marks run.top (end_graph run)
  end_shows = record {
    vertices = λ i. (let (to, from) = vertices_at (rows p) laws last i in (
      λ g. (let (v, m, lives, q) = to g in (v, living_visible v m lives, q)),
      λ (v, visible, q). from (v, visible.row, visible_lives v visible, q),
    ));
    edges = λ i j x. (let (to, from) = edges_at (rows p) laws last i j x in (
      λ g. (let (e, m, lives, a, b, c) = to g in (e, living_edge_visible e m lives, record { from = a; to = b; weight = c })),
      λ (e, visible, o). from (e, visible.row, visible_edge_lives e visible, o.from, o.to, o.weight),
    ));
  }

pub runs_show_ends : RunsShowEnds
runs_show_ends h run p = record { start = start_shows p; end = end_shows p }

-- the graph at the start is no other
pub starts_from : {h : Past} {run : Marking} → Marked h run → NoneEnded run → (g : Graph) → ShowsOld run g → start_graph run ≡ g
starts_from p none g old = let start = start_shows p none in shown_equal _ _ _ _ start.vertices start.edges old.vertices old.edges

pub ends_in : {h : Past} {run : Marking} → Marked h run → (e : Graph) → ShowsVisible run.marks run.top e → end_graph run ≡ e
ends_in p e visible = let end = end_shows p in shown_equal _ _ _ _ end.vertices end.edges visible.vertices visible.edges

pub old_rows_stand : OldRowsStand
old_rows_stand h run p none g e old visible = subst₂ (Ordered h) (starts_from p none g old) (ends_in p e visible) (marked_order p)
