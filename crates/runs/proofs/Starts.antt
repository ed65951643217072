-- The graph with which a run starts.
use Rattle.std.proofs.Common.{◌≡◌, ℕ, suc, ◌+◌, ◌<◌, ◌≤◌, ◌⊎◌, true, ◌↔◌, Some, sym, refl, ap, ap₂, ◌∙◌, subst, inl, inr, arith}
use Rattle.layout.specs.declared.sizes.Sizes.{Sizes}
use Rattle.layout.specs.declared.names.Kind.{Kind}
use Rattle.layout.specs.declared.names.Kind.TheVariants.{Vertex, Edge}
use Rattle.layout.specs.declared.names.Field.TheVariants.{Ins, Del}
use Rattle.layout.specs.declared.names.Head.{Head}
use Rattle.layout.specs.declared.names.Head.TheVariants as head
use Rattle.layout.specs.declared.names.Cell.TheVariants as cell
use Rattle.layout.specs.Layout.{Named}
use Rattle.layout.specs.Rows.{rows_all}
use Rattle.places.specs.Touches.{head_kind}
use Rattle.laws.proofs.Clean.{head_none}
use Rattle.questions.specs.Graph.{Graph}
use Rattle.order.specs.Marks.{Mark, Old, Marks}
use Rattle.order.specs.Raises.{Joins}
use Rattle.runs.specs.Runs.{RunInTime}
use Rattle.runs.specs.Views.{number_at, clock_at, head_at, LinkedAt}
use Rattle.runs.specs.Known.{StampedAt}
use Rattle.runs.specs.Marking.{ins_of, del_of, MarksTellRun}
use Rattle.runs.specs.Starts.{ShowsGraph, OpeningsEmpty, RunsStartShown}
use Rattle.runs.proofs.Heads.{row_pos}
use Rattle.runs.proofs.Events.{clock_later, end_late, link_late, old_linked}
use Rattle.runs.proofs.EdgeEvents.{old_edge_of}
use Rattle.runs.proofs.Births.{Birth, Way, Way.from_start, Way.by_link, End, born_or, ended_or}
use Rattle.runs.proofs.VertexFinds.{birth_tells}
use Rattle.runs.proofs.Times.{runs_last as last}
use Rattle.laws.proofs.Clean.{openings_clean as clean}
use Rattle.laws.proofs.Owned.{linked_row}

pub openings_empty : OpeningsEmpty
openings_empty z cs l = (
  clean z cs l,
  record {
    vertices = λ i. (λ e. absurd cc, λ x. absurd (omega (arith, x.1, head_none z cs l (head.Vertex i) x.0)));
    edges = λ i j w. (λ e. absurd cc, λ x. absurd (omega (arith, x.2, head_none z cs l (head.Edge i j) (x.0, x.1))));
  },
)

module _ (R : RunInTime) (N : ℕ) (m : Marks) (tell : MarksTellRun R N m) where
  -- a row with an old mark is from before the start
  old_row_of : (c : Kind) (r : ℕ) → Old (clock_at R) (ins_of m c r) → LinkedAt R 0 c r
  old_row_of c r o = go (born_or R N c r)
    where
      by_way : (p n : ℕ) → Way R N c r p n → ins_of m c r ≡ record { stamp = n; time = p } → LinkedAt R 0 c r
      by_way p n (from_start l a b) e = l
      by_way p n (by_link x) e =
          let t : (ins_of m c r).time ≡ p = ap (λ (x : Mark). x.time) e in
          absurd (omega (arith, link_late R x.linking.event, t, o.0))

      go : Birth R N c r ⊎ ¬ (LinkedAt R N c r × StampedAt R N c Ins r) → LinkedAt R 0 c r
      go (inl h) = by_way h.time h.stamp h.way (birth_tells R N m tell c r h)
      go (inr n) =
          let s : (ins_of m c r).stamp ≡ clock_at R N + 2 = ap (λ (x : Mark). x.stamp) (tell.unborn c r n) in
          absurd (omega (arith, s, o.1, clock_later R 0 N (omega arith)))

  pub old_marks : (c : Kind) (r : ℕ) → LinkedAt R 0 c r → Old (clock_at R) (ins_of m c r)
  old_marks Vertex r l = rw (tell.old Vertex r l) (refl, omega arith)
  old_marks Edge r l = rw (tell.old Edge r l) (refl, omega arith)

  none_old : (c : Kind) (r : ℕ) → ¬ (Old (clock_at R) (del_of m c r))
  none_old c r o = go (ended_or R N c r)
    where
      go : End R N c r ⊎ ¬ (LinkedAt R N c r × StampedAt R N c Del r) → ⊥
      go (inl h) =
          let t : (del_of m c r).time ≡ h.time = ap (λ (x : Mark). x.time) (tell.ended c r h.time h.stamp h.linked h.ending h.is) in
          omega (arith, end_late R h.ending.event, t, o.0)
      go (inr n) =
          let s : (del_of m c r).stamp ≡ clock_at R N + 1 = ap (λ (x : Mark). x.stamp) (tell.unended c r n) in
          omega (arith, s, o.1, clock_later R 0 N (omega arith))

  in_rows : (c : Kind) (r : ℕ) → LinkedAt R 0 c r → r < suc (rows_all R.sizes c)
  in_rows c r l = let e : rows_all (R.state 0).sizes c ≡ rows_all R.sizes c = ap (λ (z : Sizes). rows_all z c) R.start in omega (arith, (linked_row (R.state 0) c r l).1)

  key_in : (i : ℕ) → i < (R.state 0).sizes.keys → i < R.sizes.keys
  key_in i l = subst (λ (z : Sizes). i < z.keys) R.start l

  key_back : (i : ℕ) → i < R.sizes.keys → i < (R.state 0).sizes.keys
  key_back i l = subst (λ (z : Sizes). i < z.keys) (sym R.start) l

  -- a vertex row from before the start, by its key
  vertex_by_key : (v i : ℕ) → LinkedAt R 0 Vertex v → m.key_of v ≡ i → (i < R.sizes.keys) × (head_at R 0 (head.Vertex i) ≡ v)
  vertex_by_key v i l e = let x = (last R).old_row Vertex v l in go x.head x.named x.kind x.is
    where
      go : (h : Head) → Named R.sizes (cell.Head h) → head_kind h ≡ Vertex → head_at R 0 h ≡ v → (i < R.sizes.keys) × (head_at R 0 (head.Vertex i) ≡ v)
      go (head.Edge a b) n k z = absurd cc
      go (head.Vertex a) n k z =
          let q : a ≡ i = sym (tell.old_key a v n z (row_pos R 0 v l)) ∙ e in
          (subst (λ j. j < R.sizes.keys) q n, ap (λ j. head_at R 0 (head.Vertex j)) (sym q) ∙ z)

  module _ (g : Graph) (shows : ShowsGraph (R.state 0) g) where
    vertex_shown : (i : ℕ) → (g.has i ≡ true) ↔ ((v : ℕ) × (v < m.vertices) × Old (clock_at R) (m.vertex_ins v) × (m.key_of v ≡ i))
    vertex_shown i = (
      λ e. (let x = (shows.vertices i).0 e in
          let k = key_in i x.0 in
          let l = old_linked R i _ k refl x.1 in
          (head_at R 0 (head.Vertex i), omega (arith, tell.vertices, in_rows Vertex _ l), old_marks Vertex _ l, tell.old_key i _ k refl x.1)),
      λ x. (let l = old_row_of Vertex x.0 x.2 in
          let y = vertex_by_key x.0 i l x.3 in
          (shows.vertices i).1 (key_back i y.0, omega (arith, y.1, row_pos R 0 x.0 l))),
    )

    -- an edge row from before the start, by its keys
    edge_by_keys : (e i j : ℕ) → LinkedAt R 0 Edge e → m.key_of (m.source e) ≡ i → m.key_of (m.target e) ≡ j → (i < R.sizes.keys) × (j < R.sizes.keys) × (head_at R 0 (head.Edge i j) ≡ e)
    edge_by_keys e i j l p q =
        let o = old_edge_of R e l in
        let laws = (last R).times 0 N (omega arith) in
        let s : m.source e ≡ number_at R 0 (cell.Source e) = tell.source e ∙ laws.source e l in
        let t : m.target e ≡ number_at R 0 (cell.Target e) = tell.target e ∙ laws.target e l in
        let a : o.from ≡ i = sym (tell.old_key o.from _ o.since.keys.0 o.source_head (row_pos R 0 _ o.source_row)) ∙ ap m.key_of (sym s) ∙ p in
        let b : o.to ≡ j = sym (tell.old_key o.to _ o.since.keys.1 o.target_head (row_pos R 0 _ o.target_row)) ∙ ap m.key_of (sym t) ∙ q in
        (subst (λ k. k < R.sizes.keys) a o.since.keys.0, subst (λ k. k < R.sizes.keys) b o.since.keys.1, ap₂ (λ x y. head_at R 0 (head.Edge x y)) (sym a) (sym b) ∙ o.since.head)

    edge_joins : (i j e : ℕ) → i < R.sizes.keys → j < R.sizes.keys → head_at R 0 (head.Edge i j) ≡ e → (l : LinkedAt R 0 Edge e) → 1 ≤ e → (m.key_of (m.source e) ≡ i) × (m.key_of (m.target e) ≡ j) × (m.weight e ≡ number_at R 0 (cell.Weight e))
    edge_joins i j e a b h l pos =
        let laws = (last R).times 0 N (omega arith) in
        let x = R.clean.joined i j (key_back i a) (key_back j b) (omega (arith, h, pos)) in
        let s : number_at R 0 (cell.Source e) ≡ head_at R 0 (head.Vertex i) = subst (λ q. number_at R 0 (cell.Source q) ≡ head_at R 0 (head.Vertex i)) h x.source in
        let t : number_at R 0 (cell.Target e) ≡ head_at R 0 (head.Vertex j) = subst (λ q. number_at R 0 (cell.Target q) ≡ head_at R 0 (head.Vertex j)) h x.target in (
          ap m.key_of (tell.source e ∙ laws.source e l ∙ s) ∙ tell.old_key i _ a refl x.from,
          ap m.key_of (tell.target e ∙ laws.target e l ∙ t) ∙ tell.old_key j _ b refl x.to,
          tell.weight e ∙ laws.weight e l,
        )

    edge_shown : (i j w : ℕ) → (g.edge i j ≡ Some w) ↔ ((e : ℕ) × (e < m.edges) × Old (clock_at R) (m.edge_ins e) × Joins m e i j w)
    edge_shown i j w = (
      λ e. (let x = (shows.edges i j w).0 e in
          let a = key_in i x.0 in
          let b = key_in j x.1 in
          let l = (last R).old_head (head.Edge i j) (a, b) x.2 in
          let o = edge_joins i j _ a b refl l x.2 in
          (head_at R 0 (head.Edge i j), omega (arith, tell.edges, in_rows Edge _ l), old_marks Edge _ l, record { from = o.0; to = o.1; weight = o.2 ∙ x.3 })),
      λ x. (let l = old_row_of Edge x.0 x.2 in
          let y = edge_by_keys x.0 i j l x.3.from x.3.to in
          let pos : 1 ≤ x.0 = (linked_row (R.state 0) Edge x.0 l).0 in
          let o = edge_joins i j x.0 y.0 y.1 y.2 l pos in
          (shows.edges i j w).1 (key_back i y.0, key_back j y.1, omega (arith, y.2, pos), ap (λ q. number_at R 0 (cell.Weight q)) y.2 ∙ sym o.2 ∙ x.3.weight)),
    )

pub runs_start_shown : RunsStartShown
runs_start_shown R now g shows x same tell = (
  record {
    vertices = λ i. subst (λ (c : ℕ → ℕ). (g.has i ≡ true) ↔ ((v : ℕ) × (v < x.marks.vertices) × Old c (x.marks.vertex_ins v) × (x.marks.key_of v ≡ i))) (sym same) (vertex_shown R now x.marks tell g shows i);
    edges = λ i j w. subst (λ (c : ℕ → ℕ). (g.edge i j ≡ Some w) ↔ ((e : ℕ) × (e < x.marks.edges) × Old c (x.marks.edge_ins e) × Joins x.marks e i j w)) (sym same) (edge_shown R now x.marks tell g shows i j w);
  },
  record {
    vertices = λ v o. none_old R now x.marks tell Vertex v (subst (λ (c : ℕ → ℕ). Old c (x.marks.vertex_del v)) same o);
    edges = λ e o. none_old R now x.marks tell Edge e (subst (λ (c : ℕ → ℕ). Old c (x.marks.edge_del e)) same o);
  },
)
