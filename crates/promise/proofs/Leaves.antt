-- The cells of a run show the rows that are there by the last stamp.
use Rattle.std.proofs.Common.{◌≡◌, ℕ, suc, ◌+◌, ◌<◌, ◌≤◌, Bool, true, false, cond, not, ◌&&◌, is_some, Some, None, ◌==◌, nat_lt, refl, sym, ◌∙◌, ap, ap₂, subst, inl, inr, arith}
use Rattle.std.proofs.lemmas.Bool.{and_parts, and_from, lt-ltb, ne_eqb, eq-eqb, eqb-true, false≢true}
use Rattle.std.proofs.lemmas.Bool.Decides.{nat_tests}
use Rattle.layout.specs.declared.names.Kind.{Kind}
use Rattle.layout.specs.declared.names.Kind.TheVariants.{Vertex, Edge}
use Rattle.layout.specs.declared.names.Field.TheVariants.{Ins, Del}
use Rattle.layout.specs.declared.names.Head.{Head}
use Rattle.layout.specs.declared.names.Head.TheVariants as head
use Rattle.layout.specs.Layout.{Named}
use Rattle.layout.specs.declared.names.Cell.{Cell}
use Rattle.layout.specs.declared.names.Cell.TheVariants as cell
use Rattle.layout.specs.Rows.{rows_all}
use Rattle.places.specs.declared.mark.Mark.{Mark as View}
use Rattle.places.specs.declared.mark.Mark.TheVariants.{NotEnded, Pending, Stamp}
use Rattle.places.specs.declared.place.Bound.{Bound}
use Rattle.places.specs.declared.place.Change.TheVariants as change
use Rattle.places.specs.Marks.{mark_of, stamp_of}
use Rattle.places.specs.Touches.{head_kind}
use Rattle.machine.specs.Turns.{cell_at}
use Rattle.order.specs.Marks.{Mark, Marks}
use Rattle.order.specs.Raises.{VertexVisibleByMarks, EdgeVisibleByMarks, Joins, ShowsVisible}
use Rattle.order.specs.Marked.{Marked}
use Rattle.runs.specs.Runs.{RunInTime}
use Rattle.runs.specs.Views.{number_at, clock_at, head_at, mark_at, LinkedAt}
use Rattle.runs.specs.Known.{Dead, Living, LinkEvent}
use Rattle.runs.specs.Marking.{old_mark, ins_of, del_of, MarksTellRun}
use Rattle.runs.proofs.Heads.{row_pos, key_event, stays_or_dead}
use Rattle.runs.proofs.Events.{worker_knows, vertex_key, stamp_kept, living_from}
use Rattle.runs.proofs.EdgeEvents.{head_is_linked, Still, Still.heads, Still.ends, Still.lone, still, Since, since_link, old_bound, old_edge_of, bound_since}
use Rattle.runs.proofs.Births.{vertex_change, edge_change_of, Birth, Way, Way.from_start, Way.by_link, born_or}
use Rattle.promise.specs.Left.{head_row, is_there, has_in, joins, has_edge}
use Rattle.promise.specs.Bridges.{past_at, graph_at}
use Rattle.promise.specs.Keyed.{marking, RunsLeave, KeysSuffice}
use Rattle.laws.proofs.Runs.{runs_sound as sound}
use Rattle.runs.proofs.Times.{runs_last as last}
use Rattle.runs.proofs.Ends.{runs_events as events}
use Rattle.runs.proofs.MarkSound.{runs_marked as marks}
use Rattle.runs.proofs.Starts.{runs_start_shown as starts}
use Rattle.runs.proofs.Steps.{sizes_at}
use Rattle.laws.proofs.Owned.{linked_row}
use Rattle.order.proofs.Ends.{old_rows_stand as stand}

some_stamp : (m : View) → is_some (stamp_of m) ≡ true → (n : ℕ) × (m ≡ Stamp n)
some_stamp NotEnded e = absurd (false≢true e)
some_stamp Pending e = absurd (false≢true e)
some_stamp (Stamp n) e = (n, refl)

no_stamp : (m : View) → ((n : ℕ) → ¬ (m ≡ Stamp n)) → is_some (stamp_of m) ≡ false
no_stamp NotEnded h = refl
no_stamp Pending h = refl
no_stamp (Stamp n) h = absurd (h n refl)

not_true : (t : Bool) → not t ≡ true → t ≡ true → ⊥
not_true true e f = false≢true e
not_true false e f = false≢true f

when_so : {X : Type 0} (t : Bool) (x y : X) → cond t (Some x) None ≡ Some y → (t ≡ true) × (x ≡ y)
when_so true x y e = (refl, cc)
when_so false x y e = absurd (let f : None ≡ Some y = e in cc)

module _ (R : RunInTime) (now : ℕ) where
  cell_is : (c : Cell) → number_at R now c ≡ cell_at R.sizes (R.state now).cells c
  cell_is c = ap (λ z. cell_at z (R.state now).cells c) (sizes_at R now)

  -- a row whose ins bears a stamp, and whose del bears none
  pub record There (k : Kind) (r : ℕ) : Type 0 where
    pub some : 0 < r
    pub stamp : ℕ
    pub born : mark_at R now k Ins r ≡ Stamp stamp
    pub stays : (n : ℕ) → ¬ (mark_at R now k Del r ≡ Stamp n)

  there : (k : Kind) (r : ℕ) → is_there R.sizes (R.state now).cells k r ≡ true → There k r
  there k r e =
      let (some, rest) = and_parts (not (r == 0)) _ e in
      let (ins, del) = and_parts (is_some (stamp_of (mark_of (cell_at R.sizes (R.state now).cells (cell.Stamp k Ins r))))) (not (is_some (stamp_of (mark_of (cell_at R.sizes (R.state now).cells (cell.Stamp k Del r)))))) rest in
      let (n, b) = some_stamp (mark_of (cell_at R.sizes (R.state now).cells (cell.Stamp k Ins r))) ins in
      record {
        some = grind (arith, nat_tests);
        stamp = n;
        born = ap mark_of (cell_is (cell.Stamp k Ins r)) ∙ b;
        stays = λ n f. not_true (is_some (stamp_of (mark_of (cell_at R.sizes (R.state now).cells (cell.Stamp k Del r))))) del (ap (λ m. is_some (stamp_of m)) (sym (ap mark_of (cell_is (cell.Stamp k Del r))) ∙ f));
      }

  is_so : (k : Kind) (r : ℕ) → There k r → is_there R.sizes (R.state now).cells k r ≡ true
  is_so k r t =
      let some : (r == 0) ≡ false = ne_eqb r 0 (λ e. omega (arith, t.some, e)) in
      let ins : is_some (stamp_of (mark_of (cell_at R.sizes (R.state now).cells (cell.Stamp k Ins r)))) ≡ true = ap (λ m. is_some (stamp_of m)) (ap mark_of (sym (cell_is (cell.Stamp k Ins r))) ∙ t.born) in
      let del : is_some (stamp_of (mark_of (cell_at R.sizes (R.state now).cells (cell.Stamp k Del r)))) ≡ false = no_stamp _ (λ n f. t.stays n (ap mark_of (cell_is (cell.Stamp k Del r)) ∙ f)) in
      rw (some, ins, del) refl

  module _ (m : Marks) (tells : MarksTellRun R now m) where
    abbrev top : ℕ
    top = clock_at R now

    -- the head of a key is a row of this key
    key_told : (i : ℕ) → i < R.sizes.keys → 0 < head_at R now (head.Vertex i) → m.key_of (head_at R now (head.Vertex i)) ≡ i
    key_told i l some = elim ((last R).head now (head.Vertex i) l some) [
      | inl e ↦ tells.old_key i _ l (sym e) some
      | inr p ↦ (let ev = key_event R now (worker_knows R now) p.time p.before i _ p.held in tells.key p.time ev.0 i _ ev.1 p.before)
    ]

    -- and so is what was alive there
    living_told : (j s t : ℕ) → j < R.sizes.keys → t ≤ now → Living R t j s → m.key_of s ≡ j
    living_told j s t n l v = elim (living_from R n v) [
      | inl e ↦ tells.old_key j s n e (row_pos R t s v.linked)
      | inr p ↦ tells.key p.time p.held.0 j s p.held.1 (omega (arith, p.before, l))
    ]

    old_low : (k : Kind) → (old_mark R k).stamp ≤ top
    old_low Vertex = omega arith
    old_low Edge = ((last R).times 0 now (omega arith)).clock

    -- the marks of a linked row that is there
    born_low : (k : Kind) (r : ℕ) → LinkedAt R now k r → There k r → (ins_of m k r).stamp ≤ top
    born_low k r l t = elim ((events R).linked now k r l) [
      | inl o ↦ subst (λ (x : Mark). x.stamp ≤ top) (sym (tells.old k r o)) (old_low k)
      | inr p ↦ (
          let e = tells.born k r p.time t.stamp l p.held t.born in
          let x = (events R).link_stamp k r p.time now t.stamp p.held p.before t.born in
          subst (λ (x : Mark). x.stamp ≤ top) (sym e) x.1)
    ]

    ends_high : (k : Kind) (r : ℕ) → There k r → top < (del_of m k r).stamp
    ends_high k r t =
        let e = tells.unended k r (λ x. t.stays x.1.number x.1.is) in
        subst (λ (x : Mark). top < x.stamp) (sym e) (omega arith)

    -- and a row with such marks is there
    told_there : (k : Kind) (r : ℕ) → (ins_of m k r).stamp ≤ top → top < (del_of m k r).stamp → (h : Birth R now k r) × There k r
    told_there k r low high = elim (born_or R now k r) [
      | inl h ↦ (let b = bears h.time h.stamp h.way in (h, record { some = (linked_row (R.state now) k r h.linked).0; stamp = b.0; born = b.1; stays = stays h.linked }))
      | inr n ↦ absurd (let e = tells.unborn k r n in let x : top + 2 ≤ top = subst (λ (x : Mark). x.stamp ≤ top) e low in omega (arith, x))
    ]
      where
        bears : (p n : ℕ) → Way R now k r p n → (n : ℕ) × (mark_at R now k Ins r ≡ Stamp n)
        bears p n (from_start o a b) = (let x = (last R).old_row k r o in (x.number, stamp_kept R 0 now k Ins r x.number (omega arith) o x.stamp))
        bears p n (by_link x) = (n, x.is)

        stays : LinkedAt R now k r → (n : ℕ) → ¬ (mark_at R now k Del r ≡ Stamp n)
        stays l n f = (
            let p = (events R).ended now k r l (λ z. absurd (let x : NotEnded ≡ Stamp n = sym z ∙ f in cc)) in
            let e = tells.ended k r p.time n l p.held f in
            let x = (events R).end_stamp k r p.time now n p.held p.before f in
            let y : top < n = subst (λ (x : Mark). top < x.stamp) e high in
            omega (arith, x.1, y))

    rows_same : (k : Kind) → rows_all (R.state now).sizes k ≡ rows_all R.sizes k
    rows_same k = ap (λ z. rows_all z k) (sizes_at R now)

    vertex_row : (r : ℕ) → LinkedAt R now Vertex r → r < m.vertices
    vertex_row r l = omega (arith, tells.vertices, (linked_row (R.state now) Vertex r l).1, rows_same Vertex)

    edge_row : (r : ℕ) → LinkedAt R now Edge r → r < m.edges
    edge_row r l = omega (arith, tells.edges, (linked_row (R.state now) Edge r l).1, rows_same Edge)

    -- a vertex that is shown
    visible : (i : ℕ) → has_in R.sizes (R.state now).cells i ≡ true → VertexVisibleByMarks m top (head_at R now (head.Vertex i)) × (m.key_of (head_at R now (head.Vertex i)) ≡ i)
    visible i e =
        let (l, t) = and_parts (nat_lt i R.sizes.keys) (is_there R.sizes (R.state now).cells Vertex (head_row R.sizes (R.state now).cells (head.Vertex i))) e in
        let key : i < R.sizes.keys = grind (arith, nat_tests) in
        let here : There Vertex (head_at R now (head.Vertex i)) = subst (There Vertex) (sym (cell_is (cell.Head (head.Vertex i)))) (there Vertex _ t) in
        let linked = head_is_linked R now (head.Vertex i) key here.some in
        (record { row = vertex_row _ linked; born = born_low Vertex _ linked here; ends = ends_high Vertex _ here }, key_told i key here.some)

    -- a visible vertex row is the head of its key
    pub record Heads (i v : ℕ) : Type 0 where
      pub key : i < R.sizes.keys
      pub head : head_at R now (head.Vertex i) ≡ v
      pub there : There Vertex v

    -- a row that is born was the head of its key at some time
    record WasHead (i v : ℕ) : Type 0 where
      pub time : ℕ
      pub before : time ≤ now
      pub key : i < R.sizes.keys
      pub head : head_at R time (head.Vertex i) ≡ v

    old_head : (i v : ℕ) → m.key_of v ≡ i → (h : Head) → Named R.sizes (cell.Head h) → head_kind h ≡ Vertex → head_at R 0 h ≡ v → 0 < v → WasHead i v
    old_head i v e (head.Edge a b) n k z some = absurd cc
    old_head i v e (head.Vertex a) n k z some =
        let q : a ≡ i = sym (tells.old_key a v n z some) ∙ e in
        record { time = 0; before = omega arith; key = subst (λ j. j < R.sizes.keys) q n; head = ap (λ j. head_at R 0 (head.Vertex j)) (sym q) ∙ z }

    was_head : (i v p n : ℕ) → m.key_of v ≡ i → 0 < v → Way R now Vertex v p n → WasHead i v
    was_head i v p n e some (from_start o a b) = let x = (last R).old_row Vertex v o in old_head i v e x.head x.named x.kind x.is some
    was_head i v p n e some (by_link x) =
        let (j, c) = vertex_change x.linking.change x.linking.kind in
        let ev : LinkEvent R p x.linking.began (change.Vertex j) v = subst (λ d. LinkEvent R p x.linking.began d v) c x.linking.event in
        let same : j ≡ i = sym (tells.key p x.linking.began j v ev x.before) ∙ e in
        let ev′ : LinkEvent R p x.linking.began (change.Vertex i) v = subst (λ j. LinkEvent R p x.linking.began (change.Vertex j) v) same ev in
        record { time = suc p; before = x.before; key = vertex_key R ev′; head = ev′.step.head }

    heads_at : (i v : ℕ) → VertexVisibleByMarks m top v → m.key_of v ≡ i → Heads i v
    heads_at i v x e =
        let (h, t) = told_there Vertex v x.born x.ends in
        let w = was_head i v h.time h.stamp e t.some h.way in
        record {
          key = w.key;
          head = elim (stays_or_dead R now (worker_knows R now) i w.key v w.time now t.some w.before (omega arith) w.head) [
            | inl q ↦ q
            | inr d ↦ absurd (t.stays d.ended.number d.ended.is)
          ];
          there = t;
        }

    has_now : (i v : ℕ) → Heads i v → has_in R.sizes (R.state now).cells i ≡ true
    has_now i v x =
        let t : is_there R.sizes (R.state now).cells Vertex (head_row R.sizes (R.state now).cells (head.Vertex i)) ≡ true = is_so Vertex _ (subst (There Vertex) (sym x.head ∙ cell_is (cell.Head (head.Vertex i))) x.there) in
        rw (lt-ltb i R.sizes.keys x.key, t) refl

    key_of_has : (i : ℕ) → has_in R.sizes (R.state now).cells i ≡ true → i < R.sizes.keys
    key_of_has i e = (let t = (and_parts (nat_lt i R.sizes.keys) _ e).0 in grind (arith, nat_tests))

    is_head : (e : ℕ) (d : Bound) → There Edge e → Still R now (head.Edge d.pair.from d.pair.to) e d → ¬ (Dead R now d.source) → ¬ (Dead R now d.target) → head_at R now (head.Edge d.pair.from d.pair.to) ≡ e
    is_head e d t (heads q) n o = q
    is_head e d t (ends s) n o = absurd (t.stays s.number s.is)
    is_head e d t (lone (inl x)) n o = absurd (n x)
    is_head e d t (lone (inr x)) n o = absurd (o x)

    -- the edge of a pair
    edge_visible : (i j x : ℕ) → (graph_at R now).edge i j ≡ Some x → (e : ℕ) × EdgeVisibleByMarks m top e × Joins m e i j x
    edge_visible i j x f =
        let (t, w) = when_so (has_edge R.sizes (R.state now).cells i j) _ x f in
        let (both, rest) = and_parts (has_in R.sizes (R.state now).cells i && has_in R.sizes (R.state now).cells j) _ t in
        let (from, to) = and_parts (has_in R.sizes (R.state now).cells i) (has_in R.sizes (R.state now).cells j) both in
        let (is, bound) = and_parts (is_there R.sizes (R.state now).cells Edge (head_row R.sizes (R.state now).cells (head.Edge i j))) (joins R.sizes (R.state now).cells (head_row R.sizes (R.state now).cells (head.Edge i j)) i j) rest in
        let e : ℕ = head_row R.sizes (R.state now).cells (head.Edge i j) in
        let (s, d) = and_parts (cell_at R.sizes (R.state now).cells (cell.Source e) == head_row R.sizes (R.state now).cells (head.Vertex i)) (cell_at R.sizes (R.state now).cells (cell.Target e) == head_row R.sizes (R.state now).cells (head.Vertex j)) bound in
        let here = there Edge e is in
        let high : 0 < head_at R now (head.Edge i j) = subst (λ e. 0 < e) (sym (cell_is (cell.Head (head.Edge i j)))) here.some in
        let ki : i < R.sizes.keys = key_of_has i from in
        let kj : j < R.sizes.keys = key_of_has j to in
        let linked : LinkedAt R now Edge e = subst (LinkedAt R now Edge) (cell_is (cell.Head (head.Edge i j))) (head_is_linked R now (head.Edge i j) (ki, kj) high) in
        let source : m.source e ≡ head_at R now (head.Vertex i) = tells.source e ∙ cell_is (cell.Source e) ∙ eqb-true _ _ s ∙ sym (cell_is (cell.Head (head.Vertex i))) in
        let target : m.target e ≡ head_at R now (head.Vertex j) = tells.target e ∙ cell_is (cell.Target e) ∙ eqb-true _ _ d ∙ sym (cell_is (cell.Head (head.Vertex j))) in
        let u = visible i from in
        let v = visible j to in (
          e,
          record {
            row = edge_row e linked;
            born = born_low Edge e linked here;
            ends = ends_high Edge e here;
            source = subst (VertexVisibleByMarks m top) (sym source) u.0;
            target = subst (VertexVisibleByMarks m top) (sym target) v.0;
          },
          record { from = ap m.key_of source ∙ u.1; to = ap m.key_of target ∙ v.1; weight = tells.weight e ∙ cell_is (cell.Weight e) ∙ w },
        )

    -- an edge row that is born has stood at its pair since some time
    record Stood (e : ℕ) : Type 0 where
      pub time : ℕ
      pub before : time ≤ now
      pub bound : Bound
      pub since : Since R time e bound

    stood : (e p n : ℕ) → Way R now Edge e p n → Stood e
    stood e p n (from_start o a b) =
        let x = old_edge_of R e o in
        record { time = 0; before = omega arith; bound = old_bound R x.from x.to e; since = x.since }
    stood e p n (by_link x) =
        let (d, c) = edge_change_of x.linking.change x.linking.kind in
        let ev : LinkEvent R p x.linking.began (change.Edge d) e = subst (λ d. LinkEvent R p x.linking.began d e) c x.linking.event in
        record { time = suc p; before = x.before; bound = d; since = since_link R ev }

    edge_shown : (i j x e : ℕ) → EdgeVisibleByMarks m top e → Joins m e i j x → (graph_at R now).edge i j ≡ Some x
    edge_shown i j x e v a =
        let (h, t) = told_there Edge e v.born v.ends in
        let w = stood e h.time h.stamp h.way in
        let d : Bound = w.bound in
        let s = heads_at i (m.source e) v.source a.from in
        let u = heads_at j (m.target e) v.target a.to in
        let bound = bound_since R w.since now w.before in
        let source : m.source e ≡ d.source = tells.source e ∙ bound.0 in
        let target : m.target e ≡ d.target = tells.target e ∙ bound.1 in
        let from : d.pair.from ≡ i = sym (living_told d.pair.from d.source w.since.source_time w.since.keys.0 (omega (arith, w.since.source_by, w.before)) w.since.source) ∙ ap m.key_of (sym source) ∙ a.from in
        let to : d.pair.to ≡ j = sym (living_told d.pair.to d.target w.since.target_time w.since.keys.1 (omega (arith, w.since.target_by, w.before)) w.since.target) ∙ ap m.key_of (sym target) ∙ a.to in
        let there_from = λ (dead : Dead R now d.source). s.there.stays dead.ended.number (ap (mark_at R now Vertex Del) source ∙ dead.ended.is) in
        let there_to = λ (dead : Dead R now d.target). u.there.stays dead.ended.number (ap (mark_at R now Vertex Del) target ∙ dead.ended.is) in
        let at : head_at R now (head.Edge i j) ≡ e = ap₂ (λ i j. head_at R now (head.Edge i j)) (sym from) (sym to) ∙ is_head e d t (still R w.since now w.before) there_from there_to in
        let row : head_row R.sizes (R.state now).cells (head.Edge i j) ≡ e = sym (cell_is (cell.Head (head.Edge i j))) ∙ at in
        let one : (cell_at R.sizes (R.state now).cells (cell.Source e) == head_row R.sizes (R.state now).cells (head.Vertex i)) ≡ true = eq-eqb _ _ (sym (tells.source e ∙ cell_is (cell.Source e)) ∙ sym s.head ∙ cell_is (cell.Head (head.Vertex i))) in
        let two : (cell_at R.sizes (R.state now).cells (cell.Target e) == head_row R.sizes (R.state now).cells (head.Vertex j)) ≡ true = eq-eqb _ _ (sym (tells.target e ∙ cell_is (cell.Target e)) ∙ sym u.head ∙ cell_is (cell.Head (head.Vertex j))) in
        let three : joins R.sizes (R.state now).cells (head_row R.sizes (R.state now).cells (head.Edge i j)) i j ≡ true = ap (λ e. joins R.sizes (R.state now).cells e i j) row ∙ and_from _ _ one two in
        let four : is_there R.sizes (R.state now).cells Edge (head_row R.sizes (R.state now).cells (head.Edge i j)) ≡ true = ap (is_there R.sizes (R.state now).cells Edge) row ∙ is_so Edge e t in
        let all : has_edge R.sizes (R.state now).cells i j ≡ true = and_from (has_in R.sizes (R.state now).cells i && has_in R.sizes (R.state now).cells j) _ (and_from _ _ (has_now i (m.source e) s) (has_now j (m.target e) u)) (and_from _ _ four three) in
        let weight : cell_at R.sizes (R.state now).cells (cell.Weight (head_row R.sizes (R.state now).cells (head.Edge i j))) ≡ x = ap (λ e. cell_at R.sizes (R.state now).cells (cell.Weight e)) row ∙ sym (cell_is (cell.Weight e)) ∙ sym (tells.weight e) ∙ a.weight in
        ap (λ t. cond t (Some (cell_at R.sizes (R.state now).cells (cell.Weight (head_row R.sizes (R.state now).cells (head.Edge i j))))) None) all ∙ ap (λ x. Some x) weight

    pub leaves : ShowsVisible m top (graph_at R now)
    leaves = record {
      vertices = λ i. (
        λ e. (let u = visible i e in (head_at R now (head.Vertex i), u.0, u.1)),
        λ x. has_now i x.0 (heads_at i x.0 x.1 x.2),
      );
      edges = λ i j x. (edge_visible i j x, λ v. edge_shown i j x v.0 v.1 v.2);
    }

pub runs_leave : RunsLeave
runs_leave R now m tells = leaves R now m tells

pub keys_suffice : KeysSuffice
keys_suffice keyed R g shows now =
    let m = marks R now in
    let (key, change, calls) = keyed R now m in
    let run = marking R now m.marks key change in
    let later = λ (s t : ℕ) (l : s ≤ t). ((last R).times s t l).clock in
    let marked : Marked (past_at R now) run = record {
      rises = later;
      start_stamp = later 0 now (omega arith);
      some_time = omega arith;
      keyed = calls.keyed;
      calls = calls.calls;
      apart = calls.apart;
      sound = m.sound;
      vertex_births = calls.vertex_births;
      vertex_endings = calls.vertex_endings;
      edge_births = calls.edge_births;
      edge_endings = calls.edge_endings;
    } in
    let old = starts R now g shows run refl m.tells in
    stand (past_at R now) run marked old.1 g (graph_at R now) old.0 (leaves R now m.marks m.tells)
