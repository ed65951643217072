-- The rows that are visible by the marks are visible by the memory.
use Rattle.std.proofs.Common.{◌≡◌, ℕ, ◌<◌, ◌≤◌, ◌⊎◌, refl, sym, ap, ◌∙◌, inl, inr, arith}
use Rattle.layout.specs.declared.names.Head.TheVariants as head
use Rattle.places.specs.declared.mark.Mark as places
use Rattle.places.specs.declared.mark.Mark.TheVariants.{NotEnded, Pending, Stamp}
use Rattle.questions.specs.Graph.{Graph}
use Rattle.order.specs.Marks.{Marks}
use Rattle.order.specs.Raises.{VertexVisibleByMarks, EdgeVisibleByMarks, Joins, ShowsVisible}
use Rattle.walks.specs.Courses.{Course, CourseLinked, Laws}
use Rattle.walks.specs.Visible.{Visible, EdgeVisible, Stands}
use Rattle.walks.specs.Told.{TellsMark, MarksTellCourse, MarksShow}

-- the number of a mark and its stamp are at most t together
pub record StampUpto (v : places.Mark) (t : ℕ) : Type 0 where
  pub number : ℕ
  pub is : v ≡ Stamp number
  pub low : number ≤ t

-- a number up to t is that of a stamp up to t
stamp_of : (first top t : ℕ) (v : places.Mark) (x : ℕ) → first ≤ t → t ≤ top → TellsMark first top v x → x ≤ t → StampUpto v t
stamp_of first top t (Stamp y) x a b (inl e, l) u = record { number = y; is = refl; low = omega arith }
stamp_of first top t (Stamp y) x a b (inr e, l) u = record { number = y; is = refl; low = omega (arith, e.1) }
stamp_of first top t NotEnded x a b l u = absurd (omega arith)
stamp_of first top t Pending x a b l u = absurd (omega arith)

-- a stamp up to t has a number up to t
number_low : (first top t : ℕ) (v : places.Mark) (x y : ℕ) → first ≤ t → TellsMark first top v x → v ≡ Stamp y → y ≤ t → x ≤ t
number_low first top t v x y a w e l = go (rw e at w)
  where
    go : ((x ≡ y) ⊎ ((x ≤ first) × (y ≤ first))) × (y ≤ top) → x ≤ t
    go (inl q, z) = omega arith
    go (inr q, z) = omega (arith, q.0)

-- a number above t is that of a stamp above t
stamp_high : (first top t : ℕ) (v : places.Mark) (x y : ℕ) → first ≤ t → TellsMark first top v x → v ≡ Stamp y → t < x → t < y
stamp_high first top t v x y a w e l = go (rw e at w)
  where
    go : ((x ≡ y) ⊎ ((x ≤ first) × (y ≤ first))) × (y ≤ top) → t < y
    go (inl q, z) = omega arith
    go (inr q, z) = absurd (omega (arith, q.0))

-- a mark that is no stamp up to t has a number above t
above_of : (first top t : ℕ) (v : places.Mark) (x : ℕ) → first ≤ t → t ≤ top → TellsMark first top v x → ((y : ℕ) → v ≡ Stamp y → t < y) → t < x
above_of first top t (Stamp y) x b u (inl e, l) f = omega (arith, f y refl)
above_of first top t (Stamp y) x b u (inr e, l) f = absurd (omega (arith, f y refl, e.1))
above_of first top t NotEnded x b u l f = omega arith
above_of first top t Pending x b u l f = omega arith

module _ (c : Course) (n : ℕ) (law : Laws c n) (k top : ℕ) (m : Marks) (tell : MarksTellCourse c k top m) (t : ℕ) (since : (c.at 0).clock ≤ t) (low : t ≤ top) where
  abbrev first : ℕ
  first = (c.at 0).clock

  vertex_visible : (r : ℕ) → VertexVisibleByMarks m t r → Visible c t k (head.Vertex (m.key_of r)) r
  vertex_visible r v =
      let w = tell.vertex_born r v.row (omega (arith, v.born)) in
      let b = stamp_of first top t _ _ since low (tell.vertex_ins (m.key_of r) r w) v.born in
      record {
        linked = w;
        number = b.number;
        born = b.is;
        low = b.low;
        late = λ x e. stamp_high first top t _ _ x since (tell.vertex_del (m.key_of r) r w) e v.ends;
      }

  vertex_told : (i r : ℕ) → Visible c t k (head.Vertex i) r → VertexVisibleByMarks m t r × (m.key_of r ≡ i)
  vertex_told i r v =
      let w = v.linked in
      let (row, key) = tell.vertex_row i r w in (
        record {
          row = row;
          born = number_low first top t _ _ v.number since (tell.vertex_ins i r w) v.born v.low;
          ends = above_of first top t _ _ since low (tell.vertex_del i r w) v.late;
        },
        key,
      )

  edge_visible : (i j w e : ℕ) → EdgeVisibleByMarks m t e → Joins m e i j w → EdgeVisible c t k i j e × (c.weight e ≡ w)
  edge_visible i j w e v o =
      let l : CourseLinked c k (head.Edge i j) e = rw (o.from, o.to) at (tell.edge_born e v.row (omega (arith, v.born))) in
      let b = stamp_of first top t _ _ since low (tell.edge_ins i j e l) v.born in
      let source : m.source e ≡ c.source e = tell.source i j e l in
      let target : m.target e ≡ c.target e = tell.target i j e l in (
        record {
          row = record {
            linked = l;
            number = b.number;
            born = b.is;
            low = b.low;
            late = λ x q. stamp_high first top t _ _ x since (tell.edge_del i j e l) q v.ends;
          };
          source = rw source at (rw o.from at (vertex_visible (m.source e) v.source));
          target = rw target at (rw o.to at (vertex_visible (m.target e) v.target));
        },
        sym (tell.weight i j e l) ∙ o.weight,
      )

  edge_told : (i j e : ℕ) → EdgeVisible c t k i j e → EdgeVisibleByMarks m t e × Joins m e i j (c.weight e)
  edge_told i j e v =
      let l = v.row.linked in
      let source : m.source e ≡ c.source e = tell.source i j e l in
      let target : m.target e ≡ c.target e = tell.target i j e l in
      let (s, from) = vertex_told i (c.source e) v.source in
      let (d, to) = vertex_told j (c.target e) v.target in (
        record {
          row = tell.edge_row i j e l;
          born = number_low first top t _ _ v.row.number since (tell.edge_ins i j e l) v.row.born v.row.low;
          ends = above_of first top t _ _ since low (tell.edge_del i j e l) v.row.late;
          source = rw source s;
          target = rw target d;
        },
        record { from = ap m.key_of source ∙ from; to = ap m.key_of target ∙ to; weight = tell.weight i j e l },
      )

  stands : (g : Graph) → ShowsVisible m t g → Stands c t k g
  stands g h = record {
    vertices = λ i. (
      (λ e. (let (r, v, q) = (h.vertices i).0 e in (r, rw q at (vertex_visible r v)))),
      (λ o. (let (r, v) = o in let (u, q) = vertex_told i r v in (h.vertices i).1 (r, u, q))),
    );
    edges = λ i j w. (
      (λ e. (let (r, v, o) = (h.edges i j w).0 e in let (u, q) = edge_visible i j w r v o in (r, u, q))),
      (λ o. (let (r, v, q) = o in let (u, x) = edge_told i j r v in (h.edges i j w).1 (r, u, rw q at x))),
    );
  }

pub marks_show : MarksShow
marks_show c n law k top m tell t since low g h = stands c n law k top m tell t since low g h
