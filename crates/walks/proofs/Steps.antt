-- What walks use of the memory, from what each step does.
use Rattle.std.proofs.Common.{◌≡◌, ℕ, zero, suc, ◌<◌, ◌≤◌, ◌≢◌, ◌⊎◌, refl, sym, ◌∙◌, inl, inr, arith}
use Rattle.std.proofs.Math.Decide.{le_ind}
use Rattle.std.proofs.lemmas.Bool.{cases_lt}
use Rattle.layout.specs.declared.names.Kind.TheVariants as kind
use Rattle.layout.specs.declared.names.Field.{Field}
use Rattle.layout.specs.declared.names.Field.TheVariants.{Ins, Del}
use Rattle.layout.specs.declared.names.Head.{Head}
use Rattle.layout.specs.declared.names.Head.TheVariants as head
use Rattle.layout.specs.Rows.{no_row}
use Rattle.places.specs.Touches.{head_kind}
use Rattle.places.specs.declared.mark.Mark.TheVariants.{NotEnded, Pending, Stamp}
use Rattle.walks.specs.Memory.{mark_in}
use Rattle.walks.specs.Courses.{Course, CourseStamped, Gone, CourseLink, Old, Binding, CourseLinked, Laws}
use Rattle.walks.specs.Steps.{HeadBetween, Replaced, EdgeLinks, CourseLinkStep, CourseStepLinked, MarkMoves, stays, ends, stamps, Steps, StepsGiveLaws}
use Rattle.walks.proofs.Times.{ordered, later, same_stamp}

module _ (c : Course) (n : ℕ) (st : Steps c n) where
  later_was : {k l : ℕ} {h : Head} {r : ℕ} → k ≤ l → CourseStepLinked c n k h r → CourseStepLinked c n l h r
  later_was u (inl o) = inl o
  later_was u (inr w) = inr (later u w)

  clock_mono : (k l : ℕ) → k ≤ l → (c.at k).clock ≤ (c.at l).clock
  clock_mono k l u = le_ind (λ m. (c.at k).clock ≤ (c.at m).clock) (omega arith) (λ m a h. omega (arith, st.clock_rises m)) l u

  keep_one : (k : ℕ) (h : Head) (f : Field) (r x : ℕ) → CourseStepLinked c n k h r → mark_in (c.at k) (head_kind h) f r ≡ Stamp x → mark_in (c.at (suc k)) (head_kind h) f r ≡ Stamp x
  keep_one k h f r x w e = by_move (st.marks k h f r w)
    where
      by_move : MarkMoves c n k h f r (mark_in (c.at k) (head_kind h) f r) (mark_in (c.at (suc k)) (head_kind h) f r) → mark_in (c.at (suc k)) (head_kind h) f r ≡ Stamp x
      by_move (stays q) = q ∙ e
      by_move (ends q u) = absurd (no_stamp (sym q ∙ e))
        where
          no_stamp : NotEnded ≡ Stamp x → ⊥
          no_stamp z = grind arith
      by_move (stamps y a q u l v z o) = absurd (no_stamp (sym q ∙ e))
        where
          no_stamp : Pending ≡ Stamp x → ⊥
          no_stamp z = grind arith

  begun_one : (k : ℕ) (h : Head) (f : Field) (r : ℕ) → CourseStepLinked c n k h r → mark_in (c.at k) (head_kind h) f r ≢ NotEnded → mark_in (c.at (suc k)) (head_kind h) f r ≢ NotEnded
  begun_one k h f r w e z = by_move (st.marks k h f r w)
    where
      no_pending : Pending ≡ NotEnded → ⊥
      no_pending z = grind arith

      no_stamp : (x : ℕ) → Stamp x ≡ NotEnded → ⊥
      no_stamp x z = grind arith

      by_move : MarkMoves c n k h f r (mark_in (c.at k) (head_kind h) f r) (mark_in (c.at (suc k)) (head_kind h) f r) → ⊥
      by_move (stays q) = e (sym q ∙ z)
      by_move (ends q u) = no_pending (sym u ∙ z)
      by_move (stamps x a q u l v y o) = no_stamp x (sym u ∙ z)

  begun : (k l : ℕ) (h : Head) (f : Field) (r : ℕ) → k ≤ l → CourseStepLinked c n k h r → mark_in (c.at k) (head_kind h) f r ≢ NotEnded → mark_in (c.at l) (head_kind h) f r ≢ NotEnded
  begun k l h f r u w e = le_ind (λ m. mark_in (c.at m) (head_kind h) f r ≢ NotEnded) e (λ m a g. begun_one m h f r (later_was a w) g) l u

  keep : (k l : ℕ) (h : Head) (f : Field) (r x : ℕ) → k ≤ l → CourseStepLinked c n k h r → mark_in (c.at k) (head_kind h) f r ≡ Stamp x → mark_in (c.at l) (head_kind h) f r ≡ Stamp x
  keep k l h f r x u w e = le_ind (λ m. mark_in (c.at m) (head_kind h) f r ≡ Stamp x) e (λ m a g. keep_one m h f r x (later_was a w) g) l u

  -- a stamp is what the clock was at a time when the field was not 0 any more
  record StampFrom (k : ℕ) (h : Head) (f : Field) (r x : ℕ) : Type 0 where
    time : ℕ
    before : time < k
    linked : CourseStepLinked c n time h r
    is : mark_in (c.at time) (head_kind h) f r ≢ NotEnded
    number : (c.at time).clock ≡ x

  no_link_stamp : (k : ℕ) (h : Head) (f : Field) (r x : ℕ) → CourseLinkStep c n k h r → mark_in (c.at (suc k)) (head_kind h) f r ≡ Stamp x → ⊥
  no_link_stamp k h Ins r x l e = let q = l.ins in grind arith
  no_link_stamp k h Del r x l e = let q = l.del in grind arith

  -- or it was there at the start
  record StampOld (h : Head) (f : Field) (r x : ℕ) : Type 0 where
    pub old : Old c h r
    pub field : f ≡ Ins
    pub low : x ≤ (c.at 0).clock

  abbrev From : ℕ → Head → Field → ℕ → ℕ → Type 0
  From k h f r x = StampOld h f r x ⊎ StampFrom k h f r x

  from_later : (k : ℕ) (h : Head) (f : Field) (r x : ℕ) → From k h f r x → From (suc k) h f r x
  from_later k h f r x (inl o) = inl o
  from_later k h f r x (inr g) = inr (record { time = g.time; before = omega (arith, g.before); linked = g.linked; is = g.is; number = g.number })

  stamp_step : (k : ℕ) (h : Head) (f : Field) (r x : ℕ) → mark_in (c.at (suc k)) (head_kind h) f r ≡ Stamp x → CourseStepLinked c n k h r →
      ((y : ℕ) → CourseStepLinked c n k h r → mark_in (c.at k) (head_kind h) f r ≡ Stamp y → From k h f r y) →
      MarkMoves c n k h f r (mark_in (c.at k) (head_kind h) f r) (mark_in (c.at (suc k)) (head_kind h) f r) → From (suc k) h f r x
  stamp_step k h f r x e l ih (stays q) = from_later k h f r x (ih x l (sym q ∙ e))
  stamp_step k h f r x e l ih (ends q u) = absurd (no_stamp (sym u ∙ e))
    where
      no_stamp : Pending ≡ Stamp x → ⊥
      no_stamp z = grind arith
  stamp_step k h f r x e l ih (stamps y a q u z v w o) = inr (record { time = a; before = omega arith; linked = v; is = w; number = o ∙ same_stamp u e })

  stamp_at_start : (h : Head) (f : Field) (r x : ℕ) → Old c h r → mark_in (c.at 0) (head_kind h) f r ≡ Stamp x → StampOld h f r x
  stamp_at_start h Ins r x o e = let b = st.old h r o in record { old = o; field = refl; low = omega (arith, b.low, same_stamp b.born.is e) }
  stamp_at_start h Del r x o e = absurd (no_stamp (sym (st.old h r o).alive ∙ e))
    where
      no_stamp : NotEnded ≡ Stamp x → ⊥
      no_stamp z = grind arith

  stamp_from : (k : ℕ) (h : Head) (f : Field) (r x : ℕ) → CourseStepLinked c n k h r → mark_in (c.at k) (head_kind h) f r ≡ Stamp x → From k h f r x
  stamp_from zero h f r x (inl o) e = inl (stamp_at_start h f r x o e)
  stamp_from zero h f r x (inr w) e = absurd (omega (arith, w.before))
  stamp_from (suc k) h f r x (inl o) e = stamp_step k h f r x e (inl o) (stamp_from k h f r) (st.marks k h f r (inl o))
  stamp_from (suc k) h f r x (inr w) e = by_time (ordered w.time k) (stamp_from k h f r)
    where
      by_time : (w.time < k) ⊎ ((w.time ≡ k) ⊎ (k < w.time)) → ((y : ℕ) → CourseStepLinked c n k h r → mark_in (c.at k) (head_kind h) f r ≡ Stamp y → From k h f r y) → From (suc k) h f r x
      by_time (inl l) ih =
          let o : CourseStepLinked c n k h r = inr (record { time = w.time; before = l; was = w.was }) in
          stamp_step k h f r x e o ih (st.marks k h f r o)
      by_time (inr (inl q)) ih = absurd (no_link_stamp k h f r x (rw q at w.was) e)
      by_time (inr (inr l)) ih = absurd (omega (arith, w.before))

  ins_from : (p k : ℕ) (h : Head) (r x : ℕ) → CourseLinkStep c n p h r → p < k → mark_in (c.at k) (head_kind h) Ins r ≡ Stamp x → (c.at p).clock ≤ x
  ins_from p k h r x l b e = by_from (stamp_from k h Ins r x (inr (record { time = p; before = b; was = l })) e)
    where
      by_link : (g : StampFrom k h Ins r x) → CourseStepLinked c n g.time h r → (c.at p).clock ≤ x
      by_link g (inl o) = absurd (l.fresh 0 (omega arith) o.is)
      by_link g (inr w) = elim (cases_lt w.time p) [
        | inl a ↦ absurd (l.fresh (suc w.time) a w.was.is)
        | inr a ↦ omega (arith, clock_mono p g.time (omega (arith, w.before)), g.number)
      ]

      by_from : From k h Ins r x → (c.at p).clock ≤ x
      by_from (inl o) = absurd (l.fresh 0 (omega arith) o.old.is)
      by_from (inr g) = by_link g g.linked

  del_from : (a k : ℕ) (h : Head) (r x : ℕ) → CourseStepLinked c n a h r → mark_in (c.at a) (head_kind h) Del r ≡ NotEnded → a ≤ k → mark_in (c.at k) (head_kind h) Del r ≡ Stamp x → (c.at a).clock ≤ x
  del_from a k h r x w z b e = by_from (stamp_from k h Del r x (later_was b w) e)
    where
      by_from : From k h Del r x → (c.at a).clock ≤ x
      by_from (inl o) = (let q = o.field in absurd cc)
      by_from (inr g) = elim (cases_lt g.time a) [
        | inl l ↦ absurd (begun g.time a h Del r (omega arith) g.linked g.is z)
        | inr l ↦ omega (arith, clock_mono a g.time l, g.number)
      ]

  upto : (k : ℕ) (h : Head) (f : Field) (r x : ℕ) → CourseStepLinked c n k h r → mark_in (c.at k) (head_kind h) f r ≡ Stamp x → x ≤ (c.at k).clock
  upto k h f r x w e = by_from (stamp_from k h f r x w e)
    where
      by_from : From k h f r x → x ≤ (c.at k).clock
      by_from (inl o) = omega (arith, o.low, clock_mono 0 k (omega arith))
      by_from (inr g) = omega (arith, clock_mono g.time k (omega (arith, g.before)), g.number)

  -- a head that is not none was linked
  head_linked : (q : ℕ) (h : Head) → ((c.at q).head h ≡ no_row) ⊎ CourseStepLinked c n q h ((c.at q).head h)
  head_linked zero h = elim (cases_lt 0 ((c.at 0).head h)) [ inl z ↦ inr (inl (record { row = z; is = refl })) | inr z ↦ inl (omega arith) ]
  head_linked (suc q) h = by_head (head_linked q h) (st.heads q h)
    where
      by_head : ((c.at q).head h ≡ no_row) ⊎ CourseStepLinked c n q h ((c.at q).head h) → ((c.at (suc q)).head h ≡ (c.at q).head h) ⊎ CourseLinkStep c n q h ((c.at (suc q)).head h) →
          ((c.at (suc q)).head h ≡ no_row) ⊎ CourseStepLinked c n (suc q) h ((c.at (suc q)).head h)
      by_head o (inr l) = inr (inr (record { time = q; before = omega arith; was = l }))
      by_head (inl o) (inl e) = inl (e ∙ o)
      by_head (inr o) (inl e) = inr (rw e (later_was (omega arith) o))

  was_linked : (q k : ℕ) (h : Head) (r : ℕ) → q ≤ k → (c.at q).head h ≡ r → 0 < r → CourseStepLinked c n k h r
  was_linked q k h r l e z = by_head (head_linked q h)
    where
      by_head : ((c.at q).head h ≡ no_row) ⊎ CourseStepLinked c n q h ((c.at q).head h) → CourseStepLinked c n k h r
      by_head (inl o) = absurd (omega arith)
      by_head (inr o) = later_was l (rw e at o)

  -- a vertex row is the head, or has ended
  ended_one : (k i r : ℕ) → 0 < r → CourseStepLinked c n k (head.Vertex i) r → ((c.at k).head (head.Vertex i) ≡ r) ⊎ CourseStamped c k kind.Vertex Del r →
      ((c.at (suc k)).head (head.Vertex i) ≡ (c.at k).head (head.Vertex i)) ⊎ CourseLinkStep c n k (head.Vertex i) ((c.at (suc k)).head (head.Vertex i)) →
      ((c.at (suc k)).head (head.Vertex i) ≡ r) ⊎ CourseStamped c (suc k) kind.Vertex Del r
  ended_one k i r z w (inr s) u = inr (record { number = s.number; is = keep_one k (head.Vertex i) Del r s.number w s.is })
  ended_one k i r z w (inl e) (inl u) = inl (u ∙ e)
  ended_one k i r z w (inl e) (inr l) = by_over l.over.over
    where
      by_over : ((c.at k).head (head.Vertex i) ≡ no_row) ⊎ (CourseStamped c k kind.Vertex Ins ((c.at k).head (head.Vertex i)) × CourseStamped c k kind.Vertex Del ((c.at k).head (head.Vertex i))) →
          ((c.at (suc k)).head (head.Vertex i) ≡ r) ⊎ CourseStamped c (suc k) kind.Vertex Del r
      by_over (inl o) = absurd (omega arith)
      by_over (inr (a, d)) = inr (record { number = d.number; is = keep_one k (head.Vertex i) Del r d.number w (rw e at d.is) })

  ended : (k i r : ℕ) → CourseStepLinked c n k (head.Vertex i) r → ((c.at k).head (head.Vertex i) ≡ r) ⊎ CourseStamped c k kind.Vertex Del r
  ended k i r (inl o) =
      le_ind (λ m. ((c.at m).head (head.Vertex i) ≡ r) ⊎ CourseStamped c m kind.Vertex Del r) (inl o.is)
      (λ m a g. ended_one m i r o.row (inl o) g (st.heads m (head.Vertex i))) k (omega arith)
  ended k i r (inr w) =
      le_ind (λ m. ((c.at m).head (head.Vertex i) ≡ r) ⊎ CourseStamped c m kind.Vertex Del r) (inl w.was.is)
      (λ m a g. ended_one m i r w.was.row (inr (record { time = w.time; before = a; was = w.was })) g (st.heads m (head.Vertex i))) k w.before

  -- a row that was the head of i, and is not when another row is, has ended
  parted : (p i x y q : ℕ) → CourseStepLinked c n q (head.Vertex i) x → HeadBetween c n q p i y → x ≢ y → CourseStamped c p kind.Vertex Del x
  parted p i x y q w b d = by_head (ended b.time i x (later_was b.after w))
    where
      by_head : ((c.at b.time).head (head.Vertex i) ≡ x) ⊎ CourseStamped c b.time kind.Vertex Del x → CourseStamped c p kind.Vertex Del x
      by_head (inl u) = absurd (d (sym u ∙ b.is))
      by_head (inr s) = record { number = s.number; is = keep b.time p (head.Vertex i) Del x s.number b.before (later_was b.after w) s.is }

  source_linked : (p i j r : ℕ) → CourseLinkStep c n p (head.Edge i j) r → CourseStepLinked c n p (head.Vertex i) (c.source r)
  source_linked p i j r l = let b = l.over.source in was_linked b.time p (head.Vertex i) (c.source r) b.before b.is b.row

  target_linked : (p i j r : ℕ) → CourseLinkStep c n p (head.Edge i j) r → CourseStepLinked c n p (head.Vertex j) (c.target r)
  target_linked p i j r l = let b = l.over.target in was_linked b.time p (head.Vertex j) (c.target r) b.before b.is b.row

  -- so are those of an edge row that was linked
  source_was : (k i j r : ℕ) → CourseStepLinked c n k (head.Edge i j) r → CourseStepLinked c n k (head.Vertex i) (c.source r)
  source_was k i j r (inl o) = inl (st.old (head.Edge i j) r o).of.source
  source_was k i j r (inr w) = later_was (omega (arith, w.before)) (source_linked w.time i j r w.was)

  target_was : (k i j r : ℕ) → CourseStepLinked c n k (head.Edge i j) r → CourseStepLinked c n k (head.Vertex j) (c.target r)
  target_was k i j r (inl o) = inl (st.old (head.Edge i j) r o).of.target
  target_was k i j r (inr w) = later_was (omega (arith, w.before)) (target_linked w.time i j r w.was)

  edge_over : (p i j r : ℕ) → CourseLinkStep c n p (head.Edge i j) r →
      ((c.at p).head (head.Edge i j) ≡ no_row) ⊎ (CourseStamped c p kind.Edge Ins ((c.at p).head (head.Edge i j)) × Gone c p (head.Edge i j) ((c.at p).head (head.Edge i j)))
  edge_over p i j r l = by_over l.over.over (head_linked l.over.read (head.Edge i j))
    where
      e : ℕ
      e = (c.at p).head (head.Edge i j)

      g : EdgeLinks c n p i j r
      g = l.over

      by_over : ((c.at p).head (head.Edge i j) ≡ no_row) ⊎ (CourseStamped c p kind.Edge Ins ((c.at p).head (head.Edge i j)) × Replaced c n p ((c.at p).head (head.Edge i j)) r) →
          ((c.at g.read).head (head.Edge i j) ≡ no_row) ⊎ CourseStepLinked c n g.read (head.Edge i j) ((c.at g.read).head (head.Edge i j)) →
          ((c.at p).head (head.Edge i j) ≡ no_row) ⊎ (CourseStamped c p kind.Edge Ins ((c.at p).head (head.Edge i j)) × Gone c p (head.Edge i j) ((c.at p).head (head.Edge i j)))
      by_over (inl z) o = inl z
      by_over (inr (s, inl d)) o = inr (s, inl d)
      by_over (inr (s, inr d)) (inl z) = inl (sym g.reads ∙ z)
      by_over (inr (s, inr (inl d))) (inr o) =
          let w : CourseStepLinked c n g.read (head.Edge i j) ((c.at p).head (head.Edge i j)) = rw g.reads at o in
          inr (s, inr (inl (parted p i _ _ g.read (source_was g.read i j _ w) g.source d)))
      by_over (inr (s, inr (inr d))) (inr o) =
          let w : CourseStepLinked c n g.read (head.Edge i j) ((c.at p).head (head.Edge i j)) = rw g.reads at o in
          inr (s, inr (inr (parted p j _ _ g.read (target_was g.read i j _ w) g.target d)))

  link_over : (p : ℕ) (h : Head) (r : ℕ) → CourseLinkStep c n p h r → ((c.at p).head h ≡ no_row) ⊎ (CourseStamped c p (head_kind h) Ins ((c.at p).head h) × Gone c p h ((c.at p).head h))
  link_over p (head.Vertex i) r l = l.over.over
  link_over p (head.Edge i j) r l = edge_over p i j r l

  pending_filled : {p : ℕ} {h : Head} {r : ℕ} → CourseLinkStep c n p h r → mark_in (c.at (suc p)) (head_kind h) Ins r ≢ NotEnded
  pending_filled l q = let e = l.ins in grind arith

  -- a link as the walks see it, and back
  to_link : {p : ℕ} {h : Head} {r : ℕ} → CourseLinkStep c n p h r → CourseLink c p h r
  to_link {p} {h} {r} l = record { row = l.row; is = l.is; moved = l.fresh p (omega arith); under = l.under; filled = pending_filled l; over = link_over p h r l }

  to_step : {p : ℕ} {h : Head} {r : ℕ} → CourseLink c p h r → CourseLinkStep c n p h r
  to_step {p} {h} {r} l = by_head (st.heads p h)
    where
      by_head : ((c.at (suc p)).head h ≡ (c.at p).head h) ⊎ CourseLinkStep c n p h ((c.at (suc p)).head h) → CourseLinkStep c n p h r
      by_head (inl e) = absurd (l.moved (sym e ∙ l.is))
      by_head (inr o) = rw l.is at o

  back : {k : ℕ} {h : Head} {r : ℕ} → CourseLinked c k h r → CourseStepLinked c n k h r
  back (inl o) = inl o
  back (inr w) = inr (record { time = w.time; before = w.before; was = to_step w.was })

  forth : {k : ℕ} {h : Head} {r : ℕ} → CourseStepLinked c n k h r → CourseLinked c k h r
  forth (inl o) = inl o
  forth (inr w) = inr (record { time = w.time; before = w.before; was = to_link w.was })

  in_keys : (k i r : ℕ) → CourseStepLinked c n k (head.Vertex i) r → i < n
  in_keys k i r (inl o) = (st.old (head.Vertex i) r o).of
  in_keys k i r (inr w) = w.was.over.key

  bound : (k i j r : ℕ) → CourseStepLinked c n k (head.Edge i j) r → Binding c n k i j r
  bound k i j r (inl o) = (let b = (st.old (head.Edge i j) r o).of in record { from = b.from; to = b.to; apart = b.apart; source = inl b.source; target = inl b.target })
  bound k i j r (inr w) = record { from = w.was.over.from; to = w.was.over.to; apart = w.was.over.apart; source = forth (source_was k i j r (inr w)); target = forth (target_was k i j r (inr w)) }

  heavy : (k i j r : ℕ) → CourseStepLinked c n k (head.Edge i j) r → 0 < c.weight r
  heavy k i j r (inl o) = (st.old (head.Edge i j) r o).of.weight
  heavy k i j r (inr w) = w.was.over.weight

  moves : (k : ℕ) (h : Head) → ((c.at (suc k)).head h ≡ (c.at k).head h) ⊎ CourseLinkStep c n k h ((c.at (suc k)).head h) → ((c.at (suc k)).head h ≡ (c.at k).head h) ⊎ CourseLink c k h ((c.at (suc k)).head h)
  moves k h (inl e) = inl e
  moves k h (inr l) = inr (to_link l)

  laws : Laws c n
  laws = record {
    clock_rises = st.clock_rises;
    clock_stamps = st.clock_stamps;
    old = λ h r o. (let b = st.old h r o in record { under = b.under; born = b.born });
    heads = λ k h. moves k h (st.heads k h);
    keeps = λ k h f r x w e. keep_one k h f r x (back w) e;
    begun = λ k h f r w e. begun_one k h f r (back w) e;
    ins_from = λ p k h r x l b e. ins_from p k h r x (to_step l) b e;
    del_from = λ a k h r x w z b e. del_from a k h r x (back w) z b e;
    upto = λ k h f r x w e. upto k h f r x (back w) e;
    older = λ k h r w. st.older k h r (back w);
    source = λ k i j r w. st.source k i j r (back w);
    target = λ k i j r w. st.target k i j r (back w);
    weight = λ k i j r w. st.weight k i j r (back w);
    keys = λ k i r w. in_keys k i r (back w);
    binds = λ k i j r w. bound k i j r (back w);
    heavy = λ k i j r w. heavy k i j r (back w);
  }

pub steps_give_laws : StepsGiveLaws
steps_give_laws c n st = laws c n st
