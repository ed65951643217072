-- One walk down the rows of a head.
use Rattle.std.proofs.Common.{◌≡◌, ℕ, suc, ◌<◌, ◌≤◌, ◌⊎◌, refl, sym, ap, ◌∙◌, subst, inl, inr, arith}
use Rattle.std.proofs.lemmas.Bool.{cases_lt}
use Rattle.layout.specs.declared.names.Kind.{Kind}
use Rattle.layout.specs.declared.names.Field.TheVariants.{Ins, Del}
use Rattle.layout.specs.declared.names.Head.{Head}
use Rattle.layout.specs.declared.names.Head.TheVariants as head
use Rattle.layout.specs.Rows.{no_row}
use Rattle.places.specs.Touches.{head_kind}
use Rattle.places.specs.declared.mark.Mark.TheVariants.{NotEnded, Stamp}
use Rattle.walks.specs.Memory.{mark_in}
use Rattle.walks.specs.Courses.{Course, CourseBefore, CourseStamped, Gone, CourseLink, Old, CourseLinked, Laws}
use Rattle.walks.specs.Visible.{Visible, EndsVisible, StaysVisible, Found}
use Rattle.walks.proofs.Times.{ordered, linked_later, same_stamp, clock_mono, keeps_later, stamped_later, source_linked, target_linked, Rests, LastLink, head_last, head_linked, head_stays_some, older_gone}

-- ins of a row is above t, or it is not
pub record Above (c : Course) (t k : ℕ) (g : Kind) (r : ℕ) : Type 0 where
  pub number : ℕ
  pub is : mark_in (c.at k) g Ins r ≡ Stamp number
  pub high : t < number

pub record Below (c : Course) (t k : ℕ) (g : Kind) (r : ℕ) : Type 0 where
  pub number : ℕ
  pub is : mark_in (c.at k) g Ins r ≡ Stamp number
  pub low : number ≤ t

-- where a walk stands: at a row that was the head, or under the row of the start, which has ins above t
pub data ChainAt (c : Course) (t k : ℕ) (h : Head) (r when : ℕ) : Type 0 where
  here : (c.at when).head h ≡ r → ChainAt c t k h r when
  under : r ≡ no_row → when ≡ 0 → ((x : ℕ) → Old c h x → Above c t k (head_kind h) x) → ChainAt c t k h r when

-- In a walk: the head was read after the raise; the row in hand was the head at a time not after the read; every row linked in between has ins above t.
pub record Chain (c : Course) (t k : ℕ) (h : Head) (r : ℕ) : Type 0 where
  pub read : ℕ
  pub when : ℕ
  pub order : when ≤ read
  pub before : read ≤ k
  pub late : t < (c.at read).clock
  pub is : ChainAt c t k h r when
  pub above : (p x : ℕ) → when ≤ p → p < read → CourseLink c p h x → Above c t k (head_kind h) x

module _ (c : Course) (n : ℕ) (law : Laws c n) where
  above_later : (t k l : ℕ) (h : Head) (r : ℕ) → k ≤ l → CourseLinked c k h r → Above c t k (head_kind h) r → Above c t l (head_kind h) r
  above_later t k l h r u w a = record { number = a.number; is = keeps_later c n law k l h Ins r a.number u w a.is; high = a.high }

  pub below_later : (t k l : ℕ) (h : Head) (r : ℕ) → k ≤ l → CourseLinked c k h r → Below c t k (head_kind h) r → Below c t l (head_kind h) r
  below_later t k l h r u w a = record { number = a.number; is = keeps_later c n law k l h Ins r a.number u w a.is; low = a.low }

  at_later : (t k l : ℕ) (h : Head) (r w : ℕ) → k ≤ l → ChainAt c t k h r w → ChainAt c t l h r w
  at_later t k l h r w u (here e) = here e
  at_later t k l h r w u (under e z f) = under e z (λ x o. above_later t k l h x u (inl o) (f x o))

  pub chain_later : (t k l : ℕ) (h : Head) (r : ℕ) → k ≤ l → Chain c t k h r → Chain c t l h r
  chain_later t k l h r u a = record {
    read = a.read;
    when = a.when;
    order = a.order;
    before = omega (arith, a.before);
    late = a.late;
    is = at_later t k l h r a.when u a.is;
    above = λ p x v w z. above_later t k l h x u (inr (record { time = p; before = omega (arith, a.before); was = z })) (a.above p x v w z);
  }

  pub chain_start : (t k : ℕ) (h : Head) → t < (c.at k).clock → Chain c t k h ((c.at k).head h)
  chain_start t k h l = record { read = k; when = k; order = omega arith; before = omega arith; late = l; is = here refl; above = λ p x u v z. absurd (omega arith) }

  -- one row down
  pub chain_down : (t k : ℕ) (h : Head) (r : ℕ) → Chain c t k h r → 0 < r → Above c t k (head_kind h) r → Chain c t k h (c.older (head_kind h) r)
  chain_down t k h r a z up = down a.is
    where
      linked : (l : LastLink c n law a.when h r) (p x : ℕ) → l.time ≤ p → p < a.read → CourseLink c p h x → (l.time < p) ⊎ ((l.time ≡ p) ⊎ (p < l.time)) →
          (p < a.when) ⊎ (a.when ≤ p) → Above c t k (head_kind h) x
      linked l p x u v m o (inr w) = a.above p x w v m
      linked l p x u v m (inl o) (inl w) = absurd (l.still p x o w m)
      linked l p x u v m (inr (inl o)) (inl w) = rw (sym (sym l.link.is ∙ ap (λ q. (c.at (suc q)).head h) o ∙ m.is)) up
      linked l p x u v m (inr (inr o)) (inl w) = absurd (omega arith)

      by_last : Rests c n law a.when h r ⊎ LastLink c n law a.when h r → Chain c t k h (c.older (head_kind h) r)
      by_last (inr l) = record {
        read = a.read;
        when = l.time;
        order = omega (arith, a.order, l.before);
        before = a.before;
        late = a.late;
        is = here (sym (l.link.under));
        above = λ p x u v m. linked l p x u v m (ordered l.time p) (cases_lt p a.when);
      }
      by_last (inl l) = record {
        read = a.read;
        when = 0;
        order = omega arith;
        before = a.before;
        late = a.late;
        is = under (law.old h r l.old).under refl (λ x o. subst (Above c t k (head_kind h)) (sym l.old.is ∙ o.is) up);
        above = λ p x u v m. elim (cases_lt p a.when) [ inl w ↦ absurd (l.still p x w m) | inr w ↦ a.above p x w v m ];
      }

      down : ChainAt c t k h r a.when → Chain c t k h (c.older (head_kind h) r)
      down (here e) = by_last (head_last c n law a.when h r e z)
      down (under e w f) = absurd (omega arith)

  -- the row below, if there is one, is linked and stamped
  pub row_below : (t k : ℕ) (h : Head) (r s : ℕ) → Chain c t k h r → 0 < r → c.older (head_kind h) r ≡ s → 0 < s →
      CourseLinked c k h s × CourseStamped c k (head_kind h) Ins s
  row_below t k h r s a z e y = down a.is
    where
      by_last : Rests c n law a.when h r ⊎ LastLink c n law a.when h r → CourseLinked c k h s × CourseStamped c k (head_kind h) Ins s
      by_last (inl l) = (let q = (law.old h r l.old).under in absurd (omega arith))
      by_last (inr l) = (head_linked c n law p k h s (omega (arith, a.order, a.before, l.before)) was y, stamped l.link.over)
        where
          p : ℕ
          p = l.time

          was : (c.at p).head h ≡ s
          was = sym l.link.under ∙ e

          stamped : ((c.at p).head h ≡ no_row) ⊎ (CourseStamped c p (head_kind h) Ins ((c.at p).head h) × Gone c p h ((c.at p).head h)) → CourseStamped c k (head_kind h) Ins s
          stamped (inl o) = absurd (omega (arith, was, y))
          stamped (inr o) = stamped_later c n law p k h Ins s (omega (arith, a.order, a.before, l.before)) (head_linked c n law p p h s (omega arith) was y) (rw was at (o.0))

      down : ChainAt c t k h r a.when → CourseLinked c k h s × CourseStamped c k (head_kind h) Ins s
      down (here q) = by_last (head_last c n law a.when h r q z)
      down (under q w f) = absurd (omega arith)

  -- a row that had ended by a time when the clock was at most t is not visible at t
  ended_hidden : (t p k : ℕ) (h : Head) (r : ℕ) → (c.at p).clock ≤ t → p ≤ k → CourseLinked c p h r → CourseStamped c p (head_kind h) Del r → Visible c t k h r → ⊥
  ended_hidden t p k h r u l w s v =
      omega (arith, law.upto p h Del r s.number w s.is, v.late s.number (keeps_later c n law p k h Del r s.number l w s.is))

  pub gone_hidden : (t p k : ℕ) (h : Head) (r : ℕ) → (c.at p).clock ≤ t → p ≤ k → CourseLinked c p h r → Gone c p h r → Visible c t k h r → EndsVisible c t k h r → ⊥
  gone_hidden t p k (head.Vertex i) r u l w g v f = ended_hidden t p k (head.Vertex i) r u l w g v
  gone_hidden t p k (head.Edge i j) r u l w (inl g) v f = ended_hidden t p k (head.Edge i j) r u l w g v
  gone_hidden t p k (head.Edge i j) r u l w (inr (inl g)) v f = ended_hidden t p k (head.Vertex i) (c.source r) u l (source_linked c n law p i j r w) g f.0
  gone_hidden t p k (head.Edge i j) r u l w (inr (inr g)) v f = ended_hidden t p k (head.Vertex j) (c.target r) u l (target_linked c n law p i j r w) g f.1

  -- where a walk stops, no other row is visible
  module _ (t k : ℕ) (h : Head) (r : ℕ) (a : Chain c t k h r) (stop : (r ≡ no_row) ⊎ ((0 < r) × Below c t k (head_kind h) r)) where
    module _ (l x : ℕ) (u : k ≤ l) (v : Visible c t l h x) (f : EndsVisible c t l h x) where
      -- a row that was linked before the row in hand was gone when that was linked
      gone_before : (b : LastLink c n law a.when h r) → Below c t k (head_kind h) r → CourseLinked c b.time h x → ⊥
      gone_before b w o =
          let g = older_gone c n law b.time h x r o b.link in
          let low = law.ins_from b.time k h r w.number b.link (omega (arith, a.order, a.before, b.before)) w.is in
          gone_hidden t b.time l h x (omega (arith, w.low)) (omega (arith, a.order, a.before, b.before)) o g.1 v f

      too_high : Above c t k (head_kind h) x → CourseLinked c k h x → ⊥
      too_high g o = let high = above_later t k l h x u o g in omega (arith, high.high, v.low, same_stamp high.is v.born)

      -- a head that is not none was read as a row
      head_some : CourseLinked c a.when h x → (c.at a.when).head h ≡ r → r ≡ no_row → ⊥
      head_some o q e = omega (arith, head_stays_some c n law a.when h x o, q, e)

      module _ (w : CourseBefore l (λ p. CourseLink c p h x)) where
        abbrev link : CourseLink c w.time h x
        link = w.was

        by_last : w.time < a.when → Below c t k (head_kind h) r → (b : LastLink c n law a.when h r) → (w.time < b.time) ⊎ ((w.time ≡ b.time) ⊎ (b.time < w.time)) → x ≡ r
        by_last m e b (inl o) = absurd (gone_before b e (inr (record { time = w.time; before = o; was = link })))
        by_last m e b (inr (inl o)) = sym link.is ∙ ap (λ q. (c.at (suc q)).head h) o ∙ b.link.is
        by_last m e b (inr (inr o)) = absurd (b.still w.time x o m link)

        by_rest : w.time < a.when → Below c t k (head_kind h) r → Rests c n law a.when h r ⊎ LastLink c n law a.when h r → x ≡ r
        by_rest m e (inl b) = absurd (b.still w.time x m link)
        by_rest m e (inr b) = by_last m e b (ordered w.time b.time)

        by_stop : w.time < a.when → (r ≡ no_row) ⊎ ((0 < r) × Below c t k (head_kind h) r) → ChainAt c t k h r a.when → x ≡ r
        by_stop m o (under e z g) = absurd (omega arith)
        by_stop m (inl e) (here q) = absurd (head_some (inr (record { time = w.time; before = m; was = link })) q e)
        by_stop m (inr (z, e)) (here q) = by_rest m e (head_last c n law a.when h r q z)

        by_time : (w.time < a.read) ⊎ (a.read ≤ w.time) → (w.time < a.when) ⊎ (a.when ≤ w.time) → x ≡ r
        by_time (inr m) o =
            let low = law.ins_from w.time l h x v.number link w.before v.born in
            absurd (omega (arith, clock_mono c n law a.read w.time m, a.late, v.low))
        by_time (inl m) (inr o) = absurd (too_high (a.above w.time x o m link) (inr (record { time = w.time; before = omega (arith, a.before); was = link })))
        by_time (inl m) (inl o) = by_stop o stop a.is

      -- a row from before the start
      old_rest : Old c h x → Below c t k (head_kind h) r → Rests c n law a.when h r ⊎ LastLink c n law a.when h r → x ≡ r
      old_rest o e (inl b) = sym o.is ∙ b.old.is
      old_rest o e (inr b) = absurd (gone_before b e (inl o))

      old_stop : Old c h x → (r ≡ no_row) ⊎ ((0 < r) × Below c t k (head_kind h) r) → ChainAt c t k h r a.when → x ≡ r
      old_stop o s (under e z g) = absurd (too_high (g x o) (inl o))
      old_stop o (inl e) (here q) = absurd (head_some (inl o) q e)
      old_stop o (inr (z, e)) (here q) = old_rest o e (head_last c n law a.when h r q z)

      by_way : CourseLinked c l h x → x ≡ r
      by_way (inl o) = old_stop o stop a.is
      by_way (inr w) = by_time w (cases_lt w.time a.read) (cases_lt w.time a.when)

      only_at : x ≡ r
      only_at = by_way v.linked

    only : (l x : ℕ) → k ≤ l → Visible c t l h x → EndsVisible c t l h x → x ≡ r
    only l x u v f = only_at l x u v f

  stays_visible : (t k : ℕ) (h : Head) (r : ℕ) → CourseLinked c k h r → Below c t k (head_kind h) r →
      ((l x : ℕ) → k ≤ l → mark_in (c.at l) (head_kind h) Del r ≡ Stamp x → t < x) → StaysVisible c t k h r
  stays_visible t k h r w b f l u =
      let a = below_later t k l h r u w b in
      record { linked = linked_later u w; number = a.number; born = a.is; low = a.low; late = λ x e. f l x u e }

  -- the ways in which a walk ends: at no row, at a row that has not ended, at one that ended above t, at one that did not
  pub found_none : (t k : ℕ) (h : Head) → Chain c t k h no_row → Found c t k h no_row
  found_none t k h a = record { only = only t k h no_row a (inl refl); stays = inl refl }

  pub found_open : (t k : ℕ) (h : Head) (r : ℕ) → 0 < r → t < (c.at k).clock → Chain c t k h r → CourseLinked c k h r → Below c t k (head_kind h) r →
      mark_in (c.at k) (head_kind h) Del r ≡ NotEnded → Found c t k h r
  found_open t k h r z u a w b e = record {
    only = only t k h r a (inr (z, b));
    stays = inr (stays_visible t k h r w b (λ l x m q. omega (arith, law.del_from k l h r x w e m q)));
  }

  pub found_late : (t k : ℕ) (h : Head) (r x : ℕ) → 0 < r → t < x → Chain c t k h r → CourseLinked c k h r → Below c t k (head_kind h) r →
      mark_in (c.at k) (head_kind h) Del r ≡ Stamp x → Found c t k h r
  found_late t k h r x z u a w b e = record {
    only = only t k h r a (inr (z, b));
    stays = inr (stays_visible t k h r w b (λ l y m q. omega (arith, same_stamp (keeps_later c n law k l h Del r x m w e) q)));
  }

  pub found_ended : (t k : ℕ) (h : Head) (r x : ℕ) → 0 < r → x ≤ t → Chain c t k h r → CourseLinked c k h r → Below c t k (head_kind h) r →
      mark_in (c.at k) (head_kind h) Del r ≡ Stamp x → Found c t k h no_row
  found_ended t k h r x z u a w b e = record {
    only = λ l y m v f. absurd (hidden l y m v (only t k h r a (inr (z, b)) l y m v f));
    stays = inl refl;
  }
    where
      hidden : (l y : ℕ) → k ≤ l → Visible c t l h y → y ≡ r → ⊥
      hidden l y m v q = omega (arith, v.late x (rw q (keeps_later c n law k l h Del r x m w e)))
