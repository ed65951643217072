-- How many turns one walk takes.
use Rattle.std.proofs.Common.{◌≡◌, ℕ, suc, ◌+◌, ◌<◌, ◌≤◌, Bool, true, false, cond, eqb, ◌⊎◌, refl, sym, ◌∙◌, inl, inr, arith, Continue}
use Rattle.std.proofs.Math.Decide.{le_ind}
use Rattle.std.proofs.lemmas.Bool.{ne_eqb, eq-eqb}
use Rattle.std.proofs.lemmas.Bool.Decides.{nat_tests}
use Rattle.layout.specs.declared.names.Field.TheVariants.{Ins, Del}
use Rattle.layout.specs.declared.names.Head.{Head}
use Rattle.layout.specs.Rows.{no_row}
use Rattle.places.specs.declared.mark.Mark.{Mark}
use Rattle.places.specs.declared.place.Hand.{Hand}
use Rattle.places.specs.declared.place.Walk.{Walk}
use Rattle.places.specs.declared.place.Stage.{Stage}
use Rattle.places.specs.declared.place.Stage.TheVariants as stage
use Rattle.places.specs.declared.place.Purpose.TheVariants as purpose
use Rattle.places.specs.declared.place.Place.{Place}
use Rattle.places.specs.declared.place.Place.TheVariants as place
use Rattle.places.specs.Marks.{pending}
use Rattle.places.specs.Moved.{Next, Next as next}
use Rattle.places.specs.Touches.{head_kind}
use Rattle.places.specs.Walks.{above, walked_ins, walked_del}
use Rattle.walks.specs.Courses.{Course, CourseLink, Old, CourseLinked, Laws}
use Rattle.walks.specs.Walking.{hand_in, next_in}
use Rattle.walks.specs.Budgets.{links_over}
use Rattle.walks.proofs.Times.{linked_some, Rests, LastLink, head_last}
use Rattle.walks.proofs.Walking.{head_of, Knows, at_head, at_ins, at_older, at_del}

-- of n turns so far as many as most, and one for each row of the head that was passed
pub record Pass (c : Course) (k : ℕ) (h : Head) (r n most : ℕ) : Type 0 where
  pub when : ℕ
  pub before : when ≤ k
  pub is : (c.at when).head h ≡ r
  pub count : n + links_over c when h ≤ most + links_over c k h

-- the turns that a stage of settling comes after, where it begins after u turns
abbrev pub stage_use : ℕ → Stage → ℕ
stage_use u stage.First = u
stage_use u stage.Clock = u + 1
stage_use u (stage.Swap x) = u + 2
stage_use u stage.Reread = u + 3

-- at a place, after n turns, where the walk began after at most b
abbrev pub SpentPlace : Course → ℕ → ℕ → ℕ → Place → Type 0
SpentPlace c k n b (place.WalkHead w) = n ≤ b
SpentPlace c k n b (place.Settle st (purpose.Walk Ins w r)) = Pass c k (head_of w) r n (b + stage_use 1 st)
SpentPlace c k n b (place.WalkOlder w r) = Pass c k (head_of w) r n (b + 4)
SpentPlace c k n b (place.Settle st (purpose.Walk Del w r)) = Pass c k (head_of w) r n (b + stage_use 5 st)
SpentPlace c k n b (place.Raise v) = n ≡ 0
SpentPlace c k n b p = ⊥

-- a walk takes at most 8 turns, and one for each row of its head
pub data SpentNext (c : Course) (k n b : ℕ) (h : Head) : Next → Type 0 where
  at_place : (p : Place) → SpentPlace c k n b p → SpentNext c k n b h (next.Moved (Continue p))
  at_end : (w : Walk) (r : ℕ) → n ≤ b + (8 + links_over c k h) → SpentNext c k n b h (next.Walked w r)

module _ (c : Course) (n : ℕ) (law : Laws c n) where
  pub links_mono : (k l : ℕ) (h : Head) → k ≤ l → links_over c k h ≤ links_over c l h
  unfolding links_over
  links_mono k l h u = le_ind (λ m. links_over c k h ≤ links_over c m h) (omega arith) (λ m a g. omega arith) l u

  links_link : (p : ℕ) (h : Head) (r : ℕ) → CourseLink c p h r → suc (links_over c p h) ≤ links_over c (suc p) h
  unfolding links_over
  links_link p h r l = by_test (eqb ((c.at (suc p)).head h) ((c.at p).head h)) refl
    where
      by_test : (q : Bool) → eqb ((c.at (suc p)).head h) ((c.at p).head h) ≡ q → suc (links_over c p h) ≤ links_over c p h + cond q 0 1
      by_test true e = (let q : (c.at (suc p)).head h ≡ (c.at p).head h = grind (arith, nat_tests) in absurd (l.moved (sym q ∙ l.is)))
      by_test false e = omega arith

  -- a row at the start counts
  links_old : (h : Head) (r : ℕ) → Old c h r → 1 ≤ links_over c 0 h
  unfolding links_over
  links_old h r o = let some : eqb ((c.at 0).head h) no_row ≡ false = ne_eqb ((c.at 0).head h) no_row (λ e. omega (arith, o.is, o.row, e)) in rw some (omega arith)

  -- before a row is the head it was linked
  pub passed_one : (q : ℕ) (h : Head) (r : ℕ) → (l : LastLink c n law q h r) → suc (links_over c l.time h) ≤ links_over c q h
  passed_one q h r l = omega (arith, links_link l.time h r l.link, links_mono (suc l.time) q h l.before)

  passed_old : (q : ℕ) (h : Head) (r : ℕ) → Old c h r → 1 ≤ links_over c q h
  passed_old q h r o = omega (arith, links_old h r o, links_mono 0 q h (omega arith))

  passed_some : (q : ℕ) (h : Head) (r : ℕ) → Rests c n law q h r ⊎ LastLink c n law q h r → 1 ≤ links_over c q h
  passed_some q h r (inl o) = passed_old q h r o.old
  passed_some q h r (inr l) = omega (arith, passed_one q h r l)

  pass_later : (k l : ℕ) (h : Head) (r m a b : ℕ) → k ≤ l → a ≤ b → Pass c k h r m a → Pass c l h r m b
  pass_later k l h r m a b u v p = record { when = p.when; before = omega (arith, p.before); is = p.is; count = omega (arith, p.count, links_mono k l h u) }

  pub place_later : (k l m a b : ℕ) (t i : ℕ) (w : Walk) (p : Place) → k ≤ l → a ≤ b → Knows c t w i p → SpentPlace c k m a p → SpentPlace c l m b p
  place_later k l m a b t i w p u v at_head s = omega arith
  place_later k l m a b t i w p u v (at_ins st r x y z) s = pass_later k l (head_of w) r m _ _ u (omega arith) s
  place_later k l m a b t i w p u v (at_older r x y z) s = pass_later k l (head_of w) r m _ _ u (omega arith) s
  place_later k l m a b t i w p u v (at_del st r x y z o) s = pass_later k l (head_of w) r m _ _ u (omega arith) s

  module _ (k m b t : ℕ) (w : Walk) where
    abbrev h : Head
    h = head_of w

    -- one turn more
    more : (r x y : ℕ) → x + 1 ≤ y → Pass c k h r m x → Pass c k h r (suc m) y
    more r x y l p = record { when = p.when; before = p.before; is = p.is; count = omega (arith, p.count) }

    lower : (r s : ℕ) → 0 < r → Pass c k h r m (b + 4) → c.older (head_kind h) r ≡ s → SpentNext c k (suc m) b h (cond (eqb s no_row) (next.Walked w no_row) (next.Moved (Continue (place.WalkOlder w s))))
    lower r s z p e = by_last (head_last c n law p.when h r p.is z)
      where
        by_last : Rests c n law p.when h r ⊎ LastLink c n law p.when h r → SpentNext c k (suc m) b h (cond (eqb s no_row) (next.Walked w no_row) (next.Moved (Continue (place.WalkOlder w s))))
        by_last (inl o) =
            let q : s ≡ no_row = sym e ∙ (law.old h r o.old).under in
            let none : eqb s no_row ≡ true = eq-eqb s no_row q in
            rw none (at_end w no_row (omega (arith, p.count, passed_old p.when h r o.old)))
        by_last (inr l) = by_test (eqb s no_row)
          where
            fewer : suc m + links_over c l.time h ≤ b + 4 + links_over c k h
            fewer = omega (arith, p.count, passed_one p.when h r l)

            by_test : (q : Bool) → SpentNext c k (suc m) b h (cond q (next.Walked w no_row) (next.Moved (Continue (place.WalkOlder w s))))
            by_test true = at_end w no_row (omega (arith, fewer))
            by_test false = at_place (place.WalkOlder w s) (record { when = l.time; before = omega (arith, p.before, l.before); is = sym l.link.under ∙ e; count = fewer })

    ins_settled : (r : ℕ) (hand : Hand) (v : Mark) → CourseLinked c k h r → hand.older ≡ (c.at k).older (head_kind h) r → Pass c k h r m (b + 4) → SpentNext c k (suc m) b h (walked_ins w r hand v)
    ins_settled r hand v x e p = by_test (above hand.t v)
      where
        by_test : (q : Bool) → SpentNext c k (suc m) b h
            (cond q (cond (eqb hand.older no_row) (next.Walked w no_row) (next.Moved (Continue (place.WalkOlder w hand.older)))) (next.Moved (Continue (place.Settle stage.First (purpose.Walk Del w r)))))
        by_test true = lower r hand.older (linked_some x) p (sym (e ∙ law.older k h r x))
        by_test false = at_place (place.Settle stage.First (purpose.Walk Del w r)) (more r (b + 4) (b + 5) (omega arith) p)

    del_settled : (r : ℕ) (hand : Hand) (v : Mark) → 0 < r → Pass c k h r m (b + 8) → SpentNext c k (suc m) b h (walked_del w r hand v)
    del_settled r hand v z p = let l = head_last c n law p.when h r p.is z in at_end w _ (omega (arith, p.count, passed_some p.when h r l))

    first_read : (p : Place) (v : Next) (q : Bool) → SpentPlace c k (suc m) b p → SpentNext c k (suc m) b h v → SpentNext c k (suc m) b h (cond q (next.Moved (Continue p)) v)
    first_read p v true s o = at_place p s
    first_read p v false s o = o

    weaker : (r x y : ℕ) → x ≤ y → Pass c k h r m x → Pass c k h r m y
    weaker r x y l p = pass_later k k h r m x y (omega arith) l p

    -- the head was read
    head_read : (r : ℕ) → (c.at k).head h ≡ r → m ≤ b → SpentNext c k (suc m) b h (cond (eqb r no_row) (next.Walked w no_row) (next.Moved (Continue (place.Settle stage.First (purpose.Walk Ins w r)))))
    head_read r e l = by_test (eqb r no_row)
      where
        by_test : (q : Bool) → SpentNext c k (suc m) b h (cond q (next.Walked w no_row) (next.Moved (Continue (place.Settle stage.First (purpose.Walk Ins w r)))))
        by_test true = at_end w no_row (omega arith)
        by_test false = at_place (place.Settle stage.First (purpose.Walk Ins w r)) (record { when = k; before = omega arith; is = e; count = omega arith })

    pub turn_spends : (top : ℕ) (p : Place) → Knows c t w k p → SpentPlace c k m b p → SpentNext c k (suc m) b h (next_in top (c.at k) t p)
    turn_spends top p at_head s = head_read ((c.at k).head h) refl s
    turn_spends top p (at_ins stage.First r x y z) s =
        first_read (place.Settle stage.Clock (purpose.Walk Ins w r)) _ (eqb ((c.at k).stamp (head_kind h) Ins r) pending) (more r _ _ (omega arith) s)
        (ins_settled r (hand_in (c.at k) t (place.Settle stage.First (purpose.Walk Ins w r))) _ y refl (weaker r _ _ (omega arith) s))
    turn_spends top p (at_ins stage.Clock r x y z) s = at_place (place.Settle (stage.Swap (c.at k).clock) (purpose.Walk Ins w r)) (more r _ _ (omega arith) s)
    turn_spends top p (at_ins (stage.Swap a) r x y z) s = at_place (place.Settle stage.Reread (purpose.Walk Ins w r)) (more r _ _ (omega arith) s)
    turn_spends top p (at_ins stage.Reread r x y z) s = ins_settled r (hand_in (c.at k) t (place.Settle stage.Reread (purpose.Walk Ins w r))) _ y refl (weaker r _ _ (omega arith) s)
    turn_spends top p (at_older r x y z) s = ins_settled r (hand_in (c.at k) t (place.WalkOlder w r)) _ y refl s
    turn_spends top p (at_del stage.First r x y z o) s =
        first_read (place.Settle stage.Clock (purpose.Walk Del w r)) _ (eqb ((c.at k).stamp (head_kind h) Del r) pending) (more r _ _ (omega arith) s)
        (del_settled r (hand_in (c.at k) t (place.Settle stage.First (purpose.Walk Del w r))) _ (linked_some y) (weaker r _ _ (omega arith) s))
    turn_spends top p (at_del stage.Clock r x y z o) s = at_place (place.Settle (stage.Swap (c.at k).clock) (purpose.Walk Del w r)) (more r _ _ (omega arith) s)
    turn_spends top p (at_del (stage.Swap a) r x y z o) s = at_place (place.Settle stage.Reread (purpose.Walk Del w r)) (more r _ _ (omega arith) s)
    turn_spends top p (at_del stage.Reread r x y z o) s = del_settled r (hand_in (c.at k) t (place.Settle stage.Reread (purpose.Walk Del w r))) _ (linked_some y) (weaker r _ _ (omega arith) s)

    -- at each place no more than the walk may take
    pub place_fits : (p : Place) → Knows c t w k p → SpentPlace c k m b p → m ≤ b + (8 + links_over c k h)
    place_fits p at_head s = omega arith
    place_fits p (at_ins stage.First r x y z) s = omega (arith, s.count)
    place_fits p (at_ins stage.Clock r x y z) s = omega (arith, s.count)
    place_fits p (at_ins (stage.Swap a) r x y z) s = omega (arith, s.count)
    place_fits p (at_ins stage.Reread r x y z) s = omega (arith, s.count)
    place_fits p (at_older r x y z) s = omega (arith, s.count)
    place_fits p (at_del stage.First r x y z o) s = omega (arith, s.count)
    place_fits p (at_del stage.Clock r x y z o) s = omega (arith, s.count)
    place_fits p (at_del (stage.Swap a) r x y z o) s = omega (arith, s.count)
    place_fits p (at_del stage.Reread r x y z o) s = omega (arith, s.count)
