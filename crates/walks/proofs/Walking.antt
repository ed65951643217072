-- What a worker knows in a walk, from turn to turn.
use Rattle.layout.specs.declared.names.Cell.TheVariants as cell
use Rattle.std.proofs.Common.{◌≡◌, ℕ, zero, suc, None, ◌<◌, ◌≤◌, ◌≢◌, ◌⊎◌, Bool, true, false, cond, eqb, ltb, refl, sym, ap, ◌∙◌, inl, inr, arith}
use Rattle.std.specs.declared.ops.ControlFlow.TheVariants.{Continue}
use Rattle.std.proofs.Math.Decide.{le_ind}
use Rattle.std.proofs.lemmas.Bool.{cases_eq}
use Rattle.std.proofs.lemmas.Bool.Decides.{nat_tests}
use Rattle.layout.specs.declared.names.Field.{Field}
use Rattle.layout.specs.declared.names.Field.TheVariants.{Ins, Del}
use Rattle.layout.specs.declared.names.Head.{Head}
use Rattle.layout.specs.Rows.{no_row}
use Rattle.places.specs.declared.mark.Mark.{Mark}
use Rattle.places.specs.declared.mark.Mark.TheVariants.{NotEnded, Pending, Stamp}
use Rattle.places.specs.declared.place.Hand.{Hand}
use Rattle.places.specs.declared.place.Walk.{Walk}
use Rattle.places.specs.declared.place.Stage.{Stage}
use Rattle.places.specs.declared.place.Stage.TheVariants as stage
use Rattle.places.specs.declared.place.Purpose.TheVariants as purpose
use Rattle.places.specs.declared.place.Place.{Place}
use Rattle.places.specs.declared.place.Place.TheVariants as place
use Rattle.places.specs.Marks.{pending, mark_of}
use Rattle.places.specs.Moved.{Next, Next as next}
use Rattle.places.specs.Touches.{touch_of, settles, head_kind, job_head}
use Rattle.places.specs.Private.{job_edge, edge_row}
use Rattle.places.specs.Walks.{walked_head, walked_ins, walked_del}
use Rattle.walks.specs.Memory.{mark_in}
use Rattle.walks.specs.Courses.{Course, CourseStamped, CourseLinked, Laws}
use Rattle.walks.specs.Visible.{StaysVisible, Found}
use Rattle.walks.specs.Walking.{hand_in, next_in, Done, Walking, WalksFind}
use Rattle.walks.proofs.Times.{linked_later, linked_some, clock_mono, begun_later, stamped_later, ins_filled, head_linked}
use Rattle.walks.proofs.Chains.{Above, Below, Chain, below_later, chain_later, chain_start, chain_down, row_below, found_none, found_open, found_late, found_ended}

abbrev pub head_of : Walk → Head
head_of w = job_head w.job

module _ (c : Course) (t : ℕ) (w : Walk) where
  -- of a field that is settled
  abbrev pub KnowsStage : ℕ → Field → ℕ → Stage → Type 0
  KnowsStage k f r stage.First = Unit {0}
  KnowsStage k f r stage.Clock = mark_in (c.at k) (head_kind (head_of w)) f r ≢ NotEnded
  KnowsStage k f r (stage.Swap x) = (mark_in (c.at k) (head_kind (head_of w)) f r ≢ NotEnded) × (mark_of x ≡ Stamp x)
  KnowsStage k f r stage.Reread = CourseStamped c k (head_kind (head_of w)) f r

  -- at a place of the walk w, at time k
  pub data Knows (k : ℕ) : Place → Type 0 where
    at_head : Knows k (place.WalkHead w)
    at_ins : (st : Stage) (r : ℕ) → Chain c t k (head_of w) r → CourseLinked c k (head_of w) r → KnowsStage k Ins r st → Knows k (place.Settle st (purpose.Walk Ins w r))
    at_older : (r : ℕ) → Chain c t k (head_of w) r → CourseLinked c k (head_of w) r → CourseStamped c k (head_kind (head_of w)) Ins r → Knows k (place.WalkOlder w r)
    at_del : (st : Stage) (r : ℕ) → Chain c t k (head_of w) r → CourseLinked c k (head_of w) r → Below c t k (head_kind (head_of w)) r → KnowsStage k Del r st →
        Knows k (place.Settle st (purpose.Walk Del w r))

  -- of what follows from a place of the walk at time k, where q is the edge row that the place is about: of the next place at time m
  pub data KnowsNext (k m q : ℕ) : Next → Type 0 where
    goes_on : (p : Place) → Knows m p → KnowsNext k m q (next.Moved (Continue p))
    has_found : (r : ℕ) → Found c t k (head_of w) r → (r ≡ no_row) ⊎ (job_edge w.job r ≡ q) → KnowsNext k m q (next.Walked w r)

module _ (c : Course) (t : ℕ) (w : Walk) (k m y : ℕ) where
  pub knows_place : (p : Place) → KnowsNext c t w k m y (next.Moved (Continue p)) → Knows c t w m p
  knows_place p (goes_on q a) = a

  pub knows_found : (v : Walk) (r : ℕ) → KnowsNext c t w k m y (next.Walked v r) → (v ≡ w) × Found c t k (head_of w) r
  knows_found v r (has_found s a o) = (refl, a)

-- the mark of a number is pending exactly if the number is
pub pending_mark : (x : ℕ) → eqb x pending ≡ true → mark_of x ≡ Pending
pending_mark x e = grind (arith, nat_tests)

pub settled_mark : (x : ℕ) → eqb x pending ≡ false → mark_of x ≢ Pending
settled_mark x e = grind (arith, nat_tests)

-- a number is that of a row, or of none
row_or_none : (r : ℕ) → ((eqb r no_row ≡ true) × (r ≡ no_row)) ⊎ ((eqb r no_row ≡ false) × (0 < r))
row_or_none zero = inl (refl, refl)
row_or_none (suc r) = inr (grind (arith, nat_tests), omega arith)

pending_begun : {v : Mark} → v ≡ Pending → v ≢ NotEnded
pending_begun e q = grind arith

-- of a field that is not 0, the number is pending or the mark is a stamp
begun_mark : (x : ℕ) → mark_of x ≢ NotEnded → (x ≡ pending) ⊎ ((y : ℕ) × (mark_of x ≡ Stamp y))
begun_mark x d = elim (cases_eq x pending) [ inl e ↦ inl e | inr e ↦ inr (x, by_number (eqb x 0) (eqb x pending) refl e d) ]
  where
    by_number : (p q : Bool) → eqb x pending ≡ q → x ≢ pending → cond p NotEnded (cond q Pending (Stamp x)) ≢ NotEnded → cond p NotEnded (cond q Pending (Stamp x)) ≡ Stamp x
    by_number true q e f g = absurd (g refl)
    by_number false true e f g = absurd (f (grind (arith, nat_tests)))
    by_number false false e f g = refl

-- a place is no end of a walk
out_walked : {p : Place} {v : Walk} {r : ℕ} → next.Moved (Continue p) ≡ next.Walked v r → ⊥
out_walked e = grind arith

module _ (c : Course) (n : ℕ) (law : Laws c n) where
  pub found_later : (t k l : ℕ) (h : Head) (r : ℕ) → k ≤ l → Found c t k h r → Found c t l h r
  found_later t k l h r u a = record { only = λ m x v. a.only m x (omega arith); stays = stays a.stays }
    where
      stays : (r ≡ no_row) ⊎ StaysVisible c t k h r → (r ≡ no_row) ⊎ StaysVisible c t l h r
      stays (inl e) = inl e
      stays (inr f) = inr (λ m v. f m (omega arith))

  module _ (t : ℕ) (w : Walk) where
    abbrev h : Head
    h = head_of w

    stage_later : (k l : ℕ) (f : Field) (r : ℕ) (st : Stage) → k ≤ l → CourseLinked c k h r → KnowsStage c t w k f r st → KnowsStage c t w l f r st
    stage_later k l f r stage.First u m a = tt
    stage_later k l f r stage.Clock u m a = begun_later c n law k l h f r u m a
    stage_later k l f r (stage.Swap x) u m a = (begun_later c n law k l h f r u m a.0, a.1)
    stage_later k l f r stage.Reread u m a = stamped_later c n law k l h f r u m a

    -- what is known stays known
    pub knows_later : (k l : ℕ) (p : Place) → k ≤ l → Knows c t w k p → Knows c t w l p
    knows_later k l p u at_head = at_head
    knows_later k l p u (at_ins st r a m b) = at_ins st r (chain_later c n law t k l h r u a) (linked_later u m) (stage_later k l Ins r st u m b)
    knows_later k l p u (at_older r a m b) = at_older r (chain_later c n law t k l h r u a) (linked_later u m) (stamped_later c n law k l h Ins r u m b)
    knows_later k l p u (at_del st r a m b s) =
        at_del st r (chain_later c n law t k l h r u a) (linked_later u m) (below_later c n law t k l h r u m b) (stage_later k l Del r st u m s)

    next_later : (k l y : ℕ) (x : Next) → k ≤ l → KnowsNext c t w k k y x → KnowsNext c t w k l y x
    next_later k l y x u (goes_on p a) = goes_on p (knows_later k l p u a)
    next_later k l y x u (has_found r a o) = has_found r a o

    module _ (k y : ℕ) (now : t < (c.at k).clock) where
      -- the head was read
      head_read : (r : ℕ) → (c.at k).head h ≡ r → KnowsNext c t w k k y (walked_head w r)
      head_read r e = elim (row_or_none r) [
        | inl (q, z) ↦ rw q (has_found no_row (found_none c n law t k h (rw (e ∙ z) at (chain_start c n law t k h now))) (inl refl))
        | inr (q, z) ↦ rw q (goes_on _ (at_ins stage.First r (rw e at (chain_start c n law t k h now)) (head_linked c n law k k h r (omega arith) e z) tt))
      ]

      module _ (r : ℕ) (a : Chain c t k h r) (m : CourseLinked c k h r) where
        -- on to the older row
        lower : (s : ℕ) → Above c t k (head_kind h) r → c.older (head_kind h) r ≡ s →
            KnowsNext c t w k k y (cond (eqb s no_row) (next.Walked w no_row) (next.Moved (Continue (place.WalkOlder w s))))
        lower s up e = elim (row_or_none s) [
          | inl (q, z) ↦ rw q (has_found no_row (found_none c n law t k h (rw (e ∙ z) at (chain_down c n law t k h r a (linked_some m) up))) (inl refl))
          | inr (q, z) ↦ (let (linked, stamped) = row_below c n law t k h r s a (linked_some m) e z in rw q (goes_on _ (at_older s (rw e at (chain_down c n law t k h r a (linked_some m) up)) linked stamped)))
        ]

        -- ins is settled at a stamp
        ins_is : (hand : Hand) (x : ℕ) → hand.t ≡ t → hand.older ≡ (c.at k).older (head_kind h) r → mark_in (c.at k) (head_kind h) Ins r ≡ Stamp x →
            KnowsNext c t w k k y (walked_ins w r hand (Stamp x))
        ins_is hand x e o s = rw (e, o) (by_test (ltb t x) refl)
          where
            by_test : (b : Bool) → ltb t x ≡ b →
                KnowsNext c t w k k y (cond b (cond (eqb ((c.at k).older (head_kind h) r) no_row) (next.Walked w no_row) (next.Moved (Continue (place.WalkOlder w ((c.at k).older (head_kind h) r)))))
                (next.Moved (Continue (place.Settle stage.First (purpose.Walk Del w r)))))
            by_test true q = lower _ (record { number = x; is = s; high = grind (arith, nat_tests) }) (sym (law.older k h r m))
            by_test false q = goes_on _ (at_del stage.First r a m (record { number = x; is = s; low = grind (arith, nat_tests) }) tt)

        -- ins was read first: it is not 0, and what is not pending is a stamp
        ins_first : (hand : Hand) (v : Mark) → hand.t ≡ t → hand.older ≡ (c.at k).older (head_kind h) r → mark_in (c.at k) (head_kind h) Ins r ≡ v → v ≢ Pending →
            KnowsNext c t w k k y (walked_ins w r hand v)
        ins_first hand NotEnded e o s d = absurd (ins_filled c n law k h r m s)
        ins_first hand Pending e o s d = absurd (d refl)
        ins_first hand (Stamp x) e o s d = ins_is hand x e o s

        module _ (b : Below c t k (head_kind h) r) (own : job_edge w.job r ≡ y) where
          -- del is settled
          del_is : (hand : Hand) (v : Mark) → hand.t ≡ t → mark_in (c.at k) (head_kind h) Del r ≡ v → v ≢ Pending → KnowsNext c t w k k y (walked_del w r hand v)
          del_is hand NotEnded e s d = has_found r (found_open c n law t k h r (linked_some m) now a m b s) (inr own)
          del_is hand Pending e s d = absurd (d refl)
          del_is hand (Stamp x) e s d = rw e (by_test (ltb t x) refl)
            where
              by_test : (q : Bool) → ltb t x ≡ q → KnowsNext c t w k k y (next.Walked w (cond q r no_row))
              by_test true q = has_found r (found_late c n law t k h r x (linked_some m) (grind (arith, nat_tests)) a m b s) (inr own)
              by_test false q = has_found no_row (found_ended c n law t k h r x (linked_some m) (grind (arith, nat_tests)) a m b s) (inl refl)

      again_mark : (f : Field) (r : ℕ) → CourseStamped c k (head_kind h) f r → mark_in (c.at k) (head_kind h) f r ≢ Pending
      again_mark f r s q = grind (arith, s.is)

      -- after the swap the field bears its stamp
      swapped : (f : Field) (r x : ℕ) → CourseLinked c k h r → (mark_in (c.at k) (head_kind h) f r ≢ NotEnded) × (mark_of x ≡ Stamp x) →
          ((c.at k).stamp (head_kind h) f r ≡ pending → (c.at (suc k)).stamp (head_kind h) f r ≡ x) → CourseStamped c (suc k) (head_kind h) f r
      swapped f r x m (b, e) d = elim (begun_mark ((c.at k).stamp (head_kind h) f r) b) [
        | inl q ↦ record { number = x; is = ap mark_of (d q) ∙ e }
        | inr (y, q) ↦ record { number = y; is = law.keeps k h f r y m q }
      ]

      -- a field that is read first is settled further if it is pending
      read_first : (f : Field) (r x : ℕ) (p : Place) (v : Next) → mark_in (c.at k) (head_kind h) f r ≡ mark_of x → Knows c t w k p →
          (mark_of x ≢ Pending → KnowsNext c t w k k y v) → KnowsNext c t w k k y (cond (eqb x pending) (next.Moved (Continue p)) v)
      read_first f r x p v e a g = by_test (eqb x pending) refl
        where
          by_test : (q : Bool) → eqb x pending ≡ q → KnowsNext c t w k k y (cond q (next.Moved (Continue p)) v)
          by_test true q = goes_on p a
          by_test false q = g (settled_mark x q)

      ins_turn : (top : ℕ) (st : Stage) (r : ℕ) → Chain c t k h r → CourseLinked c k h r → KnowsStage c t w k Ins r st →
          Done top (c.at k) (c.at (suc k)) (settles (cell.Stamp (head_kind h) Ins r) st) → KnowsNext c t w k (suc k) y (next_in top (c.at k) t (place.Settle st (purpose.Walk Ins w r)))
      ins_turn top stage.First r a m b d =
          next_later k (suc k) y _ (omega arith)
          (read_first Ins r ((c.at k).stamp (head_kind h) Ins r) (place.Settle stage.Clock (purpose.Walk Ins w r)) _ refl (at_ins stage.Clock r a m (ins_filled c n law k h r m))
          (λ q. ins_first r a m (hand_in (c.at k) t (place.Settle stage.First (purpose.Walk Ins w r))) _ refl refl refl q))
      ins_turn top stage.Clock r a m b d =
          next_later k (suc k) y _ (omega arith) (goes_on _ (at_ins (stage.Swap (c.at k).clock) r a m (b, law.clock_stamps k)))
      ins_turn top (stage.Swap x) r a m b d =
          goes_on _ (at_ins stage.Reread r (chain_later c n law t k (suc k) h r (omega arith) a) (linked_later (omega arith) m) (swapped Ins r x m b d))
      ins_turn top stage.Reread r a m b d =
          next_later k (suc k) y _ (omega arith) (ins_first r a m (hand_in (c.at k) t (place.Settle stage.Reread (purpose.Walk Ins w r))) _ refl refl refl (again_mark Ins r b))

      del_turn : (top : ℕ) (st : Stage) (r : ℕ) → job_edge w.job r ≡ y → Chain c t k h r → CourseLinked c k h r → Below c t k (head_kind h) r → KnowsStage c t w k Del r st →
          Done top (c.at k) (c.at (suc k)) (settles (cell.Stamp (head_kind h) Del r) st) → KnowsNext c t w k (suc k) y (next_in top (c.at k) t (place.Settle st (purpose.Walk Del w r)))
      del_turn top stage.First r own a m b s d = next_later k (suc k) y _ (omega arith) (by_test (eqb x pending) refl)
        where
          x : ℕ
          x = (c.at k).stamp (head_kind h) Del r

          by_test : (q : Bool) → eqb x pending ≡ q →
              KnowsNext c t w k k y (cond q (next.Moved (Continue (place.Settle stage.Clock (purpose.Walk Del w r)))) (walked_del w r (hand_in (c.at k) t (place.Settle stage.First (purpose.Walk Del w r))) (mark_of x)))
          by_test true q = goes_on _ (at_del stage.Clock r a m b (pending_begun (pending_mark x q)))
          by_test false q = del_is r a m b own (hand_in (c.at k) t (place.Settle stage.First (purpose.Walk Del w r))) (mark_of x) refl refl (settled_mark x q)
      del_turn top stage.Clock r own a m b s d = next_later k (suc k) y _ (omega arith) (goes_on _ (at_del (stage.Swap (c.at k).clock) r a m b (s, law.clock_stamps k)))
      del_turn top (stage.Swap x) r own a m b s d =
          goes_on _ (at_del stage.Reread r (chain_later c n law t k (suc k) h r (omega arith) a) (linked_later (omega arith) m) (below_later c n law t k (suc k) h r (omega arith) m b) (swapped Del r x m s d))
      del_turn top stage.Reread r own a m b s d =
          next_later k (suc k) y _ (omega arith) (del_is r a m b own (hand_in (c.at k) t (place.Settle stage.Reread (purpose.Walk Del w r))) (mark_in (c.at k) (head_kind h) Del r) refl refl (again_mark Del r s))

    -- what is known after a turn
    pub turn_knows : (k : ℕ) → t < (c.at k).clock → (top : ℕ) (p : Place) → Knows c t w k p → Done top (c.at k) (c.at (suc k)) (touch_of p None) →
        KnowsNext c t w k (suc k) (edge_row p) (next_in top (c.at k) t p)
    turn_knows k now top p at_head d = next_later k (suc k) (edge_row p) _ (omega arith) (head_read k (edge_row p) now ((c.at k).head h) refl)
    turn_knows k now top p (at_ins st r a m b) d = ins_turn k (edge_row p) now top st r a m b d
    turn_knows k now top p (at_older r a m b) d =
        next_later k (suc k) (edge_row p) _ (omega arith)
        (ins_first k (edge_row p) now r a m (hand_in (c.at k) t (place.WalkOlder w r)) (mark_in (c.at k) (head_kind h) Ins r) refl refl refl (again_mark k (edge_row p) now Ins r b))
    turn_knows k now top p (at_del st r a m b s) d = del_turn k (edge_row p) now top st r refl a m b s d

module _ (c : Course) (n : ℕ) (law : Laws c n) (top t : ℕ) (w : Walk) (from till : ℕ) (at : ℕ → Place) (walk : Walking c top t w from till at) where
  now : (k : ℕ) → from ≤ k → t < (c.at k).clock
  now k l = omega (arith, walk.raised, clock_mono c n law from k l)

  step : (k : ℕ) → from ≤ k → k < till → Knows c t w k (at k) → Knows c t w (suc k) (at (suc k))
  step k l m a = by_turn (walk.turns k l m)
    where
      by_turn : (at (suc k) ≡ at k) ⊎ ((next_in top (c.at k) t (at k) ≡ next.Moved (Continue (at (suc k)))) × Done top (c.at k) (c.at (suc k)) (touch_of (at k) None)) →
          Knows c t w (suc k) (at (suc k))
      by_turn (inl e) = rw e (knows_later c n law t w k (suc k) (at k) (omega arith) a)
      by_turn (inr (e, d)) = knows_place c t w k (suc k) (edge_row (at k)) (at (suc k)) (rw e at (turn_knows c n law t w k (now k l) top (at k) a d))

  pub knows : (k : ℕ) → from ≤ k → k ≤ till → Knows c t w k (at k)
  knows k l = le_ind (λ m. m ≤ till → Knows c t w m (at m)) (λ z. rw walk.starts at_head) (λ m a g z. step m a (omega arith) (g (omega arith))) k l

-- a turn at which a walk ends does not change the memory
walked_done : (c : Course) (t : ℕ) (w : Walk) (top k : ℕ) (v : Walk) (r : ℕ) (p : Place) → Knows c t w k p → next_in top (c.at k) t p ≡ next.Walked v r →
    Done top (c.at k) (c.at (suc k)) (touch_of p None)
walked_done c t w top k v r p at_head e = tt
walked_done c t w top k v r p (at_ins stage.First s a m b) e = tt
walked_done c t w top k v r p (at_ins stage.Clock s a m b) e = tt
walked_done c t w top k v r p (at_ins (stage.Swap x) s a m b) e = absurd (out_walked e)
walked_done c t w top k v r p (at_ins stage.Reread s a m b) e = tt
walked_done c t w top k v r p (at_older s a m b) e = tt
walked_done c t w top k v r p (at_del stage.First s a m b z) e = tt
walked_done c t w top k v r p (at_del stage.Clock s a m b z) e = tt
walked_done c t w top k v r p (at_del (stage.Swap x) s a m b z) e = absurd (out_walked e)
walked_done c t w top k v r p (at_del stage.Reread s a m b z) e = tt

pub walks_find : WalksFind
walks_find c n law top t w from till at walk l v r e =
    let a = knows c n law top t w from till at walk till l (omega arith) in
    let d = walked_done c t w top till v r (at till) a e in
    knows_found c t w till (suc till) (edge_row (at till)) v r (rw e at (turn_knows c n law t w till (now c n law top t w from till at walk till l) top (at till) a d))
