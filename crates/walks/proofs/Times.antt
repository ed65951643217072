-- What the laws give over time.
use Rattle.std.proofs.Common.{◌≡◌, ℕ, zero, suc, ◌<◌, ◌≤◌, ◌≢◌, ◌⊎◌, sym, refl, ap, ◌∙◌, inl, inr, arith}
use Rattle.std.proofs.Math.Decide.{le_ind}
use Rattle.std.proofs.lemmas.Bool.{cases_lt}
use Rattle.layout.specs.declared.names.Field.{Field}
use Rattle.layout.specs.declared.names.Field.TheVariants.{Ins, Del}
use Rattle.layout.specs.declared.names.Head.{Head}
use Rattle.layout.specs.declared.names.Head.TheVariants as head
use Rattle.layout.specs.Rows.{no_row}
use Rattle.places.specs.Touches.{head_kind}
use Rattle.places.specs.declared.mark.Mark.{Mark}
use Rattle.places.specs.declared.mark.Mark.TheVariants.{NotEnded, Stamp}
use Rattle.walks.specs.Memory.{mark_in}
use Rattle.walks.specs.Courses.{Course, CourseBefore, CourseStamped, Gone, CourseLink, Old, CourseLinked, Laws}

-- the first comes before the second, they are equal, or it comes after
pub ordered : (a b : ℕ) → (a < b) ⊎ ((a ≡ b) ⊎ (b < a))
ordered a b = elim (cases_lt a b) [
  | inl l ↦ inl l
  | inr g ↦ elim (cases_lt b a) [ inl l ↦ inr (inr l) | inr h ↦ inr (inl (omega arith)) ]
]

pub later : {k l : ℕ} {P : ℕ → Type 0} → k ≤ l → CourseBefore k P → CourseBefore l P
later u h = record { time = h.time; before = omega (arith, h.before); was = h.was }

pub linked_later : {c : Course} {k l : ℕ} {h : Head} {r : ℕ} → k ≤ l → CourseLinked c k h r → CourseLinked c l h r
linked_later u (inl o) = inl o
linked_later u (inr w) = inr (later u w)

-- a linked row is a row
pub linked_some : {c : Course} {k : ℕ} {h : Head} {r : ℕ} → CourseLinked c k h r → 0 < r
linked_some (inl o) = o.row
linked_some (inr w) = w.was.row

-- a mark is one stamp
pub same_stamp : {v : Mark} {m n : ℕ} → v ≡ Stamp m → v ≡ Stamp n → m ≡ n
same_stamp p q = cc

module _ (c : Course) (n : ℕ) (law : Laws c n) where
  pub clock_mono : (k l : ℕ) → k ≤ l → (c.at k).clock ≤ (c.at l).clock
  clock_mono k l u = le_ind (λ m. (c.at k).clock ≤ (c.at m).clock) (omega arith) (λ m a h. omega (arith, law.clock_rises m)) l u

  pub keeps_later : (k l : ℕ) (h : Head) (f : Field) (r x : ℕ) → k ≤ l → CourseLinked c k h r → mark_in (c.at k) (head_kind h) f r ≡ Stamp x →
      mark_in (c.at l) (head_kind h) f r ≡ Stamp x
  keeps_later k l h f r x u w e = le_ind (λ m. mark_in (c.at m) (head_kind h) f r ≡ Stamp x) e (λ m a g. law.keeps m h f r x (linked_later a w) g) l u

  pub begun_later : (k l : ℕ) (h : Head) (f : Field) (r : ℕ) → k ≤ l → CourseLinked c k h r → mark_in (c.at k) (head_kind h) f r ≢ NotEnded →
      mark_in (c.at l) (head_kind h) f r ≢ NotEnded
  begun_later k l h f r u w e = le_ind (λ m. mark_in (c.at m) (head_kind h) f r ≢ NotEnded) e (λ m a g. law.begun m h f r (linked_later a w) g) l u

  pub stamped_later : (k l : ℕ) (h : Head) (f : Field) (r : ℕ) → k ≤ l → CourseLinked c k h r → CourseStamped c k (head_kind h) f r → CourseStamped c l (head_kind h) f r
  stamped_later k l h f r u w s = record { number = s.number; is = keeps_later k l h f r s.number u w s.is }

  pub ins_filled : (k : ℕ) (h : Head) (r : ℕ) → CourseLinked c k h r → mark_in (c.at k) (head_kind h) Ins r ≢ NotEnded
  ins_filled k h r (inl o) = begun_later 0 k h Ins r (omega arith) (inl o) (λ e. grind (arith, (law.old h r o).born.is))
  ins_filled k h r (inr w) = begun_later (suc w.time) k h Ins r w.before (inr (record { time = w.time; before = omega arith; was = w.was })) w.was.filled

  pub source_linked : (k i j r : ℕ) → CourseLinked c k (head.Edge i j) r → CourseLinked c k (head.Vertex i) (c.source r)
  source_linked k i j r w = (law.binds k i j r w).source

  pub target_linked : (k i j r : ℕ) → CourseLinked c k (head.Edge i j) r → CourseLinked c k (head.Vertex j) (c.target r)
  target_linked k i j r w = (law.binds k i j r w).target

  pub gone_later : (k l : ℕ) (h : Head) (r : ℕ) → k ≤ l → CourseLinked c k h r → Gone c k h r → Gone c l h r
  gone_later k l (head.Vertex i) r u w g = stamped_later k l (head.Vertex i) Del r u w g
  gone_later k l (head.Edge i j) r u w (inl g) = inl (stamped_later k l (head.Edge i j) Del r u w g)
  gone_later k l (head.Edge i j) r u w (inr (inl g)) = inr (inl (stamped_later k l (head.Vertex i) Del (c.source r) u (source_linked k i j r w) g))
  gone_later k l (head.Edge i j) r u w (inr (inr g)) = inr (inr (stamped_later k l (head.Vertex j) Del (c.target r) u (target_linked k i j r w) g))

  -- the last link over a head before time q: the head has not moved since
  pub record LastLink (q : ℕ) (h : Head) (r : ℕ) : Type 0 where
    pub time : ℕ
    pub before : time < q
    pub link : CourseLink c time h r
    pub still : (p x : ℕ) → time < p → p < q → CourseLink c p h x → ⊥

  -- or it has not moved since the start
  pub record Rests (q : ℕ) (h : Head) (r : ℕ) : Type 0 where
    pub old : Old c h r
    pub still : (p x : ℕ) → p < q → CourseLink c p h x → ⊥

  abbrev Last : ℕ → Head → ℕ → Type 0
  Last q h r = Rests q h r ⊎ LastLink q h r

  -- where a head stays no row is linked
  stays_bare : (q : ℕ) (h : Head) → (c.at (suc q)).head h ≡ (c.at q).head h → (p x : ℕ) → p ≡ q → CourseLink c p h x → ⊥
  stays_bare q h e p x l z = z.moved (ap (λ m. (c.at m).head h) l ∙ sym e ∙ ap (λ m. (c.at (suc m)).head h) (sym l) ∙ z.is)

  last_step : (q : ℕ) (h : Head) → ((c.at q).head h ≡ no_row) ⊎ Last q h ((c.at q).head h) →
      ((c.at (suc q)).head h ≡ (c.at q).head h) ⊎ CourseLink c q h ((c.at (suc q)).head h) →
      ((c.at (suc q)).head h ≡ no_row) ⊎ Last (suc q) h ((c.at (suc q)).head h)
  last_step q h a (inr l) = inr (inr (record { time = q; before = omega arith; link = l; still = λ p x u v z. omega arith }))
  last_step q h (inl a) (inl e) = inl (e ∙ a)
  last_step q h (inr (inl a)) (inl e) = inr (inl (rw e (record { old = a.old; still = λ p x u z. moved p x z (ordered p q) u })))
    where
      moved : (p x : ℕ) → CourseLink c p h x → (p < q) ⊎ ((p ≡ q) ⊎ (q < p)) → p < suc q → ⊥
      moved p x z (inl l) v = a.still p x l z
      moved p x z (inr (inl l)) v = stays_bare q h e p x l z
      moved p x z (inr (inr l)) v = omega arith
  last_step q h (inr (inr a)) (inl e) = inr (inr (rw e (record { time = a.time; before = omega (arith, a.before); link = a.link; still = λ p x u v z. moved p x u z (ordered p q) v })))
    where
      moved : (p x : ℕ) → a.time < p → CourseLink c p h x → (p < q) ⊎ ((p ≡ q) ⊎ (q < p)) → p < suc q → ⊥
      moved p x u z (inl l) v = a.still p x u l z
      moved p x u z (inr (inl l)) v = stays_bare q h e p x l z
      moved p x u z (inr (inr l)) v = omega arith

  last : (q : ℕ) (h : Head) → ((c.at q).head h ≡ no_row) ⊎ Last q h ((c.at q).head h)
  last zero h = elim (cases_lt 0 ((c.at 0).head h)) [
    | inl z ↦ inr (inl (record { old = record { row = z; is = refl }; still = λ p x u l. omega arith }))
    | inr z ↦ inl (omega arith)
  ]
  last (suc q) h = last_step q h (last q h) (law.heads q h)

  -- a row that is the head was linked, or is old
  pub head_last : (q : ℕ) (h : Head) (r : ℕ) → (c.at q).head h ≡ r → 0 < r → Rests q h r ⊎ LastLink q h r
  head_last q h r e z = found (last q h)
    where
      found : ((c.at q).head h ≡ no_row) ⊎ Last q h ((c.at q).head h) → Last q h r
      found (inl o) = absurd (omega arith)
      found (inr l) = rw e at l

  pub head_linked : (q k : ℕ) (h : Head) (r : ℕ) → q ≤ k → (c.at q).head h ≡ r → 0 < r → CourseLinked c k h r
  head_linked q k h r u e z = elim (head_last q h r e z) [
    | inl l ↦ inl l.old
    | inr l ↦ inr (record { time = l.time; before = omega (arith, l.before); was = l.link })
  ]

  -- after its link a row is the head, or another was linked over it: it was stamped and is gone
  record After (k : ℕ) (h : Head) (r : ℕ) : Type 0 where
    some : 0 < (c.at k).head h
    is : ((c.at k).head h ≡ r) ⊎ (CourseStamped c k (head_kind h) Ins r × Gone c k h r)

  over_gone : (k : ℕ) (h : Head) (r x : ℕ) → 0 < r → After k h r → CourseLink c k h x → CourseStamped c k (head_kind h) Ins r × Gone c k h r
  over_gone k h r x z a l = gone a.is l.over
    where
      gone : ((c.at k).head h ≡ r) ⊎ (CourseStamped c k (head_kind h) Ins r × Gone c k h r) →
          ((c.at k).head h ≡ no_row) ⊎ (CourseStamped c k (head_kind h) Ins ((c.at k).head h) × Gone c k h ((c.at k).head h)) →
          CourseStamped c k (head_kind h) Ins r × Gone c k h r
      gone (inr g) o = g
      gone (inl e) (inl o) = absurd (omega arith)
      gone (inl e) (inr o) = rw e at o

  gone_next : (k : ℕ) (h : Head) (r : ℕ) → CourseLinked c k h r → CourseStamped c k (head_kind h) Ins r × Gone c k h r → CourseStamped c (suc k) (head_kind h) Ins r × Gone c (suc k) h r
  gone_next k h r w (s, g) = (stamped_later k (suc k) h Ins r (omega arith) w s, gone_later k (suc k) h r (omega arith) w g)

  after_step : (k : ℕ) (h : Head) (r : ℕ) → 0 < r → CourseLinked c k h r → After k h r → ((c.at (suc k)).head h ≡ (c.at k).head h) ⊎ CourseLink c k h ((c.at (suc k)).head h) → After (suc k) h r
  after_step k h r z w a (inl e) = record { some = rw e a.some; is = next a.is }
    where
      next : ((c.at k).head h ≡ r) ⊎ (CourseStamped c k (head_kind h) Ins r × Gone c k h r) → ((c.at (suc k)).head h ≡ r) ⊎ (CourseStamped c (suc k) (head_kind h) Ins r × Gone c (suc k) h r)
      next (inl q) = inl (e ∙ q)
      next (inr q) = inr (gone_next k h r w q)
  after_step k h r z w a (inr l) = record { some = l.row; is = inr (gone_next k h r w (over_gone k h r ((c.at (suc k)).head h) z a l)) }

  after : (k : ℕ) (h : Head) (r : ℕ) → CourseLinked c k h r → After k h r
  after k h r (inl o) =
      le_ind (λ m. After m h r) (record { some = rw o.is o.row; is = inl o.is })
      (λ m a g. after_step m h r o.row (inl o) g (law.heads m h)) k (omega arith)
  after k h r (inr w) =
      le_ind (λ m. After m h r) (record { some = rw w.was.is w.was.row; is = inl w.was.is })
      (λ m a g. after_step m h r w.was.row (inr (record { time = w.time; before = a; was = w.was })) g (law.heads m h)) k w.before

  pub head_stays_some : (k : ℕ) (h : Head) (r : ℕ) → CourseLinked c k h r → 0 < (c.at k).head h
  head_stays_some k h r w = (after k h r w).some

  -- of two rows of a head, the older was gone when the newer was linked
  pub older_gone : (q : ℕ) (h : Head) (r x : ℕ) → CourseLinked c q h r → CourseLink c q h x → CourseStamped c q (head_kind h) Ins r × Gone c q h r
  older_gone q h r x w m = over_gone q h r x (linked_some w) (after q h r w) m
