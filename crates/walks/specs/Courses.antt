-- The memory over time, and what walks use of it.
use Rattle.std.specs.Prelude.{◌≡◌, ℕ, suc, ◌<◌, ◌≤◌, ◌≢◌, ◌⊎◌}
use Rattle.layout.specs.declared.names.Kind.{Kind}
use Rattle.layout.specs.declared.names.Kind.TheVariants as kind
use Rattle.layout.specs.declared.names.Field.{Field}
use Rattle.layout.specs.declared.names.Field.TheVariants.{Ins, Del}
use Rattle.layout.specs.declared.names.Head.{Head}
use Rattle.layout.specs.declared.names.Head.TheVariants as head
use Rattle.layout.specs.Rows.{no_row}
use Rattle.places.specs.Marks.{mark_of}
use Rattle.places.specs.Touches.{head_kind}
use Rattle.places.specs.declared.mark.Mark.TheVariants.{NotEnded, Stamp}
use Rattle.machine.specs.States.{State}
use Rattle.walks.specs.Memory.{Memory, mark_in, memory_of}

-- the memory at each time, and what never changes of a row once it is linked
pub record Course : Type 0 where
  pub at : ℕ → Memory
  pub older : Kind → ℕ → ℕ
  pub source : ℕ → ℕ
  pub target : ℕ → ℕ
  pub weight : ℕ → ℕ

-- the course of the states of a run up to now
abbrev pub course_of : (ℕ → State) → ℕ → Course
course_of states now = record {
  at = λ k. memory_of (states k);
  older = (memory_of (states now)).older;
  source = (memory_of (states now)).source;
  target = (memory_of (states now)).target;
  weight = (memory_of (states now)).weight;
}

-- something held at a time before k
pub record CourseBefore (k : ℕ) (P : ℕ → Type 0) : Type 0 where
  pub time : ℕ
  pub before : time < k
  pub was : P time

module _ (c : Course) where
  -- ins or del of a row bears its stamp
  pub record CourseStamped (k : ℕ) (g : Kind) (f : Field) (r : ℕ) : Type 0 where
    pub number : ℕ
    pub is : mark_in (c.at k) g f r ≡ Stamp number

  -- a row has ended, or a row that it is bound to
  abbrev pub Gone : ℕ → Head → ℕ → Type 0
  Gone k (head.Vertex i) r = CourseStamped k kind.Vertex Del r
  Gone k (head.Edge i j) r = CourseStamped k kind.Edge Del r ⊎ (CourseStamped k kind.Vertex Del (c.source r) ⊎ CourseStamped k kind.Vertex Del (c.target r))

  -- the step from time p links row r over the head h
  pub record CourseLink (p : ℕ) (h : Head) (r : ℕ) : Type 0 where
    pub row : 0 < r
    pub is : (c.at (suc p)).head h ≡ r
    pub moved : (c.at p).head h ≢ r
    pub under : c.older (head_kind h) r ≡ (c.at p).head h
    pub filled : mark_in (c.at (suc p)) (head_kind h) Ins r ≢ NotEnded
    pub over : ((c.at p).head h ≡ no_row) ⊎ (CourseStamped p (head_kind h) Ins ((c.at p).head h) × Gone p h ((c.at p).head h))

  -- row r is from before the start: it is the row of the head h at time 0
  pub record Old (h : Head) (r : ℕ) : Type 0 where
    pub row : 0 < r
    pub is : (c.at 0).head h ≡ r

  -- row r is from before the start, or was linked over the head h before time k
  abbrev pub CourseLinked : ℕ → Head → ℕ → Type 0
  CourseLinked k h r = Old h r ⊎ CourseBefore k (λ p. CourseLink p h r)

  -- a row from before the start is over none, and bears the stamp of its ins
  pub record OldRow (h : Head) (r : ℕ) : Type 0 where
    pub under : c.older (head_kind h) r ≡ no_row
    pub born : CourseStamped 0 (head_kind h) Ins r

  -- an edge row is bound to rows of its two keys, which are keys below n
  pub record Binding (n p i j r : ℕ) : Type 0 where
    pub from : i < n
    pub to : j < n
    pub apart : i ≢ j
    pub source : CourseLinked p (head.Vertex i) (c.source r)
    pub target : CourseLinked p (head.Vertex j) (c.target r)

  -- what a run with n keys owes
  pub record Laws (n : ℕ) : Type 0 where
    -- the clock never falls, and its numbers are stamps
    pub clock_rises : (k : ℕ) → (c.at k).clock ≤ (c.at (suc k)).clock
    pub clock_stamps : (k : ℕ) → mark_of (c.at k).clock ≡ Stamp (c.at k).clock
    -- heads hold no row or an old one at first, and move only to a row that is linked over them
    pub old : (h : Head) (r : ℕ) → Old h r → OldRow h r
    pub heads : (k : ℕ) (h : Head) → ((c.at (suc k)).head h ≡ (c.at k).head h) ⊎ CourseLink k h ((c.at (suc k)).head h)
    -- ins and del of a linked row keep their stamps, and do not go back to 0
    pub keeps : (k : ℕ) (h : Head) (f : Field) (r x : ℕ) → CourseLinked k h r → mark_in (c.at k) (head_kind h) f r ≡ Stamp x →
        mark_in (c.at (suc k)) (head_kind h) f r ≡ Stamp x
    pub begun : (k : ℕ) (h : Head) (f : Field) (r : ℕ) → CourseLinked k h r → mark_in (c.at k) (head_kind h) f r ≢ NotEnded →
        mark_in (c.at (suc k)) (head_kind h) f r ≢ NotEnded
    -- a stamp of ins is at least the clock at the link, one of del at least the clock at any time before the row ended
    pub ins_from : (p k : ℕ) (h : Head) (r x : ℕ) → CourseLink p h r → p < k → mark_in (c.at k) (head_kind h) Ins r ≡ Stamp x → (c.at p).clock ≤ x
    pub del_from : (a k : ℕ) (h : Head) (r x : ℕ) → CourseLinked a h r → mark_in (c.at a) (head_kind h) Del r ≡ NotEnded → a ≤ k →
        mark_in (c.at k) (head_kind h) Del r ≡ Stamp x → (c.at a).clock ≤ x
    -- a stamp is at most the clock
    pub upto : (k : ℕ) (h : Head) (f : Field) (r x : ℕ) → CourseLinked k h r → mark_in (c.at k) (head_kind h) f r ≡ Stamp x → x ≤ (c.at k).clock
    -- what never changes of a linked row
    pub older : (k : ℕ) (h : Head) (r : ℕ) → CourseLinked k h r → (c.at k).older (head_kind h) r ≡ c.older (head_kind h) r
    pub source : (k i j r : ℕ) → CourseLinked k (head.Edge i j) r → (c.at k).source r ≡ c.source r
    pub target : (k i j r : ℕ) → CourseLinked k (head.Edge i j) r → (c.at k).target r ≡ c.target r
    pub weight : (k i j r : ℕ) → CourseLinked k (head.Edge i j) r → (c.at k).weight r ≡ c.weight r
    -- rows are linked over heads of keys below n, and edge rows are bound and have a weight
    pub keys : (k i r : ℕ) → CourseLinked k (head.Vertex i) r → i < n
    pub binds : (k i j r : ℕ) → CourseLinked k (head.Edge i j) r → Binding n k i j r
    pub heavy : (k i j r : ℕ) → CourseLinked k (head.Edge i j) r → 0 < c.weight r
