-- What each step of a run does to the memory. From this follows what walks use of it.
use Rattle.std.specs.Prelude.{◌≡◌, ℕ, suc, ◌<◌, ◌≤◌, ◌≢◌, ◌⊎◌}
use Rattle.layout.specs.declared.names.Kind.TheVariants as kind
use Rattle.layout.specs.declared.names.Field.{Field}
use Rattle.layout.specs.declared.names.Field.TheVariants.{Ins, Del}
use Rattle.layout.specs.declared.names.Head.{Head}
use Rattle.layout.specs.declared.names.Head.TheVariants as head
use Rattle.layout.specs.Rows.{no_row}
use Rattle.places.specs.Marks.{mark_of}
use Rattle.places.specs.Touches.{head_kind}
use Rattle.places.specs.declared.mark.Mark.{Mark}
use Rattle.places.specs.declared.mark.Mark.TheVariants.{NotEnded, Pending, Stamp}
use Rattle.walks.specs.Memory.{mark_in}
use Rattle.walks.specs.Courses.{Course, CourseBefore, CourseStamped, Old, Laws}

module _ (c : Course) (n : ℕ) where
  -- row x was the head of key i at a time from a to p
  pub record HeadBetween (a p i x : ℕ) : Type 0 where
    pub time : ℕ
    pub after : a ≤ time
    pub before : time ≤ p
    pub is : (c.at time).head (head.Vertex i) ≡ x
    pub row : 0 < x

  -- the edge row e has ended, or is bound to other rows than r
  abbrev pub Replaced : ℕ → ℕ → ℕ → Type 0
  Replaced p e r = CourseStamped c p kind.Edge Del e ⊎ ((c.source e ≢ c.source r) ⊎ (c.target e ≢ c.target r))

  -- Edge row r is linked at p over the head that was read at `read`; its two vertex rows were heads between.
  pub record EdgeLinks (p i j r : ℕ) : Type 0 where
    pub from : i < n
    pub to : j < n
    pub apart : i ≢ j
    pub weight : 0 < c.weight r
    pub read : ℕ
    pub reads : (c.at read).head (head.Edge i j) ≡ (c.at p).head (head.Edge i j)
    pub source : HeadBetween read p i (c.source r)
    pub target : HeadBetween read p j (c.target r)
    pub over : ((c.at p).head (head.Edge i j) ≡ no_row) ⊎
        (CourseStamped c p kind.Edge Ins ((c.at p).head (head.Edge i j)) × Replaced p ((c.at p).head (head.Edge i j)) r)

  -- a vertex row is linked over a row that has ended
  pub record VertexLinks (p i : ℕ) : Type 0 where
    pub key : i < n
    pub over : ((c.at p).head (head.Vertex i) ≡ no_row) ⊎
        (CourseStamped c p kind.Vertex Ins ((c.at p).head (head.Vertex i)) × CourseStamped c p kind.Vertex Del ((c.at p).head (head.Vertex i)))

  abbrev pub LinksOver : ℕ → Head → ℕ → Type 0
  LinksOver p (head.Vertex i) r = VertexLinks p i
  LinksOver p (head.Edge i j) r = EdgeLinks p i j r

  -- the step from time p links row r, which never was the head, over the head h
  pub record CourseLinkStep (p : ℕ) (h : Head) (r : ℕ) : Type 0 where
    pub row : 0 < r
    pub is : (c.at (suc p)).head h ≡ r
    pub fresh : (q : ℕ) → q ≤ p → (c.at q).head h ≢ r
    pub under : c.older (head_kind h) r ≡ (c.at p).head h
    pub ins : mark_in (c.at (suc p)) (head_kind h) Ins r ≡ Pending
    pub del : mark_in (c.at (suc p)) (head_kind h) Del r ≡ NotEnded
    pub over : LinksOver p h r

  abbrev pub CourseStepLinked : ℕ → Head → ℕ → Type 0
  CourseStepLinked k h r = Old c h r ⊎ CourseBefore k (λ p. CourseLinkStep p h r)

  -- an edge row from before the start has a weight, and is bound to the heads of two keys
  pub record OldEdge (i j r : ℕ) : Type 0 where
    pub from : i < n
    pub to : j < n
    pub apart : i ≢ j
    pub weight : 0 < c.weight r
    pub source : Old c (head.Vertex i) (c.source r)
    pub target : Old c (head.Vertex j) (c.target r)

  abbrev pub OldOf : Head → ℕ → Type 0
  OldOf (head.Vertex i) r = i < n
  OldOf (head.Edge i j) r = OldEdge i j r

  -- a row from before the start is over none, bears a stamp up to the clock, and has not ended
  pub record OldStart (h : Head) (r : ℕ) : Type 0 where
    pub under : c.older (head_kind h) r ≡ no_row
    pub born : CourseStamped c 0 (head_kind h) Ins r
    pub low : born.number ≤ (c.at 0).clock
    pub alive : mark_in (c.at 0) (head_kind h) Del r ≡ NotEnded
    pub of : OldOf h r

  -- what a step does to ins or del of a linked row
  pub data MarkMoves (k : ℕ) (h : Head) (f : Field) (r : ℕ) (v v' : Mark) : Type 0 where
    stays : v' ≡ v → MarkMoves k h f r v v'
    ends : v ≡ NotEnded → v' ≡ Pending → MarkMoves k h f r v v'
    -- the stamp was the clock at a time when the field was not 0 any more
    stamps : (x a : ℕ) → v ≡ Pending → v' ≡ Stamp x → a ≤ k → CourseStepLinked a h r → mark_in (c.at a) (head_kind h) f r ≢ NotEnded → (c.at a).clock ≡ x →
        MarkMoves k h f r v v'

  pub record Steps : Type 0 where
    pub clock_rises : (k : ℕ) → (c.at k).clock ≤ (c.at (suc k)).clock
    pub clock_stamps : (k : ℕ) → mark_of (c.at k).clock ≡ Stamp (c.at k).clock
    pub old : (h : Head) (r : ℕ) → Old c h r → OldStart h r
    pub heads : (k : ℕ) (h : Head) → ((c.at (suc k)).head h ≡ (c.at k).head h) ⊎ CourseLinkStep k h ((c.at (suc k)).head h)
    pub marks : (k : ℕ) (h : Head) (f : Field) (r : ℕ) → CourseStepLinked k h r →
        MarkMoves k h f r (mark_in (c.at k) (head_kind h) f r) (mark_in (c.at (suc k)) (head_kind h) f r)
    pub older : (k : ℕ) (h : Head) (r : ℕ) → CourseStepLinked k h r → (c.at k).older (head_kind h) r ≡ c.older (head_kind h) r
    pub source : (k i j r : ℕ) → CourseStepLinked k (head.Edge i j) r → (c.at k).source r ≡ c.source r
    pub target : (k i j r : ℕ) → CourseStepLinked k (head.Edge i j) r → (c.at k).target r ≡ c.target r
    pub weight : (k i j r : ℕ) → CourseStepLinked k (head.Edge i j) r → (c.at k).weight r ≡ c.weight r

abbrev pub StepsGiveLaws : Type 0
StepsGiveLaws = (c : Course) (n : ℕ) → Steps c n → Laws c n
