-- Rows that are visible at a number t: their ins is at most t, and their del is not.
use Rattle.std.specs.Prelude.{◌≡◌, ℕ, ◌<◌, ◌≤◌, true, ◌⊎◌, ◌↔◌, Some}
use Rattle.layout.specs.declared.names.Field.TheVariants.{Ins, Del}
use Rattle.layout.specs.declared.names.Head.{Head}
use Rattle.layout.specs.declared.names.Head.TheVariants as head
use Rattle.layout.specs.Rows.{no_row}
use Rattle.places.specs.Touches.{head_kind}
use Rattle.places.specs.declared.mark.Mark.TheVariants.{Stamp}
use Rattle.questions.specs.Graph.{Graph}
use Rattle.walks.specs.Memory.{mark_in}
use Rattle.walks.specs.Courses.{Course, CourseLinked}

module _ (c : Course) (t : ℕ) where
  -- row r of the head h is visible, by the memory of time k
  pub record Visible (k : ℕ) (h : Head) (r : ℕ) : Type 0 where
    pub linked : CourseLinked c k h r
    pub number : ℕ
    pub born : mark_in (c.at k) (head_kind h) Ins r ≡ Stamp number
    pub low : number ≤ t
    pub late : (x : ℕ) → mark_in (c.at k) (head_kind h) Del r ≡ Stamp x → t < x

  -- edge row e and the two vertex rows that it is bound to are visible
  pub record EdgeVisible (k i j e : ℕ) : Type 0 where
    pub row : Visible k (head.Edge i j) e
    pub source : Visible k (head.Vertex i) (c.source e)
    pub target : Visible k (head.Vertex j) (c.target e)

  -- the two vertex rows of an edge row are visible
  abbrev pub EndsVisible : ℕ → Head → ℕ → Type 0
  EndsVisible k (head.Vertex i) r = Unit {0}
  EndsVisible k (head.Edge i j) r = Visible k (head.Vertex i) (c.source r) × Visible k (head.Vertex j) (c.target r)

  -- visible by the memory of time k and of every later time
  abbrev pub StaysVisible : ℕ → Head → ℕ → Type 0
  StaysVisible k h r = (l : ℕ) → k ≤ l → Visible l h r

  -- row r, or no row, is all that a walk of the head h can find from time k on
  pub record Found (k : ℕ) (h : Head) (r : ℕ) : Type 0 where
    pub only : (l x : ℕ) → k ≤ l → Visible l h x → EndsVisible l h x → x ≡ r
    pub stays : (r ≡ no_row) ⊎ StaysVisible k h r

  -- the graph g is that of the rows that are visible, by the memory of time k
  pub record Stands (k : ℕ) (g : Graph) : Type 0 where
    pub vertices : (i : ℕ) → (g.has i ≡ true) ↔ ((r : ℕ) × Visible k (head.Vertex i) r)
    pub edges : (i j w : ℕ) → (g.edge i j ≡ Some w) ↔ ((e : ℕ) × EdgeVisible k i j e × (c.weight e ≡ w))
