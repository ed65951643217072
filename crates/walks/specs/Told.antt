-- The marks of a run tell which rows are visible.
use Rattle.std.specs.Prelude.{◌≡◌, ℕ, ◌<◌, ◌≤◌, ◌⊎◌}
use Rattle.layout.specs.declared.names.Kind.TheVariants as kind
use Rattle.layout.specs.declared.names.Field.TheVariants.{Ins, Del}
use Rattle.layout.specs.declared.names.Head.TheVariants as head
use Rattle.places.specs.declared.mark.Mark as places
use Rattle.places.specs.declared.mark.Mark.TheVariants.{NotEnded, Pending, Stamp}
use Rattle.questions.specs.Graph.{Graph}
use Rattle.order.specs.Marks.{Marks}
use Rattle.order.specs.Raises.{ShowsVisible}
use Rattle.walks.specs.Memory.{mark_in}
use Rattle.walks.specs.Courses.{Course, CourseLinked, Laws}
use Rattle.walks.specs.Visible.{Stands}

-- the number x stands for a mark of ins or del: for a stamp the stamp, or both are at most first, the clock at the start; else a number above top
abbrev pub TellsMark : ℕ → ℕ → places.Mark → ℕ → Type 0
TellsMark first top (Stamp y) x = ((x ≡ y) ⊎ ((x ≤ first) × (y ≤ first))) × (y ≤ top)
TellsMark first top NotEnded x = top < x
TellsMark first top Pending x = top < x

-- the marks m are those of the rows that are linked at time k
pub record MarksTellCourse (c : Course) (k top : ℕ) (m : Marks) : Type 0 where
  pub vertex_row : (i r : ℕ) → CourseLinked c k (head.Vertex i) r → (r < m.vertices) × (m.key_of r ≡ i)
  pub vertex_born : (r : ℕ) → r < m.vertices → (m.vertex_ins r).stamp ≤ top → CourseLinked c k (head.Vertex (m.key_of r)) r
  pub vertex_ins : (i r : ℕ) → CourseLinked c k (head.Vertex i) r → TellsMark (c.at 0).clock top (mark_in (c.at k) kind.Vertex Ins r) (m.vertex_ins r).stamp
  pub vertex_del : (i r : ℕ) → CourseLinked c k (head.Vertex i) r → TellsMark (c.at 0).clock top (mark_in (c.at k) kind.Vertex Del r) (m.vertex_del r).stamp
  pub edge_row : (i j e : ℕ) → CourseLinked c k (head.Edge i j) e → e < m.edges
  pub edge_born : (e : ℕ) → e < m.edges → (m.edge_ins e).stamp ≤ top → CourseLinked c k (head.Edge (m.key_of (m.source e)) (m.key_of (m.target e))) e
  pub edge_ins : (i j e : ℕ) → CourseLinked c k (head.Edge i j) e → TellsMark (c.at 0).clock top (mark_in (c.at k) kind.Edge Ins e) (m.edge_ins e).stamp
  pub edge_del : (i j e : ℕ) → CourseLinked c k (head.Edge i j) e → TellsMark (c.at 0).clock top (mark_in (c.at k) kind.Edge Del e) (m.edge_del e).stamp
  pub source : (i j e : ℕ) → CourseLinked c k (head.Edge i j) e → m.source e ≡ c.source e
  pub target : (i j e : ℕ) → CourseLinked c k (head.Edge i j) e → m.target e ≡ c.target e
  pub weight : (i j e : ℕ) → CourseLinked c k (head.Edge i j) e → m.weight e ≡ c.weight e

-- a graph of the rows that are visible by the marks is one of the rows that are visible by the memory
abbrev pub MarksShow : Type 0
MarksShow = (c : Course) (n : ℕ) → Laws c n → (k top : ℕ) (m : Marks) → MarksTellCourse c k top m → (t : ℕ) → (c.at 0).clock ≤ t → t ≤ top → (g : Graph) → ShowsVisible m t g → Stands c t k g
