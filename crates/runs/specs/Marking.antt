-- The marks of the rows of a run at a time: what they tell, and that they keep the laws of marks.
use Rattle.std.specs.Prelude.{◌≡◌, ℕ, zero, suc, ◌+◌, ◌<◌}
use Rattle.layout.specs.declared.names.Kind.{Kind}
use Rattle.layout.specs.declared.names.Kind.TheVariants.{Vertex, Edge}
use Rattle.layout.specs.declared.names.Field.TheVariants.{Ins, Del}
use Rattle.layout.specs.declared.names.Head.TheVariants as head
use Rattle.layout.specs.declared.names.Cell.TheVariants as cell
use Rattle.layout.specs.Rows.{rows_all}
use Rattle.places.specs.declared.mark.Mark.TheVariants.{Stamp}
use Rattle.places.specs.declared.place.Change.TheVariants as change
use Rattle.order.specs.Marks.{Mark, Marks, old_vertex, old_edge, MarksSound}
use Rattle.runs.specs.Runs.{RunInTime}
use Rattle.runs.specs.Views.{number_at, clock_at, head_at, mark_at, LinkedAt}
use Rattle.runs.specs.Known.{StampedAt, LinkEvent}
use Rattle.runs.specs.Events.{LinkEventOfKind, EndEventOfKind}

abbrev pub ins_of : Marks → Kind → ℕ → Mark
ins_of m Vertex = m.vertex_ins
ins_of m Edge = m.edge_ins

abbrev pub del_of : Marks → Kind → ℕ → Mark
del_of m Vertex = m.vertex_del
del_of m Edge = m.edge_del

-- the mark of ins of a row from before the start, and its stamp
abbrev pub old_stamp : RunInTime → Kind → ℕ
old_stamp R Vertex = 0
old_stamp R Edge = clock_at R zero

abbrev pub old_mark : RunInTime → Kind → Mark
old_mark R Vertex = old_vertex
old_mark R Edge = old_edge (clock_at R zero)

-- a bound of the times
abbrev pub time_bound : ℕ → ℕ
time_bound now = now + 3

module _ (R : RunInTime) (now : ℕ) where
  -- what the marks tell of the run up to now
  pub record MarksTellRun (m : Marks) : Type 0 where
    pub vertices : m.vertices ≡ suc (rows_all R.sizes Vertex)
    pub edges : m.edges ≡ suc (rows_all R.sizes Edge)
    -- the stamp of ins with the time of the link, the stamp of del with the time of the end
    pub born : (c : Kind) (r p n : ℕ) → LinkedAt R now c r → LinkEventOfKind R c r p → mark_at R now c Ins r ≡ Stamp n → ins_of m c r ≡ record { stamp = n; time = p }
    pub ended : (c : Kind) (r p n : ℕ) → LinkedAt R now c r → EndEventOfKind R c r p → mark_at R now c Del r ≡ Stamp n → del_of m c r ≡ record { stamp = n; time = p }
    -- rows from before the start bear old marks
    pub old : (c : Kind) (r : ℕ) → LinkedAt R zero c r → ins_of m c r ≡ old_mark R c
    -- the numbers of what is not born, and of what has not ended
    pub unborn : (c : Kind) (r : ℕ) → ¬ (LinkedAt R now c r × StampedAt R now c Ins r) → ins_of m c r ≡ record { stamp = clock_at R now + 2; time = 0 }
    pub unended : (c : Kind) (r : ℕ) → ¬ (LinkedAt R now c r × StampedAt R now c Del r) → del_of m c r ≡ record { stamp = clock_at R now + 1; time = 0 }
    -- the key of a vertex row, and what edge rows are bound to
    pub key : (p b i r : ℕ) → LinkEvent R p b (change.Vertex i) r → p < now → m.key_of r ≡ i
    pub old_key : (i r : ℕ) → i < R.sizes.keys → head_at R zero (head.Vertex i) ≡ r → 0 < r → m.key_of r ≡ i
    pub source : (e : ℕ) → m.source e ≡ number_at R now (cell.Source e)
    pub target : (e : ℕ) → m.target e ≡ number_at R now (cell.Target e)
    pub weight : (e : ℕ) → m.weight e ≡ number_at R now (cell.Weight e)

  pub record RunMarks : Type 0 where
    pub marks : Marks
    pub tells : MarksTellRun marks
    pub sound : MarksSound (time_bound now) (clock_at R now) marks

abbrev pub RunsMarked : Type 0
RunsMarked = (R : RunInTime) (now : ℕ) → RunMarks R now
