-- The graph that a clean state shows, and with which a run starts.
use Rattle.std.specs.Prelude.{◌≡◌, ℕ, ◌<◌, ◌≤◌, List, length, true, ◌↔◌, Some}
use Rattle.layout.specs.declared.sizes.Sizes.{Sizes}
use Rattle.layout.specs.declared.names.Head.TheVariants as head
use Rattle.layout.specs.declared.names.Cell.TheVariants as cell
use Rattle.layout.specs.Layout.{needed}
use Rattle.machine.specs.States.{State}
use Rattle.machine.specs.Opening.{opened_state}
use Rattle.laws.specs.Changes.{number_in}
use Rattle.laws.specs.Clean.{head_in, Clean}
use Rattle.questions.specs.Graph.{Graph}
use Rattle.order.specs.Graph.{empty}
use Rattle.order.specs.Marked.{Marking}
use Rattle.order.specs.Ends.{ShowsOld, NoneEnded}
use Rattle.runs.specs.Runs.{RunInTime}
use Rattle.runs.specs.Views.{clock_at}
use Rattle.runs.specs.Marking.{MarksTellRun}

-- a clean state shows the graph of its heads: key i is a vertex if its head is a row, and a pair is an edge with the weight of its row
pub record ShowsGraph (s : State) (g : Graph) : Type 0 where
  pub vertices : (i : ℕ) → (g.has i ≡ true) ↔ ((i < s.sizes.keys) × (1 ≤ head_in s (head.Vertex i)))
  pub edges : (i j x : ℕ) → (g.edge i j ≡ Some x) ↔
      ((i < s.sizes.keys) × (j < s.sizes.keys) × (1 ≤ head_in s (head.Edge i j)) × (number_in s (cell.Weight (head_in s (head.Edge i j))) ≡ x))

-- every opening is clean and shows the empty graph
abbrev pub OpeningsEmpty : Type 0
OpeningsEmpty = (z : Sizes) (cs : List ℕ) → needed z ≤ length cs → Clean (opened_state cs z) × ShowsGraph (opened_state cs z) empty

-- by the marks of any later time the rows from before the start show the graph of the start, and none of them ended before
abbrev pub RunsStartShown : Type 0
RunsStartShown = (R : RunInTime) (now : ℕ) (g : Graph) → ShowsGraph (R.state 0) g → (x : Marking) → x.clock ≡ clock_at R → MarksTellRun R now x.marks → ShowsOld x g × NoneEnded x
