-- What the pages of a run show, read cell by cell.
use Rattle.std.specs.Prelude.{◌≡◌, ℕ, suc, ◌<◌, ◌≤◌, ◌≢◌, true, Some}
use Rattle.codes.specs.declared.answer.Answer.{Answer}
use Rattle.places.specs.declared.place.Survey.{Survey}
use Rattle.places.specs.declared.place.Call.TheVariants as call
use Rattle.machine.specs.declared.request.Request.TheVariants.{Turn}
use Rattle.machine.specs.declared.request.Reply.TheVariants.{Answered}
use Rattle.machine.specs.Workers as workers
use Rattle.machine.specs.Requests.{reply_of}
use Rattle.questions.specs.Graph.{Graph}
use Rattle.order.specs.Seen.{CallSight.begins, CallSight.finishes}
use Rattle.runs.specs.Runs.{RunInTime}
use Rattle.runs.specs.Seen.{page_graph, seen, open_at}
use Rattle.runs.specs.Reasons.{BegunBy}
use Rattle.walks.specs.Pages.{graph_of}
use Rattle.walks.specs.Turns.{goes}

-- after the answer of a snapshot or reach the page of its worker shows the graph of the page that its walks made
abbrev pub PagesSeen : Type 0
PagesSeen = (R : RunInTime) (w began till : ℕ) (v : Survey) (a : Answer) → w < R.sizes.workers → BegunBy R till w began (call.Survey v) → open_at R till w ≡ Some began →
    R.request till ≡ Turn w → reply_of (R.state till) (Turn w) ≡ Answered a → page_graph (R.state (suc till)) w ≡ graph_of R.sizes.keys (goes (R.state till) w).page

-- worker w begins no snapshot or reach from time j on, up to time k
abbrev pub BeginsNone : RunInTime → ℕ → ℕ → ℕ → Type 0
BeginsNone R w j k = (t : ℕ) (v : Survey) → j ≤ t → t < k → seen R t ≢ begins w (call.Survey v)

-- the page of a worker shows what it showed at an answer of the worker, until the worker next begins a snapshot or reach
abbrev pub PageGraphsStay : Type 0
PageGraphsStay = (R : RunInTime) (w f k : ℕ) (a : Answer) (g : Graph) → seen R f ≡ finishes w a g → f < k → BeginsNone R w (suc f) k → page_graph (R.state k) w ≡ g

-- an edge on the page of a finished snapshot or reach joins two keys that the page shows
abbrev pub PagesJoin : Type 0
PagesJoin = (R : RunInTime) (w f i j x : ℕ) (a : Answer) (g : Graph) → seen R f ≡ finishes w a g → workers.finishes a ≡ true → g.edge i j ≡ Some x →
    (g.has i ≡ true) × (g.has j ≡ true)
