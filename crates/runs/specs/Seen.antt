-- What is seen of a run at each time: requests, replies and pages.
use Rattle.std.specs.Prelude.{ℕ, suc, if◌then◌else◌, not, ◌&&◌, None, Option, ◌==◌, nat_lt}
use Rattle.layout.specs.declared.names.Cell.TheVariants as cell
use Rattle.places.specs.Calls.{call_named}
use Rattle.machine.specs.declared.request.Request.{Request}
use Rattle.machine.specs.declared.request.Request.TheVariants as request
use Rattle.machine.specs.declared.request.Reply.{Reply}
use Rattle.machine.specs.declared.request.Reply.TheVariants as reply
use Rattle.machine.specs.States.{State}
use Rattle.machine.specs.Turns.{cell_at}
use Rattle.machine.specs.Requests.{reply_of}
use Rattle.questions.specs.Graph.{Graph}
use Rattle.questions.specs.Pages.{weight_of}
use Rattle.order.specs.Seen.{CallSight, CallSight.begins, CallSight.finishes, CallSight.neither, open_call}
use Rattle.runs.specs.Runs.{RunInTime}

-- what the page of worker w shows, cell by cell: a key where its cell is not 0, and an edge where the cell of its pair holds a weight
abbrev pub page_graph : State → ℕ → Graph
page_graph s w = record {
  has = λ k. nat_lt k s.sizes.keys && not (cell_at s.sizes s.cells (cell.PageKey w k) == 0);
  edge = λ i j.
      if nat_lt i s.sizes.keys && nat_lt j s.sizes.keys then weight_of (cell_at s.sizes s.cells (cell.PagePair w i j))
      else None;
}

-- what is seen of a request and its reply, where the pages show these graphs
abbrev pub sight_of : (ℕ → Graph) → Request → Reply → CallSight
sight_of pages (request.Begin b) reply.Done = begins b.worker (call_named b)
sight_of pages (request.Turn w) (reply.Answered a) = finishes w a (pages w)
sight_of pages q r = neither

abbrev pub seen : RunInTime → ℕ → CallSight
seen R k = sight_of (page_graph (R.state (suc k))) (R.request k) (reply_of (R.state k) (R.request k))

-- the call that worker w has open at time k, by the time at which it began
abbrev pub open_at : RunInTime → ℕ → ℕ → Option ℕ
open_at R k w = open_call (seen R) k w
