-- The theorems of this crate, each from those of the crates below and from those above it in this file.
use Rattle.runs.specs.EdgeFinds.{RunsFindEdges}
use Rattle.runs.specs.EdgeMisses.{RunsMissEdges}
use Rattle.runs.specs.Events.{RunsEvents}
use Rattle.runs.specs.Marking.{RunsMarked}
use Rattle.runs.specs.Once.{RunsChangeOnce}
use Rattle.runs.specs.Reasons.{RunsKnow}
use Rattle.runs.specs.Runs.{HistoriesAreRuns, OpeningsAreRuns}
use Rattle.runs.specs.Settling.{RunsSettle}
use Rattle.runs.specs.Sights.{RunsSeen}
use Rattle.runs.specs.Starts.{OpeningsEmpty, RunsStartShown}
use Rattle.runs.specs.Steps.{RunsStep}
use Rattle.runs.specs.Times.{RunsLast}
use Rattle.runs.specs.VertexFinds.{RunsFindVertices}
use Rattle.runs.specs.Worked.{Worked}
use Rattle.runs.proofs.EdgeFinds as from_edge_finds
use Rattle.runs.proofs.EdgeMisses as from_edge_misses
use Rattle.runs.proofs.Ends as from_ends
use Rattle.runs.proofs.Histories as from_histories
use Rattle.runs.proofs.Knows as from_knows
use Rattle.runs.proofs.MarkSound as from_mark_sound
use Rattle.runs.proofs.Once as from_once
use Rattle.runs.proofs.Settling as from_settling
use Rattle.runs.proofs.Sights as from_sights
use Rattle.runs.proofs.Starts as from_starts
use Rattle.runs.proofs.Steps as from_steps
use Rattle.runs.proofs.Times as from_times
use Rattle.runs.proofs.VertexFinds as from_vertex_finds
use Rattle.runs.proofs.Worked as from_worked

-- Every history from a clean state is the history of a run, up to a time.
pub histories_are_runs : HistoriesAreRuns
histories_are_runs = from_histories.histories_are_runs

-- So is every history from an opening.
pub openings_are_runs : OpeningsAreRuns
openings_are_runs = from_histories.openings_are_runs

-- What one step of a run does to the clock, to heads and to linked rows.
pub runs_step : RunsStep
runs_step = from_steps.runs_step

-- What holds of a run from one time to a later one.
pub runs_last : RunsLast
runs_last = from_times.runs_last

-- Every worker knows what its place says, and every answer of a call on vertices or edges is right.
pub runs_know : RunsKnow
runs_know = from_knows.runs_know

-- When rows are linked and ended, and in which order.
pub runs_events : RunsEvents
runs_events = from_ends.runs_events

-- At each time the rows of a run have marks that keep the laws of marks.
pub runs_marked : RunsMarked
runs_marked = from_mark_sound.runs_marked

-- A call makes one change, and its place tells which.
pub runs_change_once : RunsChangeOnce
runs_change_once = from_once.runs_change_once

-- What is seen of a run agrees with its states, and a past made of it tells what was seen.
pub runs_seen : RunsSeen
runs_seen = from_sights.runs_seen

-- What a call finds of the vertex of a key, where it stands at one of its turns or right after the end of a row.
pub runs_find_vertices : RunsFindVertices
runs_find_vertices = from_vertex_finds.runs_find_vertices

-- What a call finds of an edge that it saw, where it then saw both vertices alive.
pub runs_find_edges : RunsFindEdges
runs_find_edges = from_edge_finds.runs_find_edges

-- What a call finds of an edge, where it read a head that is not the edge and then saw both vertices alive.
pub runs_miss_edges : RunsMissEdges
runs_miss_edges = from_edge_misses.runs_miss_edges

-- Every opening is clean and shows the empty graph.
pub openings_empty : OpeningsEmpty
openings_empty = from_starts.openings_empty

-- The rows from before the start show the graph of the start.
pub runs_start_shown : RunsStartShown
runs_start_shown = from_starts.runs_start_shown

-- At a raise of the clock what a raise meets can be said of the marks of any later time.
pub runs_settle : RunsSettle
runs_settle = from_settling.runs_settle

-- A run can start with an edge.
pub worked_case_stands : Worked
worked_case_stands = from_worked.worked
