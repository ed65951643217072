-- How the promise of histories stands to runs as functions of time, and to what is seen of them.
use Rattle.std.specs.Prelude.{◌≡◌, ℕ, suc, ◌+◌, ◌≤◌, Bool, List, Option}
use Rattle.layout.specs.declared.sizes.Sizes.{Sizes}
use Rattle.machine.specs.declared.request.Request.{Request}
use Rattle.machine.specs.States.{State}
use Rattle.machine.specs.declared.request.Reply.{Reply}
use Rattle.machine.specs.History.{Event, Extends, Continues}
use Rattle.places.specs.declared.place.Survey.{Survey}
use Rattle.places.specs.declared.place.Call.TheVariants as call
use Rattle.questions.specs.Graph.{Graph}
use Rattle.order.specs.Past.{Past}
use Rattle.order.specs.Order.{Ordered}
use Rattle.order.specs.Seen.{past_of as past_seen}
use Rattle.runs.specs.Runs.{RunInTime, history_at}
use Rattle.runs.specs.Seen.{seen, open_at}
use Rattle.runs.specs.Reasons.{BegunBy}
use Rattle.runs.specs.Starts.{ShowsGraph}
use Rattle.bounds.specs.Bounds.{turns_taken, latest_turn}
use Rattle.promise.specs.Histories.{Shown, shown_by}
use Rattle.promise.specs.Calls.{past_of, open_by, deed_by, stamp_as, raise_as, lower_as}
use Rattle.promise.specs.Left.{graph_in}
use Rattle.promise.specs.Bounds.{survey_limit, rows_held, rows_linked, KeepsBound}
use Rattle.promise.specs.Promise.{PagesStay, Promised, PromisedAtOpening, PromiseKept, PromiseContinues, PromiseHolds, OpeningsPromised}

module _ (R : RunInTime) where
  -- what a run shows up to a time
  abbrev pub shown_at : ℕ → Shown
  shown_at k = shown_by (R.state 0) (history_at R k)

  -- the stamps of the changes and the numbers of the raises, from cells and turns
  abbrev pub stamp_at : ℕ → ℕ → Option ℕ
  stamp_at now b = stamp_as R.sizes (R.state now).cells (deed_by (shown_at now).sights b)

  abbrev pub raise_at : ℕ → ℕ → Option ℕ
  raise_at now b = raise_as (deed_by (shown_at now).sights b)

  -- whether a vertex row of a changed edge row has ended with a lower stamp, from cells and turns
  abbrev pub lower_at : ℕ → ℕ → Bool
  lower_at now b = lower_as R.sizes (R.state now).cells (deed_by (shown_at now).sights b)

  -- the past of the calls, in the words of `order`
  abbrev pub past_at : ℕ → Past
  past_at now = past_seen (seen R) now (stamp_at now) (raise_at now) (lower_at now)

  -- the graph that the cells show
  abbrev pub graph_at : ℕ → Graph
  graph_at now = graph_in R.sizes (R.state now).cells

  -- the rows that were linked up to the latest turn of the call b of worker w
  abbrev pub rows_until : ℕ → ℕ → ℕ → ℕ
  rows_until now w b = rows_linked (shown_at (suc (latest_turn R w b now))).sights

  -- the rows that heads held at the start
  abbrev pub rows_at_start : ℕ
  rows_at_start = rows_held R.sizes (R.state 0).cells

  -- a run's history shows its state, the calls that workers have open, and its past
  pub record RunShown (now : ℕ) : Type 0 where
    pub state : (shown_at now).state ≡ R.state now
    pub opens : (w : ℕ) → open_by (shown_at now).sights w ≡ open_at R now w
    pub past : past_of R.sizes (shown_at now).sights (shown_at now).state.cells ≡ past_at now

abbrev pub RunsShown : Type 0
RunsShown = (R : RunInTime) (now : ℕ) → RunShown R now

-- the part of the promise about pages
abbrev pub RunsKeepPages : Type 0
RunsKeepPages = (R : RunInTime) (now : ℕ) → PagesStay R.sizes (shown_at R now).sights (R.state now).cells

-- every run is promised at every time, with the graph that it starts with
abbrev pub RunsPromised : Type 0
RunsPromised = (R : RunInTime) (g : Graph) → ShowsGraph (R.state 0) g → (now : ℕ) → Promised (R.state 0) g (history_at R now)

-- one order explains the past of every run from the graph on that it starts with, and leaves the graph that the cells show
abbrev pub RunsOrdered : Type 0
RunsOrdered = (R : RunInTime) (g : Graph) → ShowsGraph (R.state 0) g → (now : ℕ) → Ordered (past_at R now) g (graph_at R now)

-- A snapshot or reach takes no more than a turn for the raise, 8 for each walk, and one for each row that a head held at the start or that was linked up to its latest turn;
abbrev pub SurveysBounded : Type 0
SurveysBounded = (R : RunInTime) (now w b : ℕ) (v : Survey) → BegunBy R now w b (call.Survey v) → turns_taken R w b now ≤ survey_limit R.sizes (rows_at_start R + rows_until R now w b)

-- so every call keeps its bound
abbrev pub RunsBounded : Type 0
RunsBounded = (R : RunInTime) (now : ℕ) → KeepsBound R.sizes (rows_at_start R) (shown_at R now).sights

-- and runs are promised where each has such an order
abbrev pub OrdersSuffice : Type 0
OrdersSuffice = RunsOrdered → RunsPromised

-- where runs are promised, histories are
abbrev pub RunsSuffice : Type 0
RunsSuffice = RunsPromised → PromiseHolds

-- where histories are promised, every opening that is not refused begins with the promise, and what extends a history by a request or more keeps it
pub record ContractsFollow : Type 0 where
  pub opening : PromiseHolds → (cs : List ℕ) (z : Sizes) → PromisedAtOpening cs z
  pub openings : PromiseHolds → OpeningsPromised
  pub request : PromiseHolds → (before after : State) (q : Request) (r : Reply) → Extends before after q r → PromiseKept before after q r
  pub several : PromiseHolds → (before after : State) (more : List Event) → Continues before after more → PromiseContinues before after more
