-- The whole promise, of every history from a clean state; an opening is one, with the empty graph.
use Rattle.std.specs.Prelude.{◌≡◌, ℕ, ◌≤◌, Bool, true, false, if◌then◌else◌, ◌&&◌, List, [], ◌∷◌, ◌++◌, length, drop, Some, None, Option, ◌==◌}
use Rattle.layout.specs.declared.sizes.Sizes.{Sizes}
use Rattle.layout.specs.Layout.{needed}
use Rattle.places.specs.declared.place.Call.{Call}
use Rattle.places.specs.declared.place.Call.TheVariants as call
use Rattle.machine.specs.declared.request.Request.{Request}
use Rattle.machine.specs.declared.request.Reply.{Reply}
use Rattle.machine.specs.States.{State}
use Rattle.machine.specs.Workers.{finishes}
use Rattle.machine.specs.Opening.{opened_state}
use Rattle.machine.specs.History.{Event, Traces}
use Rattle.laws.specs.Clean.{Clean}
use Rattle.questions.specs.Graph.{Graph}
use Rattle.order.specs.Graph.{empty}
use Rattle.order.specs.Order.{Ordered}
use Rattle.runs.specs.Starts.{ShowsGraph}
use Rattle.promise.specs.Sights.{Sight, Sight.begins, Sight.turns, Sight.rests, page_in}
use Rattle.promise.specs.Histories.{shown_by}
use Rattle.promise.specs.Calls.{past_of}
use Rattle.promise.specs.Left.{graph_in}
use Rattle.promise.specs.Bounds.{rows_held, KeepsBound}

abbrev pub is_survey : Call → Bool
is_survey (call.Survey v) = true
is_survey c = false

-- a worker's finished page after a sight: 30 and 31 finish it, and the next begin of a snapshot or reach ends that
abbrev pub page_after : Sight → ℕ → Option (List ℕ) → Option (List ℕ)
page_after (begins v c) w page = if (v == w) && is_survey c then None else page
page_after (turns v d (Some e)) w page = if (v == w) && finishes e.answer then Some e.page else page
page_after s w page = page

-- the finished page of worker w, as it was at its answer
abbrev pub finished_page : List Sight → ℕ → Option (List ℕ)
finished_page [] w = None
finished_page (s ∷ ss) w = page_after s w (finished_page ss w)

-- it is so now
abbrev pub PagesStay : Sizes → List Sight → List ℕ → Type 0
PagesStay z ss cells = (w : ℕ) (page : List ℕ) → finished_page ss w ≡ Some page → page_in z cells w ≡ page

-- what is promised of what was seen, where it began with a graph and heads that held so many rows, and the cells are these now
pub record Kept (z : Sizes) (held : ℕ) (g : Graph) (ss : List Sight) (cells : List ℕ) : Type 0 where
  -- one order explains the calls from that graph on, and leaves the graph that the cells show
  pub order : Ordered (past_of z ss cells) g (graph_in z cells)
  pub bounds : KeepsBound z held ss
  pub pages : PagesStay z ss cells

-- what is promised of a history from a state that shows a graph
abbrev pub Promised : State → Graph → List Event → Type 0
Promised start g h = Kept start.sizes (rows_held start.sizes start.cells) g (shown_by start h).sights (shown_by start h).state.cells

-- an opening that is not refused begins with the promise
abbrev pub PromisedAtOpening : List ℕ → Sizes → Type 0
PromisedAtOpening cs z = needed z ≤ length cs → Promised (opened_state cs z) empty []

-- from whatever clean state and by whatever history a state was reached, one request more is promised too
abbrev pub PromiseKept : State → State → Request → Reply → Type 0
PromiseKept before after q r = (start : State) (g : Graph) (h : List Event) → Clean start → ShowsGraph start g → Traces start h before →
    Traces start (record { request = q; reply = r } ∷ h) after × Promised start g (record { request = q; reply = r } ∷ h)

-- several events more are, at each moment of them
abbrev pub PromiseContinues : State → State → List Event → Type 0
PromiseContinues before after more = (start : State) (g : Graph) (h : List Event) → Clean start → ShowsGraph start g → Traces start h before →
    Traces start (more ++ h) after × ((k : ℕ) → Promised start g (drop k more ++ h))

-- the theorem: every history from a clean state is promised, with the graph that the state shows
abbrev pub PromiseHolds : Type 0
PromiseHolds = (start : State) (g : Graph) (h : List Event) (s : State) → Clean start → ShowsGraph start g → Traces start h s → Promised start g h

-- so is every history of an opening, with the empty graph; no head holds a row there
abbrev pub OpeningsPromised : Type 0
OpeningsPromised = (cs : List ℕ) (z : Sizes) (h : List Event) (s : State) → needed z ≤ length cs → Traces (opened_state cs z) h s → Kept z 0 empty (shown_by (opened_state cs z) h).sights s.cells

-- the promise holds at every opening
abbrev pub OpeningsKept : Type 0
OpeningsKept = (cs : List ℕ) (z : Sizes) → PromisedAtOpening cs z

-- what lets calls and cells rest keeps it: a refusal, and each request that begins no call and gives no turn
abbrev pub RestsKeep : Type 0
RestsKeep = (z : Sizes) (held : ℕ) (g : Graph) (ss : List Sight) (cells : List ℕ) → Kept z held g ss cells → Kept z held g (rests ∷ ss) cells
