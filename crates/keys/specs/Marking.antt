-- A run gives what it owes for its calls, so one order explains them.
use Rattle.std.specs.Prelude.{◌≡◌, ℕ, Some, None, Option}
use Rattle.places.specs.declared.place.Survey.{Survey}
use Rattle.places.specs.declared.place.Call.TheVariants as call
use Rattle.questions.specs.Graph.{Graph}
use Rattle.order.specs.Past.{Past, Belongs}
use Rattle.order.specs.Order.{Ordered}
use Rattle.order.specs.Keys.{Key}
use Rattle.order.specs.Marks.{Marks, MarksSound}
use Rattle.order.specs.Finds.{RowChange, no_change}
use Rattle.order.specs.Marked.{Marking, CallMarked, Marked}
use Rattle.order.specs.Raises.{ShowsVisible}
use Rattle.runs.specs.Runs.{RunInTime}
use Rattle.runs.specs.Views.{clock_at}
use Rattle.runs.specs.Starts.{ShowsGraph}
use Rattle.runs.specs.Marking.{time_bound, MarksTellRun}
use Rattle.keys.specs.Standing.{Owner}
use Rattle.keys.specs.Told.{PastTold}

-- what a run up to now gives: its clock, marks of its rows, and keys and changes of its calls
abbrev pub marking_of : RunInTime → ℕ → Marks → (ℕ → Option Key) → (ℕ → RowChange) → Marking
marking_of R now m key change = record { now = now; clock = clock_at R; bound = time_bound now; top = clock_at R now; marks = m; key = key; change = change }

-- the same for one call, which makes the change v
abbrev pub marking_for : RunInTime → ℕ → Marks → RowChange → Marking
marking_for R now m v = marking_of R now m (λ b. None) (λ b. v)

module _ (R : RunInTime) (now : ℕ) (m : Marks) (h : Past) where
  -- what is owed for a snapshot or reach: a key of its own
  pub record SurveyMarked (b : ℕ) : Type 0 where
    pub key : Key
    pub owner : Owner R now key b
    pub marked : CallMarked h (marking_for R now m no_change) b key

  abbrev pub SurveysMarked : Type 0
  SurveysMarked = (b : ℕ) (v : Survey) → h.begun b ≡ Some (call.Survey v) → Belongs h b → SurveyMarked b

  -- the run gives what it owes
  pub record RunMarked : Type 0 where
    pub key : ℕ → Option Key
    pub change : ℕ → RowChange
    pub marked : Marked h (marking_of R now m key change)

-- where the snapshots and reaches have keys, all calls have
abbrev pub RunsGiveKeys : Type 0
RunsGiveKeys = (R : RunInTime) (now : ℕ) (m : Marks) → MarksTellRun R now m → MarksSound (time_bound now) (clock_at R now) m → (h : Past) →
    PastTold R now h → SurveysMarked R now m h → RunMarked R now m h

-- so one order explains them, from the graph of the start to that of the rows that are there by the last stamp
pub record RunOrdered (R : RunInTime) (now : ℕ) (m : Marks) (h : Past) (first : Graph) : Type 0 where
  pub end : Graph
  pub shown : ShowsVisible m (clock_at R now) end
  pub order : Ordered h first end

abbrev pub RunsHaveOrder : Type 0
RunsHaveOrder = (R : RunInTime) (now : ℕ) (m : Marks) → MarksTellRun R now m → MarksSound (time_bound now) (clock_at R now) m → (h : Past) (first : Graph) → ShowsGraph (R.state 0) first →
    PastTold R now h → SurveysMarked R now m h → RunOrdered R now m h first
