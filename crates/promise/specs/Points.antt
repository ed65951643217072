-- The keys of the snapshots and reaches of a run, and what is left to give for its other calls.
use Rattle.std.specs.Prelude.{◌≡◌, ℕ, ◌⊎◌, Some, Option}
use Rattle.places.specs.declared.place.Survey.{Survey}
use Rattle.places.specs.declared.place.Call.TheVariants as call
use Rattle.order.specs.Past.{Finish, Belongs}
use Rattle.order.specs.Keys.{Key}
use Rattle.order.specs.Marks.{Marks}
use Rattle.order.specs.Finds.{RowChange, no_change}
use Rattle.order.specs.Marked.{CallMarked}
use Rattle.runs.specs.Runs.{RunInTime}
use Rattle.runs.specs.Known.{TurnOf}
use Rattle.runs.specs.Marking.{time_bound, RunMarks}
use Rattle.surveys.specs.Raises.{raise_before}
use Rattle.promise.specs.Bridges.{past_at, raise_at}
use Rattle.promise.specs.Promise.{PromiseHolds}
use Rattle.promise.specs.Keyed.{marking, CallsMarked, RunsKeyed}

-- the numbers of the raises that deeds tell are those that the clock tells
abbrev pub RaisesAgree : Type 0
RaisesAgree = (R : RunInTime) (now b : ℕ) → raise_at R now b ≡ raise_before R now b

module _ (R : RunInTime) (now : ℕ) (m : Marks) where
  -- a snapshot or reach that belongs to the order was finished; its key is of one of its turns, at it or right after it
  pub record SurveyKeyed (b : ℕ) : Type 0 where
    pub finish : Finish
    pub finished : (past_at R now).finish b ≡ Some finish
    pub key : Key
    pub turn : TurnOf R key.time b
    pub part : (key.part ≡ 0) ⊎ (key.part ≡ time_bound now)
    -- there it has all that is owed for it, whatever keys and changes the other calls have
    pub owed : (keys : ℕ → Option Key) (change : ℕ → RowChange) → change b ≡ no_change → CallMarked (past_at R now) (marking R now m keys change) b key

  abbrev pub SurveysKeyed : Type 0
  SurveysKeyed = (b : ℕ) (v : Survey) → (past_at R now).begun b ≡ Some (call.Survey v) → Belongs (past_at R now) b → SurveyKeyed b

-- the snapshots and reaches of every run are so keyed
abbrev pub RunsKeySurveys : Type 0
RunsKeySurveys = (R : RunInTime) (now : ℕ) (m : RunMarks R now) → SurveysKeyed R now m.marks

-- What is left to give: where they are, calls 1 to 6 have keys too, beside theirs, and the changes of the rows that have an effect are theirs.
abbrev pub PointsKeyed : Type 0
PointsKeyed = (R : RunInTime) (now : ℕ) (m : RunMarks R now) → SurveysKeyed R now m.marks →
    (key : ℕ → Option Key) × (change : ℕ → RowChange) × CallsMarked R now (marking R now m.marks key change)

-- then all calls of every run have
abbrev pub PointsSuffice : Type 0
PointsSuffice = PointsKeyed → RunsKeyed

-- so the promise holds
abbrev pub PromiseFollows : Type 0
PromiseFollows = PointsKeyed → PromiseHolds
