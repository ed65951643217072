-- What the order wants of the finished snapshots and reaches of a run.
use Rattle.std.specs.Prelude.{◌≡◌, ℕ, ◌≤◌, ◌≢◌, Bool, None, Some, Option}
use Rattle.codes.specs.declared.answer.Answer.TheVariants.{ClockSpent}
use Rattle.places.specs.declared.place.Survey.{Survey}
use Rattle.places.specs.declared.place.Call.TheVariants as call
use Rattle.order.specs.Past.{Finish, Past}
use Rattle.order.specs.Keys.{Key}
use Rattle.order.specs.Marks.{Marks, MarksSound}
use Rattle.order.specs.Raises.{raise_key}
use Rattle.order.specs.Finds.{RowChange, no_change}
use Rattle.order.specs.Seen.{CallSight.begins, finish_by, past_of}
use Rattle.order.specs.Marked.{Marking, CallMarked}
use Rattle.runs.specs.Runs.{RunInTime}
use Rattle.runs.specs.Views.{clock_at}
use Rattle.runs.specs.Seen.{seen}
use Rattle.runs.specs.Known.{TurnOf}
use Rattle.runs.specs.Marking.{time_bound, MarksTellRun}
use Rattle.runs.specs.VertexFinds.{turn_key}
use Rattle.surveys.specs.Raises.{raising_turn, raise_before}

module _ (R : RunInTime) (now : ℕ) where
  -- the past of a run up to now, with the numbers from which its calls raised the clock
  abbrev pub run_past : (ℕ → Option ℕ) → (ℕ → Bool) → Past
  run_past stamp lower_end = past_of (seen R) now stamp (raise_before R now) lower_end

  -- what a run gives besides its past
  abbrev pub run_marking : Marks → (ℕ → Option Key) → (ℕ → RowChange) → Marking
  run_marking m key change = record { now = now; clock = clock_at R; bound = time_bound now; top = clock_at R now; marks = m; key = key; change = change }

  -- the key of the turn that raised the clock, or of the turn at time f
  abbrev pub key_from : Option ℕ → ℕ → Key
  key_from (Some r) f = raise_key (time_bound now) r (clock_at R r)
  key_from None f = turn_key R now f

  -- the key of a snapshot or reach that began at b and was finished at f
  abbrev pub survey_key : ℕ → ℕ → Key
  survey_key b f = key_from (raising_turn R b now) f

  -- a snapshot or reach that was finished has all that is owed for it
  pub record SurveyMarked (m : Marks) (stamp : ℕ → Option ℕ) (lower_end : ℕ → Bool) (key : ℕ → Option Key) (change : ℕ → RowChange) (b : ℕ) (f : Finish) : Type 0 where
    pub owed : CallMarked (run_past stamp lower_end) (run_marking m key change) b (survey_key b f.time)
    -- its key is that of a turn of the call
    pub turn : TurnOf R (survey_key b f.time).time b
    pub part : (survey_key b f.time).part ≤ time_bound now
    -- if it answers 41 that is the turn that answers, else the call raised the clock
    pub spent : f.answer ≡ ClockSpent → survey_key b f.time ≡ turn_key R now f.time
    pub raises : f.answer ≢ ClockSpent → (t : ℕ) × (raise_before R now b ≡ Some t)

-- whatever marks tell the run, and whatever keys and changes the other calls have
abbrev pub SurveysMarked : Type 0
SurveysMarked = (R : RunInTime) (now : ℕ) (m : Marks) → MarksTellRun R now m → MarksSound (time_bound now) (clock_at R now) m →
    (stamp : ℕ → Option ℕ) (lower_end : ℕ → Bool) (key : ℕ → Option Key) (change : ℕ → RowChange) (w b : ℕ) (v : Survey) (f : Finish) →
    seen R b ≡ begins w (call.Survey v) → finish_by (seen R) now b ≡ Some f → change b ≡ no_change → SurveyMarked R now m stamp lower_end key change b f
