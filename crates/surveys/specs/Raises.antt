-- Which turns of a run raise the clock, and from which number a call raised it.
use Rattle.std.specs.Prelude.{◌≡◌, ℕ, zero, suc, ◌<◌, Bool, false, if◌then◌else◌, not, ◌&&◌, ◌≢◌, None, Some, Option, option_map, ◌==◌}
use Rattle.places.specs.declared.place.Survey.{Survey}
use Rattle.layout.specs.declared.names.Field.{Field}
use Rattle.places.specs.declared.place.Change.{Change}
use Rattle.places.specs.declared.place.Call.{Call}
use Rattle.places.specs.declared.place.Call.TheVariants as call
use Rattle.places.specs.declared.place.Place.TheVariants.{Raise}
use Rattle.machine.specs.declared.request.Request.{Request}
use Rattle.machine.specs.declared.request.Request.TheVariants as request
use Rattle.order.specs.Marks.{Marks}
use Rattle.order.specs.Raises.{AllSettled}
use Rattle.order.specs.Seen.{CallSight.begins, is_open}
use Rattle.runs.specs.Runs.{RunInTime}
use Rattle.runs.specs.Views.{clock_at}
use Rattle.runs.specs.Seen.{seen, open_at}
use Rattle.runs.specs.Steps.{TurnAt}
use Rattle.runs.specs.Known.{TurnOf, ChangeEvent}
use Rattle.runs.specs.Marking.{MarksTellRun}

-- a request is a turn of a worker that has the call b open
abbrev pub is_request_of_call : (ℕ → Option ℕ) → ℕ → Request → Bool
is_request_of_call opens b (request.Turn w) = is_open (opens w) b
is_request_of_call opens b q = false

module _ (R : RunInTime) where
  -- turn t is one of the call that began at b, and the clock moves
  abbrev pub raising : ℕ → ℕ → Bool
  raising b t = is_request_of_call (open_at R t) b (R.request t) && not (clock_at R (suc t) == clock_at R t)

  -- the latest such turn before time k
  unfoldable pub raising_turn : ℕ → ℕ → Option ℕ
  raising_turn b zero = None
  raising_turn b (suc k) = if raising b k then Some k else raising_turn b k

  -- the number from which the call that began at b had raised the clock before time k: the clock before that turn
  abbrev pub raise_before : ℕ → ℕ → Option ℕ
  raise_before k b = option_map (clock_at R) (raising_turn b k)

  -- turn k raises the clock by one, for a snapshot or reach
  pub record RaiseStep (k : ℕ) : Type 0 where
    pub worker : ℕ
    pub survey : Survey
    pub turn : TurnAt R k worker (Raise survey)
    pub low : clock_at R k < R.sizes.top
    pub next : clock_at R (suc k) ≡ suc (clock_at R k)

-- the clock moves only so
abbrev pub RunsRaise : Type 0
RunsRaise = (R : RunInTime) (k : ℕ) → clock_at R (suc k) ≢ clock_at R k → RaiseStep R k

-- all changes of a run bear a stamp that the clock had when they became pending, or later, and none became pending in a turn that moved the clock
abbrev pub RunsSettle : Type 0
RunsSettle = (R : RunInTime) (now : ℕ) (m : Marks) → MarksTellRun R now m → (r : ℕ) → clock_at R (suc r) ≢ clock_at R r → AllSettled (clock_at R) r (clock_at R now) m

-- only snapshots and reaches raise the clock
abbrev pub OnlySurveysRaise : Type 0
OnlySurveysRaise = (R : RunInTime) (k w b t : ℕ) (c : Call) → seen R b ≡ begins w c → raise_before R k b ≡ Some t → (v : Survey) × (c ≡ call.Survey v)

-- a turn is of one call
abbrev pub TurnsOfOne : Type 0
TurnsOfOne = (R : RunInTime) (t b c : ℕ) → TurnOf R t b → TurnOf R t c → b ≡ c

-- snapshots and reaches change no row
abbrev pub SurveysChangeNone : Type 0
SurveysChangeNone = (R : RunInTime) (w b : ℕ) (v : Survey) → seen R b ≡ begins w (call.Survey v) → (f : Field) (p : ℕ) (d : Change) (r : ℕ) → ¬ (ChangeEvent R f p b d r)
