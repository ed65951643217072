-- How the counts of the bounds move with each request of a run.
use Rattle.std.specs.Prelude.{◌≡◌, ℕ, suc, ◌+◌, ◌*◌, ◌<◌, ◌≤◌, Bool, true, not, ◌&&◌, Some, None, ◌==◌, nat_lt}
use Rattle.layout.specs.declared.names.Head.{Head}
use Rattle.layout.specs.declared.names.Head.TheVariants as head
use Rattle.layout.specs.declared.names.Cell.TheVariants as cell
use Rattle.layout.specs.Layout.{Named}
use Rattle.places.specs.declared.place.Pair.{Pair}
use Rattle.places.specs.declared.place.Change.{Change}
use Rattle.places.specs.declared.place.Survey.{Survey}
use Rattle.places.specs.declared.place.Call.TheVariants as call
use Rattle.machine.specs.declared.request.Request.TheVariants.{Turn}
use Rattle.machine.specs.Requests.{turn_refused}
use Rattle.runs.specs.Runs.{RunInTime}
use Rattle.runs.specs.Views.{head_at}
use Rattle.runs.specs.Seen.{open_at}
use Rattle.runs.specs.Steps.{LinkStep}
use Rattle.runs.specs.Reasons.{BegunBy}
use Rattle.bounds.specs.Bounds.{count_before, rows_held_at_start, turns_taken, latest_turn}
use Rattle.promise.specs.Bounds.{one_if, turns_had, until_turn, rows_linked, other_links}
use Rattle.promise.specs.Bridges.{shown_at, SurveysBounded}

module _ (R : RunInTime) (k : ℕ) where
  -- request k is a turn of the call b, or it is not
  pub data TurnsStep (b : ℕ) : Type 0 where
    own : (w : ℕ) → R.request k ≡ Turn w → w < R.sizes.workers → turn_refused (R.state k) w ≡ None → open_at R k w ≡ Some b →
        turns_had (shown_at R (suc k)).sights b ≡ suc (turns_had (shown_at R k).sights b) → until_turn (shown_at R (suc k)).sights b ≡ (shown_at R (suc k)).sights → TurnsStep b
    other : ((w : ℕ) → R.request k ≡ Turn w → w < R.sizes.workers → turn_refused (R.state k) w ≡ None → ¬ (open_at R k w ≡ Some b)) →
        turns_had (shown_at R (suc k)).sights b ≡ turns_had (shown_at R k).sights b → until_turn (shown_at R (suc k)).sights b ≡ until_turn (shown_at R k).sights b → TurnsStep b

  -- no head moves, or one does and one more row is linked
  pub data RowsStep : Type 0 where
    none_linked : ((h : Head) → Named R.sizes (cell.Head h) → head_at R (suc k) h ≡ head_at R k h) → rows_linked (shown_at R (suc k)).sights ≡ rows_linked (shown_at R k).sights → RowsStep
    one_linked : (g : Head) → Named R.sizes (cell.Head g) → ¬ (head_at R (suc k) g ≡ head_at R k g) → ((h : Head) → Named R.sizes (cell.Head h) → ¬ (h ≡ g) → head_at R (suc k) h ≡ head_at R k h) →
        rows_linked (shown_at R (suc k)).sights ≡ suc (rows_linked (shown_at R k).sights) → RowsStep

  -- the links on a pair that count for the call b of worker w
  pub record LinksStep (w : ℕ) (p : Pair) (b : ℕ) : Type 0 where
    pub still : head_at R (suc k) (head.Edge p.from p.to) ≡ head_at R k (head.Edge p.from p.to) → other_links w p b (shown_at R (suc k)).sights ≡ other_links w p b (shown_at R k).sights
    pub moved : ¬ (head_at R (suc k) (head.Edge p.from p.to) ≡ head_at R k (head.Edge p.from p.to)) →
        (v : ℕ) × (R.request k ≡ Turn v) × (other_links w p b (shown_at R (suc k)).sights ≡ one_if (nat_lt b k && not (v == w)) (other_links w p b (shown_at R k).sights))

pub record CountLaws (R : RunInTime) (k : ℕ) : Type 0 where
  pub turns : (b : ℕ) → TurnsStep R k b
  pub rows : RowsStep R k
  pub links : (w : ℕ) (p : Pair) (b : ℕ) → (p.from < R.sizes.keys) × (p.to < R.sizes.keys) → LinksStep R k w p b

abbrev pub RunsCount : Type 0
RunsCount = (R : RunInTime) (k : ℕ) → CountLaws R k

-- where a test holds exactly of the turns that link a row, the rows that are seen to be linked are as many as the times at which it holds
abbrev pub RowsCounted : Type 0
RowsCounted = (R : RunInTime) (test : ℕ → Bool) → ((t : ℕ) → test t ≡ true → (d : Change) × (r : ℕ) × LinkStep R t d r) → ((t : ℕ) (d : Change) (r : ℕ) → LinkStep R t d r → test t ≡ true) →
    (k : ℕ) → count_before k test ≡ rows_linked (shown_at R k).sights

-- so snapshots and reaches keep their bound, if they do by such a test
abbrev pub SurveysFollow : Type 0
SurveysFollow = (test : RunInTime → ℕ → Bool) → ((R : RunInTime) (t : ℕ) → test R t ≡ true → (d : Change) × (r : ℕ) × LinkStep R t d r) → ((R : RunInTime) (t : ℕ) (d : Change) (r : ℕ) → LinkStep R t d r → test R t ≡ true) →
    ((R : RunInTime) (now w b : ℕ) (v : Survey) → BegunBy R now w b (call.Survey v) → turns_taken R w b now ≤ 1 + 8 * (R.sizes.keys * R.sizes.keys) + (rows_held_at_start R + count_before (suc (latest_turn R w b now)) (test R))) → SurveysBounded
