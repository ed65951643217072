-- How many turns a call of a run takes, finished or not.
use Rattle.std.specs.Prelude.{ℕ, zero, suc, ◌+◌, ◌*◌, ◌≤◌, Bool, false, if◌then◌else◌, not, ◌&&◌, ◌||◌, ◌==◌}
use Rattle.layout.specs.declared.names.Head.{Head}
use Rattle.layout.specs.declared.names.Head.TheVariants as head
use Rattle.places.specs.declared.place.Op.TheVariants.{Add}
use Rattle.places.specs.declared.place.Call.{Call}
use Rattle.places.specs.declared.place.Call.TheVariants as call
use Rattle.machine.specs.declared.request.Request.{Request}
use Rattle.machine.specs.declared.request.Request.TheVariants as request
use Rattle.layout.specs.Rows.{no_row}
use Rattle.order.specs.Seen.{is_open}
use Rattle.runs.specs.Runs.{RunInTime}
use Rattle.runs.specs.Views.{head_at}
use Rattle.runs.specs.Seen.{open_at}
use Rattle.runs.specs.Reasons.{BegunBy}
use Rattle.walks.specs.Budgets.{sum_below}

-- at how many times before time k a test holds
unfoldable pub count_before : ℕ → (ℕ → Bool) → ℕ
count_before zero test = 0
count_before (suc k) test = count_before k test + (if test k then 1 else 0)

-- a test holds of a number below n
unfoldable pub any_below : ℕ → (ℕ → Bool) → Bool
any_below zero test = false
any_below (suc n) test = any_below n test || test n

-- a head moves in the step from time t
abbrev pub head_moves : RunInTime → ℕ → Head → Bool
head_moves R t h = not (head_at R (suc t) h == head_at R t h)

-- the step from time t links a row: the head of a key moves, or that of a pair
abbrev pub links_row : RunInTime → ℕ → Bool
links_row R t = any_below R.sizes.keys (λ i. head_moves R t (head.Vertex i) || any_below R.sizes.keys (λ j. head_moves R t (head.Edge i j)))

-- how many heads of keys and of pairs hold a row at the start
unfoldable pub rows_held_at_start : RunInTime → ℕ
rows_held_at_start R = sum_below R.sizes.keys (λ i. if head_at R 0 (head.Vertex i) == no_row then 0 else 1) +
    sum_below R.sizes.keys (λ a. sum_below R.sizes.keys (λ j. if head_at R 0 (head.Edge a j) == no_row then 0 else 1))

-- a request is a turn of worker w, or of another worker
abbrev pub is_turn_of_worker : ℕ → Request → Bool
is_turn_of_worker w (request.Turn v) = v == w
is_turn_of_worker w q = false

abbrev pub is_turn_of_other : ℕ → Request → Bool
is_turn_of_other w (request.Turn v) = not (v == w)
is_turn_of_other w q = false

module _ (R : RunInTime) (w b : ℕ) where
  -- turn t belongs to the call b of worker w: the worker has this call open
  abbrev pub turn_of_call : ℕ → Bool
  turn_of_call t = is_turn_of_worker w (R.request t) && is_open (open_at R t w) b

  -- how many turns the call had before time k
  abbrev pub turns_taken : ℕ → ℕ
  turns_taken k = count_before k turn_of_call

  -- the time of the latest turn that it had before time k
  unfoldable pub latest_turn : ℕ → ℕ
  latest_turn zero = 0
  latest_turn (suc k) = if turn_of_call k then k else latest_turn k

  -- while the call was open, turn t of another worker moved a head: it linked a row there
  abbrev pub other_links : Head → ℕ → Bool
  other_links h t = (is_open (open_at R t w) b && is_turn_of_other w (R.request t)) && not (head_at R (suc t) h == head_at R t h)

  -- how often this happened before time k
  abbrev pub links_of_others : Head → ℕ → ℕ
  links_of_others h k = count_before k (other_links h)

  -- the rows of the heads at the start, and those that were linked up to the latest turn that the call had before time k
  abbrev pub rows_met : ℕ → ℕ
  rows_met k = rows_held_at_start R + count_before (suc (latest_turn k)) (links_row R)

  -- 48 turns; for an add of an edge 52, and 52 more for each link of another worker on its pair up to its latest turn; for a snapshot or reach of n keys
  -- 1 + 8 · n · n, and one for each row of a head at the start or linked up to its latest turn
  abbrev pub WithinBound : ℕ → Call → Type 0
  WithinBound now (call.Edge Add p) = turns_taken now ≤ 52 * (1 + links_of_others (head.Edge p.from p.to) (latest_turn now))
  WithinBound now (call.Survey v) = turns_taken now ≤ 1 + 8 * (R.sizes.keys * R.sizes.keys) + rows_met now
  WithinBound now c = turns_taken now ≤ 48

-- every call that worker w began, at time b, and at every time after it
abbrev pub TurnsStayBounded : Type 0
TurnsStayBounded = (R : RunInTime) (now w b : ℕ) (c : Call) → BegunBy R now w b c → WithinBound R w b now c
