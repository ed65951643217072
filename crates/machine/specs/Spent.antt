-- When exactly a turn answers 40 and 41, and how finished pages are counted.
use Rattle.std.specs.Prelude.{◌≡◌, ◌↔◌, ℕ, ◌+◌, ◌<◌, ◌==◌, if◌then◌else◌}
use Rattle.codes.specs.declared.answer.Answer.TheVariants.{SnapshotTaken, ReachTaken, RowsSpent, ClockSpent}
use Rattle.layout.specs.Rows.{rows_each}
use Rattle.places.specs.declared.place.Change.{Change}
use Rattle.places.specs.declared.place.Survey.{Survey}
use Rattle.places.specs.declared.place.Place.TheVariants.{Link, Raise}
use Rattle.places.specs.Touches.{change_kind}
use Rattle.machine.specs.declared.request.Request.{Request}
use Rattle.machine.specs.declared.request.Request.TheVariants as request
use Rattle.machine.specs.declared.request.Reply.{Reply}
use Rattle.machine.specs.declared.request.Reply.TheVariants.{Answered}
use Rattle.machine.specs.States.{State}
use Rattle.machine.specs.Turns.{worker_at}
use Rattle.machine.specs.Workers.{linked_of}
use Rattle.machine.specs.Requests.{reply_of, stepped}
use Rattle.machine.specs.Counts.{clock_of, Counts}

-- a worker that there is stands at the link of an add, and all its rows of that kind are linked
pub record OutOfRows (s : State) (w : ℕ) : Type 0 where
  pub within : w < s.sizes.workers
  pub change : Change
  pub head : ℕ
  pub at_link : (worker_at s w).place ≡ Link change head
  pub all_linked : linked_of (worker_at s w) (change_kind change) ≡ rows_each s.sizes (change_kind change)

-- a worker that there is stands at the raise of a snapshot or reach, and the clock is at its greatest number
pub record OutOfClock (s : State) (w : ℕ) : Type 0 where
  pub within : w < s.sizes.workers
  pub survey : Survey
  pub at_raise : (worker_at s w).place ≡ Raise survey
  pub at_top : clock_of s ≡ s.sizes.top

-- a turn answers 40 exactly there
abbrev pub RowsSpentExactly : Type 0
RowsSpentExactly = (s : State) (w : ℕ) → Counts s → (reply_of s (request.Turn w) ≡ Answered RowsSpent) ↔ OutOfRows s w

-- a turn answers 41 exactly there
abbrev pub ClockSpentExactly : Type 0
ClockSpentExactly = (s : State) (w : ℕ) → Counts s → (reply_of s (request.Turn w) ≡ Answered ClockSpent) ↔ OutOfClock s w

-- the worker that a request is about
abbrev pub worker_of : Request → ℕ
worker_of (request.Begin b) = b.worker
worker_of (request.Turn w) = w
worker_of (request.Take w) = w
worker_of (request.Give t) = t.worker

-- each 30 and 31 finishes a page
abbrev pub pages_finished : Reply → ℕ
pages_finished (Answered SnapshotTaken) = 1
pages_finished (Answered ReachTaken) = 1
pages_finished r = 0

-- the count of finished pages goes up by one with each 30 and 31 of its worker, and with nothing else
abbrev pub PagesCounted : Type 0
PagesCounted =
    (s : State) (q : Request) (u : ℕ) → (worker_at (stepped s q) u).serial ≡ (worker_at s u).serial + (if u == worker_of q then pages_finished (reply_of s q) else 0)
