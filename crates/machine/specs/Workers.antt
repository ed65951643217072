-- The record of a worker: at the opening, and after a turn.
use Rattle.std.specs.Prelude.{ℕ, ◌+◌, ◌-◌, ◌^◌, ◌<◌, Bool, true, false, if◌then◌else◌, List, [], replicate, Some, None, Option}
use Rattle.std.specs.declared.ops.ControlFlow.TheVariants.{Continue, Break}
use Rattle.codes.specs.declared.answer.Answer.{Answer}
use Rattle.codes.specs.declared.answer.Answer.TheVariants.{SnapshotTaken, ReachTaken}
use Rattle.layout.specs.declared.names.Kind.{Kind}
use Rattle.layout.specs.declared.names.Kind.TheVariants.{Vertex, Edge}
use Rattle.layout.specs.declared.names.Field.TheVariants.{Ins}
use Rattle.places.specs.declared.place.Hand.{Hand}
use Rattle.places.specs.declared.place.Place.{Place}
use Rattle.places.specs.declared.place.Place.TheVariants.{Idle, Settle, WalkHead}
use Rattle.places.specs.declared.place.Purpose.TheVariants.{Own}
use Rattle.places.specs.declared.place.Stage.TheVariants.{First}
use Rattle.places.specs.Moved.{Next, Next as next}
use Rattle.places.specs.Flows.{Flow}
use Rattle.places.specs.Touches.{change_kind}
use Rattle.places.specs.Walks.{first_job}
use Rattle.places.specs.Nexts.{next_of}
use Rattle.books.specs.declared.book.Book.{Book}
use Rattle.books.specs.declared.walked.Entry.{Entry}
use Rattle.books.specs.declared.walked.Entry.TheVariants as entry
use Rattle.books.specs.Books.{blank}
use Rattle.books.specs.Walked.{walked_of, WalkOutcome}
use Rattle.machine.specs.declared.worker.PageState.TheVariants.{Unfinished, Finished}
use Rattle.machine.specs.declared.worker.Worker.{Worker}
use Rattle.machine.specs.declared.worker.Step.{Step}

-- idle, with no page and no row linked
abbrev pub fresh : Worker
fresh = record { place = Idle; page = Unfinished; serial = 0; vlinked = 0; elinked = 0; book = blank 0 }

-- there is no record past the table; a look there gives this one
abbrev pub nobody : Worker
nobody = record { place = Idle; page = Unfinished; serial = 0; vlinked = 0; elinked = 0; book = record { t = 0; keys = []; queue = []; len = 0 } }

abbrev pub fresh_table : List Worker
fresh_table = replicate 8 fresh

-- how many rows of a kind it has linked
abbrev pub linked_of : Worker → Kind → ℕ
linked_of v Vertex = v.vlinked
linked_of v Edge = v.elinked

-- each count of a worker can go up by one in 32 bits
pub record CanCount (v : Worker) : Type 0 where
  pub vertices : v.vlinked < 2 ^ 32 - 1
  pub edges : v.elinked < 2 ^ 32 - 1
  pub pages : v.serial < 2 ^ 32 - 1

abbrev pub at : Worker → Place → Worker
at v p = record v { place = p }

-- 30 and 31 finish a page
abbrev pub finishes : Answer → Bool
finishes SnapshotTaken = true
finishes ReachTaken = true
finishes a = false

abbrev pub finished : Worker → Worker
finished v = record v { place = Idle; page = Finished; serial = v.serial + 1 }

-- a worker that answers is idle
abbrev pub arrived : Worker → Flow → Worker
arrived v (Continue p) = at v p
arrived v (Break a) = if finishes a then finished v else at v Idle

abbrev pub flow_answer : Flow → Option Answer
flow_answer (Continue p) = None
flow_answer (Break a) = Some a

abbrev pub counted : Worker → Kind → Worker
counted v Vertex = record v { vlinked = v.vlinked + 1 }
counted v Edge = record v { elinked = v.elinked + 1 }

abbrev pub with_book : Worker → Book → Worker
with_book v b = record v { book = b }

-- what a turn makes of the record, its answer, and what goes into the page
pub record Turned : Type 0 where
  pub worker : Worker
  pub answer : Option Answer
  pub entry : Entry

abbrev pub after_step : Worker → Step → Turned
after_step v s = record { worker = v; answer = s.answer; entry = s.entry }

abbrev pub served : Worker → WalkOutcome → Turned
served v o = record { worker = arrived (with_book v o.book) o.out; answer = flow_answer o.out; entry = o.entry }

abbrev pub arriving : Worker → Flow → Turned
arriving v o = record { worker = arrived v o; answer = flow_answer o; entry = entry.Nothing }

-- A linked row counts, and its ins is settled. A raise clears the page and starts the first walk. A walk that has ended goes into the book.
abbrev pub followed : ℕ → Worker → Hand → Next → Turned
followed n v h (next.Moved o) = arriving v o
followed n v h (next.Linked c r) = record { worker = at (counted v (change_kind c)) (Settle First (Own Ins c r)); answer = None; entry = entry.Nothing }
followed n v h (next.Raised s t) = record { worker = at (with_book v (blank t)) (WalkHead (record { survey = s; job = first_job s })); answer = None; entry = entry.Clear }
followed n v h (next.Walked k r) = served v (walked_of v.book k n r h)

-- what follows from a worker's place and what its turn gave
abbrev pub follows : ℕ → Worker → Hand → Option ℕ → Turned
follows n v h g = followed n v h (next_of v.place h g)
