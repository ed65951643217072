-- Which pairs are walked, in which order.
use Rattle.std.specs.Prelude.{ℕ, zero, suc, ◌+◌, ◌-◌, ◌*◌, ◌/◌, ◌%◌, Bool, if◌then◌else◌, not, ◌&&◌, Some, None, Option, ◌==◌, slice_index}
use Rattle.codes.specs.declared.answer.Answer.{Answer}
use Rattle.codes.specs.declared.answer.Answer.TheVariants.{SnapshotTaken, ReachTaken}
use Rattle.std.specs.declared.ops.ControlFlow.{ControlFlow}
use Rattle.std.specs.declared.ops.ControlFlow.TheVariants.{Continue, Break}
use Rattle.layout.specs.Rows.{no_row}
use Rattle.places.specs.Flows.{Flow}
use Rattle.places.specs.declared.place.Survey.{Survey}
use Rattle.places.specs.declared.place.Survey.TheVariants.{Snapshot, Reach}
use Rattle.places.specs.declared.place.ServedPair.{ServedPair}
use Rattle.places.specs.declared.place.Job.{Job}
use Rattle.places.specs.declared.place.Job.TheVariants as job
use Rattle.places.specs.declared.place.Place.TheVariants.{WalkHead}
use Rattle.books.specs.declared.book.Book.{Book}
use Rattle.books.specs.Books.{shown_of}

-- the answer of a finished page
abbrev pub survey_done : Survey → Answer
survey_done Snapshot = SnapshotTaken
survey_done (Reach i) = ReachTaken

-- a snapshot walks pairs of two visible keys, a reach all pairs of the key it serves; no key is paired with itself
abbrev pub open_pair : Book → Survey → ℕ → ℕ → Bool
open_pair b Snapshot i j = not (i == j) && (not (shown_of b i == no_row) && not (shown_of b j == no_row))
open_pair b (Reach s) i j = not (i == j)

-- pair number x is of the (x / n)-th key to serve and the key x % n
abbrev pub pair_from : Book → ℕ → ℕ → ℕ
pair_from b n x = slice_index b.queue (x / n)

abbrev pub pair_to : ℕ → ℕ → ℕ
pair_to n x = x % n

abbrev pub open_at : Book → Survey → ℕ → ℕ → Bool
open_at b v n x = open_pair b v (pair_from b n x) (pair_to n x)

abbrev pub pair_numbered : Book → ℕ → ℕ → ServedPair
pair_numbered b n x = record { position = x / n; from = pair_from b n x; to = pair_to n x }

-- the number of a pair
abbrev pub pair_number : ℕ → ServedPair → ℕ
pair_number n l = l.position * n + l.to

-- the first pair to walk among the d pairs from number x on
abbrev pub first_open : Book → Survey → ℕ → ℕ → ℕ → Option Job
first_open b v n zero x = None
first_open b v n (suc d) x =
    if open_at b v n x then Some (job.Pair (pair_numbered b n x)) else first_open b v n d (x + 1)

abbrev pub open_from : Book → Survey → ℕ → ℕ → Option Job
open_from b v n x = first_open b v n (n * b.len - x) x

-- on to the first turn of a walk, or the answer
abbrev pub walk_or : Survey → ControlFlow Answer Job → Flow
walk_or v (Continue j) = Continue (WalkHead (record { survey = v; job = j }))
walk_or v (Break a) = Break a

-- the keys are served in the order in which they joined, each with the others rising; after the last the page is finished
abbrev pub go_on : Survey → Option Job → Flow
go_on v None = Break (survey_done v)
go_on v (Some j) = walk_or v (Continue j)

abbrev pub serve_from : Book → Survey → ℕ → ℕ → Flow
serve_from b v n x = go_on v (open_from b v n x)
