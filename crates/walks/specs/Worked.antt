-- A run in which a vertex is linked, its ins gets the stamp 1, and a snapshot of the one key is taken.
use Rattle.std.specs.Prelude.{◌≡◌, ℕ, zero, suc, true}
use Rattle.std.specs.declared.ops.ControlFlow.TheVariants.{Continue, Break}
use Rattle.codes.specs.declared.answer.Answer.TheVariants.{SnapshotTaken}
use Rattle.layout.specs.declared.names.Kind.{Kind}
use Rattle.layout.specs.declared.names.Kind.TheVariants as kind
use Rattle.layout.specs.declared.names.Field.{Field}
use Rattle.layout.specs.declared.names.Field.TheVariants.{Ins, Del}
use Rattle.layout.specs.declared.names.Head.{Head}
use Rattle.layout.specs.declared.names.Head.TheVariants as head
use Rattle.places.specs.Marks.{pending}
use Rattle.places.specs.Flows.{Flow}
use Rattle.places.specs.declared.place.Survey.TheVariants.{Snapshot}
use Rattle.places.specs.declared.place.Place.TheVariants.{Raise}
use Rattle.books.specs.Books.{blank}
use Rattle.walks.specs.Memory.{Memory}
use Rattle.walks.specs.Courses.{Course}
use Rattle.walks.specs.Pages.{clear, graph_of}
use Rattle.walks.specs.Surveys.{Surveyor, Going, turn_of, Surveying}
use Rattle.walks.specs.Steps.{Steps}

-- the clock, the head of key 0, and ins of row 1
abbrev pub memory : ℕ → ℕ → ℕ → Memory
memory clock first ins = record { clock = clock; head = head_is; stamp = stamp_is; older = λ k r. 0; source = λ r. 0; target = λ r. 0; weight = λ r. 1 }
  where
    head_is : Head → ℕ
    head_is (head.Vertex zero) = first
    head_is (head.Vertex (suc i)) = 0
    head_is (head.Edge i j) = 0

    stamp_is : Kind → Field → ℕ → ℕ
    stamp_is kind.Vertex Ins r = ins
    stamp_is kind.Vertex Del r = 0
    stamp_is kind.Edge f r = 0

-- row 1 is linked, then stamped; then the clock is raised
abbrev pub memory_at : ℕ → Memory
memory_at zero = memory 1 0 0
memory_at (suc zero) = memory 1 1 pending
memory_at (suc (suc zero)) = memory 1 1 1
memory_at (suc (suc (suc k))) = memory 2 1 1

abbrev pub course : Course
course = record { at = memory_at; older = λ k r. 0; source = λ r. 0; target = λ r. 0; weight = λ r. 1 }

abbrev pub moved : Surveyor → Flow → Surveyor
moved s (Continue p) = record s { place = p }
moved s (Break a) = s

abbrev pub after : Going → Surveyor
after g = moved (record { place = Raise Snapshot; book = g.book; page = g.page }) g.out

-- the snapshot begins at time 2, and has a turn at each time
abbrev pub surveyor_at : ℕ → Surveyor
surveyor_at zero = record { place = Raise Snapshot; book = blank 0; page = clear }
surveyor_at (suc zero) = record { place = Raise Snapshot; book = blank 0; page = clear }
surveyor_at (suc (suc zero)) = record { place = Raise Snapshot; book = blank 0; page = clear }
surveyor_at (suc (suc (suc k))) = after (turn_of 1 9 (memory_at (suc (suc k))) (surveyor_at (suc (suc k))))

abbrev pub last_turn : Going
last_turn = turn_of 1 9 (memory_at 5) (surveyor_at 5)

-- the run gives what is owed, and its page shows the key
pub record Worked : Type 0 where
  pub steps : Steps course 1
  pub turns : Surveying course 1 9 Snapshot 2 5 surveyor_at
  pub answer : last_turn.out ≡ Break SnapshotTaken
  pub shows : (graph_of 1 last_turn.page).has 0 ≡ true
