-- A snapshot or reach, turn by turn, and what its answer says of the graph.
use Rattle.std.specs.Prelude.{◌≡◌, ℕ, suc, ◌<◌, ◌≤◌, true, false, ◌⊎◌, None}
use Rattle.std.specs.declared.ops.ControlFlow.TheVariants.{Continue, Break}
use Rattle.codes.specs.declared.answer.Answer.{Answer}
use Rattle.codes.specs.declared.answer.Answer.TheVariants.{VertexAbsent, SnapshotTaken, ReachTaken, ClockSpent}
use Rattle.places.specs.declared.place.Survey.{Survey}
use Rattle.places.specs.declared.place.Survey.TheVariants.{Snapshot, Reach}
use Rattle.places.specs.declared.place.Hand.{Hand}
use Rattle.places.specs.declared.place.Place.{Place}
use Rattle.places.specs.declared.place.Place.TheVariants.{Settle, Raise, WalkHead}
use Rattle.places.specs.declared.place.Stage.TheVariants.{First}
use Rattle.places.specs.declared.place.Purpose.TheVariants.{Own}
use Rattle.layout.specs.declared.names.Field.TheVariants.{Ins}
use Rattle.places.specs.Moved.{Next, Next as next}
use Rattle.places.specs.Flows.{Flow}
use Rattle.places.specs.Touches.{touch_of}
use Rattle.places.specs.Walks.{first_job}
use Rattle.books.specs.declared.book.Book.{Book}
use Rattle.books.specs.Books.{blank}
use Rattle.books.specs.Walked.{walked_of, WalkOutcome}
use Rattle.questions.specs.Graph.{Graph}
use Rattle.order.specs.Graph.{Reached}
use Rattle.walks.specs.Memory.{Memory}
use Rattle.walks.specs.Courses.{Course, CourseBefore, Laws}
use Rattle.walks.specs.Visible.{Stands}
use Rattle.walks.specs.Walking.{hand_in, next_in, Done}
use Rattle.walks.specs.Pages.{Page, clear, written, graph_of}

-- a worker that makes a page
pub record Surveyor : Type 0 where
  pub place : Place
  pub book : Book
  pub page : Page

-- where a turn leads, and its book and page then
pub record Going : Type 0 where
  pub out : Flow
  pub book : Book
  pub page : Page

abbrev pub served : Page → WalkOutcome → Going
served p o = record { out = o.out; book = o.book; page = written p o.entry }

-- A raise clears the page and starts the first walk. A walk that has ended goes into the book and the page. The ins of a linked row is settled; a
-- snapshot or reach links none.
abbrev pub going : ℕ → Surveyor → Hand → Next → Going
going n s h (next.Moved o) = record { out = o; book = s.book; page = s.page }
going n s h (next.Linked c r) = record { out = Continue (Settle First (Own Ins c r)); book = s.book; page = s.page }
going n s h (next.Raised v t) = record { out = Continue (WalkHead (record { survey = v; job = first_job v })); book = blank t; page = clear }
going n s h (next.Walked k r) = served s.page (walked_of s.book k n r h)

-- what a turn makes of it, with n keys
abbrev pub turn_of : ℕ → ℕ → Memory → Surveyor → Going
turn_of n top m s = going n s (hand_in m s.book.t s.place) (next_in top m s.book.t s.place)

-- what a turn does to the memory
abbrev pub TurnDone : ℕ → Memory → Memory → Surveyor → Type 0
TurnDone top m m' s = Done top m m' (touch_of s.place None)

abbrev pub goes_to : Surveyor → Going
goes_to s = record { out = Continue s.place; book = s.book; page = s.page }

abbrev pub SurveyFits : ℕ → Survey → Type 0
SurveyFits n Snapshot = Unit {0}
SurveyFits n (Reach i) = i < n

-- A worker from the begin of a snapshot or reach up to now. Its turns come at any times.
pub record Surveying (c : Course) (n top : ℕ) (v : Survey) (began now : ℕ) (at : ℕ → Surveyor) : Type 0 where
  pub some_key : 0 < n
  pub few_keys : n ≤ 64
  pub fits : SurveyFits n v
  pub starts : (at began).place ≡ Raise v
  pub turns : (k : ℕ) → began ≤ k → k < now → (at (suc k) ≡ at k) ⊎
      ((turn_of n top (c.at k) (at k) ≡ goes_to (at (suc k))) × TurnDone top (c.at k) (c.at (suc k)) (at k))

-- the clock was raised from t since time b and before time k
abbrev pub Raised : Course → ℕ → ℕ → ℕ → Type 0
Raised c b t k = CourseBefore k (λ r. (b ≤ r) × ((c.at r).clock ≡ t) × ((c.at (suc r)).clock ≡ suc t))

-- all answers but 41 come after a raise
abbrev pub RaisedFor : Answer → Course → ℕ → ℕ → ℕ → Type 0
RaisedFor ClockSpent c b t k = Unit {0}
RaisedFor a c b t k = Raised c b t k

-- what an answer says of the graph g, where the page shows the graph p
abbrev pub Says : Answer → Survey → Graph → Graph → Type 0
Says SnapshotTaken Snapshot g p = p ≡ g
Says ReachTaken (Reach i) g p = (g.has i ≡ true) × Reached g i p
Says VertexAbsent (Reach i) g p = g.has i ≡ false
Says ClockSpent v g p = Unit {0}
Says a v g p = ⊥

-- the clock was raised in the call, and the answer is right of the graph of the rows that are visible at the number of the raise
pub record RightSurvey (c : Course) (n : ℕ) (v : Survey) (began k : ℕ) (a : Answer) (g : Going) : Type 0 where
  pub raised : RaisedFor a c began g.book.t k
  pub says : (l : ℕ) (graph : Graph) → k ≤ l → Stands c g.book.t l graph → Says a v graph (graph_of n g.page)

-- every answer of a snapshot or reach is right
abbrev pub PagesStand : Type 0
PagesStand = (c : Course) (n : ℕ) → Laws c n → (top : ℕ) (v : Survey) (began now : ℕ) (at : ℕ → Surveyor) → Surveying c n top v began now at →
    began ≤ now → (a : Answer) → TurnDone top (c.at now) (c.at (suc now)) (at now) →
    (turn_of n top (c.at now) (at now)).out ≡ Break a → RightSurvey c n v began (suc now) a (turn_of n top (c.at now) (at now))
