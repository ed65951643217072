-- The answers of a snapshot or reach at the key of its raise.
use Rattle.std.specs.Prelude.{◌≡◌, ℕ, suc, ◌<◌, ◌≤◌, ◌≢◌}
use Rattle.std.specs.declared.ops.ControlFlow.TheVariants.{Break}
use Rattle.codes.specs.declared.answer.Answer.{Answer}
use Rattle.codes.specs.declared.answer.Answer.TheVariants.{ClockSpent}
use Rattle.places.specs.declared.place.Survey.{Survey}
use Rattle.order.specs.Marks.{Marks, MarksSound}
use Rattle.order.specs.Raises.{AllSettled, raise_key}
use Rattle.order.specs.Rows.{graph_before}
use Rattle.walks.specs.Courses.{Course, Laws}
use Rattle.walks.specs.Pages.{graph_of}
use Rattle.walks.specs.Surveys.{Surveyor, Going, turn_of, TurnDone, Surveying, Says}
use Rattle.walks.specs.Told.{MarksTellCourse}

-- The clock was raised at a time of the call, and by the marks of any later time the answer is right of the graph just before the key of the raise.
pub record RightAtRaise (c : Course) (n : ℕ) (v : Survey) (began k : ℕ) (a : Answer) (g : Going) : Type 0 where
  pub time : ℕ
  pub since : began ≤ time
  pub before : time < k
  pub from : (c.at time).clock ≡ g.book.t
  pub next : (c.at (suc time)).clock ≡ suc g.book.t
  pub says : (l bound top : ℕ) (m : Marks) → k ≤ l → MarksTellCourse c l top m → MarksSound bound top m → AllSettled (λ j. (c.at j).clock) time top m →
      time < bound → g.book.t ≤ top → Says a v (graph_before bound top m (raise_key bound time g.book.t)) (graph_of n g.page)

-- every answer but 41 is right there
abbrev pub PagesShowRaise : Type 0
PagesShowRaise = (c : Course) (n : ℕ) → Laws c n → (top : ℕ) (v : Survey) (began now : ℕ) (at : ℕ → Surveyor) → Surveying c n top v began now at →
    began ≤ now → (a : Answer) → a ≢ ClockSpent → TurnDone top (c.at now) (c.at (suc now)) (at now) →
    (turn_of n top (c.at now) (at now)).out ≡ Break a → RightAtRaise c n v began (suc now) a (turn_of n top (c.at now) (at now))
