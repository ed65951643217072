-- The answers of a snapshot or reach at the key of its raise.
use Rattle.std.proofs.Common.{ℕ, suc, ◌≢◌, refl, arith}
use Rattle.codes.specs.declared.answer.Answer.{Answer}
use Rattle.codes.specs.declared.answer.Answer.TheVariants.{ClockSpent}
use Rattle.places.specs.declared.place.Survey.{Survey}
use Rattle.order.specs.Raises.{Raise}
use Rattle.walks.specs.Courses.{Course, Laws}
use Rattle.walks.specs.Surveys.{Going, turn_of}
use Rattle.walks.specs.Placed.{RightAtRaise, PagesShowRaise}
use Rattle.walks.proofs.Times.{clock_mono}
use Rattle.walks.proofs.Surveys.{Answered, with_page, clock_spent, answered}
use Rattle.walks.proofs.Right.{says}
use Rattle.walks.proofs.Told.{marks_show}
use Rattle.order.proofs.Raises.{raises_show_visible as show}

right_at_raise : (c : Course) (n : ℕ) → Laws c n → (v : Survey) (began k : ℕ) (a : Answer) (g : Going) → a ≢ ClockSpent →
    Answered c n v began k g.book g.page a → RightAtRaise c n v began k a g
right_at_raise c n law v began k a g d (with_page e h r) = record {
  time = r.time;
  since = r.was.0;
  before = r.before;
  from = r.was.1;
  next = r.was.2;
  says = λ l bound top m u tell sound settled b t. (
      let raise : Raise (λ j. (c.at j).clock) r.time g.book.t = record { rises = λ i j w. clock_mono c n law i j w; from = r.was.1; next = r.was.2 } in
      let shows = (show (λ j. (c.at j).clock) bound top m sound r.time g.book.t b t raise settled).shows in
      says c n law k l u v a g.book g.page h _ (marks_show c n law l top m tell g.book.t (omega (arith, clock_mono c n law 0 r.time (omega arith), r.was.1)) t _ shows) e);
}
right_at_raise c n law v began k a g d clock_spent = absurd (d refl)

pub pages_show_raise : PagesShowRaise
pages_show_raise c n law top v began now at run l a d t e =
    right_at_raise c n law v began (suc now) a (turn_of n top (c.at now) (at now)) d (answered c n law top v began now at run l a t e)
