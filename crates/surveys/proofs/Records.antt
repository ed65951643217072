-- The key cells of a page hold what its worker's book says is shown.
use Rattle.std.proofs.Common.{◌≡◌, ℕ, zero, suc, ◌+◌, ◌-◌, ◌<◌, ◌≤◌, min, true, Some, Ok, length, sym, refl, ap, ◌∙◌, subst, subst₂, ⊎_elim, arith}
use Rattle.std.proofs.lemmas.Bool.{cases_eq, lt-ltb}
use Rattle.codes.specs.declared.answer.Answer.{Answer}
use Rattle.layout.specs.declared.sizes.Sizes.{Sizes}
use Rattle.places.specs.declared.place.Survey.{Survey}
use Rattle.places.specs.declared.place.Call.{Call}
use Rattle.places.specs.declared.place.Call.TheVariants as call
use Rattle.places.specs.declared.place.Hand.{Hand}
use Rattle.places.specs.declared.place.Purpose.TheVariants as purpose
use Rattle.places.specs.declared.place.Place.{Place}
use Rattle.places.specs.declared.place.Place.TheVariants as place
use Rattle.places.specs.declared.call.Begin.{Begin}
use Rattle.places.specs.Moved.{Next, Next as next}
use Rattle.places.specs.Touches.{change_kind}
use Rattle.books.specs.declared.book.Book.{Book}
use Rattle.machine.specs.declared.worker.Worker.{Worker}
use Rattle.machine.specs.States.{State}
use Rattle.machine.specs.Turns.{worker_at, hand_at, next_at, turned}
use Rattle.machine.specs.Workers as workers
use Rattle.machine.specs.Workers.{nobody, followed}
use Rattle.machine.specs.Requests.{begun, state_begun}
use Rattle.laws.proofs.Puts.{set_each}
use Rattle.laws.proofs.Taken.{begin_taken}
use Rattle.questions.specs.Graph.{Graph}
use Rattle.order.specs.Seen.{CallSight.finishes}
use Rattle.runs.specs.Runs.{RunInTime, RunOf}
use Rattle.runs.specs.Views.{place_at}
use Rattle.runs.specs.Purposes.{InCall}
use Rattle.runs.specs.Seen.{seen, open_at}
use Rattle.runs.specs.Reasons.{BegunBy, WorkerKnows, WorkerKnows.free, WorkerKnows.busy, AnswerRight}
use Rattle.runs.specs.Sights.{AnswerAt}
use Rattle.runs.proofs.Histories.{histories_are_runs}
use Rattle.runs.proofs.Knows.{runs_know as know}
use Rattle.runs.proofs.Turns.{worker_after}
use Rattle.runs.proofs.Steps.{StepCase, StepCase.rests, StepCase.begins, StepCase.turns, sound_at, sizes_at, case_at, laws_at}
use Rattle.walks.specs.Courses.{Course}
use Rattle.walks.specs.Pages.{Page, page_of}
use Rattle.walks.specs.Histories.{run_course}
use Rattle.walks.specs.Calls.{run_surveyor}
use Rattle.walks.specs.Turns.{surveyor_of, goes}
use Rattle.walks.proofs.Drafts.{Kept}
use Rattle.walks.proofs.Surveys.{KnowsSurvey, at_raise, in_walk, Answered, with_page, clock_spent, knows, answered}
use Rattle.walks.proofs.Steps.{steps_give_laws}
use Rattle.walks.proofs.RunCourses.{runs_give_steps}
use Rattle.walks.proofs.RunSurveys.{runs_survey}
use Rattle.walks.proofs.RunAnswers as answers
use Rattle.walks.proofs.Runs.{arrived_book, counted_book}
use Rattle.bounds.specs.Bounds.{is_turn_of_worker}
use Rattle.bounds.proofs.Counts.{own_turn}
use Rattle.bounds.proofs.SurveySteps as surveying
use Rattle.surveys.specs.Pages.{BeginsNone}
use Rattle.surveys.specs.Records.{Agrees, Walks, PagesAgree}
use Rattle.surveys.proofs.Joined.{page_survey}
use Rattle.surveys.proofs.PagesStay.{WritesNone, next_none, no_walk, at, inside, not_survey, page_next}

-- a book whose page is that of the cells
kept_agrees : (s : State) (w : ℕ) → Kept (worker_at s w).book (page_of s w) → Agrees s w
kept_agrees s w h k l = rw (lt-ltb k s.sizes.keys l) at (h.page k)

-- a place of a walk is of a snapshot or reach
walk_call : (p : Place) (c : Call) → Walks p → InCall p c → (v : Survey) × (c ≡ call.Survey v)
walk_call (place.Settle st (purpose.Walk f k r)) c a i = (k.survey, sym i)
walk_call (place.WalkHead k) c a i = (k.survey, sym i)
walk_call (place.WalkOlder k r) c a i = (k.survey, sym i)
walk_call p c a i = absurd a

module _ (R : RunInTime) (k w : ℕ) (l : w < R.sizes.workers) where
  abbrev c : Course
  c = run_course R k

  walk_kept : (b : ℕ) (v : Survey) → open_at R k w ≡ Some b → BegunBy R k w b (call.Survey v) → Walks (place_at R (min k k) w) → Agrees (R.state (min k k)) w
  walk_kept b v o by a =
      by_knows (knows c R.sizes.keys (steps_give_laws c R.sizes.keys (runs_give_steps R k)) R.sizes.top v (suc b) k (run_surveyor R k w) (runs_survey R k w b k v (omega arith) l by o) k by.before (omega arith))
    where
      by_knows : KnowsSurvey c R.sizes.keys v (suc b) k (surveyor_of (R.state (min k k)) w) → Agrees (R.state (min k k)) w
      by_knows (at_raise e m) = absurd (subst Walks e a)
      by_knows (in_walk j x y h r) = kept_agrees (R.state (min k k)) w h

  walks_agree : Walks (place_at R k w) → Agrees (R.state k) w
  walks_agree a = by_worker ((know R).workers k w l)
    where
      here : k ≡ min k k
      here = omega arith

      by_worker : WorkerKnows R k w → Agrees (R.state k) w
      by_worker (free o e) = absurd (subst Walks e a)
      by_worker (busy b c o by i n) =
          let (v, e) = walk_call (place_at R k w) c a i in
          subst (λ m. Agrees (R.state m) w) (sym here) (walk_kept b v o (subst (BegunBy R k w b) e by) (subst (λ m. Walks (place_at R m w)) here a))

-- a turn that writes nothing into a page leaves the book
followed_book : (n : ℕ) (v : Worker) (h : Hand) (x : Next) → WritesNone x → (followed n v h x).worker.book ≡ v.book
followed_book n v h (next.Moved o) z = arrived_book v o
followed_book n v h (next.Linked d r) z = counted_book v (change_kind d)
followed_book n v h (next.Raised s t) z = absurd z
followed_book n v h (next.Walked k r) z = absurd z

begun_book : (s : State) (b : Begin) (c : Call) (w : ℕ) → b.worker < length s.workers → (worker_at (state_begun s b.worker (Ok c)) w).book ≡ (worker_at s w).book
begun_book s b c w l = set_each (λ u x. x.book ≡ (worker_at s u).book) s.workers b.worker (begun (worker_at s b.worker) c) nobody l refl (λ u n. refl) w

-- the answer of a snapshot or reach
kept_of : {c : Course} {n : ℕ} {v : Survey} {b k : ℕ} {book : Book} {page : Page} {a : Answer} → Answered c n v b k book page a → workers.finishes a ≡ true → Kept book page
kept_of (with_page e h r) f = h
kept_of clock_spent f = absurd cc

module _ (R : RunInTime) (w f : ℕ) (a : Answer) (g : Graph) (finished : seen R f ≡ finishes w a g) (fine : workers.finishes a ≡ true) where
  abbrev Kept_at : ℕ → Type 0
  Kept_at k = Kept (worker_at (R.state k) w).book (page_of (R.state k) w)

  done : AnswerAt R f w a g
  done = at R w f a g finished

  l : w < R.sizes.workers
  l = inside R w f a g finished

  right : AnswerRight R f w a
  right = (know R).answers f w a done.asked done.reply

  answer_kept : (b : ℕ) (v : Survey) → open_at R f w ≡ Some b → BegunBy R f w b (call.Survey v) → Kept_at (suc f)
  answer_kept b v o by = by_step (surveying.step R w b v l f by f o)
    where
      kept_goes : Kept (goes (R.state f) w).book (goes (R.state f) w).page
      kept_goes =
          let t : f < suc f = omega arith in
          answers.of_state R (suc f) w b f v a t l by o done.asked done.reply (λ g. Kept g.book g.page)
          (kept_of (answered (run_course R (suc f)) R.sizes.keys (answers.law R (suc f) w b f v a t l by o done.asked done.reply) R.sizes.top v (suc b) f (run_surveyor R (suc f) w)
          (answers.run R (suc f) w b f v a t l by o done.asked done.reply) by.before a
          (answers.done R (suc f) w b f v a t l by o done.asked done.reply) (answers.out R (suc f) w b f v a t l by o done.asked done.reply)) fine)

      by_step : surveying.Step R w b v l f by f o → Kept_at (suc f)
      by_step (surveying.rests n e) = absurd (let x = sym (own_turn w) ∙ ap (is_turn_of_worker w) (sym done.asked) ∙ n in cc)
      by_step (surveying.own q n e) = subst₂ Kept (sym (surveying.book_next R w b v l f by f o q n e)) (sym (surveying.page_next R w b v l f by f o q n e)) kept_goes

  first_kept : Kept_at (suc f)
  first_kept =
      let (v, e) = page_survey R (suc f) right.began right.call _ a right.right fine in
      answer_kept right.began v right.whose (subst (BegunBy R f w right.began) e right.begun)

  -- the book stays as the page does
  module _ (k : ℕ) (m : suc f ≤ k) (none : BeginsNone R w (suc f) k) where
    abbrev s : State
    s = R.state k

    there : w < s.sizes.workers
    there = subst (λ (z : Sizes). w < z.workers) (sym (sizes_at R k)) l

    own_book : (worker_at (turned s w) w).book ≡ (worker_at s w).book
    own_book =
        ap (λ (v : Worker). v.book) (worker_after s w (sound_at R k) there)
        ∙ followed_book s.sizes.keys (worker_at s w) (hand_at s w) (next_at s w)
        (next_none (worker_at s w).place (hand_at s w) _ (no_walk (place_at R k w) (not_survey R w f a g finished k m none)))

    book_next : (worker_at (R.state (suc k)) w).book ≡ (worker_at s w).book
    book_next = by_case (case_at R k)
      where
        by_case : StepCase s (R.request k) (R.state (suc k)) → (worker_at (R.state (suc k)) w).book ≡ (worker_at s w).book
        by_case (rests q e) = (e.workers w).book
        by_case (begins b d q t q' e) = ap (λ t. (worker_at t w).book) e ∙ begun_book s b d w (omega (arith, (begin_taken s b d t).within, (sound_at R k).table))
        by_case (turns u q n q' e) = ⊎_elim
            (λ (x : u ≡ w). ap (λ t. (worker_at t w).book) (e ∙ ap (turned s) x) ∙ own_book)
            (λ (x : ¬ (u ≡ w)). ap (λ t. (worker_at t w).book) e ∙ ap (λ (v : Worker). v.book) ((laws_at R k u q n e).records w (λ y. x (sym y))))
            (cases_eq u w)

    kept_next : Kept_at k → Kept_at (suc k)
    kept_next h = subst₂ Kept (sym book_next) (sym (page_next R w f a g finished k m none)) h

  kept_later : (d : ℕ) → BeginsNone R w (suc f) (suc f + d) → Kept_at (suc f + d)
  kept_later zero none = subst Kept_at (let e : suc f ≡ suc f + 0 = omega arith in e) first_kept
  kept_later (suc d) none =
      let less : BeginsNone R w (suc f) (suc f + d) = λ t v x y. none t v x (omega arith) in
      subst Kept_at (let e : suc (suc f + d) ≡ suc f + suc d = omega arith in e) (kept_next (suc f + d) (omega arith) less (kept_later d less))

  finished_agrees : (k : ℕ) → f < k → BeginsNone R w (suc f) k → Agrees (R.state k) w
  finished_agrees k m none =
      let e : suc f + (k - suc f) ≡ k = omega arith in
      kept_agrees (R.state k) w (subst Kept_at e (kept_later (k - suc f) (subst (BeginsNone R w (suc f)) (sym e) none)))

pub pages_agree : PagesAgree
pages_agree = record {
  walking = λ start c h s t w l a.
      let x : RunOf start h s = histories_are_runs start c h s t in
      let p : x.run.state (length h) ≡ s = x.state in
      let m : w < x.run.sizes.workers = subst (λ (z : Sizes). w < z.workers) (sizes_at x.run (length h)) (subst (λ (u : State). w < u.sizes.workers) (sym p) l) in
      subst (λ u. Agrees u w) p (walks_agree x.run (length h) w m (subst (λ u. Walks (worker_at u w).place) (sym p) a));
  finished = λ R w f k a g q e l none. finished_agrees R w f a g q e k l none;
}
