-- One step of a run, for a worker that has a snapshot or reach open.
use Rattle.std.proofs.Common.{◌≡◌, ℕ, suc, ◌<◌, false, Some, None, Ok, Continue, Break, sym, ap, ◌∙◌, subst, ⊎_elim}
use Rattle.std.proofs.lemmas.Bool.{cases_eq}
use Rattle.codes.specs.declared.answer.Answer.{Answer}
use Rattle.layout.specs.declared.sizes.Sizes.{Sizes}
use Rattle.places.specs.declared.place.Survey.{Survey}
use Rattle.places.specs.declared.place.Call.TheVariants as call
use Rattle.places.specs.declared.place.Place.{Place}
use Rattle.places.specs.Flows.{Flow}
use Rattle.machine.specs.declared.worker.Worker.{Worker}
use Rattle.machine.specs.declared.request.Request.TheVariants as request
use Rattle.machine.specs.States.{State}
use Rattle.machine.specs.Turns.{worker_at, answer_at, followed_at, turned}
use Rattle.machine.specs.Workers.{flow_answer}
use Rattle.machine.specs.Requests.{turn_refused, unless_refused, answered_or, reply_of}
use Rattle.laws.specs.Fits.{Fit}
use Rattle.laws.specs.Sound.{Sound}
use Rattle.runs.specs.Runs.{RunInTime}
use Rattle.runs.specs.Views.{place_at}
use Rattle.runs.specs.Seen.{open_at}
use Rattle.runs.specs.Reasons.{BegunBy}
use Rattle.runs.proofs.Turns.{worker_after}
use Rattle.runs.proofs.Steps.{StepCase, StepCase.rests as at_rest, StepCase.begins, StepCase.turns, sound_at, sizes_at, case_at, laws_at}
use Rattle.runs.proofs.Opens.{runs_keeps, answer_closes}
use Rattle.walks.specs.Memory.{memory_of}
use Rattle.walks.specs.Pages.{page_of}
use Rattle.walks.specs.Surveys.{TurnDone, goes_to}
use Rattle.walks.specs.Turns.{surveyor_of, goes, InSurvey, place_then, TurnGoes}
use Rattle.walks.proofs.Runs.{turns_go}
use Rattle.walks.proofs.PageTurns.{turns_write}
use Rattle.walks.proofs.RunSurveys.{in_survey, rests_surveyor, same_going, begin_rests, other_turn}
use Rattle.bounds.specs.Bounds.{is_turn_of_worker}
use Rattle.bounds.proofs.Counts.{not_own}
use Rattle.bounds.proofs.Open.{OpenCall, open_call, rests_other}

module _ (R : RunInTime) (w b : ℕ) (v : Survey) (l : w < R.sizes.workers)
    (since : ℕ) (begun : BegunBy R since w b (call.Survey v)) (k : ℕ) (o : open_at R k w ≡ Some b) where
  abbrev s : State
  s = R.state k

  opened : OpenCall R k w b (call.Survey v)
  opened = open_call R k since w b (call.Survey v) l o begun

  pub began_before : b < k
  began_before = opened.before

  pub at : InSurvey (place_at R k w)
  at = in_survey (place_at R k w) v opened.place

  there : w < s.sizes.workers
  there = subst (λ (z : Sizes). w < z.workers) (sym (sizes_at R k)) l

  good : Sound s
  good = sound_at R k

  pub fit : Fit s w
  fit = record { worker = there; cells = good.cells; counted = good.counted; place = good.places w there }

  -- a turn of the worker, which is not refused; or a step that leaves its place, book and page
  pub data Step : Type 0 where
    own : R.request k ≡ request.Turn w → turn_refused s w ≡ None → R.state (suc k) ≡ turned s w → Step
    rests : is_turn_of_worker w (R.request k) ≡ false → surveyor_of (R.state (suc k)) w ≡ surveyor_of s w → Step

  pub step : Step
  step = by_case (case_at R k)
    where
      by_case : StepCase s (R.request k) (R.state (suc k)) → Step
      by_case (at_rest f e) = rests (rests_other R k w b (call.Survey v) l opened f) (rests_surveyor s (R.state (suc k)) e w)
      by_case (begins a d q t f e) = rests (ap (is_turn_of_worker w) q) (ap (λ t. surveyor_of t w) e ∙ begin_rests s w there good at a (Ok d) t)
      by_case (turns u q n f e) = ⊎_elim
          (λ (m : u ≡ w). own (q ∙ ap request.Turn m) (subst (λ x. turn_refused s x ≡ None) m n) (subst (λ x. R.state (suc k) ≡ turned s x) m e))
          (λ (m : ¬ (u ≡ w)). rests (ap (is_turn_of_worker w) q ∙ not_own u w m)
          (ap (λ t. surveyor_of t w) e ∙ other_turn s w there good at u (λ x. m (sym x)) (laws_at R k u q n e)))
          (cases_eq u w)

  pub done : TurnDone s.sizes.top (memory_of s) (memory_of (turned s w)) (surveyor_of s w)
  done = (turns_go s w fit at).1

  -- a turn of the worker
  module _ (q : R.request k ≡ request.Turn w) (n : turn_refused s w ≡ None) (e : R.state (suc k) ≡ turned s w) where
    gone : TurnGoes s w (goes s w)
    gone = (turns_go s w fit at).0

    worker_next : worker_at (R.state (suc k)) w ≡ (followed_at s w).worker
    worker_next = ap (λ t. worker_at t w) e ∙ worker_after s w good there

    pub place_next : place_at (R) (suc k) w ≡ place_then (goes s w).out
    place_next = ap (λ (u : Worker). u.place) worker_next ∙ gone.place

    pub book_next : (worker_at (R.state (suc k)) w).book ≡ (goes s w).book
    book_next = ap (λ (u : Worker). u.book) worker_next ∙ gone.book

    pub page_next : page_of (R.state (suc k)) w ≡ (goes s w).page
    page_next = ap (λ t. page_of t w) e ∙ turns_write s w fit at ∙ gone.page

    pub reply_is : (x : Flow) → (goes s w).out ≡ x → reply_of s (request.Turn w) ≡ answered_or (Ok (flow_answer x))
    reply_is x f = ap (λ r. answered_or (unless_refused r (answer_at s w))) n ∙ ap (λ y. answered_or (Ok y)) (gone.answer ∙ ap flow_answer f)

    pub goes_on : (p : Place) → (goes s w).out ≡ Continue p → (goes s w ≡ goes_to (surveyor_of (R.state (suc k)) w)) × (open_at R (suc k) w ≡ Some b)
    goes_on p f = (
      same_going (f ∙ ap (λ x. Continue x) (sym (place_next ∙ ap place_then f))) (sym book_next) (sym page_next),
      runs_keeps R k w q w (reply_is (Continue p) f) ∙ o,
    )

    pub closes : (a : Answer) → (goes s w).out ≡ Break a → open_at R (suc k) w ≡ None
    closes a f = answer_closes R k w q a (reply_is (Break a) f)
