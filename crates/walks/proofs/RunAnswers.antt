-- The answers of the snapshots and reaches of a run are right.
use Rattle.std.proofs.Common.{◌≡◌, ℕ, suc, ◌<◌, min, Some, None, Option, Ok, Continue, Break, sym, refl, ap, ◌∙◌, subst, subst₂, arith}
use Rattle.codes.specs.declared.answer.Answer.{Answer}
use Rattle.codes.specs.declared.refusal.Refusal.{Refusal}
use Rattle.layout.specs.declared.sizes.Sizes.{Sizes}
use Rattle.places.specs.declared.place.Survey.{Survey}
use Rattle.places.specs.declared.place.Call.TheVariants as call
use Rattle.places.specs.Flows.{Flow}
use Rattle.machine.specs.declared.request.Request.TheVariants as request
use Rattle.machine.specs.declared.request.Reply.TheVariants as reply
use Rattle.machine.specs.States.{State}
use Rattle.machine.specs.Turns.{worker_at, answer_at, turned}
use Rattle.machine.specs.Workers.{flow_answer}
use Rattle.machine.specs.Requests.{turn_refused, unless_refused, state_or, answered_or, reply_of, stepped}
use Rattle.laws.specs.Fits.{Fit}
use Rattle.runs.specs.Runs.{RunInTime}
use Rattle.runs.specs.Views.{place_at}
use Rattle.runs.specs.Seen.{open_at}
use Rattle.runs.specs.Reasons.{BegunBy}
use Rattle.walks.specs.Memory.{memory_of}
use Rattle.walks.specs.Courses.{Laws}
use Rattle.walks.specs.Surveys.{Going, turn_of, TurnDone, Surveying}
use Rattle.walks.specs.Turns.{surveyor_of, goes, InSurvey}
use Rattle.walks.specs.Placed.{RightAtRaise}
use Rattle.walks.specs.Histories.{run_course}
use Rattle.walks.specs.Calls.{run_surveyor}
use Rattle.walks.specs.Answered.{RunsPagesRight}
use Rattle.runs.proofs.Steps.{sound_at, sizes_at}
use Rattle.walks.proofs.Steps.{steps_give_laws}
use Rattle.walks.proofs.Runs.{turns_go}
use Rattle.walks.proofs.Placed.{pages_show_raise}
use Rattle.walks.proofs.RunCourses.{runs_give_steps}
use Rattle.walks.proofs.RunSurveys.{in_survey, in_call_then, within, runs_survey}

-- a turn that answers leads to the answer
module _ (s : State) (w : ℕ) (a : Answer) (at : InSurvey (worker_at s w).place) (fit : Fit s w) where
  same_answer : (x y : Answer) → reply.Answered x ≡ reply.Answered y → x ≡ y
  same_answer x y e = cc

  by_answer : (o : Option Answer) → answered_or (Ok o) ≡ reply.Answered a → o ≡ Some a
  by_answer None e = absurd cc
  by_answer (Some x) e = ap (λ y. Some y) (same_answer x a e)

  by_out : (o : Flow) → flow_answer o ≡ Some a → o ≡ Break a
  by_out (Continue p) e = absurd cc
  by_out (Break x) e = (let q : x ≡ a = cc in ap (λ y. Break y) q)

  by_refusal : (r : Option Refusal) → turn_refused s w ≡ r → answered_or (unless_refused r (answer_at s w)) ≡ reply.Answered a → (turn_refused s w ≡ None) × (answer_at s w ≡ Some a)
  by_refusal (Some e) q f = absurd cc
  by_refusal None q f = (q, by_answer (answer_at s w) f)

  pub answering : reply_of s (request.Turn w) ≡ reply.Answered a → ((goes s w).out ≡ Break a) × TurnDone s.sizes.top (memory_of s) (memory_of (stepped s (request.Turn w))) (surveyor_of s w)
  answering f =
      let x = by_refusal (turn_refused s w) refl f in
      let g = turns_go s w fit at in (
        by_out (goes s w).out (sym g.0.answer ∙ x.1),
        subst (λ r. TurnDone s.sizes.top (memory_of s) (memory_of (state_or r s (turned s w))) (surveyor_of s w)) (sym x.0) g.1,
      )

module _ (R : RunInTime) (now w began till : ℕ) (v : Survey) (a : Answer) (far : till < now) (inside : w < R.sizes.workers) (by : BegunBy R till w began (call.Survey v))
    (opened : open_at R till w ≡ Some began) (asked : R.request till ≡ request.Turn w) (answered : reply_of (R.state till) (request.Turn w) ≡ reply.Answered a) where
  pub run : Surveying (run_course R now) R.sizes.keys R.sizes.top v (suc began) till (run_surveyor R now w)
  run = runs_survey R now w began till v (omega arith) inside by opened

  pub law : Laws (run_course R now) R.sizes.keys
  law = steps_give_laws (run_course R now) R.sizes.keys (runs_give_steps R now)

  here : till ≡ min till now
  here = omega arith

  does : ((goes (R.state till) w).out ≡ Break a) × TurnDone (R.state till).sizes.top (memory_of (R.state till)) (memory_of (stepped (R.state till) (request.Turn w))) (surveyor_of (R.state till) w)
  does =
      let at = in_survey (place_at R till w) v (in_call_then R w began till v inside by opened till by.before (omega arith)) in
      let in_state = within R w began till v inside by opened till in
      let good = sound_at R till in
      answering (R.state till) w a at (record { worker = in_state; cells = good.cells; counted = good.counted; place = good.places w in_state }) answered

  -- the turn that answers, in the course of the run
  pub done : TurnDone R.sizes.top ((run_course R now).at till) ((run_course R now).at (suc till)) (run_surveyor R now w till)
  done =
      let then : suc till ≡ min (suc till) now = omega arith in
      let moved : stepped (R.state till) (request.Turn w) ≡ R.state (suc till) = ap (stepped (R.state till)) (sym asked) ∙ sym (R.next till) in
      subst₂ (λ i j. TurnDone R.sizes.top (memory_of (R.state i)) (memory_of (R.state j)) (surveyor_of (R.state i) w)) here then
      (subst₂ (λ (z : Sizes) t. TurnDone z.top (memory_of (R.state till)) (memory_of t) (surveyor_of (R.state till) w)) (sizes_at R till) moved does.1)

  pub out : (turn_of R.sizes.keys R.sizes.top ((run_course R now).at till) (run_surveyor R now w till)).out ≡ Break a
  out = subst (λ i. (turn_of R.sizes.keys R.sizes.top (memory_of (R.state i)) (surveyor_of (R.state i) w)).out ≡ Break a) here
      (subst (λ (z : Sizes). (turn_of z.keys z.top (memory_of (R.state till)) (surveyor_of (R.state till) w)).out ≡ Break a) (sizes_at R till) does.0)

  -- what holds of this turn holds of that of the state
  pub of_state : (P : Going → Type 0) → P (turn_of R.sizes.keys R.sizes.top ((run_course R now).at till) (run_surveyor R now w till)) → P (goes (R.state till) w)
  of_state P x =
      subst (λ (z : Sizes). P (turn_of z.keys z.top (memory_of (R.state till)) (surveyor_of (R.state till) w))) (sym (sizes_at R till))
      (subst (λ i. P (turn_of R.sizes.keys R.sizes.top (memory_of (R.state i)) (surveyor_of (R.state i) w))) (sym here) x)

pub runs_pages_right : RunsPagesRight
runs_pages_right R now w began till v a far inside by opened asked answered other =
    of_state R now w began till v a far inside by opened asked answered (RightAtRaise (run_course R now) R.sizes.keys v (suc began) (suc till) a)
    (pages_show_raise (run_course R now) R.sizes.keys (law R now w began till v a far inside by opened asked answered) R.sizes.top v (suc began) till (run_surveyor R now w)
    (run R now w began till v a far inside by opened asked answered) by.before a other (done R now w began till v a far inside by opened asked answered)
    (out R now w began till v a far inside by opened asked answered))
