-- A worker of a run that has a snapshot or reach open makes a page.
use Rattle.std.proofs.Common.{◌≡◌, ℕ, suc, ◌<◌, ◌≤◌, ◌⊎◌, min, false, List, Some, None, Option, Ok, Err, Result, Continue, Break, sym, refl, ap, ap₂, ◌∙◌, subst, subst₂, inl, inr, ⊎_elim, arith}
use Rattle.std.proofs.lemmas.List.{get_or-set_same, get_or-set_other}
use Rattle.std.proofs.lemmas.Bool.{lt-ltb, cases_eq}
use Rattle.codes.specs.declared.answer.Answer.{Answer}
use Rattle.codes.specs.declared.refusal.Refusal.{Refusal}
use Rattle.layout.specs.declared.sizes.Sizes.{Sizes}
use Rattle.layout.specs.declared.names.Cell.TheVariants as cell
use Rattle.places.specs.declared.call.Begin.{Begin}
use Rattle.places.specs.declared.place.Survey.{Survey}
use Rattle.places.specs.declared.place.Survey.TheVariants.{Snapshot, Reach}
use Rattle.places.specs.declared.place.Look.{Look}
use Rattle.places.specs.declared.place.Look.TheVariants as look
use Rattle.places.specs.declared.place.Op.{Op}
use Rattle.places.specs.declared.place.Change.{Change}
use Rattle.places.specs.declared.place.Change.TheVariants as change
use Rattle.places.specs.declared.place.Call.{Call}
use Rattle.places.specs.declared.place.Call.TheVariants as call
use Rattle.places.specs.declared.place.Purpose.TheVariants as purpose
use Rattle.places.specs.declared.place.Place.{Place}
use Rattle.places.specs.declared.place.Place.TheVariants as place
use Rattle.places.specs.Flows.{Flow}
use Rattle.machine.specs.declared.worker.Worker.{Worker}
use Rattle.machine.specs.declared.request.Request.{Request}
use Rattle.machine.specs.declared.request.Request.TheVariants as request
use Rattle.machine.specs.declared.request.Reply.TheVariants as reply
use Rattle.machine.specs.States.{State}
use Rattle.machine.specs.Turns.{worker_at, followed_at, answer_at, turned}
use Rattle.machine.specs.Workers.{nobody, flow_answer}
use Rattle.machine.specs.Requests.{is_idle, begun, call_to_begin, state_begun, turn_refused, unless_refused, answered_or, reply_of, stepped}
use Rattle.laws.specs.Fits.{Fit, FitPlace, FitSurvey}
use Rattle.laws.specs.Laws.{TurnLaws}
use Rattle.laws.specs.Sound.{Sound}
use Rattle.order.specs.Seen.{CallSight.begins}
use Rattle.laws.proofs.Taken.{turn_taken}
use Rattle.laws.proofs.Rests.{Rests}
use Rattle.runs.specs.Runs.{RunInTime, history_at}
use Rattle.runs.specs.Views.{place_at}
use Rattle.runs.specs.Seen.{open_at}
use Rattle.runs.specs.Purposes.{InCall, look_call, change_call}
use Rattle.runs.specs.Reasons.{BegunBy, WorkerKnows, WorkerKnows.free, WorkerKnows.busy}
use Rattle.runs.proofs.Steps.{StepCase, StepCase.rests as at_rest, StepCase.begins, StepCase.turns as moves, step_case, sound_at, sizes_at}
use Rattle.runs.proofs.Histories.{traced}
use Rattle.runs.proofs.Opens.{answer_closes}
use Rattle.walks.specs.Memory.{memory_of}
use Rattle.walks.specs.Courses.{Course}
use Rattle.walks.specs.Histories.{run_course}
use Rattle.walks.specs.Calls.{run_surveyor, RunsSurvey}
use Rattle.walks.specs.Pages.{page_of}
use Rattle.walks.specs.Surveys.{Surveyor, Going, turn_of, TurnDone, goes_to, SurveyFits, Surveying}
use Rattle.walks.specs.Turns.{surveyor_of, goes, InSurvey, at_raise, at_head, at_older, at_field, place_then, TurnGoes}
use Rattle.walks.proofs.OpenBack.{open_back}
use Rattle.walks.proofs.Runs.{turns_go}
use Rattle.walks.proofs.Written.{page_stays}
use Rattle.walks.proofs.PageTurns.{turns_write}
use Rattle.laws.proofs.Runs.{runs_keep_laws as keep}
use Rattle.runs.proofs.Knows.{runs_know as know}
use Rattle.runs.proofs.Sights.{one_call_of}

pub look_none : (l : Look) (v : Survey) → look_call l ≡ call.Survey v → ⊥
look_none (look.Vertex o i) v e = absurd cc
look_none l v e = absurd cc

pub change_none : (d : Change) (o : Op) (v : Survey) → change_call o d ≡ call.Survey v → ⊥
change_none (change.Vertex i) o v e = absurd cc
change_none (change.Edge b) o v e = absurd cc

-- a place of a snapshot or reach
pub in_survey : (p : Place) (v : Survey) → InCall p (call.Survey v) → InSurvey p
in_survey (place.Raise x) v e = at_raise x
in_survey (place.WalkHead k) v e = at_head k
in_survey (place.WalkOlder k r) v e = at_older k r
in_survey (place.Settle st (purpose.Walk f k r)) v e = at_field st f k r
in_survey place.Idle v e = absurd e
in_survey (place.Head l) v e = absurd (look_none l v e)
in_survey (place.Settle st (purpose.Look f l r)) v e = absurd (look_none l v e)
in_survey (place.Settle st (purpose.Own f d r)) v e = absurd (change_none d _ v e)
in_survey (place.Settle st (purpose.LostDel d r)) v e = absurd (change_none d _ v e)
in_survey (place.Link d h) v e = absurd (change_none d _ v e)
in_survey (place.End d r) v e = absurd (change_none d _ v e)
in_survey p v e = absurd cc

not_idle : (p : Place) → InSurvey p → is_idle p ≡ false
not_idle p (at_raise x) = refl
not_idle p (at_head k) = refl
not_idle p (at_older k r) = refl
not_idle p (at_field st f k r) = refl

same_surveyor : (s t : State) (w : ℕ) → worker_at t w ≡ worker_at s w → page_of t w ≡ page_of s w → surveyor_of t w ≡ surveyor_of s w
same_surveyor s t w a b = λ i. record { place = (a i).place; book = (a i).book; page = b i }

-- what rests leaves each worker's place, book and page
pub page_same : (s t : State) → Rests s t → (w : ℕ) → page_of t w ≡ page_of s w
page_same s t r w = ap₂ (λ (z : Sizes) (cs : List ℕ). page_of (record { cells = cs; sizes = z; workers = t.workers }) w) r.rows.sizes r.rows.cells

pub rests_surveyor : (s t : State) → Rests s t → (w : ℕ) → surveyor_of t w ≡ surveyor_of s w
rests_surveyor s t r w = λ i. record { place = (r.workers w).place i; book = (r.workers w).book i; page = page_same s t r w i }

pub same_going : {g : Going} {s : Surveyor} → g.out ≡ Continue s.place → g.book ≡ s.book → g.page ≡ s.page → g ≡ goes_to s
same_going a b c = λ i. record { out = a i; book = b i; page = c i }

module _ (s : State) (w : ℕ) (inside : w < s.sizes.workers) (sound : Sound s) (at : InSurvey (worker_at s w).place) where
  fit : Fit s w
  fit = record { worker = inside; cells = sound.cells; counted = sound.counted; place = sound.places w inside }

  -- what a request does to the worker: nothing, or a turn that does not answer; or it answers
  pub data Does (t : State) (q : Request) : Type 0 where
    rests : surveyor_of t w ≡ surveyor_of s w → Does t q
    goes_on : goes s w ≡ goes_to (surveyor_of t w) → TurnDone s.sizes.top (memory_of s) (memory_of t) (surveyor_of s w) → Does t q
    answers : (a : Answer) → q ≡ request.Turn w → reply_of s (request.Turn w) ≡ reply.Answered a → Does t q

  pub begin_rests : (b : Begin) (r : Result Call Refusal) → call_to_begin s b ≡ r → surveyor_of (state_begun s b.worker r) w ≡ surveyor_of s w
  begin_rests b (Err e) q = refl
  begin_rests b (Ok c) q = ⊎_elim (λ (e : w ≡ b.worker). absurd (busy e)) (λ (n : ¬ (w ≡ b.worker)). same_surveyor s (state_begun s b.worker (Ok c)) w (get_or-set_other s.workers b.worker w (begun (worker_at s b.worker) c) nobody n) refl) (cases_eq w b.worker)
    where
      busy : w ≡ b.worker → ⊥
      busy e =
          let idle : is_idle (worker_at s b.worker).place ≡ false = subst (λ u. is_idle (worker_at s u).place ≡ false) e (not_idle (worker_at s w).place at) in
          let x = rw (lt-ltb b.worker s.sizes.workers (omega arith), idle) at q in
          absurd cc

  own_turn : turn_refused s w ≡ None → Does (turned s w) (request.Turn w)
  own_turn u = by_out (goes s w).out refl
    where
      g : TurnGoes s w (goes s w)
      g = (turns_go s w fit at).0

      after : worker_at (turned s w) w ≡ (followed_at s w).worker
      after = get_or-set_same s.workers w (followed_at s w).worker nobody (omega (arith, sound.table))

      by_out : (o : Flow) → (goes s w).out ≡ o → Does (turned s w) (request.Turn w)
      by_out (Continue p) e = goes_on (same_going
          (e ∙ ap (λ x. Continue x) (sym (ap (λ (v : Worker). v.place) after ∙ g.place ∙ ap place_then e)))
          (sym (ap (λ (v : Worker). v.book) after ∙ g.book))
          (sym (turns_write s w fit at ∙ g.page))) (turns_go s w fit at).1
      by_out (Break a) e = answers a refl (ap (λ r. answered_or (unless_refused r (answer_at s w))) u ∙ ap (λ x. answered_or (Ok x)) (g.answer ∙ ap flow_answer e))

  pub other_turn : (v : ℕ) → ¬ (w ≡ v) → TurnLaws s v → surveyor_of (turned s v) w ≡ surveyor_of s w
  other_turn v n law = same_surveyor s (turned s v) w (law.records w n)
      (page_stays s.sizes w inside s.cells (turned s v).cells (λ k l. law.pages w (cell.PageKey w k) (inside, l) refl n) (λ i j l m. law.pages w (cell.PagePair w i j) (inside, l, m) refl n))

  pub does : ((v : ℕ) → v < s.sizes.workers → TurnLaws s v) → (q : Request) (t : State) → StepCase s q t → Does t q
  does laws q t (at_rest f r) = rests (rests_surveyor s t r w)
  does laws q t (begins b c e a f x) = rests (ap (λ u. surveyor_of u w) x ∙ begin_rests b (Ok c) a)
  does laws q t (moves v e n f x) = subst₂ Does (sym x) (sym e) (⊎_elim
      (λ (y : w ≡ v). subst (λ u. Does (turned s u) (request.Turn u)) y (own_turn (subst (λ u. turn_refused s u ≡ None) (sym y) n)))
      (λ (y : ¬ (w ≡ v)). rests (other_turn v y (laws v (turn_taken s v n))))
      (cases_eq w v))

same_begin : (a b : Begin) → request.Begin a ≡ request.Begin b → a ≡ b
same_begin a b e = cc

same_time : (a b : ℕ) → ◌≡◌ {A = Option ℕ} (Some a) (Some b) → a ≡ b
same_time a b e = cc

module _ (R : RunInTime) (w began till : ℕ) (v : Survey) (inside : w < R.sizes.workers)
    (by : BegunBy R till w began (call.Survey v)) (opened : open_at R till w ≡ Some began) where
  -- the call is open all along, so the place is one of it
  pub in_call_then : (k : ℕ) → began < k → k ≤ till → InCall (place_at R k w) (call.Survey v)
  in_call_then k l u = by_worker ((know R).workers k w inside)
    where
      by_worker : WorkerKnows R k w → InCall (place_at R k w) (call.Survey v)
      by_worker (free e i) = absurd (let x : None ≡ Some began = sym e ∙ open_back R w began till opened k l u in cc)
      by_worker (busy b c e g i o) =
          let t : b ≡ began = same_time b began (sym e ∙ open_back R w began till opened k l u) in
          let h : BegunBy R k w began c = subst (λ y. BegunBy R k w y c) t g in
          let same : h.begin ≡ by.begin = same_begin h.begin by.begin (sym h.asked ∙ by.asked) in
          let c_is : c ≡ call.Survey v = one_call_of c (call.Survey v) (sym h.call ∙ ap (call_to_begin (R.state began)) same ∙ by.call) in
          subst (InCall (place_at R k w)) c_is i

  pub within : (k : ℕ) → w < (R.state k).sizes.workers
  within k = subst (λ (z : Sizes). w < z.workers) (sym (sizes_at R k)) inside

  -- the begin
  starts : place_at R (suc began) w ≡ place.Raise v
  starts =
      ap (λ t. (worker_at t w).place) (R.next began ∙ ap (stepped (R.state began)) by.asked ∙ ap (state_begun (R.state began) by.begin.worker) by.call)
      ∙ ap (λ u. (worker_at (state_begun (R.state began) u (Ok (call.Survey v))) w).place) by.worker
      ∙ ap (λ (x : Worker). x.place) (get_or-set_same (R.state began).workers w (begun (worker_at (R.state began) w) (call.Survey v)) nobody (omega (arith, within began, (sound_at R began).table)))

  survey_fits : SurveyFits R.sizes.keys v
  survey_fits =
      let f : FitPlace (R.state (suc began)) (place.Raise v) = subst (FitPlace (R.state (suc began))) starts ((sound_at R (suc began)).places w (within (suc began))) in
      by_survey v f
    where
      by_survey : (x : Survey) → FitSurvey (R.state (suc began)) x → SurveyFits R.sizes.keys x
      by_survey Snapshot f = tt
      by_survey (Reach i) f = subst (λ (z : Sizes). i < z.keys) (sizes_at R (suc began)) f

  module _ (now : ℕ) (far : till ≤ now) where
    abbrev at : ℕ → Surveyor
    at = run_surveyor R now w

    abbrev c : Course
    c = run_course R now

    -- what is shown of two times of the run holds of the course
    abbrev Turns : ℕ → ℕ → Type 0
    Turns a b = (surveyor_of (R.state b) w ≡ surveyor_of (R.state a) w) ⊎
        ((turn_of R.sizes.keys R.sizes.top (memory_of (R.state a)) (surveyor_of (R.state a) w) ≡ goes_to (surveyor_of (R.state b) w)) ×
        TurnDone R.sizes.top (memory_of (R.state a)) (memory_of (R.state b)) (surveyor_of (R.state a) w))

    turns : (k : ℕ) → began < k → k < till → Turns k (suc k)
    turns k l u = by_case (does (R.state k) w (within k) (sound_at R k) (in_survey (place_at R k w) v (in_call_then k l (omega arith))) laws (R.request k) (stepped (R.state k) (R.request k)) (step_case (R.state k) (R.request k)))
      where
        laws : (x : ℕ) → x < (R.state k).sizes.workers → TurnLaws (R.state k) x
        laws x m = keep (R.state 0) R.clean (history_at R k) (R.state k) (traced R k) x m

        by_case : Does (R.state k) w (within k) (sound_at R k) (in_survey (place_at R k w) v (in_call_then k l (omega arith))) (stepped (R.state k) (R.request k)) (R.request k) → Turns k (suc k)
        by_case (rests e) = inl (subst (λ t. surveyor_of t w ≡ surveyor_of (R.state k) w) (sym (R.next k)) e)
        by_case (goes_on e d) = inr (
          subst (λ t. turn_of R.sizes.keys R.sizes.top (memory_of (R.state k)) (surveyor_of (R.state k) w) ≡ goes_to (surveyor_of t w)) (sym (R.next k))
              (subst (λ z. turn_of z.keys z.top (memory_of (R.state k)) (surveyor_of (R.state k) w) ≡ goes_to (surveyor_of (stepped (R.state k) (R.request k)) w)) (sizes_at R k) e),
          subst (λ t. TurnDone R.sizes.top (memory_of (R.state k)) (memory_of t) (surveyor_of (R.state k) w)) (sym (R.next k))
              (subst (λ (z : Sizes). TurnDone z.top (memory_of (R.state k)) (memory_of (stepped (R.state k) (R.request k))) (surveyor_of (R.state k) w)) (sizes_at R k) d),
        )
        by_case (answers a e f) = absurd (let x : None ≡ Some began = sym (answer_closes R k w e a f) ∙ open_back R w began till opened (suc k) (omega arith) u in cc)

    surveying : Surveying c R.sizes.keys R.sizes.top v (suc began) till at
    surveying = record {
      some_key = omega arith;
      few_keys = omega arith;
      fits = survey_fits;
      starts = subst (λ k. place_at R k w ≡ place.Raise v) (let e : suc began ≡ min (suc began) now = omega (arith, by.before) in e) starts;
      turns = λ k l u. subst₂ Turns (let e : k ≡ min k now = omega arith in e) (let e : suc k ≡ min (suc k) now = omega arith in e) (turns k l u);
    }

pub runs_survey : RunsSurvey
runs_survey R now w began till v far inside by opened = surveying R w began till v inside by opened now far
