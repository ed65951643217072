-- What finished calls have done.
use Rattle.std.proofs.Common.{◌≡◌, ℕ, zero, suc, ◌+◌, ◌<◌, ◌≤◌, true, false, length, Some, None, Ok, Option, IsSome, ◌⊎◌, refl, sym, ◌∙◌, ap, subst, inl, inr, arith}
use Rattle.std.proofs.lemmas.Bool.{cases_eq, cases_lt, cases_Bool, eq-eqb, ne_eqb, lt-ltb, false≢true}
use Rattle.codes.specs.declared.answer.Answer.{Answer}
use Rattle.codes.specs.declared.answer.Answer.TheVariants.{VertexAlready, VertexAbsent, VertexPresent, EdgeAlready, EdgeAbsent, EdgePresent, RowsSpent, ClockSpent}
use Rattle.codes.specs.declared.refusal.Refusal.{Refusal}
use Rattle.layout.specs.declared.sizes.Sizes.{Sizes}
use Rattle.layout.specs.declared.names.Cell.TheVariants as cell
use Rattle.layout.specs.declared.names.Field.{Field}
use Rattle.layout.specs.Layout.{index_of}
use Rattle.layout.proofs.Regions.{index_lt}
use Rattle.places.specs.declared.mark.Mark.TheVariants.{Stamp}
use Rattle.places.specs.declared.place.Survey.{Survey}
use Rattle.places.specs.declared.place.Survey.TheVariants.{Snapshot, Reach}
use Rattle.places.specs.declared.place.Walk.{Walk}
use Rattle.places.specs.declared.place.Change.{Change}
use Rattle.places.specs.declared.place.Change.TheVariants as change
use Rattle.places.specs.declared.place.Call.{Call}
use Rattle.places.specs.declared.place.Call.TheVariants as call
use Rattle.places.specs.declared.place.Purpose.TheVariants as purpose
use Rattle.places.specs.declared.place.Place.{Place}
use Rattle.places.specs.declared.place.Place.TheVariants as place
use Rattle.places.specs.declared.place.Touch.TheVariants as touch
use Rattle.places.specs.declared.place.Hand.{Hand}
use Rattle.places.specs.Moved.{Next}
use Rattle.places.specs.Nexts.{next_of}
use Rattle.places.specs.Calls.{place_first}
use Rattle.places.specs.Touches.{change_kind}
use Rattle.machine.specs.declared.request.Request.{Request}
use Rattle.machine.specs.declared.request.Request.TheVariants as request
use Rattle.machine.specs.declared.request.Reply.{Reply}
use Rattle.machine.specs.declared.request.Reply.TheVariants as reply
use Rattle.machine.specs.declared.worker.Worker.{Worker}
use Rattle.machine.specs.Effects.{got_of}
use Rattle.machine.specs.Workers.{followed}
use Rattle.machine.specs.Turns.{worker_at, cell_at, hand_at, touch_at, next_at, followed_at, answer_at}
use Rattle.machine.specs.Requests.{turn_refused, unless_refused, answered_or, reply_of}
use Rattle.laws.specs.Changes.{Surveys, Changes, Changes.keeps, Changes.ticks, Changes.links, Changes.stamps, Changes.ends, Changes.fills, Changes.writes}
use Rattle.order.specs.Graph.{is_change}
use Rattle.order.specs.Past.{Finish}
use Rattle.order.specs.Seen as timed
use Rattle.runs.specs.Runs.{RunInTime}
use Rattle.runs.specs.Views.{clock_at, mark_at, place_at, LinkedAt}
use Rattle.runs.specs.Seen.{seen as sights, page_graph, open_at, sight_of as timed_sight}
use Rattle.runs.specs.Purposes.{MadeChange, InCall, place_made}
use Rattle.runs.specs.Known.{OwnChange}
use Rattle.runs.specs.Reasons.{Why, Why.vertex_made, Why.vertex_here, Why.vertex_won, Why.vertex_gone, Why.vertex_ended, Why.ended_below, Why.edge_made, Why.edge_here, Why.edge_missed, Why.rows_spent, HasReason, BegunBy, WorkerKnows, WorkerKnows.free, WorkerKnows.busy, AnswerRight}
use Rattle.runs.proofs.Turns.{next_is, worker_after, others_after}
use Rattle.laws.proofs.Taken.{turn_taken, begin_taken, begun_worker, begun_others}
use Rattle.runs.proofs.Opens.{runs_keeps, answer_closes}
use Rattle.runs.proofs.Steps.{StepCase, StepCase.rests as rest, StepCase.begins, StepCase.turns, sound_at, sizes_at, case_at, here, within}
use Rattle.promise.specs.Deeds.{RaiseEvent}
use Rattle.promise.specs.Bridges.{stamp_at}
use Rattle.promise.specs.Answers.{Surveyed, FinishTold, RunsAnswersTold}
use Rattle.promise.proofs.Deeds.{Taken, taken_at, changes_at}
use Rattle.promise.proofs.DeedRuns.{opened_at, same_begin, raised}
use Rattle.promise.proofs.Pages.{survey_call, place_surveys, idle_after}
use Rattle.promise.proofs.Surveys.{JobFor, Proper, WalkNext, on_head, on_older, on_settle, AfterFor, walk_after, AfterRaise, raise_after}
use Rattle.runs.proofs.Knows.{runs_know as know}
use Rattle.promise.proofs.Stamps.{stamps_told as told}
use Rattle.runs.proofs.Times.{runs_last as last}
use Rattle.surveys.proofs.Raises.{no_settled_clock}
use Rattle.order.proofs.Seen.{is_open_true}

none_some : {X P : Type 0} (x : X) → None ≡ Some x → P
none_some x e = absurd cc

some_same : {X : Type 0} (x y : X) → Some x ≡ Some y → x ≡ y
some_same x y e = cc

-- a call that a worker has open it had open since it began
module _ (s : ℕ → timed.CallSight) (w b : ℕ) where
  open_before : (k : ℕ) (x : timed.CallSight) (before : Option ℕ) → b < k → timed.open_after x k w before ≡ Some b → before ≡ Some b
  open_before k (timed.CallSight.begins v c) before l e = elim (cases_eq v w) [
    | inl q ↦ (let f : Some k ≡ Some b = rw (eq-eqb v w q) at e in let g = some_same k b f in absurd (omega arith))
    | inr q ↦ rw (ne_eqb v w q) at e
  ]
  open_before k (timed.CallSight.finishes v a p) before l e = elim (cases_eq v w) [
    | inl q ↦ (let f : None ≡ Some b = rw (eq-eqb v w q) at e in none_some b f)
    | inr q ↦ rw (ne_eqb v w q) at e
  ]
  open_before k timed.CallSight.neither before l e = e

  pub open_still : (t k : ℕ) → b < t → t ≤ k → timed.open_call s k w ≡ Some b → timed.open_call s t w ≡ Some b
  unfolding timed.open_call
  open_still t zero l m e = absurd (omega arith)
  open_still t (suc k) l m e = elim (cases_eq t (suc k)) [
    | inl q ↦ subst (λ t. timed.open_call s t w ≡ Some b) (sym q) e
    | inr q ↦ open_still t k l (omega arith) (open_before k (s k) (timed.open_call s k w) (omega arith) e)
  ]

idle_proper : (p : Place) → p ≡ place.Idle → Proper p
idle_proper p e = subst Proper (sym e) tt

first_proper : (c : Call) → Proper (place_first c)
first_proper (call.Vertex o i) = tt
first_proper (call.Edge o p) = tt
first_proper (call.Survey v) = tt

-- a place is that of a snapshot or reach, or of no walk
surveys_or_proper : (p : Place) → Surveys p ⊎ Proper p
surveys_or_proper place.Idle = inr tt
surveys_or_proper (place.Head l) = inr tt
surveys_or_proper (place.Settle st (purpose.Walk f k r)) = inl tt
surveys_or_proper (place.Settle st p) = inr tt
surveys_or_proper (place.Link d h) = inr tt
surveys_or_proper (place.End d r) = inr tt
surveys_or_proper (place.LostHead i) = inr tt
surveys_or_proper (place.Raise v) = inl tt
surveys_or_proper (place.WalkHead k) = inl tt
surveys_or_proper (place.WalkOlder k r) = inl tt

module _ (R : RunInTime) where
  abbrev TakenAt : ℕ → ℕ → Type 0
  TakenAt k w = Taken R k w

  -- a turn of a snapshot or reach
  pub data SurveyTurn (k u : ℕ) (c : Call) : Type 0 where
    walks : (j : Walk) → c ≡ call.Survey j.survey → AfterFor j.survey (answer_at (R.state k) u) (followed_at (R.state k) u).worker.place → SurveyTurn k u c
    raises : (v : Survey) → place_at R k u ≡ place.Raise v → AfterRaise (got_of (R.state k).sizes (R.state k).cells touch.Raise) (answer_at (R.state k) u) (followed_at (R.state k) u).worker.place → SurveyTurn k u c

  pub survey_turn : (k u : ℕ) (c : Call) → InCall (place_at R k u) c → Surveys (place_at R k u) → Proper (place_at R k u) → SurveyTurn k u c
  survey_turn k u c i q a = go (place_at R k u) refl i q a
    where
      walked : (j : Walk) (p : Place) → place_at R k u ≡ p → JobFor j.survey j.job → ((h : Hand) (g : Option ℕ) → WalkNext j (next_of p h g)) → AfterFor j.survey (answer_at (R.state k) u) (followed_at (R.state k) u).worker.place
      walked j p e a law = walk_after (R.state k).sizes.keys (worker_at (R.state k) u) (hand_at (R.state k) u) j a (next_at (R.state k) u)
          (subst (λ p. WalkNext j (next_of p (hand_at (R.state k) u) (got_of (R.state k).sizes (R.state k).cells (touch_at (R.state k) u)))) (sym e) (law (hand_at (R.state k) u) (got_of (R.state k).sizes (R.state k).cells (touch_at (R.state k) u))))

      go : (p : Place) → place_at R k u ≡ p → InCall p c → Surveys p → Proper p → SurveyTurn k u c
      go (place.Settle st (purpose.Walk f j r)) e i q a = walks j (sym i) (walked j (place.Settle st (purpose.Walk f j r)) e a (on_settle j a st f r))
      go (place.WalkHead j) e i q a = walks j (sym i) (walked j (place.WalkHead j) e a (on_head j a))
      go (place.WalkOlder j r) e i q a = walks j (sym i) (walked j (place.WalkOlder j r) e a (on_older j a r))
      go (place.Raise v) e i q a = raises v e (subst (λ (y : Next). AfterRaise (got_of (R.state k).sizes (R.state k).cells touch.Raise) (followed (R.state k).sizes.keys (worker_at (R.state k) u) (hand_at (R.state k) u) y).answer (followed (R.state k).sizes.keys (worker_at (R.state k) u) (hand_at (R.state k) u) y).worker.place)
          (sym (next_is (R.state k) u (place.Raise v) e)) (raise_after (R.state k).sizes.keys (worker_at (R.state k) u) (hand_at (R.state k) u) v (got_of (R.state k).sizes (R.state k).cells touch.Raise)))
      go p e i q a = absurd q

  place_after : (k u : ℕ) → TakenAt k u → place_at R (suc k) u ≡ (followed_at (R.state k) u).worker.place
  place_after k u t =
      ap (λ s. (worker_at s u).place) t.next
      ∙ ap (λ (v : Worker). v.place) (worker_after (R.state k) u (sound_at R k) (here R k u t.asked t.accepted t.next))

  -- a turn of a snapshot or reach that does not answer leads to a proper place
  turn_proper : (k u : ℕ) (c : Call) → SurveyTurn k u c → answer_at (R.state k) u ≡ None → Proper (followed_at (R.state k) u).worker.place
  turn_proper k u c (walks j e a) n = subst (λ x. AfterFor j.survey x (followed_at (R.state k) u).worker.place) n a
  turn_proper k u c (raises v e a) n = go (got_of (R.state k).sizes (R.state k).cells touch.Raise) a
    where
      go : (g : Option ℕ) → AfterRaise g (answer_at (R.state k) u) (followed_at (R.state k) u).worker.place → Proper (followed_at (R.state k) u).worker.place
      go None a = none_some ClockSpent (sym n ∙ a)
      go (Some t) a = a.1

  own_proper : (k u : ℕ) → TakenAt k u → Proper (place_at R k u) → Proper (place_at R (suc k) u)
  own_proper k u t a = answered (answer_at (R.state k) u) refl
    where
      running : answer_at (R.state k) u ≡ None → Surveys (place_at R (suc k) u) → WorkerKnows R (suc k) u → Proper (place_at R (suc k) u)
      running n q (free o i) = idle_proper (place_at R (suc k) u) i
      running n q (busy b c o g i x) = (
          let opens : open_at R (suc k) u ≡ open_at R k u = runs_keeps R k u t.asked u (ap (reply_of (R.state k)) (sym t.asked) ∙ t.reply ∙ ap (λ a. answered_or (Ok a)) n) in
          let (v, is) = survey_call (place_at R (suc k) u) c i q in
          let was = opened_at R k u b t.within (sym opens ∙ o) in
          let same = (same_begin R was.begun g).1 in
          let before = place_surveys (place_at R k u) v (subst (InCall (place_at R k u)) (same ∙ is) was.place) in
          subst Proper (sym (place_after k u t)) (turn_proper k u was.call (survey_turn k u was.call was.place before a) n))

      answered : (x : Option Answer) → answer_at (R.state k) u ≡ x → Proper (place_at R (suc k) u)
      answered (Some x) e = idle_proper (place_at R (suc k) u) (idle_after R k u t x e)
      answered None e = elim (surveys_or_proper (place_at R (suc k) u)) [ inl q ↦ running e q ((know R).workers (suc k) u t.within) | inr p ↦ p ]

  proper_next : (k w : ℕ) → w < R.sizes.workers → Proper (place_at R k w) → Proper (place_at R (suc k) w)
  proper_next k w l p = go (case_at R k)
    where
      go : StepCase (R.state k) (R.request k) (R.state (suc k)) → Proper (place_at R (suc k) w)
      go (rest f s) = subst Proper (sym (s.workers w).place) p
      go (begins b c q a f s) = (
          let within = (begin_taken (R.state k) b c a).within in
          elim (cases_eq w b.worker) [
            | inl i ↦ subst Proper (sym (ap (place_at R (suc k)) i ∙ ap (λ s. (worker_at s b.worker).place) s ∙ ap (λ (u : Worker). u.place) (begun_worker (R.state k) (sound_at R k) b.worker within c))) (first_proper c)
            | inr i ↦ subst Proper (sym (ap (λ s. (worker_at s w).place) s ∙ ap (λ (u : Worker). u.place) (begun_others (R.state k) (sound_at R k) b.worker within c w i))) p
          ])
      go (turns u q n f s) = (
          let t : TakenAt k u = record { asked = q; within = within R k u q n s; accepted = n; reply = f; next = s } in
          elim (cases_eq w u) [
            | inl i ↦ subst (λ w. Proper (place_at R (suc k) w)) (sym i) (own_proper k u t (subst (λ w. Proper (place_at R k w)) i p))
            | inr i ↦ subst Proper (sym (ap (λ s. (worker_at s w).place) t.next ∙ ap (λ (v : Worker). v.place) (others_after (R.state k) u (sound_at R k) (here R k u t.asked t.accepted t.next) w i))) p
          ])

  pub proper_at : (k w : ℕ) → w < R.sizes.workers → Proper (place_at R k w)
  proper_at zero w l = go ((know R).workers 0 w l)
    where
      go : WorkerKnows R 0 w → Proper (place_at R 0 w)
      go (free o i) = idle_proper (place_at R 0 w) i
      go (busy b c o g i x) = absurd (omega (arith, g.before))
  proper_at (suc k) w l = proper_next k w l (proper_at k w l)

  -- how a finished call was answered
  pub record FinishedAt (k b : ℕ) (f : Finish) : Type 0 where
    pub worker : ℕ
    pub before : f.time < k
    pub asked : R.request f.time ≡ request.Turn worker
    pub reply : reply_of (R.state f.time) (request.Turn worker) ≡ reply.Answered f.answer
    pub whose : open_at R f.time worker ≡ Some b
    pub page : f.page ≡ page_graph (R.state (suc f.time)) worker

  finished_later : (k b : ℕ) (f : Finish) → FinishedAt k b f → FinishedAt (suc k) b f
  finished_later k b f x = record { worker = x.worker; before = omega (arith, x.before); asked = x.asked; reply = x.reply; whose = x.whose; page = x.page }

  finished_next : (k b : ℕ) (f : Finish) (before : Option Finish) → (before ≡ Some f → FinishedAt k b f) → (q : Request) (r : Reply) → R.request k ≡ q → reply_of (R.state k) (R.request k) ≡ r →
      timed.finish_after (open_at R k) (timed_sight (page_graph (R.state (suc k))) q r) k b before ≡ Some f → FinishedAt (suc k) b f
  finished_next k b f before earlier (request.Turn w) (reply.Answered a) i y e = elim (cases_Bool (timed.is_open (open_at R k w) b)) [
    | inl z ↦ (
        let was : Finish = record { time = k; answer = a; page = page_graph (R.state (suc k)) w } in
        let h : Some was ≡ Some f = rw z at e in
        let here : FinishedAt (suc k) b was = record {
          worker = w;
          before = omega arith;
          asked = i;
          reply = ap (reply_of (R.state k)) (sym i) ∙ y;
          whose = is_open_true (open_at R k w) b z;
          page = refl;
        } in
        subst (FinishedAt (suc k) b) (some_same was f h) here)
    | inr z ↦ finished_later k b f (earlier (rw z at e))
  ]
  finished_next k b f before earlier (request.Begin x) reply.Done i y e = finished_later k b f (earlier e)
  finished_next k b f before earlier q r i y e = finished_later k b f (earlier e)

  pub finished_at : (k b : ℕ) (f : Finish) → timed.finish_by (sights R) k b ≡ Some f → FinishedAt k b f
  unfolding timed.finish_by
  finished_at zero b f e = none_some f e
  finished_at (suc k) b f e = finished_next k b f (timed.finish_by (sights R) k b) (finished_at k b f) (R.request k) (reply_of (R.state k) (R.request k)) refl refl e

  -- the turn at which a call was finished, with what is known of its call
  pub record Closing (now b : ℕ) (f : Finish) (x : FinishedAt now b f) : Type 0 where
    pub right : AnswerRight R f.time x.worker f.answer
    pub same : right.began ≡ b
    pub within : x.worker < R.sizes.workers
    pub answer : answer_at (R.state f.time) x.worker ≡ Some f.answer

  answer_of : (r : Option Refusal) (a : Option Answer) (y : Answer) → answered_or (unless_refused r a) ≡ reply.Answered y → (r ≡ None) × (a ≡ Some y)
  answer_of None None y e = absurd cc
  answer_of None (Some a) y e = (refl, let same : a ≡ y = cc in ap (λ x. Some x) same)
  answer_of (Some r) a y e = absurd cc

  pub closing : (now b : ℕ) (f : Finish) (x : FinishedAt now b f) → Closing now b f x
  closing now b f x =
      let (n, a) = answer_of (turn_refused (R.state f.time) x.worker) (answer_at (R.state f.time) x.worker) f.answer x.reply in
      let r = (know R).answers f.time x.worker f.answer x.asked x.reply in
      record {
        right = r;
        same = some_same r.began b (sym r.whose ∙ x.whose);
        within = subst (λ (z : Sizes). x.worker < z.workers) (sizes_at R f.time) (turn_taken (R.state f.time) x.worker n);
        answer = a;
      }

  -- what a snapshot or reach answers
  survey_answer : (k u : ℕ) (c : Call) (v : Survey) → SurveyTurn k u c → c ≡ call.Survey v → (a : Answer) → answer_at (R.state k) u ≡ Some a → Surveyed v a ⊎ ((a ≡ ClockSpent) × (s : Survey) × (place_at R k u ≡ place.Raise s) × (got_of (R.state k).sizes (R.state k).cells touch.Raise ≡ None))
  survey_answer k u c v (walks j e x) i a y = (
      let f : call.Survey j.survey ≡ call.Survey v = sym e ∙ i in
      let same : j.survey ≡ v = cc in
      inl (subst (λ v. Surveyed v a) same (subst (λ o. AfterFor j.survey o (followed_at (R.state k) u).worker.place) y x)))
  survey_answer k u c v (raises s e x) i a y = go (got_of (R.state k).sizes (R.state k).cells touch.Raise) refl x
    where
      go : (g : Option ℕ) → got_of (R.state k).sizes (R.state k).cells touch.Raise ≡ g → AfterRaise g (answer_at (R.state k) u) (followed_at (R.state k) u).worker.place →
          Surveyed v a ⊎ ((a ≡ ClockSpent) × (s : Survey) × (place_at R k u ≡ place.Raise s) × (got_of (R.state k).sizes (R.state k).cells touch.Raise ≡ None))
      go None g x = inr (some_same a ClockSpent (sym y ∙ x), s, e, g)
      go (Some t) g x = none_some a (sym x.0 ∙ y)

  -- a raise that moves the clock gets its number
  raise_gets : (k u : ℕ) → TakenAt k u → ¬ (clock_at R (suc k) ≡ clock_at R k) → got_of (R.state k).sizes (R.state k).cells touch.Raise ≡ None → ⊥
  raise_gets k u t moved none = go _ _ (changes_at R k u t cell.Clock tt) refl refl
    where
      below : clock_at R k < (R.state k).sizes.top → ⊥
      below l = (
          let s = R.state k in
          let room : index_of s.sizes cell.Clock < length s.cells = omega (arith, index_lt s.sizes cell.Clock tt, (sound_at R k).cells) in
          let x : Some (clock_at R k) ≡ None = sym (rw (lt-ltb (index_of s.sizes cell.Clock) (length s.cells) room, lt-ltb (clock_at R k) s.sizes.top l) refl) ∙ none in
          none_some (clock_at R k) (sym x))

      go : (x y : ℕ) → Changes (R.state k) u cell.Clock x y → x ≡ cell_at R.sizes (R.state k).cells cell.Clock → y ≡ cell_at R.sizes (R.state (suc k)).cells cell.Clock → ⊥
      go x y (keeps e) i j = moved (ap (λ z. cell_at z (R.state (suc k)).cells cell.Clock) (sizes_at R (suc k)) ∙ sym j ∙ e ∙ i ∙ ap (λ z. cell_at z (R.state k).cells cell.Clock) (sym (sizes_at R k)))
      go x y (ticks v e c l q) i j = below (subst (λ n. n < (R.state k).sizes.top) (i ∙ ap (λ z. cell_at z (R.state k).cells cell.Clock) (sym (sizes_at R k))) l)
      go x y (links d e c p) i j = absurd cc
      go x y (stamps p e c q) i j = no_settled_clock p c
      go x y (ends d r e c p q) i j = absurd cc
      go x y (fills c r p o q) i j = absurd o
      go x y (writes o q) i j = absurd o

  module _ (now b : ℕ) (f : Finish) (x : FinishedAt now b f) where
    abbrev w : ℕ
    w = x.worker

    known : Closing now b f x
    known = closing now b f x

    abbrev c : Call
    c = known.right.call

    began : BegunBy R f.time w b c
    began = subst (λ b. BegunBy R f.time w b c) known.same known.right.begun

    -- at that turn the call was at one of its places
    at_place : InCall (place_at R f.time w) c
    at_place = let o = opened_at R f.time w b known.within x.whose in
        subst (InCall (place_at R f.time w)) (same_begin R o.begun began).1 o.place

    of_survey : (v : Survey) → c ≡ call.Survey v → SurveyTurn f.time w c
    of_survey v e = survey_turn f.time w c at_place (place_surveys (place_at R f.time w) v (subst (InCall (place_at R f.time w)) e at_place)) (proper_at f.time w known.within)

    -- a change that bears its stamp when the call is finished bears it now
    bears_now : (g : Field) (d : Change) (r n : ℕ) → OwnChange R (suc f.time) b g d r → LinkedAt R (suc f.time) (change_kind d) r → mark_at R (suc f.time) (change_kind d) g r ≡ Stamp n → IsSome (stamp_at R now b)
    bears_now g d r n own l m =
        let later : mark_at R now (change_kind d) g r ≡ Stamp n = ((last R).times (suc f.time) now (omega (arith, x.before))).stamp (change_kind d) g r n l m in
        let e = (told R now b).bears g own.time d r n (omega (arith, own.before, x.before)) own.held.1 later in
        rw e refl

    no_change : (a : Answer) → f.answer ≡ a → is_change a ≡ false → is_change f.answer ≡ true → IsSome (stamp_at R now b)
    no_change a e n y = absurd (false≢true (sym n ∙ sym (ap is_change e) ∙ y))

    survey_no_change : (v : Survey) (a : Answer) → Surveyed v a → is_change a ≡ false
    survey_no_change Snapshot a e = ap is_change e
    survey_no_change (Reach i) a (inl e) = ap is_change e
    survey_no_change (Reach i) a (inr e) = ap is_change e

    why_stamped : (m : Option MadeChange) → Why R (suc f.time) b c m f.answer → is_change f.answer ≡ true → IsSome (stamp_at R now b)
    why_stamped m (vertex_made g i r e q a own l s) y = bears_now g (change.Vertex i) r s.number own l s.is
    why_stamped m (vertex_here i r e q h) y = elim q [ inl (p, a) ↦ no_change VertexAlready a refl y | inr (p, a) ↦ no_change VertexPresent a refl y ]
    why_stamped m (vertex_won i r e q a s h l t) y = no_change VertexAlready a refl y
    why_stamped m (vertex_gone i r e n a h d) y = no_change VertexAbsent a refl y
    why_stamped m (vertex_ended i r e n a h d) y = no_change VertexAbsent a refl y
    why_stamped m (ended_below g d q z i r n e p a s k h l t u) y = no_change VertexAbsent a refl y
    why_stamped m (edge_made g d q z e p a s n o) y = bears_now g (change.Edge d) q z s.made s.linked s.stamped
    why_stamped m (edge_here o d q e p a h) y = elim a [ inl (n, a) ↦ no_change EdgeAlready a refl y | inr (n, a) ↦ no_change EdgePresent a refl y ]
    why_stamped m (edge_missed o d h e p a n k) y = no_change EdgeAbsent a refl y
    why_stamped m (rows_spent d e p a h) y = no_change RowsSpent a refl y

    right_now : HasReason R (suc f.time) b c (place_made (place_at R f.time w)) f.answer
    right_now = subst (λ b. HasReason R (suc f.time) b c (place_made (place_at R f.time w)) f.answer) known.same known.right.right

    stamped : is_change f.answer ≡ true → IsSome (stamp_at R now b)
    stamped = go c refl right_now
      where
        go : (d : Call) → c ≡ d → HasReason R (suc f.time) b d (place_made (place_at R f.time w)) f.answer → is_change f.answer ≡ true → IsSome (stamp_at R now b)
        go (call.Vertex o i) e r = why_stamped (place_made (place_at R f.time w)) (subst (λ d. Why R (suc f.time) b d (place_made (place_at R f.time w)) f.answer) (sym e) r)
        go (call.Edge o p) e r = why_stamped (place_made (place_at R f.time w)) (subst (λ d. Why R (suc f.time) b d (place_made (place_at R f.time w)) f.answer) (sym e) r)
        go (call.Survey v) e r = λ y. elim (survey_answer f.time w c v (of_survey v e) e f.answer known.answer) [
          | inl s ↦ no_change f.answer refl (survey_no_change v f.answer s) y
          | inr (a, s, p, g) ↦ no_change ClockSpent a refl y
        ]

    -- the turn that raised the clock was one of a snapshot or reach, before it was finished
    module _ (p : ℕ) (l : p < now) (ev : RaiseEvent R p b) where
      was_survey : (ev.worker ≡ w) × (c ≡ call.Survey ev.survey)
      was_survey = let o = opened_at R p ev.worker b ev.turn.within ev.whose in
          let (v, d) = same_begin R o.begun began in
          (v, sym d ∙ sym (subst (λ q. InCall q o.call) ev.turn.place o.place))

      not_after : ¬ (f.time < p)
      not_after m =
          let o : open_at R p w ≡ Some b = subst (λ v. open_at R p v ≡ Some b) was_survey.0 ev.whose in
          let q : open_at R (suc f.time) w ≡ Some b = open_still (sights R) w b (suc f.time) p (omega (arith, began.before)) (omega arith) o in
          none_some b (sym (answer_closes R f.time w x.asked f.answer x.reply) ∙ q)

      raised_by : (v : Survey) × (c ≡ call.Survey v) × Surveyed v f.answer
      raised_by = elim (survey_answer f.time w c ev.survey (of_survey ev.survey was_survey.1) was_survey.1 f.answer known.answer) [
        | inl s ↦ (ev.survey, was_survey.1, s)
        | inr (a, s, at, none) ↦ absurd (elim (cases_lt p f.time) [
          | inl m ↦ raised R p b ev f.time m w known.within x.whose s at
          | inr m ↦ elim (cases_lt f.time p) [
            | inl o ↦ not_after o
            | inr o ↦ (
                let same : p ≡ f.time = omega arith in
                let t = taken_at R f.time w (place.Raise s) (record { asked = x.asked; within = known.within; place = at }) (λ q. absurd cc) in
                let moved : clock_at R (suc f.time) ≡ clock_at R f.time + 1 = subst (λ p. clock_at R (suc p) ≡ clock_at R p + 1) same ev.moved in
                raise_gets f.time w t (λ q. omega (arith, moved, q)) none)
          ]
        ])
      ]

    pub finish_told : FinishTold R now b f
    finish_told = record {
      worker = w;
      call = c;
      begun = record { before = omega (arith, began.before, x.before); begin = began.begin; asked = began.asked; worker = began.worker; call = began.call };
      before = x.before;
      asked = x.asked;
      reply = x.reply;
      whose = x.whose;
      page = x.page;
      right = right_now;
      stamped = stamped;
      raised = λ t e. (let h = (told R now b).raised t e in raised_by h.time h.before h.held.0);
    }

pub answers_told : RunsAnswersTold
answers_told R now b f e =
    finish_told R now b f (finished_at R now b f e)
