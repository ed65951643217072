-- The turn of a snapshot or reach that raised the clock, from the turns of its worker.
use Rattle.std.proofs.Common.{◌≡◌, ℕ, zero, suc, ◌+◌, ◌-◌, ◌<◌, ◌≤◌, ◌≢◌, min, Bool, true, false, cond, not, eqb, ltb, Some, None, Option, Continue, Break, sym, refl, ap, ◌∙◌, subst, arith}
use Rattle.std.proofs.lemmas.Bool.{eq-eqb, ne_eqb, ltb-true, lt-ltb}
use Rattle.codes.specs.declared.answer.Answer.{Answer}
use Rattle.codes.specs.declared.answer.Answer.TheVariants.{ClockSpent}
use Rattle.layout.specs.declared.sizes.Sizes.{Sizes}
use Rattle.layout.specs.declared.names.Cell.TheVariants as cell
use Rattle.places.specs.declared.call.Begin.{Begin}
use Rattle.places.specs.declared.place.Survey.{Survey}
use Rattle.places.specs.declared.place.Call.{Call}
use Rattle.places.specs.declared.place.Call.TheVariants as call
use Rattle.places.specs.declared.place.Place.{Place}
use Rattle.places.specs.declared.place.Place.TheVariants as place
use Rattle.places.specs.Flows.{Flow}
use Rattle.places.specs.Touches.{touch_of}
use Rattle.books.specs.declared.book.Book.{Book}
use Rattle.machine.specs.declared.request.Request.{Request}
use Rattle.machine.specs.declared.request.Request.TheVariants as request
use Rattle.machine.specs.declared.request.Reply.TheVariants as reply
use Rattle.machine.specs.States.{State}
use Rattle.machine.specs.Turns.{worker_at, turned}
use Rattle.machine.specs.Requests.{turn_refused, reply_of}
use Rattle.laws.specs.Changes.{number_in}
use Rattle.runs.specs.Runs.{RunInTime}
use Rattle.runs.specs.Views.{clock_at, place_at}
use Rattle.runs.specs.Seen.{open_at}
use Rattle.runs.specs.Reasons.{BegunBy, WorkerKnows, WorkerKnows.free, WorkerKnows.busy}
use Rattle.runs.proofs.Steps.{sizes_at}
use Rattle.runs.proofs.Opens.{answer_closes}
use Rattle.walks.specs.Memory.{memory_of}
use Rattle.walks.specs.Walking.{Done}
use Rattle.walks.specs.Surveys.{Surveyor, Going}
use Rattle.walks.specs.Turns.{surveyor_of, goes, place_then}
use Rattle.bounds.specs.Bounds.{is_turn_of_worker}
use Rattle.bounds.proofs.Counts.{both_true, own_turn}
use Rattle.bounds.proofs.Open.{some_same, none_some}
use Rattle.walks.proofs.OpenBack.{open_back}
use Rattle.bounds.proofs.SurveySteps.{Step, own, rests, step, done, place_next, book_next, reply_is, closes}
use Rattle.surveys.specs.Raises.{is_request_of_call, raising, raising_turn, RaiseStep}
use Rattle.surveys.proofs.Walks.{WalkPlace, NotSpent, WalkFlow, walk_turn, raised_going, raise_turn}
use Rattle.surveys.proofs.Raises.{runs_raise as raise}
use Rattle.walks.proofs.RunSurveys.{runs_survey as survey}
use Rattle.runs.proofs.Knows.{runs_know as know}
use Rattle.order.proofs.Seen.{is_open_true}

turn_in : (opens : ℕ → Option ℕ) (b : ℕ) (q : Request) → is_request_of_call opens b q ≡ true → (w : ℕ) × (q ≡ request.Turn w) × (opens w ≡ Some b)
turn_in opens b (request.Turn w) e = (w, refl, is_open_true (opens w) b e)
turn_in opens b q e = absurd cc

moved_not : (x y : ℕ) → not (eqb x y) ≡ true → x ≢ y
moved_not x y e q = (let z = eq-eqb x y q in let u = rw z at e in absurd cc)

pub same_worker : {v w : ℕ} → request.Turn v ≡ request.Turn w → v ≡ w
same_worker e = cc

same_begin : {a b : Begin} → request.Begin a ≡ request.Begin b → a ≡ b
same_begin e = cc

-- a turn that is found is one
pub raising_true : (R : RunInTime) (b k r : ℕ) → raising_turn R b k ≡ Some r → raising R b r ≡ true
unfolding raising_turn
raising_true R b zero r e = absurd cc
raising_true R b (suc k) r e = by_test (raising_true R b k r) (raising R b k) refl e
  where
    by_test : (raising_turn R b k ≡ Some r → raising R b r ≡ true) → (t : Bool) → raising R b k ≡ t → cond t (Some k) (raising_turn R b k) ≡ Some r → raising R b r ≡ true
    by_test before true q z = subst (λ x. raising R b x ≡ true) (some_same z) q
    by_test before false q z = before z

-- turn k of the call b raised the clock
pub record Raised (R : RunInTime) (b k : ℕ) : Type 0 where
  pub step : RaiseStep R k
  pub whose : open_at R k step.worker ≡ Some b
  pub call : Call
  pub begun : BegunBy R k step.worker b call

pub raised : (R : RunInTime) (b k : ℕ) → raising R b k ≡ true → Raised R b k
raised R b k e = by_worker ((know R).workers k s.worker s.turn.within)
  where
    parts : (is_request_of_call (open_at R k) b (R.request k) ≡ true) × (not (eqb (clock_at R (suc k)) (clock_at R k)) ≡ true)
    parts = both_true _ _ e

    s : RaiseStep R k
    s = raise R k (moved_not _ _ parts.1)

    whose : open_at R k s.worker ≡ Some b
    whose = let t = turn_in (open_at R k) b (R.request k) parts.0 in ap (open_at R k) (same_worker (sym s.turn.asked ∙ t.1)) ∙ t.2

    by_worker : WorkerKnows R k s.worker → Raised R b k
    by_worker (free o i) = absurd (none_some (sym o ∙ whose))
    by_worker (busy a c o g i n) = record { step = s; whose = whose; call = c; begun = subst (λ x. BegunBy R k s.worker x c) (some_same (sym o ∙ whose)) g }

-- a call is of one worker
pub one_worker : (R : RunInTime) (k u v w b : ℕ) (c d : Call) → BegunBy R k v b c → BegunBy R u w b d → v ≡ w
one_worker R k u v w b c d g h = sym g.worker ∙ ap (λ (x : Begin). x.worker) (same_begin (sym g.asked ∙ h.asked)) ∙ h.worker

pub raising_next : (R : RunInTime) (b k : ℕ) (x : Bool) → raising R b k ≡ x → raising_turn R b (suc k) ≡ cond x (Some k) (raising_turn R b k)
unfolding raising_turn
raising_next R b k x e = ap (λ y. cond y (Some k) (raising_turn R b k)) e

raising_start : (R : RunInTime) (b : ℕ) → raising_turn R b zero ≡ None
unfolding raising_turn
raising_start R b = refl

walk_not_raise : (p : Place) (v : Survey) → WalkPlace p → ¬ (p ≡ place.Raise v)
walk_not_raise (place.WalkHead k) v z e = absurd cc
walk_not_raise (place.WalkOlder k r) v z e = absurd cc
walk_not_raise (place.Settle st q) v z e = absurd cc
walk_not_raise p v z e = absurd z

pub spent_or : (a : Answer) → NotSpent a → a ≢ ClockSpent
spent_or a n e = subst NotSpent e n

module _ (R : RunInTime) (w b : ℕ) (v : Survey)
    (l : w < R.sizes.workers) (till : ℕ) (begun : BegunBy R till w b (call.Survey v)) (o : open_at R till w ≡ Some b) where
  -- a turn that raises is of the worker, at the place of a raise, after the begin
  pub is_own : (k : ℕ) (r : Raised R b k) → r.step.worker ≡ w
  is_own k r = one_worker R k till r.step.worker w b r.call (call.Survey v) r.begun begun

  pub at_raise_place : (k : ℕ) (r : Raised R b k) → place_at R k w ≡ place.Raise r.step.survey
  at_raise_place k r = ap (place_at R k) (sym (is_own k r)) ∙ r.step.turn.place

  not_raising : (k : ℕ) → (Raised R b k → ⊥) → raising R b k ≡ false
  not_raising k n = by_test (raising R b k) refl
    where
      by_test : (t : Bool) → raising R b k ≡ t → raising R b k ≡ false
      by_test true e = absurd (n (raised R b k e))
      by_test false e = e

  same_then : (k : ℕ) → (Raised R b k → ⊥) → raising_turn R b (suc k) ≡ raising_turn R b k
  same_then k n = raising_next R b k false (not_raising k n)

  none_before : (k : ℕ) → k ≤ suc b → raising_turn R b k ≡ None
  none_before zero u = raising_start R b
  none_before (suc k) u = same_then k (λ r. (let x : b < k = r.begun.before in absurd (omega arith))) ∙ none_before k (omega arith)

  -- the worker waits for its raise, or walks with the number of its raise
  pub data Known (k : ℕ) : Type 0 where
    waits : place_at R k w ≡ place.Raise v → raising_turn R b k ≡ None → Known k
    walks : WalkPlace (place_at R k w) → (r : ℕ) → Raised R b r → raising_turn R b k ≡ Some r → clock_at R r ≡ (worker_at (R.state k) w).book.t → Known k

  opened : (k : ℕ) → b < k → k ≤ till → open_at R k w ≡ Some b
  opened k m u = open_back R w b till o k m u

  first : Known (suc b)
  first = waits (subst (λ k. place_at R k w ≡ place.Raise v) (let e : min (suc b) till ≡ suc b = omega (arith, begun.before) in e) (survey R till w b till v (omega arith) l begun o).starts) (none_before (suc b) (omega arith))

  module _ (k : ℕ) (now : open_at R k w ≡ Some b) where
    abbrev s : State
    s = R.state k

    abbrev clock : ℕ
    clock = clock_at R k

    -- no turn raises after the raise
    pub none_walking : WalkPlace (place_at R k w) → Raised R b k → ⊥
    none_walking z r = walk_not_raise (place_at R k w) r.step.survey z (at_raise_place k r)

    -- the raise
    below : (t : Bool) → ltb clock s.sizes.top ≡ t → place_at R k w ≡ place.Raise v → goes s w ≡ raised_going (memory_of s) v (surveyor_of s w) t
    below t q e = raise_turn s.sizes.keys s.sizes.top (memory_of s) (surveyor_of s w) v e t q

    raise_next : R.request k ≡ request.Turn w → R.state (suc k) ≡ turned s w → place_at R k w ≡ place.Raise v → ltb clock s.sizes.top ≡ true → raising R b k ≡ true
    raise_next q e p t =
        let d = done R w b v l till begun k now in
        let up : clock_at R (suc k) ≡ suc clock = ap (λ x. number_in x cell.Clock) e ∙ subst (λ x. Done s.sizes.top (memory_of s) (memory_of (turned s w)) (touch_of x None)) p d (ltb-true _ _ t) in
        let m : eqb (clock_at R (suc k)) clock ≡ false = ne_eqb _ _ (λ x. omega arith) in
        let a : is_request_of_call (open_at R k) b (R.request k) ≡ true = ap (is_request_of_call (open_at R k) b) q ∙ rw now (eq-eqb b b refl) in
        rw (a, m) refl

    -- a step that is no turn of the worker
    rests_known : is_turn_of_worker w (R.request k) ≡ false → surveyor_of (R.state (suc k)) w ≡ surveyor_of s w → Known k → Known (suc k)
    rests_known n e g = kept g
      where
        none : Raised R b k → ⊥
        none r = (let x = sym (own_turn w) ∙ ap (is_turn_of_worker w) (ap request.Turn (sym (is_own k r)) ∙ sym r.step.turn.asked) ∙ n in cc)

        kept : Known k → Known (suc k)
        kept (waits p z) = waits (ap (λ (x : Surveyor). x.place) e ∙ p) (same_then k none ∙ z)
        kept (walks p r y z t) = walks (subst WalkPlace (sym (ap (λ (x : Surveyor). x.place) e)) p) r y (same_then k none ∙ z) (t ∙ sym (ap (λ (x : Surveyor). x.book.t) e))

    -- a turn of it that does not answer
    module _ (then : open_at R (suc k) w ≡ Some b) (q : R.request k ≡ request.Turn w) (n : turn_refused s w ≡ None) (e : R.state (suc k) ≡ turned s w) where
      goes_out : (x : Flow) → (goes s w).out ≡ x → (p : Place) × ((goes s w).out ≡ Continue p)
      goes_out (Continue p) f = (p, f)
      goes_out (Break a) f = absurd (none_some (sym (closes R w b v l till begun k now q n e a f) ∙ then))

      place_is : (p : Place) → (goes s w).out ≡ Continue p → place_at R (suc k) w ≡ p
      place_is p f = place_next R w b v l till begun k now q n e ∙ ap place_then f

      book_is : (worker_at (R.state (suc k)) w).book ≡ (goes s w).book
      book_is = book_next R w b v l till begun k now q n e

      raise_known : place_at R k w ≡ place.Raise v → (t : Bool) → ltb clock s.sizes.top ≡ t → Known (suc k)
      raise_known p true t =
          let g = below true t p in
          let a = raise_next q e p t in
          let d = place_is _ (ap (λ (x : Going). x.out) g) in
          walks (subst WalkPlace (sym d) tt) k (raised R b k a) (raising_next R b k true a) (sym (ap (λ (x : Book). x.t) (book_is ∙ ap (λ (x : Going). x.book) g)))
      raise_known p false t =
          let g = below false t p in
          let x = goes_out (goes s w).out refl in
          absurd (no_answer (sym x.1 ∙ ap (λ (x : Going). x.out) g))
        where
          no_answer : {p : Place} {a : Answer} → ◌≡◌ {A = Flow} (Continue p) (Break a) → ⊥
          no_answer q = absurd cc

      own_known : Known k → Known (suc k)
      own_known (waits p z) = raise_known p (ltb clock s.sizes.top) refl
      own_known (walks p r y z t) =
          let x = goes_out (goes s w).out refl in
          let g = walk_turn s.sizes.keys s.sizes.top (memory_of s) (surveyor_of s w) p in
          let u : WalkPlace x.0 = subst WalkFlow x.1 g.0 in
          walks (subst WalkPlace (sym (place_is x.0 x.1)) u) r y (same_then k (none_walking p) ∙ z) (t ∙ sym g.1 ∙ sym (ap (λ (x : Book). x.t) book_is))

    -- a step while the call stays open
    next_known : open_at R (suc k) w ≡ Some b → Known k → Known (suc k)
    next_known then h = by_step (step R w b v l till begun k now)
      where
        by_step : Step R w b v l till begun k now → Known (suc k)
        by_step (rests n e) = rests_known n e h
        by_step (own q n e) = own_known then q n e h

  known_from : (d : ℕ) → suc b + d ≤ till → Known (suc b + d)
  known_from zero u = subst Known (let e : suc b ≡ suc b + zero = omega arith in e) first
  known_from (suc d) u =
      let e : suc (suc b + d) ≡ suc b + suc d = omega arith in
      subst Known e (next_known (suc b + d) (opened (suc b + d) (omega arith) (omega arith)) (opened (suc (suc b + d)) (omega arith) (omega arith)) (known_from d (omega arith)))

  known_at : Known till
  known_at = (let e : suc b + (till - suc b) ≡ till = omega (arith, begun.before) in subst Known e (known_from (till - suc b) (omega arith)))

  -- the turn that answers
  module _ (a : Answer) (asked : R.request till ≡ request.Turn w) (answered : reply_of (R.state till) (request.Turn w) ≡ reply.Answered a) where
    -- no turn was of the call after it
    closed : open_at R (suc till) w ≡ None
    closed = answer_closes R till w asked a answered

    none_after : (k : ℕ) → till < k → Raised R b k → ⊥
    none_after k u r = none_some (sym closed ∙ open_back R w b k (subst (λ x. open_at R k x ≡ Some b) (is_own k r) r.whose) (suc till) (omega (arith, begun.before)) u)

    later : (d : ℕ) → raising_turn R b (suc till + d) ≡ raising_turn R b (suc till)
    later zero = ap (raising_turn R b) (omega arith)
    later (suc d) = ap (raising_turn R b) (let e : suc till + suc d ≡ suc (suc till + d) = omega arith in e) ∙ same_then (suc till + d) (none_after (suc till + d) (omega arith)) ∙ later d

    then_on : (k : ℕ) → till < k → raising_turn R b k ≡ raising_turn R b (suc till)
    then_on k u = (let e : k ≡ suc till + (k - suc till) = omega arith in ap (raising_turn R b) e ∙ later (k - suc till))

    -- it answers 41, and the call raised nothing; or it walked with the number of its raise
    pub data Ended (now : ℕ) : Type 0 where
      spent : a ≡ ClockSpent → raising_turn R b now ≡ None → Ended now
      shown : a ≢ ClockSpent → (r : ℕ) → Raised R b r → raising_turn R b now ≡ Some r → clock_at R r ≡ (goes (R.state till) w).book.t → Ended now

    abbrev s' : State
    s' = R.state till

    same_answer : (x y : Answer) → reply.Answered x ≡ reply.Answered y → x ≡ y
    same_answer x y e = cc

    out_is : turn_refused s' w ≡ None → R.state (suc till) ≡ turned s' w → (goes s' w).out ≡ Break a
    out_is n e = by_out (goes s' w).out refl
      where
        by_out : (x : Flow) → (goes s' w).out ≡ x → (goes s' w).out ≡ Break a
        by_out (Continue p) f = absurd (let x = sym (reply_is R w b v l till begun till o asked n e (Continue p) f) ∙ answered in cc)
        by_out (Break x) f = f ∙ ap (λ y. Break y) (same_answer x a (sym (reply_is R w b v l till begun till o asked n e (Break x) f) ∙ answered))

    module _ (now : ℕ) (u : till < now) (n : turn_refused s' w ≡ None) (e : R.state (suc till) ≡ turned s' w) where
      by_raise : place_at R till w ≡ place.Raise v → raising_turn R b till ≡ None → (t : Bool) → ltb (clock_at R till) s'.sizes.top ≡ t → Ended now
      by_raise p z true t = absurd (let x = sym (ap (λ (x : Going). x.out) (below till o true t p)) ∙ out_is n e in cc)
      by_raise p z false t = spent (same_out (sym (out_is n e) ∙ ap (λ (x : Going). x.out) (below till o false t p))) (then_on now u ∙ same_then till none ∙ z)
        where
          same_out : {x y : Answer} → ◌≡◌ {A = Flow} (Break x) (Break y) → x ≡ y
          same_out q = cc

          none : Raised R b till → ⊥
          none r = (let x : clock_at R till < s'.sizes.top = subst (λ (z : Sizes). clock_at R till < z.top) (sym (sizes_at R till)) r.step.low in let y = lt-ltb _ _ x in let z = sym t ∙ y in cc)

      by_known : Known till → Ended now
      by_known (waits p z) = by_raise p z (ltb (clock_at R till) s'.sizes.top) refl
      by_known (walks p r y z t) =
          let g = walk_turn s'.sizes.keys s'.sizes.top (memory_of s') (surveyor_of s' w) p in
          shown (spent_or a (subst WalkFlow (out_is n e) g.0)) r y (then_on now u ∙ same_then till (none_walking till o p) ∙ z) (t ∙ sym g.1)

    pub ended : (now : ℕ) → till < now → Ended now
    ended now u = by_step (step R w b v l till begun till o)
      where
        by_step : Step R w b v l till begun till o → Ended now
        by_step (rests n e) = absurd (let x = sym (own_turn w) ∙ ap (is_turn_of_worker w) (sym asked) ∙ n in cc)
        by_step (own q n e) = by_known now u n e known_at
