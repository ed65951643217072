-- The turns that a call has had are within the budget of its worker's place and the rounds that it lost, by induction over time.
use Rattle.std.proofs.Common.{◌≡◌, ℕ, zero, suc, ◌+◌, ◌<◌, ◌≤◌, Bool, true, false, Some, None, Ok, Option, sym, refl, ap, ◌∙◌, subst, ⊎_elim, arith}
use Rattle.std.proofs.lemmas.Bool.{cases_eq}
use Rattle.codes.specs.declared.answer.Answer.{Answer}
use Rattle.layout.specs.declared.sizes.Sizes.{Sizes}
use Rattle.layout.specs.declared.names.Cell.TheVariants as cell
use Rattle.places.specs.declared.call.Begin.{Begin}
use Rattle.places.specs.declared.place.Op.TheVariants.{Add, Remove, Contains}
use Rattle.places.specs.declared.place.Call.{Call}
use Rattle.places.specs.declared.place.Call.TheVariants as call
use Rattle.places.specs.declared.place.Stage.TheVariants as stage
use Rattle.places.specs.declared.place.Purpose.{Purpose}
use Rattle.places.specs.declared.place.Place.TheVariants as place
use Rattle.places.specs.Marks.{mark_of, is_ended}
use Rattle.places.specs.Touches.{settled_field}
use Rattle.places.specs.Calls.{place_first}
use Rattle.machine.specs.declared.request.Request.{Request}
use Rattle.machine.specs.declared.request.Request.TheVariants as request
use Rattle.machine.specs.declared.request.Reply.{Reply}
use Rattle.machine.specs.declared.request.Reply.TheVariants as reply
use Rattle.machine.specs.States.{State}
use Rattle.machine.specs.Turns.{worker_at, hand_at, next_at, answer_at, followed_at, turned}
use Rattle.machine.specs.Requests.{call_to_begin, state_begun, turn_refused, answered_or, reply_of}
use Rattle.laws.specs.Sound.{Sound}
use Rattle.laws.proofs.Taken.{begin_taken, begun_worker, begun_others}
use Rattle.laws.proofs.Rests.{numbers_same, Rests}
use Rattle.runs.specs.Runs.{RunInTime}
use Rattle.runs.specs.Views.{head_at, place_at}
use Rattle.runs.specs.Seen.{open_at}
use Rattle.runs.specs.Steps.{HeadSteps, HeadSteps.stays, HeadSteps.moves}
use Rattle.laws.specs.Changes.{number_in}
use Rattle.runs.specs.Known.{Known}
use Rattle.runs.proofs.Kept.{settled_is}
use Rattle.runs.specs.Purposes.{InCall}
use Rattle.runs.specs.Reasons.{BegunBy}
use Rattle.runs.proofs.Turns.{worker_after, others_after}
use Rattle.runs.proofs.Steps.{StepCase, StepCase.rests, StepCase.begins, StepCase.turns, sound_at, sizes_at, case_at, here}
use Rattle.runs.proofs.Opens.{rests_keep, begin_opens, begin_keeps, runs_keeps, answer_closes, answer_keeps}
use Rattle.bounds.specs.Bounds.{is_turn_of_worker, is_turn_of_other, turn_of_call, turns_taken, latest_turn, WithinBound, TurnsStayBounded}
use Rattle.bounds.specs.Most.{WithinMost, TurnsAtMost}
use Rattle.bounds.proofs.Budgets.{place_turns, stale, lost_same, most, Plain, place_within, Watched, watched_same, place_reached}
use Rattle.bounds.proofs.OwnTurn.{pair_head, watched, PairFits, place_fits, own_reaches, link_watched}
use Rattle.bounds.proofs.Counts.{open_then, turn_counts, no_turn_counts, none_taken, latest_next, taken_same, not_own, others_turn}
use Rattle.bounds.proofs.Open.{OpenCall, some_same, none_some, same_begun, open_call, worker_is, rests_other}
use Rattle.bounds.proofs.Rounds.{rounds, rounds_more, others_round}
use Rattle.runs.proofs.Steps.{runs_step as step}
use Rattle.bounds.proofs.SurveyTurns.{surveys_stay_bounded as surveys}

-- a call begins at a place with no turn spent and no head in hand
first_turns : (c : Call) (x : ℕ) → Plain c → stale x (place_first c) ≤ place_turns (place_first c)
first_turns (call.Vertex o i) x n = omega (arith, lost_same x)
first_turns (call.Edge o p) x n = omega (arith, lost_same x)
first_turns (call.Survey v) x n = absurd n

-- a begin, and what rests, moves no head
rests_watched : (s t : State) (c : Call) → Rests s t → watched t c ≡ watched s c
rests_watched s t (call.Edge Add p) r = numbers_same s t r.rows (cell.Head (pair_head p))
rests_watched s t c r = refl

begun_watched : (s : State) (v : ℕ) (d c : Call) → watched (state_begun s v (Ok d)) c ≡ watched s c
begun_watched s v d (call.Edge Add p) = refl
begun_watched s v d c = refl

module _ (R : RunInTime) where
  good : (k : ℕ) → Sound (R.state k)
  good k = sound_at R k

  module _ (w b : ℕ) (c : Call) (plain : Plain c) (l : w < R.sizes.workers) (since : ℕ) (begun : BegunBy R since w b c) where
    opened : (k : ℕ) → open_at R k w ≡ Some b → OpenCall R k w b c
    opened k o = open_call R k since w b c l o begun

    abbrev x : ℕ → ℕ
    x k = watched (R.state k) c

    abbrev pub Within : ℕ → Type 0
    Within k = turns_taken R w b k + stale (x k) (place_at R k w) ≤ rounds R w b c k + place_turns (place_at R k w)

    -- a step that is no turn of the worker, and leaves its call open
    alone : (k : ℕ) → place_at R (suc k) w ≡ place_at R k w → is_turn_of_worker w (R.request k) ≡ false →
        rounds R w b c k + stale (x (suc k)) (place_at R k w) ≤ rounds R w b c (suc k) + stale (x k) (place_at R k w) → Within k → Within (suc k)
    alone k p q r h = rw p (omega (arith, no_turn_counts R w b k q, r, h))

    -- no head moves
    still : (k : ℕ) → x (suc k) ≡ x k → rounds R w b c k + stale (x (suc k)) (place_at R k w) ≤ rounds R w b c (suc k) + stale (x k) (place_at R k w)
    still k e = rw e (omega (arith, rounds_more R w b c k))

    -- the call begins
    first_within : (k : ℕ) → b ≡ k → place_at R (suc k) w ≡ place_first c → is_turn_of_worker w (R.request k) ≡ false → Within (suc k)
    first_within k e p q =
        let none = none_taken R w b k (λ t a o. omega (arith, e, (opened t o).before)) in
        rw p (omega (arith, no_turn_counts R w b k q, none, first_turns c (x (suc k)) plain))

    module _ (k : ℕ) (h : open_at R k w ≡ Some b → Within k) where
      -- a turn of the worker
      module _ (q : R.request k ≡ request.Turn w) (n : turn_refused (R.state k) w ≡ None) (e : R.state (suc k) ≡ turned (R.state k) w) (o : open_at R k w ≡ Some b) where
        abbrev s : State
        s = R.state k

        in_call : InCall (place_at R k w) c
        in_call = (opened k o).place

        inside : w < s.sizes.workers
        inside = here R k w q n e

        -- a field that is read again is settled
        settled : (p : Purpose) → place_at R k w ≡ place.Settle stage.Reread p → is_ended (mark_of (number_in s (settled_field p))) ≡ true
        settled p a =
            let known : Known R k b (place.Settle stage.Reread p) = subst (Known R k b) a (opened k o).known in
            ap (λ y. is_ended (mark_of (number_in s y))) (settled_is p) ∙ ap is_ended known.0.is

        place_after : place_at R (suc k) w ≡ (followed_at s w).worker.place
        place_after = ap (λ s. (worker_at s w).place) e ∙ ap (λ u. u.place) (worker_after s w (good k) inside)

        -- the head that the call depends on stays, but for a link of its own
        watches : (d : Call) → PairFits s d → Watched (watched s d) (watched (R.state (suc k)) d) (next_at s w)
        watches (call.Edge Add p) f = go ((step R k).heads (pair_head p) (subst (λ (z : Sizes). (p.from < z.keys) × (p.to < z.keys)) (sizes_at R k) f))
          where
            go : HeadSteps R k (pair_head p) (head_at R (suc k) (pair_head p)) → Watched (watched s (call.Edge Add p)) (watched (R.state (suc k)) (call.Edge Add p)) (next_at s w)
            go (stays y) = watched_same _ _ (next_at s w) y
            go (moves d a st) =
                let y : request.Turn st.worker ≡ request.Turn w = sym st.turn.asked ∙ q in
                let same : st.worker ≡ w = cc in
                let at_link = ap (place_at R k) (sym same) ∙ st.turn.place in
                link_watched s w (good k) inside (call.Edge Add p) tt settled d (watched (R.state (suc k)) (call.Edge Add p)) at_link
        watches d f = watched_same _ _ (next_at s w) refl

        own : answer_at s w ≡ None → Within (suc k)
        own a =
            let z = good k in
            let r = own_reaches s w z inside c plain settled (place_at R k w) refl in_call in
            let y = watches c (place_fits s (place_at R k w) c in_call (z.places w inside)) in
            let m = place_reached s.sizes.keys (worker_at s w) (hand_at s w) (place_turns (place_at R k w) + 1) (stale (x k) (place_at R k w)) (x k) (x (suc k)) (next_at s w) r y a in
            rw place_after (omega (arith, turn_counts R w b k, m, h o, rounds_more R w b c k))

      own_turn : R.request k ≡ request.Turn w → turn_refused (R.state k) w ≡ None → R.state (suc k) ≡ turned (R.state k) w →
          reply_of (R.state k) (request.Turn w) ≡ answered_or (Ok (answer_at (R.state k) w)) → open_at R (suc k) w ≡ Some b → Within (suc k)
      own_turn q n e f o = go (answer_at (R.state k) w) refl f
        where
          go : (a : Option Answer) → answer_at (R.state k) w ≡ a → reply_of (R.state k) (request.Turn w) ≡ answered_or (Ok a) → Within (suc k)
          go (Some a) y g = absurd (none_some (sym (answer_closes R k w q a g) ∙ o))
          go None y g = own q n e (sym (runs_keeps R k w q w g) ∙ o) y

      -- a turn of another worker
      module _ (v : ℕ) (q : R.request k ≡ request.Turn v) (apart : ¬ (v ≡ w)) (n : turn_refused (R.state k) v ≡ None) (e : R.state (suc k) ≡ turned (R.state k) v) where
        other_open : (a : Option Answer) → reply_of (R.state k) (request.Turn v) ≡ answered_or (Ok a) → open_at R (suc k) w ≡ open_at R k w
        other_open None f = runs_keeps R k v q w f
        other_open (Some a) f = answer_keeps R k v q a w (λ y. apart (sym y)) f

        others : open_at R k w ≡ Some b → Within (suc k)
        others o =
            alone k (ap (λ s. (worker_at s w).place) e ∙ ap (λ u. u.place) (others_after (R.state k) v (good k) (here R k v q n e) w (λ y. apart (sym y))))
            (ap (is_turn_of_worker w) q ∙ not_own v w apart)
            (others_round R w b c k (place_at R k w) o (ap (is_turn_of_other w) q ∙ others_turn v w apart)) (h o)

      -- a begin
      module _ (a : Begin) (d : Call) (q : R.request k ≡ request.Begin a) (t : call_to_begin (R.state k) a ≡ Ok d)
          (f : reply_of (R.state k) (request.Begin a) ≡ reply.Done) (e : R.state (suc k) ≡ state_begun (R.state k) a.worker (Ok d)) where
        there : a.worker < (R.state k).sizes.workers
        there = (begin_taken (R.state k) a d t).within

        begins_own : w ≡ a.worker → open_at R (suc k) w ≡ Some b → Within (suc k)
        begins_own y o =
            let new : b ≡ k = some_same (sym o ∙ ap (open_at R (suc k)) y ∙ begin_opens R k a q f) in
            let g : BegunBy R (suc k) w k d = record { before = omega arith; begin = a; asked = q; worker = sym y; call = t } in
            let same : d ≡ c = same_begun R (subst (λ j. BegunBy R (suc k) w j d) (sym new) g) begun in
            first_within k new
            (ap (place_at R (suc k)) y ∙ ap (λ s. (worker_at s a.worker).place) e ∙ ap (λ u. u.place) (begun_worker (R.state k) (good k) a.worker there d) ∙ ap place_first same)
            (ap (is_turn_of_worker w) q)

        begins_other : ¬ (w ≡ a.worker) → open_at R k w ≡ Some b → Within (suc k)
        begins_other n o =
            alone k (ap (λ s. (worker_at s w).place) e ∙ ap (λ u. u.place) (begun_others (R.state k) (good k) a.worker there d w n))
            (ap (is_turn_of_worker w) q) (still k (ap (λ s. watched s c) e ∙ begun_watched (R.state k) a.worker d c)) (h o)

      reply_at : (q : Request) → R.request k ≡ q → (y : Reply) → reply_of (R.state k) (R.request k) ≡ y → reply_of (R.state k) q ≡ y
      reply_at q e y f = subst (λ x. reply_of (R.state k) x ≡ y) e f

      next_within : StepCase (R.state k) (R.request k) (R.state (suc k)) → open_at R (suc k) w ≡ Some b → Within (suc k)
      next_within (rests f e) o =
          let before = sym (rests_keep R k w f) ∙ o in
          alone k (e.workers w).place (rests_other R k w b c l (opened k before) f) (still k (rests_watched (R.state k) (R.state (suc k)) c e)) (h before)
      next_within (begins a d q t f e) o =
          let r = reply_at (request.Begin a) q reply.Done f in
          ⊎_elim (λ (y : w ≡ a.worker). begins_own a d q t r e y o)
          (λ (n : ¬ (w ≡ a.worker)). begins_other a d q t r e n (sym (begin_keeps R k a q r w n) ∙ o)) (cases_eq w a.worker)
      next_within (turns v q n f e) o =
          let r = reply_at (request.Turn v) q _ f in
          ⊎_elim
          (λ (y : v ≡ w).
          own_turn (q ∙ ap request.Turn y) (subst (λ u. turn_refused (R.state k) u ≡ None) y n) (subst (λ u. R.state (suc k) ≡ turned (R.state k) u) y e)
          (subst (λ u. reply_of (R.state k) (request.Turn u) ≡ answered_or (Ok (answer_at (R.state k) u))) y r) o)
          (λ (a : ¬ (v ≡ w)). others v q a n e (sym (other_open v q a n e (answer_at (R.state k) v) r) ∙ o))
          (cases_eq v w)

    within_at : (k : ℕ) → open_at R k w ≡ Some b → Within k
    within_at zero o = absurd (omega (arith, (opened zero o).before))
    within_at (suc k) o = next_within k (within_at k) (case_at R k) o

    -- the turns up to the latest one
    abbrev pub Taken : ℕ → Type 0
    Taken k = turns_taken R w b k ≤ rounds R w b c (latest_turn R w b k) + most c

    taken_next : (k : ℕ) (v : Bool) → turn_of_call R w b k ≡ v → Taken k → Taken (suc k)
    taken_next k true e h =
        let o = open_then R w b k e in
        rw (latest_next R w b k true e) (omega (arith, turn_counts R w b k, within_at k o, place_within (place_at R k w) c (opened k o).place plain))
    taken_next k false e h = rw (latest_next R w b k false e, taken_same R w b k e) h

    pub taken_within : (k : ℕ) → Taken k
    taken_within zero = omega (arith, none_taken R w b zero (λ t a o. omega arith))
    taken_within (suc k) = taken_next k (turn_of_call R w b k) refl (taken_within k)

  within_most : (now w b : ℕ) (c : Call) → BegunBy R now w b c → WithinMost R w b now c
  within_most now w b c g = go c g (λ p. taken_within w b c p (worker_is R now w b c g) now g now)
    where
      go : (c : Call) → BegunBy R now w b c → (Plain c → turns_taken R w b now ≤ rounds R w b c (latest_turn R w b now) + most c) → WithinMost R w b now c
      go (call.Vertex Add i) g h = omega (arith, h tt)
      go (call.Vertex Remove i) g h = omega (arith, h tt)
      go (call.Vertex Contains i) g h = omega (arith, h tt)
      go (call.Edge Add p) g h = omega (arith, h tt)
      go (call.Edge Remove p) g h = omega (arith, h tt)
      go (call.Edge Contains p) g h = omega (arith, h tt)
      go (call.Survey v) g h = tt

pub turns_at_most : TurnsAtMost
turns_at_most R now w b c g = within_most R now w b c g

-- what is promised is more
pub turns_stay_bounded : TurnsStayBounded
turns_stay_bounded R now w b c g = go c g (turns_at_most R now w b c g)
  where
    go : (c : Call) → BegunBy R now w b c → WithinMost R w b now c → WithinBound R w b now c
    go (call.Vertex Add i) g m = omega (arith, m)
    go (call.Vertex Remove i) g m = omega (arith, m)
    go (call.Vertex Contains i) g m = omega (arith, m)
    go (call.Edge Add p) g m = omega (arith, m)
    go (call.Edge Remove p) g m = omega (arith, m)
    go (call.Edge Contains p) g m = omega (arith, m)
    go (call.Survey v) g m = surveys R now w b v g
