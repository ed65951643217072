-- Every worker knows what its place says, and every answer is right: by induction over time.
use Rattle.std.proofs.Common.{◌≡◌, ℕ, zero, suc, ◌<◌, ◌≤◌, Bool, true, false, cond, ltb, Some, None, Ok, Option, sym, refl, ap, ap₂, ◌∙◌, subst, ⊎_elim, arith}
use Rattle.std.proofs.lemmas.Bool.{cases_eq, cases_lt, false≢true}
use Rattle.codes.specs.declared.answer.Answer.{Answer}
use Rattle.codes.specs.declared.refusal.Refusal.TheVariants.{NoSuchWorker, WorkerIdle}
use Rattle.layout.specs.declared.sizes.Sizes.{Sizes}
use Rattle.places.specs.declared.call.Begin.{Begin}
use Rattle.places.specs.declared.place.Call.{Call}
use Rattle.places.specs.declared.place.Call.TheVariants as call
use Rattle.places.specs.declared.place.Place.TheVariants as place
use Rattle.places.specs.Calls.{place_first}
use Rattle.machine.specs.declared.request.Request.{Request}
use Rattle.machine.specs.declared.request.Request.TheVariants as request
use Rattle.machine.specs.declared.request.Reply.{Reply}
use Rattle.machine.specs.declared.request.Reply.TheVariants as reply
use Rattle.machine.specs.States.{State}
use Rattle.machine.specs.Turns.{worker_at, hand_at, next_at, answer_at, followed_at, turned}
use Rattle.machine.specs.Requests.{is_idle, call_to_begin, state_begun, turn_refused, answered_or, reply_of}
use Rattle.laws.specs.Fits.{FitPlace}
use Rattle.laws.proofs.Taken.{begin_taken, begun_worker, begun_others}
use Rattle.runs.specs.Runs.{RunInTime}
use Rattle.runs.specs.Views.{place_at}
use Rattle.runs.specs.Seen.{open_at}
use Rattle.runs.specs.Purposes.{InCall, place_made}
use Rattle.runs.specs.Known.{TurnOf, Known}
use Rattle.runs.specs.Reasons.{HasReason, BegunBy, WorkerKnows, WorkerKnows.free, WorkerKnows.busy, AnswerRight, RunKnows, RunsKnow}
use Rattle.runs.proofs.Turns.{worker_after, others_after}
use Rattle.runs.proofs.Steps.{acts, StepCase, StepCase.rests, StepCase.begins, StepCase.turns, sound_at, sizes_at, case_at, here, within, apart_at, won_step}
use Rattle.runs.proofs.Kept.{known_later}
use Rattle.runs.proofs.Own.{own_next}
use Rattle.runs.proofs.After.{After, after_next}
use Rattle.runs.proofs.Opens.{open_start, rests_keep, begin_opens, begin_keeps, runs_keeps, answer_closes, answer_keeps}
use Rattle.runs.proofs.Times.{runs_last as last}

-- a worker whose turn is not refused is in a call
pub turn_busy : (s : State) (w : ℕ) → turn_refused s w ≡ None → ¬ ((worker_at s w).place ≡ place.Idle)
turn_busy s w e i = go (ltb w s.sizes.workers) (is_idle (worker_at s w).place) (ap is_idle i) e
  where
    go : (a b : Bool) → b ≡ true → cond a (cond b (Some WorkerIdle) None) (Some NoSuchWorker) ≡ None → ⊥
    go true true q f = cc
    go false true q f = cc
    go a false q f = cc

begun_later : {R : RunInTime} {k u w b : ℕ} {c : Call} → k ≤ u → BegunBy R k w b c → BegunBy R u w b c
begun_later l h = record { before = omega (arith, h.before); begin = h.begin; asked = h.asked; worker = h.worker; call = h.call }

module _ (R : RunInTime) where
  -- every worker knows what its place says, up to time k
  abbrev Knows : ℕ → Type 0
  Knows k = (j : ℕ) → j < suc k → (w : ℕ) → w < R.sizes.workers → WorkerKnows R j w

  pub fits_at : (k w : ℕ) → w < R.sizes.workers → FitPlace (R.state k) (place_at R k w)
  fits_at k w l = (sound_at R k).places w (subst (λ (z : Sizes). w < z.workers) (sym (sizes_at R k)) l)

  -- a worker that the step leaves alone
  carried : (k v : ℕ) → v < R.sizes.workers → open_at R (suc k) v ≡ open_at R k v → place_at R (suc k) v ≡ place_at R k v → WorkerKnows R k v → WorkerKnows R (suc k) v
  carried k v l o p (free e i) = free (o ∙ e) (p ∙ i)
  carried k v l o p (busy b c e g i n) =
      busy b c (o ∙ e) (begun_later (omega arith) g) (subst (λ y. InCall y c) (sym p) i) (subst (Known R (suc k) b) (sym p) (known_later R k (suc k) (omega arith) ((last R).times k (suc k) (omega arith)) b (place_at R k v) (fits_at k v l) n))

  opened : (w : ℕ) → w < R.sizes.workers → WorkerKnows R zero w
  opened w b = free (open_start R w) (R.clean.idle w (subst (λ (z : Sizes). w < z.workers) (sym R.start) b))

  -- a begin
  first_known : (k : ℕ) (c : Call) → Known R (suc k) k (place_first c) × InCall (place_first c) c
  first_known k (call.Vertex o i) = (tt, refl)
  first_known k (call.Edge o p) = (tt, refl)
  first_known k (call.Survey v) = (tt, refl)

  begin_known : (k : ℕ) (b : Begin) (c : Call) → R.request k ≡ request.Begin b → call_to_begin (R.state k) b ≡ Ok c → reply_of (R.state k) (request.Begin b) ≡ reply.Done → R.state (suc k) ≡ state_begun (R.state k) b.worker (Ok c)
      → ((v : ℕ) → v < R.sizes.workers → WorkerKnows R k v) → (v : ℕ) → v < R.sizes.workers → WorkerKnows R (suc k) v
  begin_known k b c q a f e h v l =
      let taken = begin_taken (R.state k) b c a in
      let z = sound_at R k in
      let first = first_known k c in
      let now_first : place_at R (suc k) b.worker ≡ place_first c = ap (λ s. (worker_at s b.worker).place) e ∙ ap (λ u. u.place) (begun_worker (R.state k) z b.worker taken.within c) in
      ⊎_elim
      (λ (y : v ≡ b.worker). subst (WorkerKnows R (suc k)) (sym y)
      (busy k c (begin_opens R k b q f) (record { before = omega arith; begin = b; asked = q; worker = refl; call = a }) (subst (λ p. InCall p c) (sym now_first) first.1) (subst (Known R (suc k) k) (sym now_first) first.0)))
      (λ (n : ¬ (v ≡ b.worker)). carried k v l (begin_keeps R k b q f v n) (ap (λ s. (worker_at s v).place) e ∙ ap (λ u. u.place) (begun_others (R.state k) z b.worker taken.within c v n)) (h v l))
      (cases_eq v b.worker)

  -- a turn
  module _ (k w : ℕ) (h : Knows k) (q : R.request k ≡ request.Turn w) (n : turn_refused (R.state k) w ≡ None) (e : R.state (suc k) ≡ turned (R.state k) w) where
    l : w < R.sizes.workers
    l = within R k w q n e

    pub after_turn : (b : ℕ) (c : Call) → open_at R k w ≡ Some b → BegunBy R k w b c → InCall (place_at R k w) c → Known R k b (place_at R k w)
        → After R (suc k) b c (place_made (place_at R k w)) (answer_at (R.state k) w) (followed_at (R.state k) w).worker.place
    after_turn b c o g i kn =
        let started : TurnOf R k b = record { after = g.before; worker = w; asked = q; whose = o } in
        after_next R (suc k) b c (place_made (place_at R k w)) (R.state k).sizes.keys (worker_at (R.state k) w) (hand_at (R.state k) w) (next_at (R.state k) w)
        (own_next R k h b started (sizes_at R k) w q o l (here R k w q n e) (sound_at R k) e (apart_at R k w q n e) (won_step R k w q n e)
        (place_at R k w) c refl (fits_at k w l) kn i)

    place_after : place_at R (suc k) w ≡ (followed_at (R.state k) w).worker.place
    place_after = ap (λ s. (worker_at s w).place) e ∙ ap (λ u. u.place) (worker_after (R.state k) w (sound_at R k) (here R k w q n e))

    own_known : reply_of (R.state k) (request.Turn w) ≡ answered_or (Ok (answer_at (R.state k) w)) → WorkerKnows R k w → WorkerKnows R (suc k) w
    own_known f (free o i) = absurd (turn_busy (R.state k) w n i)
    own_known f (busy b c o g i kn) = go (answer_at (R.state k) w) f (after_turn b c o g i kn)
      where
        go : (x : Option Answer) → reply_of (R.state k) (request.Turn w) ≡ answered_or (Ok x) → After R (suc k) b c (place_made (place_at R k w)) x (followed_at (R.state k) w).worker.place → WorkerKnows R (suc k) w
        go None f y = busy b c (runs_keeps R k w q w f ∙ o) (begun_later (omega arith) g) (subst (λ p. InCall p c) (sym place_after) y.1) (subst (Known R (suc k) b) (sym place_after) y.0)
        go (Some a) f y = free (answer_closes R k w q a f) (place_after ∙ y.0)

    other_open : (v : ℕ) → ¬ (v ≡ w) → (x : Option Answer) → reply_of (R.state k) (request.Turn w) ≡ answered_or (Ok x) → open_at R (suc k) v ≡ open_at R k v
    other_open v a None f = runs_keeps R k w q v f
    other_open v a (Some x) f = answer_keeps R k w q x v a f

    turn_known : reply_of (R.state k) (request.Turn w) ≡ answered_or (Ok (answer_at (R.state k) w)) → (v : ℕ) → v < R.sizes.workers → WorkerKnows R (suc k) v
    turn_known f v b =
        ⊎_elim (λ (y : v ≡ w). subst (WorkerKnows R (suc k)) (sym y) (own_known f (h k (omega arith) w l)))
        (λ (a : ¬ (v ≡ w)). carried k v b (other_open v a _ f) (ap (λ s. (worker_at s v).place) e ∙ ap (λ u. u.place) (others_after (R.state k) w (sound_at R k) (here R k w q n e) v a)) (h k (omega arith) v b))
        (cases_eq v w)

  next_known : (k : ℕ) → Knows k → (w : ℕ) → w < R.sizes.workers → WorkerKnows R (suc k) w
  next_known k h = go (case_at R k)
    where
      reply_at : (q : Request) → R.request k ≡ q → (y : Reply) → reply_of (R.state k) (R.request k) ≡ y → reply_of (R.state k) q ≡ y
      reply_at q e y f = subst (λ x. reply_of (R.state k) x ≡ y) e f

      go : StepCase (R.state k) (R.request k) (R.state (suc k)) → (w : ℕ) → w < R.sizes.workers → WorkerKnows R (suc k) w
      go (rests f e) = λ w b. carried k w b (rests_keep R k w f) (e.workers w).place (h k (omega arith) w b)
      go (begins b c q a f e) = begin_known k b c q a (reply_at (request.Begin b) q reply.Done f) e (h k (omega arith))
      go (turns w q n f e) = turn_known k w h q n e (reply_at (request.Turn w) q _ f)

  all_known : (k : ℕ) → Knows k
  all_known zero j l w b = let z : zero ≡ j = omega arith in subst (λ x. WorkerKnows R x w) z (opened w b)
  all_known (suc k) j l w b =
      ⊎_elim (λ (a : j < suc k). all_known k j a w b) (λ (a : suc k ≤ j). let z : suc k ≡ j = omega arith in subst (λ x. WorkerKnows R x w) z (next_known k (all_known k) w b)) (cases_lt j (suc k))

  answer_right : (k w : ℕ) (a : Answer) → R.request k ≡ request.Turn w → reply_of (R.state k) (request.Turn w) ≡ reply.Answered a → AnswerRight R k w a
  answer_right k w a q f = go (case_at R k)
    where
      same_reply : reply_of (R.state k) (R.request k) ≡ reply.Answered a
      same_reply = ap (reply_of (R.state k)) q ∙ f

      right : (n : turn_refused (R.state k) w ≡ None) (e : R.state (suc k) ≡ turned (R.state k) w) → answered_or (Ok (answer_at (R.state k) w)) ≡ reply.Answered a → WorkerKnows R k w → AnswerRight R k w a
      right n e y (free o i) = absurd (turn_busy (R.state k) w n i)
      right n e y (busy b c o g i kn) = record { began = b; call = c; whose = o; begun = g; right = last_of (answer_at (R.state k) w) y (after_turn k w (all_known k) q n e b c o g i kn) }
        where
          last_of : (x : Option Answer) → answered_or (Ok x) ≡ reply.Answered a → After R (suc k) b c (place_made (place_at R k w)) x (followed_at (R.state k) w).worker.place → HasReason R (suc k) b c (place_made (place_at R k w)) a
          last_of None z t = absurd cc
          last_of (Some x) z t = let s : x ≡ a = cc in subst (HasReason R (suc k) b c (place_made (place_at R k w))) s t.1

      go : StepCase (R.state k) (R.request k) (R.state (suc k)) → AnswerRight R k w a
      go (rests f e) = absurd (false≢true (sym f ∙ ap₂ acts q same_reply))
      go (begins b c p x y e) = let z : request.Begin b ≡ request.Turn w = sym p ∙ q in absurd cc
      go (turns v p n y e) =
          let z : request.Turn v ≡ request.Turn w = sym p ∙ q in
          let s : v ≡ w = cc in
          right (subst (λ u. turn_refused (R.state k) u ≡ None) s n) (subst (λ u. R.state (suc k) ≡ turned (R.state k) u) s e) (ap (λ u. answered_or (Ok (answer_at (R.state k) u))) (sym s) ∙ sym y ∙ same_reply)
          (all_known k k (omega arith) w (subst (λ u. u < R.sizes.workers) s (within R k v p n e)))

  pub run_knows : RunKnows R
  run_knows = record { workers = λ k w l. all_known k k (omega arith) w l; answers = answer_right }

pub runs_know : RunsKnow
runs_know R = run_knows R
