-- Several turns of one worker, one after another.
use Rattle.std.proofs.Common.{◌≡◌, ℕ, zero, suc, ◌+◌, ◌<◌, ◌≤◌, Bool, true, false, cond, ltb, Some, None, Option, sym, refl, ap, ◌∙◌, subst, inl, inr, add-one, arith, below_more}
use Rattle.std.proofs.lemmas.Bool.{cases_lt}
use Rattle.std.proofs.lemmas.Option.{none-some}
use Rattle.codes.specs.declared.answer.Answer.{Answer}
use Rattle.codes.specs.declared.refusal.Refusal.TheVariants.{NoSuchWorker, WorkerIdle}
use Rattle.machine.specs.States.{State}
use Rattle.machine.specs.Turns.{worker_at, answer_at, turned}
use Rattle.machine.specs.Requests.{is_idle, turn_refused}
use Rattle.machine.specs.History.{Continues}
use Rattle.machine.specs.Several.{after, turn_events, TurnsMade, SeveralOutcome, stopping, turns_made, TurnsMadeStand, TurnsMadeOnce}
use Rattle.machine.proofs.Busy.{turned_busy}

-- a turn that is not refused is of a worker that there is, in its call
pub refused_none : (a b : Bool) → cond a (cond b (Some WorkerIdle) None) (Some NoSuchWorker) ≡ None → (a ≡ true) × (b ≡ false)
refused_none a b e = grind arith

-- after a turn that did not answer, the next is not refused
turn_goes_on : (s : State) (w : ℕ) → turn_refused s w ≡ None → answer_at s w ≡ None → turn_refused (turned s w) w ≡ None
turn_goes_on s w e a =
    let p = refused_none (ltb w s.sizes.workers) (is_idle (worker_at s w).place) e in
    rw (p.0, turned_busy s w p.1 a) refl

after_goes_on : (s : State) (w u : ℕ) → turn_refused s w ≡ None → ((k : ℕ) → k + 1 < u → answer_at (after s w k) w ≡ None) → (k : ℕ) → k < u → turn_refused (after s w k) w ≡ None
after_goes_on s w u e q zero l = e
after_goes_on s w u e q (suc k) l = turn_goes_on (after s w k) w (after_goes_on s w u e q k (omega arith)) (q k (omega arith))

pub continues : (s : State) (w u : ℕ) → ((k : ℕ) → k < u → turn_refused (after s w k) w ≡ None) → Continues s (after s w u) (turn_events s w u)
continues s w zero f start h t = t
continues s w (suc u) f start h t =
    let n = f u (omega arith) in
    (after s w u, continues s w u (λ k l. f k (omega arith)) start h t, rw n refl, rw n refl)

-- the history grows by the turns that were made
pub made_continues : (s s' : State) (w u : ℕ) → turn_refused s w ≡ None → s' ≡ after s w u → ((k : ℕ) → k + 1 < u → answer_at (after s w k) w ≡ None) → Continues s s' (turn_events s w u)
made_continues s s' w u e f q = rw f (continues s w u (after_goes_on s w u e q))

after_more : (s t t' : State) (w i : ℕ) → t ≡ after s w i → t' ≡ turned t w → t' ≡ after s w (i + 1)
after_more s t t' w i e f = rw (add-one i) cc

answer_at_lem : (s t : State) (w i k : ℕ) (a : Option Answer) → t ≡ after s w i → k ≡ i → a ≡ answer_at t w → answer_at (after s w k) w ≡ a
answer_at_lem s t w i k a e f g = cc

-- turn number i answered
pub made_answer : (s t t' : State) (w n i : ℕ) (a : Answer) → i < n → t ≡ after s w i → ((k : ℕ) → k < i → answer_at (after s w k) w ≡ None) → Some a ≡ answer_at t w → t' ≡ turned t w → TurnsMade s w n (Some a) (i + 1) t'
made_answer s t t' w n i a l e q g f = record {
  within = omega arith;
  state = after_more s t t' w i e f;
  quiet = λ k h. q k (omega arith);
  last = λ k h. answer_at_lem s t w i k (Some a) e (omega arith) g;
  all = λ x. absurd (none-some a (sym x));
  some = λ b x. omega arith;
}

-- turn number i did not answer
pub made_more : (s t t' : State) (w i : ℕ) → t ≡ after s w i → ((k : ℕ) → k < i → answer_at (after s w k) w ≡ None) → None ≡ answer_at t w → t' ≡ turned t w → (t' ≡ after s w (i + 1)) × ((k : ℕ) → k < i + 1 → answer_at (after s w k) w ≡ None)
made_more s t t' w i e q g f = (after_more s t t' w i e f, below_more (λ k. answer_at (after s w k) w ≡ None) i q (answer_at_lem s t w i i None e refl g))

-- no turn answered
pub made_all : (s t : State) (w n i : ℕ) → i ≡ n → t ≡ after s w i → ((k : ℕ) → k < i → answer_at (after s w k) w ≡ None) → TurnsMade s w n None n t
made_all s t w n i l e q = record {
  within = omega arith;
  state = e ∙ ap (after s w) l;
  quiet = λ k h. q k (omega arith);
  last = λ k h. q k (omega arith);
  all = λ x. refl;
  some = λ a x. absurd (none-some a x);
}

abbrev MadeAs : State → ℕ → ℕ → SeveralOutcome → Type 0
MadeAs s w n o = TurnsMade s w n o.several.answer o.several.used o.state

abbrev Quiet : State → ℕ → ℕ → Type 0
Quiet s w i = (k : ℕ) → k < i → answer_at (after s w k) w ≡ None

made_stop : (s t : State) (w n i : ℕ) (a : Option Answer) (rest : SeveralOutcome) → i < n → t ≡ after s w i → Quiet s w i → a ≡ answer_at t w → (turned t w ≡ after s w (i + 1) → Quiet s w (i + 1) → MadeAs s w n rest) → MadeAs s w n (stopping a (turned t w) (i + 1) rest)
made_stop s t w n i None rest l e q g more = let p = made_more s t (turned t w) w i e q g refl in more p.0 p.1
made_stop s t w n i (Some a) rest l e q g more = made_answer s t (turned t w) w n i a l e q g refl

-- what `turns_made` computes are the turns that were made
made_from : (s t : State) (w n i m : ℕ) → i + m ≡ n → t ≡ after s w i → Quiet s w i → MadeAs s w n (turns_made t w i m)
made_from s t w n i zero l e q = let f : i ≡ n = omega arith in subst (λ u. TurnsMade s w n None u t) (sym f) (made_all s t w n i f e q)
made_from s t w n i (suc m) l e q =
    made_stop s t w n i (answer_at t w) (turns_made (turned t w) w (i + 1) m) (omega arith) e q refl
    (λ f p. made_from s (turned t w) w n (i + 1) m (omega arith) f p)

pub turns_made_stand : TurnsMadeStand
turns_made_stand s w n = made_from s s w n 0 n (omega arith) refl (λ k h. absurd (omega arith))

-- of two ways to make the turns neither uses fewer: it would end at an answer, where the other goes on
not_fewer : (s : State) (w n : ℕ) (a b : Option Answer) (i j : ℕ) (t u : State) → TurnsMade s w n a i t → TurnsMade s w n b j u → j ≤ i
not_fewer s w n None b i j t u p q = omega (arith, p.all refl, q.within)
not_fewer s w n (Some x) b zero j t u p q = absurd (omega (arith, p.some x refl))
not_fewer s w n (Some x) b (suc k) j t u p q =
    elim (cases_lt (suc k) j) [
      | inl l ↦ absurd (none-some x (sym (q.quiet k (omega arith)) ∙ p.last k (omega arith)))
      | inr l ↦ l
    ]

-- so they have the same answer: none where no turn was made, and else the last turn's
same_answer : (s : State) (w n : ℕ) (a b : Option Answer) (i : ℕ) (t u : State) → TurnsMade s w n a i t → TurnsMade s w n b i u → a ≡ b
same_answer s w n None None zero t u p q = refl
same_answer s w n None (Some y) zero t u p q = absurd (omega (arith, q.some y refl))
same_answer s w n (Some x) b zero t u p q = absurd (omega (arith, p.some x refl))
same_answer s w n a b (suc k) t u p q = sym (p.last k (omega arith)) ∙ q.last k (omega arith)

pub turns_made_once : TurnsMadeOnce
turns_made_once s w n a b i j t u p q =
    let e : i ≡ j = omega (arith, not_fewer s w n a b i j t u p q, not_fewer s w n b a j i u t q p) in
    let r : TurnsMade s w n b i u = subst (λ k. TurnsMade s w n b k u) (sym e) q in
    (same_answer s w n a b i t u p r, e, p.state ∙ sym r.state)
