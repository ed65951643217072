-- Every history is the history of a run, and the run's history leads to its state.
use Rattle.std.proofs.Common.{◌≡◌, ℕ, zero, suc, ◌<◌, eqb, cond, List, [], ◌∷◌, length, sym, refl, ◌∙◌, ap₂, arith}
use Rattle.std.proofs.lemmas.Bool.{eq-eqb, ne_eqb}
use Rattle.machine.specs.declared.request.Request.{Request}
use Rattle.machine.specs.declared.request.Request.TheVariants as request
use Rattle.machine.specs.States.{State}
use Rattle.machine.specs.Opening.{opened_state}
use Rattle.machine.specs.Requests.{reply_of, stepped}
use Rattle.machine.specs.History.{Event, Traces}
use Rattle.runs.specs.Runs.{RunInTime, history_at, HistoriesAreRuns, OpeningsAreRuns}
use Rattle.laws.specs.Clean.{Clean}
use Rattle.laws.proofs.Clean.{openings_clean as clean}

-- the run's history leads from its start to its state
pub traced : (R : RunInTime) (k : ℕ) → Traces (R.state 0) (history_at R k) (R.state k)
unfolding history_at
traced R zero = refl
traced R (suc k) = (R.state k, traced R k, refl, R.next k)

module _ (start : State) where
  unfoldable states : (ℕ → Request) → ℕ → State
  states q zero = start
  states q (suc k) = stepped (states q k) (q k)

  -- request k of a history, counted from its end
  unfoldable request_at : List Event → ℕ → Request
  request_at [] k = request.Turn 0
  request_at (e ∷ h) k = cond (eqb k (length h)) e.request (request_at h k)

  states_agree : (q p : ℕ → Request) (n : ℕ) → ((k : ℕ) → k < n → q k ≡ p k) → states q n ≡ states p n
  unfolding states
  states_agree q p zero a = refl
  states_agree q p (suc n) a = ap₂ stepped (states_agree q p n (λ k l. a k (omega arith))) (a n (omega arith))

  newest : (e : Event) (h : List Event) → request_at (e ∷ h) (length h) ≡ e.request
  unfolding request_at
  newest e h = rw (eq-eqb (length h) (length h) refl) refl

  older_requests : (e : Event) (h : List Event) (k : ℕ) → k < length h → request_at (e ∷ h) k ≡ request_at h k
  unfolding request_at
  older_requests e h k l = rw (ne_eqb k (length h) (λ z. omega arith)) refl

  reaches : (h : List Event) (s : State) → Traces start h s → states (request_at h) (length h) ≡ s
  unfolding states
  reaches [] s t = t
  reaches (e ∷ h) s t =
      let before : states (request_at (e ∷ h)) (length h) ≡ t.0 = states_agree _ _ (length h) (older_requests e h) ∙ reaches h t.0 t.1 in
      ap₂ stepped before (newest e h) ∙ sym t.3

  run_by : Clean start → (ℕ → Request) → RunInTime
  unfolding states
  run_by c q = record { sizes = start.sizes; request = q; state = states q; clean = c; start = refl; next = λ k. refl }

  histories_agree : (c : Clean start) (q p : ℕ → Request) (n : ℕ) → ((k : ℕ) → k < n → q k ≡ p k) → history_at (run_by c q) n ≡ history_at (run_by c p) n
  unfolding history_at run_by states
  histories_agree c q p zero a = refl
  histories_agree c q p (suc n) a =
      ap₂ (λ (x : Event) (h : List Event). x ∷ h)
      (ap₂ (λ s r. record { request = r; reply = reply_of s r }) (states_agree q p n (λ k b. a k (omega arith))) (a n (omega arith)))
      (histories_agree c q p n (λ k b. a k (omega arith)))

  has_history : (c : Clean start) (h : List Event) (s : State) → Traces start h s → history_at (run_by c (request_at h)) (length h) ≡ h
  unfolding history_at run_by states
  has_history c [] s t = refl
  has_history c (x ∷ h) s t =
      let before : states (request_at (x ∷ h)) (length h) ≡ t.0 = states_agree _ _ (length h) (older_requests x h) ∙ reaches h t.0 t.1 in
      let event : record { request = request_at (x ∷ h) (length h); reply = reply_of (states (request_at (x ∷ h)) (length h)) (request_at (x ∷ h) (length h)) } ≡ x = rw (before, newest x h, sym t.2) refl in
      ap₂ (λ (y : Event) (g : List Event). y ∷ g) event (histories_agree c _ _ (length h) (older_requests x h) ∙ has_history c h t.0 t.1)

pub histories_are_runs : HistoriesAreRuns
unfolding run_by states
histories_are_runs start c h s t = record {
  run = run_by start c (request_at start h);
  sizes = refl;
  starts = refl;
  history = has_history start c h s t;
  state = reaches start h s t;
}

pub openings_are_runs : OpeningsAreRuns
openings_are_runs z cs l = histories_are_runs (opened_state cs z) (clean z cs l)
