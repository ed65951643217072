-- Up to n turns of one worker.
use Rattle.std.specs.Prelude.{◌≡◌, ℕ, zero, suc, ◌+◌, ◌<◌, ◌≤◌, List, [], ◌∷◌, Some, None, Ok, Err, Option, Result}
use Rattle.codes.specs.declared.refusal.Refusal.{Refusal}
use Rattle.codes.specs.declared.answer.Answer.{Answer}
use Rattle.machine.specs.declared.request.Request.TheVariants.{Turn}
use Rattle.machine.specs.declared.request.Reply.TheVariants.{Refused}
use Rattle.machine.specs.declared.several.Several.{Several}
use Rattle.machine.specs.States.{State}
use Rattle.machine.specs.Turns.{answer_at, turned}
use Rattle.machine.specs.Requests.{turn_refused, answered_or}
use Rattle.machine.specs.History.{Event, Extends, Continues}

-- the state after k turns of worker w
abbrev pub after : State → ℕ → ℕ → State
after s w zero = s
after s w (suc k) = turned (after s w k) w

-- the events of k turns, newest first
abbrev pub turn_events : State → ℕ → ℕ → List Event
turn_events s w zero = []
turn_events s w (suc k) = record { request = Turn w; reply = answered_or (Ok (answer_at (after s w k) w)) } ∷ turn_events s w k

-- Exactly `used` turns were made, at most n. None of them but the last answered; where none did, all n were made. Where there is an
-- answer, there was a turn that gave it.
pub record TurnsMade (s : State) (w n : ℕ) (answer : Option Answer) (used : ℕ) (s' : State) : Type 0 where
  pub within : used ≤ n
  pub state : s' ≡ after s w used
  pub quiet : (k : ℕ) → k + 1 < used → answer_at (after s w k) w ≡ None
  pub last : (k : ℕ) → k + 1 ≡ used → answer_at (after s w k) w ≡ answer
  pub all : answer ≡ None → used ≡ n
  pub some : (a : Answer) → answer ≡ Some a → 1 ≤ used

-- a refused worker makes no turn
abbrev pub TurnsMadeOr : State → ℕ → ℕ → Result Several Refusal → State → Type 0
TurnsMadeOr s w n (Err e) s' = (Some e ≡ turn_refused s w) × (s' ≡ s)
TurnsMadeOr s w n (Ok x) s' = (None ≡ turn_refused s w) × TurnsMade s w n x.answer x.used s'

-- the history grows by the turns that were made, or by the one that was refused
abbrev pub GrewOr : State → ℕ → Result Several Refusal → State → Type 0
GrewOr s w (Err e) s' = Extends s s' (Turn w) (Refused e)
GrewOr s w (Ok x) s' = Continues s s' (turn_events s w x.used)

-- The same as one function: turns until one answers or none is left.
pub record SeveralOutcome : Type 0 where
  pub several : Several
  pub state : State

abbrev pub stopping : Option Answer → State → ℕ → SeveralOutcome → SeveralOutcome
stopping None s used more = more
stopping (Some a) s used more = record { several = record { answer = Some a; used = used }; state = s }

abbrev pub turns_made : State → ℕ → ℕ → ℕ → SeveralOutcome
turns_made s w used zero = record { several = record { answer = None; used = used }; state = s }
turns_made s w used (suc n) = stopping (answer_at s w) (turned s w) (used + 1) (turns_made (turned s w) w (used + 1) n)

abbrev pub TurnsMadeStand : Type 0
TurnsMadeStand = (s : State) (w n : ℕ) → TurnsMade s w n (turns_made s w 0 n).several.answer (turns_made s w 0 n).several.used (turns_made s w 0 n).state

-- no other answer, number of turns or state is that of the turns that were made
abbrev pub TurnsMadeOnce : Type 0
TurnsMadeOnce =
    (s : State) (w n : ℕ) (a b : Option Answer) (i j : ℕ) (t u : State) → TurnsMade s w n a i t → TurnsMade s w n b j u →
    (a ≡ b) × (i ≡ j) × (t ≡ u)
