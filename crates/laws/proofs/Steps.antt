-- What holds of every state of a run, step by step.
use Rattle.std.proofs.Common.{◌≡◌, ℕ, ◌<◌, List, [], ◌∷◌, Some, None, Ok, Err, Option, Result, sym, refl, subst}
use Rattle.codes.specs.declared.refusal.Refusal.{Refusal}
use Rattle.places.specs.declared.call.Begin.{Begin}
use Rattle.places.specs.declared.place.Call.{Call}
use Rattle.machine.specs.declared.request.Request.{Request}
use Rattle.machine.specs.declared.request.Request.TheVariants as request
use Rattle.machine.specs.States.{State}
use Rattle.machine.specs.Turns.{turned}
use Rattle.machine.specs.Requests.{turn_refused, call_to_begin, state_or, state_begun, state_taken, state_given, stepped}
use Rattle.machine.specs.History.{Event, Traces}
use Rattle.laws.proofs.Taken.{turn_taken}
use Rattle.laws.proofs.Rests.{Rests, same_rests, take_rests, give_rests}

-- a step is a begin that is accepted or a turn that is taken, or all rests but the state of a page
pub step_each : (s : State) (P : State → Type 0) → ((t : State) → Rests s t → P t) → ((b : Begin) (c : Call) → call_to_begin s b ≡ Ok c → P (state_begun s b.worker (Ok c))) → ((w : ℕ) → w < s.sizes.workers → P (turned s w)) → (q : Request) → P (stepped s q)
step_each s P rests begins turns (request.Begin b) = go (call_to_begin s b) refl
  where
    go : (r : Result Call Refusal) → call_to_begin s b ≡ r → P (state_begun s b.worker r)
    go (Ok c) e = begins b c e
    go (Err q) e = rests s (same_rests s)
step_each s P rests begins turns (request.Turn w) = go (turn_refused s w) refl
  where
    go : (r : Option Refusal) → turn_refused s w ≡ r → P (state_or r s (turned s w))
    go None e = turns w (turn_taken s w e)
    go (Some q) e = rests s (same_rests s)
step_each s P rests begins turns (request.Take w) = rests (state_taken s w) (take_rests s w)
step_each s P rests begins turns (request.Give t) = rests (state_given s t) (give_rests s t)

-- what holds at the start, and is kept by each step, holds of every state that a history leads to
pub run_each : (start : State) (P : List Event → State → Type 0) → P [] start → ((e : Event) (h : List Event) (s : State) → Traces start h s → P h s → P (e ∷ h) (stepped s e.request)) → (h : List Event) (s : State) → Traces start h s → P h s
run_each start P here more [] s t = subst (P []) t here
run_each start P here more (e ∷ h) s t = subst (P (e ∷ h)) (sym t.3) (more e h t.0 t.1 (run_each start P here more h t.0 t.1))
