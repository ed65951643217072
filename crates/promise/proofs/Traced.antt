-- A history whose replies are those of the rules leads to the state that it shows.
use Rattle.std.proofs.Common.{◌≡◌, List, [], ◌∷◌, refl, sym, ap}
use Rattle.machine.specs.States.{State}
use Rattle.machine.specs.Requests.{reply_of}
use Rattle.machine.specs.History.{Event, Traces}
use Rattle.promise.specs.Histories.{shown_by}

-- the same requests, with the replies of the rules
abbrev pub told : State → List Event → List Event
told start [] = []
told start (e ∷ h) = record { request = e.request; reply = reply_of (shown_by start h).state e.request } ∷ told start h

pub traces_told : (start : State) (h : List Event) → told start h ≡ h → Traces start h (shown_by start h).state
traces_told start [] q = refl
traces_told start (e ∷ h) q =
    let event : record { request = e.request; reply = reply_of (shown_by start h).state e.request } ≡ e = cc in
    let rest : told start h ≡ h = cc in
    ((shown_by start h).state, traces_told start h rest, sym (ap (λ (x : Event). x.reply) event), refl)

-- the state that a history leads to is the one that it shows
pub traces_shown : (start : State) (h : List Event) (s : State) → Traces start h s → (shown_by start h).state ≡ s
traces_shown start [] s t = t
traces_shown start (e ∷ h) s t = let before : (shown_by start h).state ≡ t.0 = traces_shown start h t.0 t.1 in rw before (sym t.3)
