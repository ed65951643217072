-- Histories: requests with their replies, and the states that they lead to.
use Rattle.std.specs.Prelude.{◌≡◌, List, [], ◌∷◌, ◌++◌}
use Rattle.machine.specs.declared.request.Request.{Request}
use Rattle.machine.specs.declared.request.Reply.{Reply}
use Rattle.machine.specs.States.{State}
use Rattle.machine.specs.Requests.{reply_of, stepped}

pub record Event : Type 0 where
  pub request : Request
  pub reply : Reply

-- a history, newest first, leads from one state to another
abbrev pub Traces : State → List Event → State → Type 0
Traces start [] s = start ≡ s
Traces start (e ∷ h) s = (before : State) × Traces start h before × (e.reply ≡ reply_of before e.request) × (s ≡ stepped before e.request)

-- one request more
abbrev pub Extends : State → State → Request → Reply → Type 0
Extends before after q r = (start : State) (h : List Event) → Traces start h before → Traces start (record { request = q; reply = r } ∷ h) after

-- several events more
abbrev pub Continues : State → State → List Event → Type 0
Continues before after more = (start : State) (h : List Event) → Traces start h before → Traces start (more ++ h) after
