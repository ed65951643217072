-- What a page that is taken and given back comes to, and that a frame has one reply.
use Rattle.std.specs.Prelude.{◌≡◌, ℕ, List, None, Result}
use Rattle.codes.specs.declared.refusal.Refusal.{Refusal}
use Rattle.frames.specs.declared.frame.Frame.{Frame}
use Rattle.machine.specs.declared.request.Request.TheVariants.{Take, Give}
use Rattle.machine.specs.States.{State}
use Rattle.machine.specs.Requests.{take_refused, ticket_of, stepped}
use Rattle.session.specs.Sessions.{SessionState}
use Rattle.session.specs.Answers.{Replies}

-- a page that is taken and given back is finished again, and nothing else has changed
abbrev pub GivenBack : Type 0
GivenBack = (s : State) (w : ℕ) → take_refused s w ≡ None → stepped (stepped s (Take w)) (Give (ticket_of s w)) ≡ s

-- a frame, or a line that is none, has one reply, and leads to one session
abbrev pub RepliesOnce : Type 0
RepliesOnce =
    (d : SessionState) (f : Result Frame Refusal) (l m : List ℕ) (d' e : SessionState) → Replies d f l d' → Replies d f m e →
    (l ≡ m) × (d' ≡ e)
