-- What a frame makes of a session, and the line that replies to it.
use Rattle.std.specs.Prelude.{◌≡◌, ℕ, if◌then◌else◌, List, length, Some, None, Ok, Err, Option, Result, nat_lt}
use Rattle.std.specs.NonZero.{non_zero_u8_get}
use Rattle.codes.specs.declared.answer.Answer.{Answer}
use Rattle.codes.specs.declared.refusal.Refusal.{Refusal}
use Rattle.codes.specs.declared.refusal.Refusal.TheVariants.{TooFewCells}
use Rattle.layout.specs.declared.opening.Opening.{Opening}
use Rattle.layout.specs.declared.sizes.Sizes.{Sizes}
use Rattle.layout.specs.Limits.{sized_as, numbers_of}
use Rattle.layout.specs.Layout.{needed}
use Rattle.frames.specs.declared.frame.Frame.{Frame}
use Rattle.frames.specs.declared.frame.Frame.TheVariants as frame
use Rattle.frames.specs.declared.reply.Reply.{Reply}
use Rattle.frames.specs.declared.reply.Reply.TheVariants.{ToOpen, ToBegin, ToTurns, ToTake, NoFrame}
use Rattle.frames.specs.Replies.{reply_line, page_line}
use Rattle.places.specs.declared.call.Begin.{Begin}
use Rattle.machine.specs.declared.request.Request.TheVariants as request
use Rattle.machine.specs.declared.several.Several.{Several}
use Rattle.machine.specs.States.{State}
use Rattle.machine.specs.Opening.{opened_state}
use Rattle.machine.specs.Requests.{call_to_begin, take_refused, stepped}
use Rattle.machine.specs.Several.{TurnsMadeOr}
use Rattle.machine.specs.Pages.{page_in}
use Rattle.promise.specs.Several.{TurnsKept}
use Rattle.session.specs.Sessions.{SessionState, SessionState.Shut, SessionState.Running, cells_of}
use Rattle.session.specs.Kept.{OpeningKept, BeginKept, PageKept}

-- what is done has no answer
abbrev pub code_of : {X : Type 0} → Result X Refusal → Result (Option Answer) Refusal
code_of (Ok x) = Ok None
code_of (Err e) = Err e

-- no answer is still running; a refused worker has used no turn
abbrev pub turns_reply : Result Several Refusal → Reply
turns_reply (Ok x) = ToTurns (Ok x.answer) x.used
turns_reply (Err e) = ToTurns (Err e) 0

-- sizes are refused first, then too few cells
abbrev pub open_reply : SessionState → Result Sizes Refusal → Reply
open_reply d (Err e) = ToOpen (Err e)
open_reply d (Ok z) = ToOpen (if nat_lt (length (cells_of d)) (needed z) then Err TooFewCells else Ok None)

-- a refusal leaves the session as it was
abbrev pub open_session : SessionState → Result Sizes Refusal → SessionState
open_session d (Err e) = d
open_session d (Ok z) = if nat_lt (length (cells_of d)) (needed z) then d else Running (opened_state (cells_of d) z)

-- the line of the page of worker w, or of the refusal to take it
abbrev pub page_or : Option Refusal → State → ℕ → List ℕ
page_or None s w = page_line s.sizes.keys (page_in s w)
page_or (Some e) s w = reply_line (ToTake e)

-- an opening, or an opening anew: the run begins with the promise
pub record Opens (o : Opening) (d : SessionState) (line : List ℕ) (d' : SessionState) : Type 0 where
  pub sizes : Result Sizes Refusal
  pub made : numbers_of sizes ≡ sized_as o
  pub reply : line ≡ reply_line (open_reply d sizes)
  pub session : d' ≡ open_session d sizes
  pub promise : OpeningKept d sizes

-- a begin of a call: the run keeps the promise
pub record Begins (b : Begin) (s : State) (line : List ℕ) (d' : SessionState) : Type 0 where
  pub reply : line ≡ reply_line (ToBegin (code_of (call_to_begin s b)))
  pub session : d' ≡ Running (stepped s (request.Begin b))
  pub promise : BeginKept b s

-- up to n turns of worker w: the run keeps the promise at each
pub record Turns (w n : ℕ) (s : State) (line : List ℕ) (d' : SessionState) : Type 0 where
  pub several : Result Several Refusal
  pub state : State
  pub made : TurnsMadeOr s w n several state
  pub reply : line ≡ reply_line (turns_reply several)
  pub session : d' ≡ Running state
  pub promise : TurnsKept s w several state

-- the page of worker w, taken and given back: the session is as it was before, and the run keeps the promise at both
pub record Shows (w : ℕ) (s : State) (line : List ℕ) (d' : SessionState) : Type 0 where
  pub reply : line ≡ page_or (take_refused s w) s w
  pub session : d' ≡ Running s
  pub promise : PageKept w s (take_refused s w)

-- a line that is no frame, or none while nothing is open: the session is as it was before
pub record Ignores (d : SessionState) (line : List ℕ) (d' : SessionState) : Type 0 where
  pub reply : line ≡ reply_line NoFrame
  pub session : d' ≡ d

-- what is done on an open run is no frame where none is open
abbrev pub WhileOpen : (State → List ℕ → SessionState → Type 0) → SessionState → List ℕ → SessionState → Type 0
WhileOpen Does (Shut cs) line d' = Ignores (Shut cs) line d'
WhileOpen Does (Running s) line d' = Does s line d'

-- what each frame asks for
abbrev pub Asks : Frame → SessionState → List ℕ → SessionState → Type 0
Asks (frame.Open o) d line d' = Opens o d line d'
Asks (frame.Begin b) d line d' = WhileOpen (Begins b) d line d'
Asks (frame.Turns w n) d line d' = WhileOpen (Turns w (non_zero_u8_get n)) d line d'
Asks (frame.Take w) d line d' = WhileOpen (Shows w) d line d'

-- the reply to a frame, or to a line that is none
abbrev pub Replies : SessionState → Result Frame Refusal → List ℕ → SessionState → Type 0
Replies d (Err e) line d' = Ignores d line d'
Replies d (Ok f) line d' = Asks f d line d'
