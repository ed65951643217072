-- What a frame keeps of the promise over whole runs.
use Rattle.std.specs.Prelude.{ℕ, [], ◌∷◌, Some, None, Ok, Err, Option, Result}
use Rattle.codes.specs.declared.refusal.Refusal.{Refusal}
use Rattle.layout.specs.declared.sizes.Sizes.{Sizes}
use Rattle.places.specs.declared.call.Begin.{Begin}
use Rattle.machine.specs.declared.request.Request.TheVariants.{Begin as AsBegin, Take, Give}
use Rattle.machine.specs.declared.request.Reply.TheVariants.{Done, Taken, Refused}
use Rattle.machine.specs.States.{State}
use Rattle.machine.specs.Requests.{call_to_begin, done_or, ticket_of, take_refused, stepped}
use Rattle.promise.specs.Promise.{PromisedAtOpening, PromiseKept, PromiseContinues}
use Rattle.session.specs.Sessions.{SessionState, cells_of}

-- an opening that is not refused begins a run with the promise
abbrev pub OpeningKept : SessionState → Result Sizes Refusal → Type 0
OpeningKept d (Err e) = Unit {0}
OpeningKept d (Ok z) = PromisedAtOpening (cells_of d) z

-- a begin keeps it
abbrev pub BeginKept : Begin → State → Type 0
BeginKept b s = PromiseKept s (stepped s (AsBegin b)) (AsBegin b) (done_or (call_to_begin s b))

-- so does a page that is taken and given back, at each of the two, or the take that is refused
abbrev pub PageKept : ℕ → State → Option Refusal → Type 0
PageKept w s None = PromiseContinues s s (record { request = Give (ticket_of s w); reply = Done } ∷ (record { request = Take w; reply = Taken (ticket_of s w) } ∷ []))
PageKept w s (Some e) = PromiseKept s s (Take w) (Refused e)
