-- What the calls of a run say of the promise: an opening begins with it, and what extends a history keeps it.
use Rattle.std.proofs.Common.{ℕ, List, Ok, Err, Result}
use Rattle.codes.specs.declared.refusal.Refusal.{Refusal}
use Rattle.layout.specs.declared.sizes.Sizes.{Sizes}
use Rattle.machine.specs.declared.request.Request.{Request}
use Rattle.machine.specs.declared.request.Request.TheVariants.{Turn}
use Rattle.machine.specs.declared.request.Reply.{Reply}
use Rattle.machine.specs.declared.request.Reply.TheVariants.{Refused}
use Rattle.machine.specs.declared.several.Several.{Several}
use Rattle.machine.specs.States.{State}
use Rattle.machine.specs.History.{Event, Extends, Continues}
use Rattle.machine.specs.Several.{turn_events, GrewOr}
use Rattle.promise.specs.Promise.{PromisedAtOpening, PromiseKept, PromiseContinues}
use Rattle.promise.specs.Several.{TurnsKept}
use Rattle.promise.proofs.Theorems.{contracts_follow, promise_holds}

pub opening_kept : (cs : List ℕ) (z : Sizes) → PromisedAtOpening cs z
opening_kept = contracts_follow.opening promise_holds

pub request_kept : (before after : State) (q : Request) (r : Reply) → Extends before after q r → PromiseKept before after q r
request_kept = contracts_follow.request promise_holds

pub events_kept : (before after : State) (more : List Event) → Continues before after more → PromiseContinues before after more
events_kept = contracts_follow.several promise_holds

pub turns_kept : (before after : State) (w : ℕ) (r : Result Several Refusal) → GrewOr before w r after → TurnsKept before w r after
turns_kept before after w (Err e) grew = request_kept before after (Turn w) (Refused e) grew
turns_kept before after w (Ok x) grew = events_kept before after (turn_events before w x.used) grew
