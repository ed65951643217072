-- What several turns of a worker keep.
use Rattle.std.specs.Prelude.{ℕ, Ok, Err, Result}
use Rattle.codes.specs.declared.refusal.Refusal.{Refusal}
use Rattle.machine.specs.declared.request.Request.TheVariants.{Turn}
use Rattle.machine.specs.declared.request.Reply.TheVariants.{Refused}
use Rattle.machine.specs.declared.several.Several.{Several}
use Rattle.machine.specs.States.{State}
use Rattle.machine.specs.Several.{turn_events}
use Rattle.promise.specs.Promise.{PromiseKept, PromiseContinues}

-- the promise is kept at each of the turns that were made, or at the one that was refused
abbrev pub TurnsKept : State → ℕ → Result Several Refusal → State → Type 0
TurnsKept s w (Err e) s' = PromiseKept s s' (Turn w) (Refused e)
TurnsKept s w (Ok x) s' = PromiseContinues s s' (turn_events s w x.used)
