-- What is owed for what follows a turn.
use Rattle.std.proofs.Common.{ℕ, Option}
use Rattle.std.specs.declared.ops.ControlFlow.TheVariants.{Continue, Break}
use Rattle.places.specs.declared.place.Call.{Call}
use Rattle.places.specs.Flows.{Flow}
use Rattle.runs.specs.Runs.{RunInTime}
use Rattle.runs.specs.Purposes.{InCall, MadeChange}
use Rattle.runs.specs.Known.{Known}
use Rattle.runs.specs.Reasons.{HasReason}

-- a call goes on to what is known there, or its answer is right
abbrev pub Good : RunInTime → ℕ → ℕ → Call → Option MadeChange → Flow → Type 0
Good R k b c m (Continue p) = Known R k b p × InCall p c
Good R k b c m (Break a) = HasReason R k b c m a
