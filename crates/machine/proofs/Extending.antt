-- A request extends each history by itself and its reply.
use Rattle.std.proofs.Common.{◌≡◌}
use Rattle.machine.specs.declared.request.Request.{Request}
use Rattle.machine.specs.declared.request.Reply.{Reply}
use Rattle.machine.specs.States.{State}
use Rattle.machine.specs.Requests.{reply_of, stepped}
use Rattle.machine.specs.History.{Extends}

pub extends : (before after : State) (q : Request) (r : Reply) → r ≡ reply_of before q → after ≡ stepped before q → Extends before after q r
extends before after q r e f start h t = (before, t, e, f)
