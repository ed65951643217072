use Rattle.std.proofs.Common.{ap, sym, ◌∙◌}
use Rattle.frames.specs.Frames.{turns_of}
use Rattle.frames.proofs.Decoding.{counted}
use Rattle.frames.proofs.read.turns_of.Goals as goal

pub returns : goal.returns
returns c = sym (counted c.args.worker c.in-Some.count.value c.in-Some.count.ok) ∙ ap (turns_of c.args.worker) c.in-Some.ensures

pub returns-in_default : goal.returns-in_default
returns-in_default c = rw c.in_default.ensures
