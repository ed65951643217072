use Rattle.std.proofs.Common.{arith}
use Rattle.frames.proofs.Digits.{capital_at}
use Rattle.frames.proofs.hex.capital_of.Goals as goal

pub returns : goal.returns
returns c = capital_at c.from.result c.args.d c.from.ensures (omega arith)
