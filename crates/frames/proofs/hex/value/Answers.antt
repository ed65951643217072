use Rattle.std.proofs.Common.{arith}
use Rattle.frames.proofs.Digits.{value_at}
use Rattle.frames.proofs.hex.value.Goals as goal

pub returns : goal.returns
returns c = value_at c.from.result c.args.c c.from.ensures (omega arith)
