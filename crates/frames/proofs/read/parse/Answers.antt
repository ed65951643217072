use Rattle.std.proofs.Common.{rules, sym}
use Rattle.frames.proofs.Decoding.{other_lengths_none}
use Rattle.frames.proofs.read.parse.Goals as goal

pub returns-in_default : goal.returns-in_default
returns-in_default c = sym (other_lengths_none c.args.line.now (search rules) (search rules) (search rules) (search rules))
