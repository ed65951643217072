use Rattle.std.proofs.Common.{◌≡◌, length}
use Rattle.frames.proofs.Decoding.{Read}
use Rattle.frames.proofs.read.decode.Given as goal

abbrev pub invariant-loop-i : goal.invariant-loop-i
invariant-loop-i g l = (length l.bytes ≡ g.row.N) × Read l.line l.bytes l.i
