use Rattle.std.proofs.Common.{arith, ap}
use Rattle.std.proofs.lemmas.List.{take_all}
use Rattle.frames.specs.Hex.{hex_of}
use Rattle.frames.proofs.Appending.{put_nothing, put_byte, put_as}
use Rattle.frames.proofs.area.put_bytes.Goals as goal

pub loop-byte-init : goal.loop-byte-init
loop-byte-init c = (omega arith, put_nothing c.args.at c.args.out.now (omega arith))

pub loop-byte-preserved : goal.loop-byte-preserved
loop-byte-preserved c = (
  omega (arith, c.loop-byte.invariant.0),
  put_byte c.args.at c.loop-byte.byte-index c.loop-byte.end c.digits.result c.args.bytes.now c.args.out.now c.loop-byte.out
      c.loop-byte-test.true c.digits.ensures c.loop-byte.invariant.1 (omega (arith, c.loop-byte.invariant.0, c.loop-byte.auto.out)),
)

pub returns : goal.returns
returns c = put_as c.args.at c.loop-byte.end _ _ c.args.out.now c.loop-byte.out (ap hex_of (take_all c.loop-byte.byte-index c.args.bytes.now (omega arith))) c.loop-byte.invariant.1
