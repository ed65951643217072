use Rattle.std.proofs.Common.{arith, ap}
use Rattle.std.proofs.lemmas.List.{take_all}
use Rattle.frames.specs.Hex.{hex_of}
use Rattle.frames.specs.Replies.{weight_bytes}
use Rattle.frames.proofs.Appending.{put_nothing, put_weight, put_as}
use Rattle.frames.proofs.area.put_weights.Goals as goal

pub loop-weight-init : goal.loop-weight-init
loop-weight-init c = (omega arith, put_nothing c.args.at c.args.out.now (omega arith))

pub loop-weight-preserved : goal.loop-weight-preserved
loop-weight-preserved c =
    put_weight c.args.at c.loop-weight.weight-index c.loop-weight.end c.put_bytes-end.result c.to_be_bytes.result c.args.weights.now c.args.out.now c.loop-weight.out c.put_bytes-end.new.out
    c.loop-weight-test.true c.to_be_bytes.ensures (omega (arith, c.loop-weight.invariant.0, c.loop-weight.auto.out)) c.loop-weight.invariant c.put_bytes-end.ensures

pub returns : goal.returns
returns c =
    put_as c.args.at c.loop-weight.end _ _ c.args.out.now c.loop-weight.out
    (ap (λ zs. hex_of (weight_bytes zs)) (take_all c.loop-weight.weight-index c.args.weights.now (omega arith))) c.loop-weight.invariant.1
