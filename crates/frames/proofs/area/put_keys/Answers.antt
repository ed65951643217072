use Rattle.std.proofs.Common.{arith, ap}
use Rattle.std.proofs.lemmas.List.{take_all}
use Rattle.std.proofs.Common.{map}
use Rattle.frames.specs.Hex.{hex_of}
use Rattle.frames.specs.Replies.{key_byte}
use Rattle.frames.proofs.Appending.{put_nothing, put_key, put_as}
use Rattle.frames.proofs.area.put_keys.Goals as goal

pub loop-row-init : goal.loop-row-init
loop-row-init c = (omega arith, put_nothing c.args.at c.args.out.now (omega arith))

pub loop-row-preserved : goal.loop-row-preserved
loop-row-preserved c =
    put_key c.args.at c.loop-row.row-index c.loop-row.end c.put_bytes-end.result c.from.result c.args.keys.now c.args.out.now c.loop-row.out c.put_bytes-end.new.out
    c.loop-row-test.true c.from.ensures (omega (arith, c.loop-row.invariant.0, c.loop-row.auto.out)) c.loop-row.invariant c.put_bytes-end.ensures

pub returns : goal.returns
returns c =
    put_as c.args.at c.loop-row.end _ _ c.args.out.now c.loop-row.out
    (ap (λ zs. hex_of (map key_byte zs)) (take_all c.loop-row.row-index c.args.keys.now (omega arith))) c.loop-row.invariant.1
