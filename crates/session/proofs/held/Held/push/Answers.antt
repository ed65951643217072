use Rattle.std.proofs.Common.{length, sym, ap, arith}
use Rattle.std.proofs.lemmas.List.{length-take-le}
use Rattle.session.proofs.Serving.{take_full}
use Rattle.session.proofs.held.Held.push.Goals as goal

pub returns-else-self-lt23 : goal.returns-else-self-lt23
returns-else-self-lt23 c =
    sym (take_full c.args.self.now _ 23 (omega (arith, ap length c.self.view_is, length-take-le c.self.inside.len c.self.inside.bytes (omega (arith, c.self.told, c.self.invariant)), c.self.invariant, c.if-self-lt23.false)))
