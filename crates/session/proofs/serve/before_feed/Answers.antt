use Rattle.std.proofs.Common.{refl, arith, rules}
use borrow.Author.Tests.{tests}
use Rattle.session.proofs.Serving.{free_byte}
use Rattle.session.proofs.serve.before_feed.Goals as goal

pub loop-n-preserved : goal.loop-n-preserved
loop-n-preserved c = record {
  free = free_byte c.args.bytes.now c.loop-n.n _ c.loop-n.invariant.free (omega arith) refl (search (rules, tests));
  within = omega arith;
}
