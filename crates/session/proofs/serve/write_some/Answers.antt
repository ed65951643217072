use Rattle.std.proofs.Common.{rules}
use borrow.Author.Tests.{tests}
use Rattle.session.proofs.Passing.{zero_kept}
use Rattle.session.proofs.serve.write_some.Goals as goal

pub returns-in-Ok-eq0-clause-bytes : goal.returns-in-Ok-eq0-clause-bytes
returns-in-Ok-eq0-clause-bytes g c =
    zero_kept c.write.result (g.W.Write.contents c.args.output.now) (g.W.Write.contents c.write.new.self) c.args.bytes.now c.in-Ok-eq0.field-0 c.in-Ok-eq0.is (search (rules, tests)) c.write.ensures.bytes
