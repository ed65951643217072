use Rattle.session.proofs.Answering.{shut_into}
use Rattle.session.proofs.answer.answer_closed.Goals as goal

pub returns-in_default-clause-replies : goal.returns-in_default-clause-replies
returns-in_default-clause-replies g c =
    shut_into (g.M.CellMemory.cells c.args.memory) c.args.frame c.args.at c.args.out.now _ _ c.in_default.not-Open c.put_reply.ensures
